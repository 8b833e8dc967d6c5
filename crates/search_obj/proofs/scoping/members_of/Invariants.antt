use Rattle.std.proofs.Common.{◌≡◌, ℕ, IsTrue, map, take}
use Rattle.mapi_values.specs.Keyed.{keys_ascend}
use Rattle.search_obj.specs.Scope.{is_among, is_member, member_id}
use Rattle.search_obj.proofs.scoping.members_of.Given as goal

abbrev pub invariant-loop-folder : goal.invariant-loop-folder
invariant-loop-folder l = record {
  ascend : IsTrue (keys_ascend member_id 0 l.members.items);
  exact : (f : ℕ) → is_member l.members.items f ≡ is_among (map (λ n. n.bits) (take l.folder-index l.folders)) f;
}
