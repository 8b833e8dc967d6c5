use Rattle.std.proofs.Common.{◌≡◌, ℕ, IsTrue}
use Rattle.mapi_values.specs.Keyed.{keys_ascend}
use Rattle.search_obj.specs.Scope.{in_scope_back, is_among, is_member, member_id}
use Rattle.search_obj.proofs.ScopeLaws.{back}
use Rattle.search_obj.proofs.scoping.members_in_scope.Given as goal

abbrev pub invariant-loop-place : goal.invariant-loop-place
invariant-loop-place l = record {
  ascend : IsTrue (keys_ascend member_id 0 l.members.items);
  exact : (f : ℕ) → is_member l.members.items f ≡ in_scope_back l.set.flags.recursive (is_among l.set.scope) (back l.plain l.place-index) f;
}
