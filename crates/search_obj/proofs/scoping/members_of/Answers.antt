use Rattle.std.proofs.Common.{arith, refl}
use Rattle.mapi_values.proofs.KeyedLaws.{put-ascends}
use Rattle.search_obj.specs.Scope.{member_id}
use Rattle.search_obj.proofs.ScopeLaws.{members_more}
use Rattle.search_obj.proofs.scoping.members_of.Goals as goal

pub loop-folder-preserved : goal.loop-folder-preserved
loop-folder-preserved c = rw c.in_ok-put_keyed.ensures.ok (record {
  ascend = put-ascends member_id 0 _ c.loop-folder.members.items (omega arith) c.loop-folder.invariant.ascend;
  exact = members_more c.args.folders.now c.loop-folder.folder-index _ _ _ _ c.loop-folder.members.items (omega arith) c.loop-folder-test.true refl refl c.loop-folder.invariant.exact;
})
