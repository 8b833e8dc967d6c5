use Rattle.std.proofs.Common.{refl}
use Rattle.table_writer.proofs.WovenLaws.{add-woven}
use Rattle.table_writer.proofs.woven.Woven.add.Goals as goal

pub returns-clause-woven : goal.returns-clause-woven
returns-clause-woven c =
    rw c.in_ok-push.ensures.items (add-woven c.in_ok-passed.passed.done.items c.in_ok-passed.passed.rest.now c.in_ok-passed.passed.next _ c.in_ok-passed.ensures.woven refl c.in_ok-passed.ensures.above)
