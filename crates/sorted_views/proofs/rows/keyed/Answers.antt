use Rattle.std.proofs.Common.{refl}
use Rattle.sorted_views.specs.Rows.{cell_of}
use Rattle.sorted_views.proofs.KeyedLaws.{all_gone, goes_on}
use Rattle.sorted_views.proofs.rows.keyed.Goals as goal

pub returns : goal.returns
returns c = all_gone (cell_of c.args.table.now c.args.tag) c.args.ids.now c.loop-id.rows.items c.loop-id.id-index c.loop-id-test.false c.loop-id.invariant

pub loop-id-preserved : goal.loop-id-preserved
loop-id-preserved c =
    goes_on (cell_of c.args.table.now c.args.tag) c.args.ids.now c.loop-id.rows.items c.push.new.self.items c.loop-id.id-index _ _ c.loop-id-test.true refl refl c.in_ok-key.ensures c.in_ok-push.ensures.items c.loop-id.invariant
