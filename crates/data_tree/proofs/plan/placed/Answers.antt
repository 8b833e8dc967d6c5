use Rattle.std.proofs.Common.{sym, ◌∙◌, arith}
use Rattle.data_tree.specs.Plan.{placed}
use Rattle.data_tree.proofs.KeepSteps.{placed-step-kept, placed-step-new}
use Rattle.data_tree.proofs.plan.placed.Goals as goal
use Rattle.data_tree.proofs.plan.placed.Goals.{in-Some+in_ok-push-in-Some, in-None+in_ok-push-in-None}

pub loop-i-preserved : goal.loop-i-preserved
loop-i-preserved c =
    let i = c.loop-i.i in
    let keep = c.args.keep.now in
    let bs = c.args.blocks.now in
    let d = c.index-blocks-i.result in
    let whole = placed c.args.next keep bs in
    let at = c.loop-i.invariant.at in
    let here = c.in_ok-data.ensures ∙ c.index-blocks-i.is in
    elim c.match-kept_at.branch [
      | in-Some+in_ok-push-in-Some w ↦
          rw (w.out-is, w.free-is, w.in_ok-push-in-Some.ensures.items) (record {
            made = placed-step-kept c.loop-i.free i keep bs d c.in_ok-data.data w.in-Some.bid c.loop-i.out.items whole c.loop-i-test.true (sym w.in-Some.ensures) here c.loop-i.invariant.made;
            at = omega arith;
          })
      | in-None+in_ok-push-in-None w ↦
          rw (w.out-is, w.free-is, w.in_ok-push-in-None.ensures.items) (record {
            made = placed-step-new c.loop-i.free i keep bs d c.in_ok-data.data c.loop-i.out.items whole c.loop-i-test.true (sym w.in-None.ensures) here c.loop-i.invariant.made;
            at = omega arith;
          })
    ]
