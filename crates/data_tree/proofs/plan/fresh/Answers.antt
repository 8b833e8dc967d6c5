use Rattle.std.proofs.Common.{sym, ◌∙◌, arith}
use Rattle.data_tree.specs.Plan.{fresh}
use Rattle.data_tree.proofs.KeepSteps.{fresh-step-kept, fresh-step-new, none-from, some-from}
use Rattle.data_tree.proofs.plan.fresh.Goals as goal
use Rattle.data_tree.proofs.plan.fresh.Goals.{then-is_none+in_ok-copy+in_ok-push, else-is_none}

pub loop-i-preserved : goal.loop-i-preserved
loop-i-preserved c =
    let i = c.loop-i.i in
    let keep = c.args.keep.now in
    let bs = c.args.blocks.now in
    let d = c.index-blocks-i.result in
    let whole = fresh c.args.next keep bs in
    let at = c.loop-i.invariant.at in
    elim c.if-is_none.branch [
      | then-is_none+in_ok-copy+in_ok-push w ↦
          let none = sym c.kept_at.ensures ∙ none-from c.kept_at.result c.is_none.result c.is_none.ensures w.if-is_none.true in
          rw (w.out-is, w.free-is, w.in_ok-push.ensures.items) (record {
            made = fresh-step-new c.loop-i.free i keep bs d w.in_ok-copy.field-0 c.loop-i.out.items whole c.loop-i-test.true none (w.in_ok-copy.ensures ∙ c.index-blocks-i.is) c.loop-i.invariant.made;
            at = omega arith;
          })
      | else-is_none w ↦
          let some = some-from c.kept_at.result c.is_none.result c.is_none.ensures w.if-is_none.false in
          rw (w.out-is, w.free-is) (record {
            made = fresh-step-kept c.loop-i.free i keep bs d some.0 c.loop-i.out.items whole c.loop-i-test.true (sym c.kept_at.ensures ∙ some.1) c.loop-i.invariant.made;
            at = omega arith;
          })
    ]
