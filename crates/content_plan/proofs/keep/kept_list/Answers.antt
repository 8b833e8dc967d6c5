use Rattle.std.proofs.Common.{arith}
use Rattle.content_plan.specs.Keep.{kept_list, keys_with}
use Rattle.content_plan.proofs.KeepLaws.{kept-done, kept-step}
use Rattle.content_plan.proofs.keep.kept_list.Goals as goal

pub returns : goal.returns
returns c =
    let m = c.min.ensures in
    let n = c.min-len.ensures in
    kept-done c.args.next c.loop-i.invariant.0 c.loop-i.keep.items (kept_list c.args.next c.args.ids.now c.args.was.now c.args.now.now) c.args.ids.now c.args.was.now c.args.now.now c.loop-i.i c.min-len.result (omega (arith, m, n)) c.loop-i-test.false c.loop-i.invariant.2

pub loop-i-preserved : goal.loop-i-preserved
loop-i-preserved c =
    let keys = c.loop-i.invariant.0 in
    let few = c.loop-i-test.true in
    let one = rw (c.as_slice.ensures.value, c.as_slice-in-loop-i.ensures.value) at (c.kept_one-one.ensures keys c.loop-i.invariant.1) in (
      keys_with keys c.kept_one-one.result,
      c.in_ok-put_key.ensures keys c.loop-i.invariant.1,
      rw c.in_ok-push.ensures.items
          (kept-step c.args.next keys c.loop-i.keep.items (kept_list c.args.next c.args.ids.now c.args.was.now c.args.now.now) c.args.ids.now c.args.was.now c.args.now.now c.loop-i.i c.kept_one-one.result c.index-was-i.result c.index-now-i.result
          (omega (arith, few, c.min.ensures, c.min-len.ensures)) (omega (arith, few, c.min.ensures, c.min-len.ensures)) (omega (arith, few, c.min.ensures, c.min-len.ensures))
          c.index-was-i.is c.index-now-i.is one c.loop-i.invariant.2),
    )
