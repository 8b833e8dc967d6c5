use Rattle.line_server.proofs.Hearing.{listens_along}
use Rattle.line_server.proofs.Inputs.{goes_on_more, ends_on}
use Rattle.line_server.proofs.input.next_front.Goals as goal

pub loop-front-preserved : goal.loop-front-preserved
loop-front-preserved g c =
    let inv = c.loop-front.invariant in
    let taken = c.in_ok-ended.ensures.taken in
    let told = c.fill.ensures.same.stays.told in
    let same = c.front-front-in-loop-front.ensures.same in
    record {
      held = rw same (goes_on_more inv.held inv.ends.stays c.if-not-ended.true taken told);
      ends = ends_on inv.ends c.if-not-ended.true taken;
      same = listens_along inv.same c.fill.ensures.same;
      stands = rw same c.front-front-in-loop-front.ensures.front;
    }
