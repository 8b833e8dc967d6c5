use Rattle.std.proofs.Common.{◌∙◌, inl, inr}
use Rattle.mail_session.proofs.LookLaws.{tree_refused, tree_refused_silent}
use Rattle.mail_session.proofs.MendLaws.{mend_serves}
use Rattle.mail_session.proofs.mend.say_mended.Goals as goal

pub returns-in-Ok : goal.returns-in-Ok
returns-in-Ok g c =
    let refused = c.mend_file.ensures.refused c.in-Refused.refusal c.in-Refused.is in
    inl (tree_refused refused.0 c.in-Refused.refusal refused.1 (c.as_bytes.ensures.value ∙ c.in-Ok.ensures) c.say.ensures)

pub returns-in-Err : goal.returns-in-Err
returns-in-Err g c =
    let refused = c.mend_file.ensures.refused c.in-Refused.refusal c.in-Refused.is in
    inl (tree_refused_silent refused.0 c.in-Refused.refusal refused.1)

pub returns-in-Ended : goal.returns-in-Ended
returns-in-Ended g c =
    let call = c.mend_file.ensures in
    inr (mend_serves g.W.Outside.view (g.W.Outside.view c.args.world.now) c.mend_file.new.world c.say_end.new.world c.in-Ended.end c.say_end.result call.counts call.input (call.cause c.in-Ended.end c.in-Ended.is) (call.ends c.in-Ended.end c.in-Ended.is) c.say_end.ensures)
