use Rattle.std.proofs.Common.{◌∙◌, ap, inl, inr}
use Rattle.file_filling.specs.declared.fill.FileFill.TheVariants.{Unopened}
use Rattle.mail_session.proofs.FileLaws.{refused_says, refused_silent}
use Rattle.mail_session.proofs.FillLaws.{fill_serves}
use Rattle.mail_session.proofs.fill.say_filled.Goals as goal

pub returns-in-Ok : goal.returns-in-Ok
returns-in-Ok g c =
    let refused = c.fill_file.ensures.refused c.in-Refused.refusal (c.in-Unopened.is ∙ ap Unopened c.in-Refused.is) in
    inl (refused_says c.in-Refused.refusal refused.0 refused.1 (c.as_bytes.ensures.value ∙ c.in-Ok.ensures) c.say.ensures)

pub returns-in-Err : goal.returns-in-Err
returns-in-Err g c =
    let refused = c.fill_file.ensures.refused c.in-Refused.refusal (c.in-Unopened.is ∙ ap Unopened c.in-Refused.is) in
    inl (refused_silent c.in-Refused.refusal refused.0 refused.1)

pub returns-in-Ended : goal.returns-in-Ended
returns-in-Ended g c =
    let call = c.fill_file.ensures in
    let end = c.in-Ended.end in
    inr (inr (fill_serves g.W.Outside.view c.args.seed c.args.count (g.W.Outside.view c.args.world.now) c.fill_file.new.world c.say_end.new.world end c.say_end.result call.counts call.input (call.cause end c.in-Ended.is) (call.ends end c.in-Ended.is) c.say_end.ensures))
