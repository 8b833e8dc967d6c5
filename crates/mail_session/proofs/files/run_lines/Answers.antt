use Rattle.std.proofs.Common.{◌∙◌, inl}
use Rattle.mail_session.proofs.FileLaws.{refused_says, refused_silent}
use Rattle.mail_session.proofs.files.run_lines.Goals as goal

pub returns-in-Ok : goal.returns-in-Ok
returns-in-Ok g c =
    let refused = c.run_file.ensures.refused c.in-Refused.refusal c.in-Refused.is in
    inl (refused_says c.in-Refused.refusal refused.0 refused.1 (c.as_bytes.ensures.value ∙ c.in-Ok.ensures) c.say.ensures)

pub returns-in-Err : goal.returns-in-Err
returns-in-Err g c =
    let refused = c.run_file.ensures.refused c.in-Refused.refusal c.in-Refused.is in
    inl (refused_silent c.in-Refused.refusal refused.0 refused.1)
