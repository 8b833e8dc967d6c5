use Rattle.std.proofs.Common.{ap, ◌∙◌, Err}
use Rattle.mail_session.proofs.LookLaws.{look_changed, look_fails, look_lacks, look_refused, look_refused_silent, look_serves}
use Rattle.mail_session.proofs.look.look_lines.Goals as goal

pub returns-in-Ok : goal.returns-in-Ok
returns-in-Ok g c = look_serves c.look_file.ensures.same c.in-Ok.ensures.looked c.serve_reader.ensures.keeps c.serve_reader.ensures.runs

pub returns-in-Ok-file_line : goal.returns-in-Ok-file_line
returns-in-Ok-file_line g c =
    look_refused c.look_file.ensures.same c.in-Err-Refused.refusal (λ told. rw c.in-Err-Refused.field-0-is at (c.in-Err-Refused.ensures.refused told)) (c.as_bytes.ensures.value ∙ c.in-Ok-file_line.ensures) c.say.ensures

pub returns-in-Err : goal.returns-in-Err
returns-in-Err g c = look_refused_silent c.look_file.ensures.same c.in-Err-Refused.refusal (λ told. rw c.in-Err-Refused.field-0-is at (c.in-Err-Refused.ensures.refused told))

pub returns-in-Err-Fault : goal.returns-in-Err-Fault
returns-in-Err-Fault g c = look_fails c.look_file.ensures.same (c.in-Err-Fault.ensures.fault (ap (λ e. Err e) c.in-Err-Fault.field-0-is))

pub returns-in-Err-Changed : goal.returns-in-Err-Changed
returns-in-Err-Changed g c = look_changed c.look_file.ensures.same _ (λ told. rw c.in-Err-Changed.field-0-is at (c.in-Err-Changed.ensures.refused told))

pub returns-in-Err-Memory : goal.returns-in-Err-Memory
returns-in-Err-Memory g c = look_lacks c.look_file.ensures.same
