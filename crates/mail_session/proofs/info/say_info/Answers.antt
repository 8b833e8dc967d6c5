use Rattle.std.proofs.Common.{inl, inr, refl, ap, ◌∙◌, Err}
use Rattle.mail_session.proofs.InfoLaws.{info_says, info_silent, opened_outcome, refused_outcome}
use Rattle.mail_session.proofs.info.say_info.Goals as goal

pub returns-in-Ok-info_text : goal.returns-in-Ok-info_text
returns-in-Ok-info_text g c = info_says c.open_header.ensures.same (λ told.
    let opens = c.in-Ok.ensures.opens told in
    opened_outcome _ _ c.in-Ok.opened.header c.in-Ok.opened.gate_open _ opens.0 opens.1 (c.as_bytes.ensures.value ∙ c.in-Ok-info_text.ensures))
    (inl refl) c.say.ensures

pub returns-in-Err : goal.returns-in-Err
returns-in-Err g c = info_silent c.open_header.ensures.same (inr refl)

pub returns-in-Ok-refusal_line : goal.returns-in-Ok-refusal_line
returns-in-Ok-refusal_line g c = info_says c.open_header.ensures.same (λ told.
    let opens = rw c.in-Err-Refused.field-0-is at (c.in-Err-Refused.ensures.opens told) in
    refused_outcome _ _ c.in-Err-Refused.refusal _ opens (c.as_bytes-in-Ok-refusal_line.ensures.value ∙ c.in-Ok-refusal_line.ensures))
    (inr refl) c.say-in-Ok-refusal_line.ensures

pub returns-in-Err-refusal_line : goal.returns-in-Err-refusal_line
returns-in-Err-refusal_line g c = info_silent c.open_header.ensures.same (inr refl)

pub returns-in-Err-Fault : goal.returns-in-Err-Fault
returns-in-Err-Fault g c = info_silent c.open_header.ensures.same (inl (refl, c.in-Err-Fault.ensures.fault (ap (λ e. Err e) c.in-Err-Fault.field-0-is)))
