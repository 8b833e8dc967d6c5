use Rattle.std.proofs.Common.{inl, inr, refl, ap, ◌∙◌, Err}
use Rattle.mail_session.specs.Texts.{nodes_text}
use Rattle.mail_session.proofs.NodesLaws.{nodes_say, nodes_fail, nodes_change, lines_mean, refusal_means}
use Rattle.mail_session.proofs.nodes.say_nodes.Goals as goal

pub returns-in-Ok-nodes_text : goal.returns-in-Ok-nodes_text
returns-in-Ok-nodes_text g c = nodes_say c.scan_nodes.ensures.same (λ told.
    lines_mean _ _ _ (c.in-Ok.ensures.lays told) (c.in-Ok.ensures.only told) (c.as_bytes.ensures.value ∙ c.in-Ok-nodes_text.ensures ∙ ap nodes_text c.as_slice.ensures.value))
    (inl refl) c.say.ensures

pub returns-in-Ok-refusal_line : goal.returns-in-Ok-refusal_line
returns-in-Ok-refusal_line g c = nodes_say c.scan_nodes.ensures.same (λ told.
    let holds = rw c.in-Err-Refused.field-0-is at (c.in-Err-Refused.ensures.refused told) in
    refusal_means _ c.in-Err-Refused.refusal _ holds (c.as_bytes-in-Ok-refusal_line.ensures.value ∙ c.in-Ok-refusal_line.ensures))
    (inr refl) c.say-in-Ok-refusal_line.ensures

pub returns-in-Err-Fault : goal.returns-in-Err-Fault
returns-in-Err-Fault g c = nodes_fail c.scan_nodes.ensures.same (c.in-Err-Fault.ensures.fault (ap (λ e. Err e) c.in-Err-Fault.field-0-is))

pub returns-in-Err-Changed : goal.returns-in-Err-Changed
returns-in-Err-Changed g c = nodes_change c.scan_nodes.ensures.same (λ told. rw c.in-Err-Changed.field-0-is at (c.in-Err-Changed.ensures.refused told))
