use Rattle.std.proofs.Common.{◌∙◌, inl, inr, refl}
use Rattle.mail_session.specs.Compact.{IsCompactedText, IsUnmadeText}
use Rattle.mail_session.proofs.CompactLaws.{reads_alone}
use Rattle.mail_session.proofs.CopyLaws.{copy_changes, copy_fails, copy_lacks, copy_refuses, copy_says}
use Rattle.mail_session.proofs.compact.say_compacted.Goals as goal

pub returns-in-Ok-compacted_line : goal.returns-in-Ok-compacted_line
returns-in-Ok-compacted_line g c =
    let call = c.copy_file.ensures in
    copy_says IsCompactedText IsUnmadeText call.keeps call.occupied
    (λ told.
    let is = c.in-Ok.ensures.compacted told in
    inl (refl, record { source = is.0; eof = c.in-Ok.eof; compacted = is.1; reads = reads_alone is.1; text_is = c.as_bytes.ensures.value ∙ c.in-Ok-compacted_line.ensures }))
    (inl refl) (λ is. c.in-Ok.ensures.stable) c.say.ensures

pub returns-in-Err : goal.returns-in-Err
returns-in-Err g c =
    let call = c.copy_file.ensures in
    copy_lacks IsCompactedText IsUnmadeText call.keeps call.occupied

pub returns-in-Err-NotEmpty : goal.returns-in-Err-NotEmpty
returns-in-Err-NotEmpty g c =
    let call = c.copy_file.ensures in
    let stops = rw c.in-Err-NotEmpty.field-0-is at (c.in-Err-NotEmpty.ensures.stops) in
    copy_refuses IsCompactedText IsUnmadeText call.keeps call.occupied stops.0 (λ told. inl (stops.1 told, refl)) c.say-in-Err-NotEmpty.ensures

pub returns-in-Ok-file_line : goal.returns-in-Ok-file_line
returns-in-Ok-file_line g c =
    let call = c.copy_file.ensures in
    let it = c.in-Err-Refused in
    let stops = rw it.field-0-is at (it.ensures.stops) in
    copy_refuses IsCompactedText IsUnmadeText call.keeps call.occupied stops.0
    (λ told. inr (inl (it.refusal, stops.1 told, c.as_bytes-in-Ok-file_line.ensures.value ∙ c.in-Ok-file_line.ensures)))
    c.say-in-Ok-file_line.ensures

pub returns-in-Err-file_line : goal.returns-in-Err-file_line
returns-in-Err-file_line g c =
    let call = c.copy_file.ensures in
    copy_lacks IsCompactedText IsUnmadeText call.keeps call.occupied

pub returns-in-Ok-large_line : goal.returns-in-Ok-large_line
returns-in-Ok-large_line g c =
    let call = c.copy_file.ensures in
    let it = c.in-Err-Large in
    let stops = rw it.field-0-is at (it.ensures.stops) in
    copy_refuses IsCompactedText IsUnmadeText call.keeps call.occupied stops.0
    (λ told. inr (inr (it.eof, stops.1 told, c.as_bytes-in-Ok-large_line.ensures.value ∙ c.in-Ok-large_line.ensures)))
    c.say-in-Ok-large_line.ensures

pub returns-in-Err-Fault : goal.returns-in-Err-Fault
returns-in-Err-Fault g c =
    let call = c.copy_file.ensures in
    copy_fails IsCompactedText IsUnmadeText call.keeps call.occupied (rw c.in-Err-Fault.field-0-is at (c.in-Err-Fault.ensures.stops))

pub returns-in-Err-Changed : goal.returns-in-Err-Changed
returns-in-Err-Changed g c =
    let call = c.copy_file.ensures in
    copy_changes IsCompactedText IsUnmadeText call.keeps call.occupied (rw c.in-Err-Changed.field-0-is at (c.in-Err-Changed.ensures.stops))

pub returns-in-Err-Memory : goal.returns-in-Err-Memory
returns-in-Err-Memory g c =
    let call = c.copy_file.ensures in
    copy_lacks IsCompactedText IsUnmadeText call.keeps call.occupied
