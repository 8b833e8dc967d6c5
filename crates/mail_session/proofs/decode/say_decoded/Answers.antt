use Rattle.std.proofs.Common.{◌∙◌, inl, inr, refl}
use Rattle.mail_session.specs.Decode.{IsDecodedText, IsUnreadText}
use Rattle.mail_session.proofs.CopyLaws.{copy_changes, copy_fails, copy_lacks, copy_refuses, copy_says}
use Rattle.mail_session.proofs.decode.say_decoded.Goals as goal

pub returns-in-Ok-decoded_line : goal.returns-in-Ok-decoded_line
returns-in-Ok-decoded_line g c =
    let call = c.decode_file.ensures in
    copy_says IsDecodedText IsUnreadText call.keeps (λ told has. (call.occupied told has).0)
    (λ told. inl (refl, (c.in-Ok.count, c.in-Ok.ensures.decoded told, c.as_bytes.ensures.value ∙ c.in-Ok-decoded_line.ensures)))
    (inl refl) (λ is. c.in-Ok.ensures.stable) c.say.ensures

pub returns-in-Err : goal.returns-in-Err
returns-in-Err g c =
    let call = c.decode_file.ensures in
    copy_lacks IsDecodedText IsUnreadText call.keeps (λ told has. (call.occupied told has).0)

pub returns-in-Err-NotEmpty : goal.returns-in-Err-NotEmpty
returns-in-Err-NotEmpty g c =
    let call = c.decode_file.ensures in
    let stops = rw c.in-Err-NotEmpty.field-0-is at (c.in-Err-NotEmpty.ensures.stops) in
    copy_refuses IsDecodedText IsUnreadText call.keeps (λ told has. (call.occupied told has).0) stops.0 (λ told. inl (stops.1 told, refl)) c.say-in-Err-NotEmpty.ensures

pub returns-in-Ok-refusal_line : goal.returns-in-Ok-refusal_line
returns-in-Ok-refusal_line g c =
    let call = c.decode_file.ensures in
    let it = c.in-Err-Reading-Refused in
    let stops = rw it.field-0-0-is at (rw it.field-0-is at (it.ensures.stops)) in
    copy_refuses IsDecodedText IsUnreadText call.keeps (λ told has. (call.occupied told has).0) stops.0
    (λ told. inr (it.refusal, stops.1 told, c.as_bytes-in-Ok-refusal_line.ensures.value ∙ c.in-Ok-refusal_line.ensures))
    c.say-in-Ok-refusal_line.ensures

pub returns-in-Err-Reading-Fault : goal.returns-in-Err-Reading-Fault
returns-in-Err-Reading-Fault g c =
    let call = c.decode_file.ensures in
    let it = c.in-Err-Reading-Fault in
    copy_fails IsDecodedText IsUnreadText call.keeps (λ told has. (call.occupied told has).0) (rw it.field-0-0-is at (rw it.field-0-is at (it.ensures.stops)))

pub returns-in-Err-Reading-Changed : goal.returns-in-Err-Reading-Changed
returns-in-Err-Reading-Changed g c =
    let call = c.decode_file.ensures in
    let it = c.in-Err-Reading-Changed in
    copy_changes IsDecodedText IsUnreadText call.keeps (λ told has. (call.occupied told has).0) (rw it.field-0-0-is at (rw it.field-0-is at (it.ensures.stops)))

pub returns-in-Err-Reading-Memory : goal.returns-in-Err-Reading-Memory
returns-in-Err-Reading-Memory g c =
    let call = c.decode_file.ensures in
    copy_lacks IsDecodedText IsUnreadText call.keeps (λ told has. (call.occupied told has).0)
