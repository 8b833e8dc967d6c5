use Rattle.std.proofs.Common.{◌≡◌, ◌∙◌, ℕ, Bool, List, None, Some, sym, ap, if◌then◌else◌}
use Rattle.command_text.specs.declared.reply.CommandRefusal.TheVariants.{Limit, Property}
use Rattle.command_text.specs.declared.reply.Limit.TheVariants.{Value as LongValue}
use Rattle.mapi_values.specs.declared.part.Part.{Part}
use Rattle.mail_tree.specs.Messages.{appending}
use Rattle.mail_tree.specs.Parts.{is_too_long, lengthened, part_with, with_bytes, with_part}
use Rattle.mail_tree.specs.Values.{bytes_of}
use Rattle.mail_parts.proofs.DeskTests.{comes_found, comes_missing, comes_remade}
use Rattle.mail_parts.proofs.appending.append_to.Goals as goal

pub returns-in_default-clause-answer : goal.returns-in_default-clause-answer
returns-in_default-clause-answer g c =
    comes_missing Property (bytes_of 0x3701 0x0102 c.args.part.props) (λ T old. appending T c.args.mail c.args.part old c.args.more.now) (sym c.in_default.ensures.bytes)

pub returns-clause-answer : goal.returns-clause-answer
unfolding appending
returns-clause-answer g c =
    let part = c.args.part in let old = c.in-Some.old.now in let more = c.args.more.now in
    let part_is : c.in_ok-part.part ≡ part_with (with_bytes (lengthened old more) part.props) part = c.in_ok-part.ensures ∙ ap (λ (b : List ℕ). part_with (with_bytes b part.props) part) (c.in_ok-bytes.ensures ∙ ap (λ (ms : List ℕ). lengthened old ms) c.as_slice-2.ensures.value) in
    comes_found Property (bytes_of 0x3701 0x0102 part.props) old (λ T old. appending T c.args.mail part old more) (sym c.in-Some.ensures.bytes)
    (comes_remade
    (c.in_ok-mail.ensures ∙ ap (λ (q : Part). with_part q c.args.mail) part_is)
    (c.append_ending-end.ensures.reason ∙ ap (λ (b : Bool). if b then Some (Limit LongValue) else None) (c.is_too_long-too_long.ensures ∙ ap (λ (ms : List ℕ). is_too_long old ms) c.as_slice.ensures.value))
    c.append_ending-end.ensures.last
    c.remake_message.ensures.answer)
