use Rattle.std.proofs.Common.{◌≡◌, ◌∙◌, ℕ, List, refl, ap}
use Rattle.command_text.specs.declared.reply.CommandRefusal.TheVariants.{Object, Property}
use Rattle.command_text.specs.declared.reply.LastLine.TheVariants.{Done}
use Rattle.mapi_values.specs.declared.part.Part.{Part}
use Rattle.mapi_values.specs.Messages.{Mes, part_id}
use Rattle.mail_tree.specs.Tree.{Tree}
use Rattle.mail_tree.specs.Messages.{appending, remaking, too_long}
use Rattle.mail_tree.specs.Parts.{lengthened, part_in, part_with, with_bytes, with_part}
use Rattle.mail_tree.specs.Values.{bytes_of}
use Rattle.mail_tree.proofs.PartLaws.{found_key}
use Rattle.mail_parts.specs.Pieces.{appending_to}
use Rattle.mail_parts.proofs.DeskTests.{comes_alike, comes_found, comes_missing, found_alike}
use Rattle.mail_parts.proofs.appending.append_in.Goals as goal

-- where the attachment makes the same message of two, more data makes the same of both
appends_alike : (T : Tree) (more : List ℕ) (M N : Mes) (part : Part) → ((q : Part) → part_id q ≡ part_id part → with_part q M ≡ with_part q N) → appending_to T more M part ≡ appending_to T more N part
unfolding appending
appends_alike T more M N part same =
    found_alike Property (bytes_of 0x3701 0x0102 part.props) (λ old. appending T M part old more) (λ old. appending T N part old more)
    (λ old. ap (λ (m : Mes). remaking T m (too_long old more) Done) (same (part_with (with_bytes (lengthened old more) part.props) part) refl))

pub append_to-requires-clause-free : goal.append_to-requires-clause-free
append_to-requires-clause-free g c = λ q e. c.in-Some.ensures.free q (e ∙ found_key part_id c.args.attachment.bits c.args.mail.parts c.in-Some.taken.1 c.in-Some.ensures.taken.0)

pub returns-in-None-clause-answer : goal.returns-in-None-clause-answer
returns-in-None-clause-answer g c =
    comes_missing Object (part_in c.args.attachment.bits c.args.mail) (λ T. appending_to T c.args.more.now c.args.mail) c.in-None.ensures.taken

pub returns-in-Some-clause-answer : goal.returns-in-Some-clause-answer
returns-in-Some-clause-answer g c =
    let M = c.args.mail in let n = c.args.attachment.bits in let part = c.in-Some.taken.1 in
    let id = found_key part_id n M.parts part c.in-Some.ensures.taken.0 in
    comes_found Object (part_in n M) part (λ T. appending_to T c.args.more.now M) c.in-Some.ensures.taken.0
    (comes_alike (λ T. appending_to T c.args.more.now c.in-Some.taken.0 part) (λ T. appending_to T c.args.more.now M part) (λ T. appends_alike T c.args.more.now c.in-Some.taken.0 M part (λ q e. c.in-Some.ensures.back q (e ∙ id)))
    c.append_to.ensures.answer)
