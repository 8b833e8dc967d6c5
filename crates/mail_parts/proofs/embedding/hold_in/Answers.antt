use Rattle.std.proofs.Common.{◌∙◌, None}
use Rattle.command_text.specs.declared.reply.LastLine.TheVariants.{Done}
use Rattle.command_text.specs.declared.reply.CommandRefusal.TheVariants.{Object}
use Rattle.mapi_values.specs.Messages.{Mes, part_id}
use Rattle.mail_draft.proofs.DeskCalls.{comes_at}
use Rattle.mail_tree.specs.Messages.{remaking}
use Rattle.mail_tree.specs.Parts.{part_holding, part_in}
use Rattle.mail_tree.proofs.PartLaws.{found_key}
use Rattle.mail_parts.specs.Pieces.{holding}
use Rattle.mail_parts.proofs.DeskTests.{comes_found, comes_missing}
use Rattle.mail_parts.proofs.embedding.hold_in.Goals as goal

pub hold-requires-clause-free : goal.hold-requires-clause-free
hold-requires-clause-free g c = λ q e. c.in-Some.ensures.free q (e ∙ found_key part_id c.args.attachment.bits c.args.mail.parts c.in-Some.taken.1 c.in-Some.ensures.taken.0)

pub returns-in-None-clause-answer : goal.returns-in-None-clause-answer
returns-in-None-clause-answer g c =
    comes_missing Object (part_in c.args.attachment.bits c.args.mail) (λ T part. holding T c.args.node.now part c.args.mail) c.in-None.ensures.taken

pub returns-in-Some-clause-answer : goal.returns-in-Some-clause-answer
returns-in-Some-clause-answer g c =
    let M = c.args.mail in let n = c.args.attachment.bits in let part = c.in-Some.taken.1 in
    let id = found_key part_id n M.parts part c.in-Some.ensures.taken.0 in
    comes_found Object (part_in n M) part (λ T part. holding T c.args.node.now part M) c.in-Some.ensures.taken.0
    (comes_at (λ (m : Mes) T D. remaking T m None Done) (c.in-Some.ensures.back (part_holding c.args.node.now part) id) c.hold.ensures.answer)
