use Rattle.std.proofs.Common.{Ok}
use Rattle.command_text.specs.declared.reply.CommandRefusal.TheVariants.{Reserved}
use Rattle.mail_tree.specs.Changing.{contents}
use Rattle.mail_tree.specs.Folders.{unless_full}
use Rattle.mail_tree.specs.Ids.{message_kinds, next_index}
use Rattle.mail_tree.specs.Messages.{copying}
use Rattle.mail_tree.specs.declared.places.FolderPlace.{FolderPlace}
use Rattle.std.proofs.Common.{List}
use Rattle.mail_messages.specs.Finding.{plain_at}
use Rattle.mail_messages.specs.Parts.{copying_in, may_copy, may_copy_into}
use Rattle.mail_draft.proofs.DeskCalls.{asked_places, comes_exit, comes_then}
use Rattle.mail_draft.proofs.DeskLoops.{reads_none, reads_ok}
use Rattle.mail_messages.proofs.Calls.{comes_regrouped}
use Rattle.mail_messages.proofs.copying.copy_into.Goals as goal

pub returns-in_err-check_copy-clause-answer : goal.returns-in_err-check_copy-clause-answer
returns-in_err-check_copy-clause-answer g c =
    let M = c.args.mail in let f = c.args.folder.bits in
    comes_regrouped (λ T D. plain_at f Reserved T.places) (λ T D u. may_copy M) (λ T D v. copying_in T f M)
    (comes_exit _ (asked_places (λ (u : Unit {0}). u) (λ (places : List FolderPlace). may_copy_into f M places) _ c.places.ensures c.in_err-check_copy.ensures.answer) c.from_residual.ensures.1)

pub returns-in_err-index-clause-answer : goal.returns-in_err-index-clause-answer
returns-in_err-index-clause-answer g c =
    let M = c.args.mail in let f = c.args.folder.bits in
    comes_regrouped (λ T D. plain_at f Reserved T.places) (λ T D u. may_copy M) (λ T D v. copying_in T f M)
    (comes_then _ (asked_places (λ (u : Unit {0}). u) (λ (places : List FolderPlace). may_copy_into f M places) _ c.places.ensures c.in_ok-check_copy.ensures.answer) (reads_ok _ (reads_none _))
    (comes_regrouped (λ T D. unless_full T (contents f)) (λ T D u. Ok (next_index T 4 message_kinds)) (λ T D. copying T M f)
    (comes_exit _ c.in_err-index.ensures.answer c.from_residual-in_err-index.ensures.1)))

pub returns-clause-answer : goal.returns-clause-answer
returns-clause-answer g c =
    let M = c.args.mail in let f = c.args.folder.bits in
    comes_regrouped (λ T D. plain_at f Reserved T.places) (λ T D u. may_copy M) (λ T D v. copying_in T f M)
    (comes_then _ (asked_places (λ (u : Unit {0}). u) (λ (places : List FolderPlace). may_copy_into f M places) _ c.places.ensures c.in_ok-check_copy.ensures.answer) (reads_ok _ (reads_none _))
    (comes_regrouped (λ T D. unless_full T (contents f)) (λ T D u. Ok (next_index T 4 message_kinds)) (λ T D. copying T M f)
    (comes_then (λ T D. copying T M f) c.in_ok-index.ensures.answer c.in_ok-index.ensures.reads c.copying.ensures.answer)))
