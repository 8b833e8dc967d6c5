use Rattle.mapi_values.specs.Properties.{put}
use Rattle.command_text.specs.declared.reply.LastLine.TheVariants.{Done}
use Rattle.mail_tree.specs.Changing.{context_at, nothing}
use Rattle.mail_tree.specs.Settling.{mirrored, with_context}
use Rattle.mail_tree.specs.Values.{text}
use Rattle.mail_tree.specs.Folders.{changing, renamed_folder, replied}
use Rattle.mail_folders.specs.Pieces.{named_anew, plain_in}
use Rattle.mail_draft.proofs.DeskCalls.{changes_come, changes_come_exit, comes_exit, comes_then}
use Rattle.mail_draft.proofs.DeskLoops.{reads_none, reads_ok}
use Rattle.mail_folders.proofs.Calls.{asked, comes_plain, comes_regrouped}
use Rattle.mail_folders.proofs.renaming.rename_folder.Goals as goal

pub returns-in_err-place-clause-answer : goal.returns-in_err-place-clause-answer
unfolding renamed_folder named_anew
returns-in_err-place-clause-answer g c = comes_plain c.args.folder.bits _ (comes_exit _ (asked (λ T. plain_in T c.args.folder.bits) c.places.ensures c.in_err-place.ensures.answer) c.from_residual.ensures.1)

pub returns-in_err-unless_protected-clause-answer : goal.returns-in_err-unless_protected-clause-answer
unfolding renamed_folder named_anew
returns-in_err-unless_protected-clause-answer g c =
    let f = c.args.folder.bits in
    comes_plain f _
    (comes_then _ (asked (λ T. plain_in T c.args.folder.bits) c.places.ensures c.in_ok-place.ensures.answer) (reads_ok _ (reads_none _))
    (comes_exit _ c.in_err-unless_protected.ensures.answer c.from_residual-in_err-unless_protected.ensures.1))

pub returns-in_err-unless_beside-clause-answer : goal.returns-in_err-unless_beside-clause-answer
unfolding renamed_folder named_anew
returns-in_err-unless_beside-clause-answer g c =
    let f = c.args.folder.bits in
    comes_plain f _
    (comes_then _ (asked (λ T. plain_in T c.args.folder.bits) c.places.ensures c.in_ok-place.ensures.answer) (reads_ok _ (reads_none _))
    (comes_then _ c.in_ok-unless_protected.ensures.answer c.in_ok-unless_protected.ensures.reads
    (comes_exit _ c.in_err-unless_beside.ensures.answer c.from_residual-in_err-unless_beside.ensures.1)))

pub returns-in_err-named_anew-clause-answer : goal.returns-in_err-named_anew-clause-answer
unfolding renamed_folder named_anew
returns-in_err-named_anew-clause-answer g c =
    let f = c.args.folder.bits in let name = c.args.name.now in
    comes_plain f _
    (comes_then _ (asked (λ T. plain_in T c.args.folder.bits) c.places.ensures c.in_ok-place.ensures.answer) (reads_ok _ (reads_none _))
    (comes_then _ c.in_ok-unless_protected.ensures.answer c.in_ok-unless_protected.ensures.reads
    (comes_then _ c.in_ok-unless_beside.ensures.answer c.in_ok-unless_beside.ensures.reads
    (comes_regrouped (λ T D. context_at T nothing f) (λ T D x. mirrored T f (with_context f x (put (text 0x3001 name) x.props) nothing)) (λ T D. changing T (replied Done))
    (changes_come_exit (λ T. changing T (replied Done)) c.in_err-named_anew.ensures.answer c.from_residual-in_err-named_anew.ensures.1)))))

pub returns-clause-answer : goal.returns-clause-answer
unfolding renamed_folder named_anew
returns-clause-answer g c =
    let f = c.args.folder.bits in let name = c.args.name.now in
    comes_plain f _
    (comes_then _ (asked (λ T. plain_in T c.args.folder.bits) c.places.ensures c.in_ok-place.ensures.answer) (reads_ok _ (reads_none _))
    (comes_then _ c.in_ok-unless_protected.ensures.answer c.in_ok-unless_protected.ensures.reads
    (comes_then _ c.in_ok-unless_beside.ensures.answer c.in_ok-unless_beside.ensures.reads
    (comes_regrouped (λ T D. context_at T nothing f) (λ T D x. mirrored T f (with_context f x (put (text 0x3001 name) x.props) nothing)) (λ T D. changing T (replied Done))
    (changes_come (λ T. changing T (replied Done)) c.in_ok-named_anew.ensures.answer c.in_ok-named_anew.ensures.drafts c.changing.ensures.answer)))))
