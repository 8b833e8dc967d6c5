use Rattle.mapi_values.specs.Properties.{put}
use Rattle.command_text.specs.declared.reply.LastLine.TheVariants.{Done}
use Rattle.mail_tree.specs.Changing.{context_at, nothing}
use Rattle.mail_tree.specs.Settling.{mirrored, with_context}
use Rattle.mail_tree.specs.Values.{text}
use Rattle.mail_tree.specs.Folders.{changing, folder_in, replied}
use Rattle.mail_folders.specs.Pieces.{named_anew}
use Rattle.mail_draft.proofs.DeskCalls.{changes_come, changes_come_exit, comes_then}
use Rattle.mail_draft.proofs.DeskLoops.{reads_none, reads_ok}
use Rattle.mail_folders.proofs.Calls.{asked, comes_regrouped}
use Rattle.mail_searches.specs.Moving.{renamed_search}
use Rattle.search_folders.proofs.moving.rename_search.Goals as goal

pub returns-in_err-named_anew-clause-answer : goal.returns-in_err-named_anew-clause-answer
unfolding renamed_search named_anew
returns-in_err-named_anew-clause-answer g c =
    let s = c.args.search.bits in let name = c.args.name.now in
    comes_then _ (asked (λ T. folder_in T s) c.places.ensures c.in_ok-place.ensures.answer) (reads_ok _ (reads_none _))
    (comes_then _ c.in_ok-unless_protected.ensures.answer c.in_ok-unless_protected.ensures.reads
    (comes_then _ c.in_ok-unless_beside.ensures.answer c.in_ok-unless_beside.ensures.reads
    (comes_regrouped (λ T D. context_at T nothing s) (λ T D x. mirrored T s (with_context s x (put (text 0x3001 name) x.props) nothing)) (λ T D. changing T (replied Done))
    (changes_come_exit (λ T. changing T (replied Done)) c.in_err-named_anew.ensures.answer c.from_residual-in_err-named_anew.ensures.1))))

pub returns-clause-answer : goal.returns-clause-answer
unfolding renamed_search named_anew
returns-clause-answer g c =
    let s = c.args.search.bits in let name = c.args.name.now in
    comes_then _ (asked (λ T. folder_in T s) c.places.ensures c.in_ok-place.ensures.answer) (reads_ok _ (reads_none _))
    (comes_then _ c.in_ok-unless_protected.ensures.answer c.in_ok-unless_protected.ensures.reads
    (comes_then _ c.in_ok-unless_beside.ensures.answer c.in_ok-unless_beside.ensures.reads
    (comes_regrouped (λ T D. context_at T nothing s) (λ T D x. mirrored T s (with_context s x (put (text 0x3001 name) x.props) nothing)) (λ T D. changing T (replied Done))
    (changes_come (λ T. changing T (replied Done)) c.in_ok-named_anew.ensures.answer c.in_ok-named_anew.ensures.drafts c.changing.ensures.answer))))
