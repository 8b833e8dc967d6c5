use Rattle.std.proofs.Common.{◌≡◌, Ok, List, ℕ, arith, ap, length, ◌∙◌}
use Rattle.mapi_values.specs.Values.{Val}
use Rattle.mail_tree.specs.Changing.{contents, now_at}
use Rattle.mail_tree.specs.Settling.{unread_among, with_context}
use Rattle.mail_tree.specs.Values.{with_counts}
use Rattle.mail_draft.specs.Listed.{listed_in}
use Rattle.mail_draft.proofs.DeskCalls.{answers_at, changes_at, changes_exit, changes_then}
use Rattle.mail_draft.proofs.DeskPieces.{counts_listed}
use Rattle.mail_draft.proofs.on_desk.settle.counted_with.Goals as goal

pub returns-in_err-context-clause-answer : goal.returns-in_err-context-clause-answer
returns-in_err-context-clause-answer g c = changes_exit _ c.in_err-context.ensures.answer c.from_residual.ensures.1

pub returns-in_err-ids-clause-answer : goal.returns-in_err-ids-clause-answer
returns-in_err-ids-clause-answer g c =
    changes_then _ c.in_ok-context.ensures.answer c.in_ok-context.ensures.reads (counts_listed c.args.folder.bits (contents c.args.folder.bits) c.in_ok-context.context c.args.has_folders
    (changes_exit _ (answers_at (λ q T D. listed_in (now_at T D q)) c.contents.ensures c.in_err-ids.ensures.answer) c.from_residual-in_err-ids.ensures.1))

pub returns-in_err-unread-clause-answer : goal.returns-in_err-unread-clause-answer
returns-in_err-unread-clause-answer g c =
    changes_then _ c.in_ok-context.ensures.answer c.in_ok-context.ensures.reads (counts_listed c.args.folder.bits (contents c.args.folder.bits) c.in_ok-context.context c.args.has_folders
    (changes_then _ (answers_at (λ q T D. listed_in (now_at T D q)) c.contents.ensures c.in_ok-ids.ensures.answer) c.in_ok-ids.ensures.reads
    (changes_exit _ (answers_at (λ ids T D. unread_among T D ids) c.as_slice.ensures.value c.in_err-unread.ensures.answer) c.from_residual-in_err-unread.ensures.1)))

pub returns-clause-answer : goal.returns-clause-answer
returns-clause-answer g c =
    let f = c.args.folder.bits in let x = c.in_ok-context.context in let has = c.args.has_folders in let unread = c.in_ok-unread.unread in
    let ids = c.in_ok-ids.ids.items in
    let same = c.in_ok-old_props.ensures ∙ c.props.ensures in
    let len : c.len.result ≡ length ids = omega (arith, c.len.ensures, c.as_slice.ensures.len, ap length c.as_slice.ensures.value) in
    let counts = c.in_ok-props.ensures ∙ ap (λ (n : ℕ). with_counts n unread has c.in_ok-old_props.old_props) len ∙ ap (λ (props : List Val). with_counts (length ids) unread has props) same in
    changes_then _ c.in_ok-context.ensures.answer c.in_ok-context.ensures.reads (counts_listed f (contents f) x has
    (changes_then _ (answers_at (λ q T D. listed_in (now_at T D q)) c.contents.ensures c.in_ok-ids.ensures.answer) c.in_ok-ids.ensures.reads
    (changes_then _ (answers_at (λ ids T D. unread_among T D ids) c.as_slice.ensures.value c.in_ok-unread.ensures.answer) c.in_ok-unread.ensures.reads
    (changes_at (λ props T D. Ok (with_context f x props D)) counts c.put_context.ensures.answer))))
