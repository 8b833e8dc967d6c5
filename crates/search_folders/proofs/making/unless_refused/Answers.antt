use Rattle.std.proofs.Common.{List}
use Rattle.command_text.specs.declared.reply.CommandRefusal.TheVariants.{Limit}
use Rattle.command_text.specs.declared.reply.Limit.TheVariants.{Depth}
use Rattle.mail_tree.specs.declared.places.FolderPlace.{FolderPlace}
use Rattle.mail_tree.specs.Changing.{refused_if}
use Rattle.mail_tree.specs.Folders.{unless_full}
use Rattle.mail_tree.specs.Places.{is_deep}
use Rattle.mail_folders.specs.Pieces.{plain_in}
use Rattle.mail_draft.proofs.DeskCalls.{answers_at, answers_exit, answers_then, asked_places}
use Rattle.mail_draft.proofs.DeskLoops.{reads_none, reads_ok}
use Rattle.mail_folders.proofs.Calls.{asked}
use Rattle.search_folders.specs.Pieces.{unless_refused}
use Rattle.search_folders.proofs.Made.{answers_plain}
use Rattle.search_folders.proofs.making.unless_refused.Goals as goal

pub returns-in_err-_place-clause-answer : goal.returns-in_err-_place-clause-answer
unfolding unless_refused
returns-in_err-_place-clause-answer g c = answers_plain c.args.parent.bits _ (answers_exit _ (asked (λ T. plain_in T c.args.parent.bits) c.places.ensures c.in_err-_place.ensures.answer) c.from_residual.ensures.1)

pub returns-in_err-unless_child_named-clause-answer : goal.returns-in_err-unless_child_named-clause-answer
unfolding unless_refused
returns-in_err-unless_child_named-clause-answer g c =
    answers_plain c.args.parent.bits _
    (answers_then _ (asked (λ T. plain_in T c.args.parent.bits) c.places.ensures c.in_ok-_place.ensures.answer) (reads_ok _ (reads_none _))
    (answers_exit _ c.in_err-unless_child_named.ensures.answer c.from_residual-in_err-unless_child_named.ensures.1))

pub returns-in_err-unless_deep-clause-answer : goal.returns-in_err-unless_deep-clause-answer
unfolding unless_refused
returns-in_err-unless_deep-clause-answer g c =
    let parent = c.args.parent.bits in
    answers_plain parent _
    (answers_then _ (asked (λ T. plain_in T parent) c.places.ensures c.in_ok-_place.ensures.answer) (reads_ok _ (reads_none _))
    (answers_then _ c.in_ok-unless_child_named.ensures.answer c.in_ok-unless_child_named.ensures.reads
    (answers_exit _ (asked_places (λ (u : Unit {0}). u) (λ (places : List FolderPlace). refused_if (is_deep places parent) (Limit Depth)) _ c.places-2.ensures c.in_err-unless_deep.ensures.answer) c.from_residual-in_err-unless_deep.ensures.1)))

pub returns-clause-answer : goal.returns-clause-answer
unfolding unless_refused
returns-clause-answer g c =
    let parent = c.args.parent.bits in
    answers_plain parent _
    (answers_then _ (asked (λ T. plain_in T parent) c.places.ensures c.in_ok-_place.ensures.answer) (reads_ok _ (reads_none _))
    (answers_then _ c.in_ok-unless_child_named.ensures.answer c.in_ok-unless_child_named.ensures.reads
    (answers_then _ (asked_places (λ (u : Unit {0}). u) (λ (places : List FolderPlace). refused_if (is_deep places parent) (Limit Depth)) _ c.places-2.ensures c.in_ok-unless_deep.ensures.answer) (reads_ok _ (reads_none _))
    (answers_at (λ q T D. unless_full T q) c.hierarchy.ensures c.unless_full.ensures.answer))))
