use Rattle.std.proofs.Common.{List}
use Rattle.command_text.specs.declared.reply.CommandRefusal.TheVariants.{Limit}
use Rattle.command_text.specs.declared.reply.Limit.TheVariants.{Depth}
use Rattle.mail_tree.specs.declared.places.FolderPlace.{FolderPlace}
use Rattle.mail_tree.specs.Changing.{refused_if}
use Rattle.mail_tree.specs.Folders.{made_folder, making_folder, unless_full}
use Rattle.mail_tree.specs.Places.{is_deep}
use Rattle.mail_folders.specs.Pieces.{plain_in}
use Rattle.mail_draft.proofs.DeskCalls.{answers_at, asked_places, comes_exit, comes_then}
use Rattle.mail_draft.proofs.DeskLoops.{reads_none, reads_ok}
use Rattle.mail_folders.proofs.Calls.{asked, comes_plain}
use Rattle.mail_folders.proofs.making.make_folder.Goals as goal

pub returns-in_err-_place-clause-answer : goal.returns-in_err-_place-clause-answer
unfolding made_folder
returns-in_err-_place-clause-answer g c = comes_plain c.args.parent.bits _ (comes_exit _ (asked (λ T. plain_in T c.args.parent.bits) c.places.ensures c.in_err-_place.ensures.answer) c.from_residual.ensures.1)

pub returns-in_err-unless_child_named-clause-answer : goal.returns-in_err-unless_child_named-clause-answer
unfolding made_folder
returns-in_err-unless_child_named-clause-answer g c =
    let parent = c.args.parent.bits in
    comes_plain parent _
    (comes_then _ (asked (λ T. plain_in T c.args.parent.bits) c.places.ensures c.in_ok-_place.ensures.answer) (reads_ok _ (reads_none _))
    (comes_exit _ c.in_err-unless_child_named.ensures.answer c.from_residual-in_err-unless_child_named.ensures.1))

pub returns-in_err-unless_deep-clause-answer : goal.returns-in_err-unless_deep-clause-answer
unfolding made_folder
returns-in_err-unless_deep-clause-answer g c =
    let parent = c.args.parent.bits in
    comes_plain parent _
    (comes_then _ (asked (λ T. plain_in T c.args.parent.bits) c.places.ensures c.in_ok-_place.ensures.answer) (reads_ok _ (reads_none _))
    (comes_then _ c.in_ok-unless_child_named.ensures.answer c.in_ok-unless_child_named.ensures.reads
    (comes_exit _ (asked_places (λ (u : Unit {0}). u) (λ (places : List FolderPlace). refused_if (is_deep places parent) (Limit Depth)) _ c.places-2.ensures c.in_err-unless_deep.ensures.answer) c.from_residual-in_err-unless_deep.ensures.1)))

pub returns-in_err-unless_full-clause-answer : goal.returns-in_err-unless_full-clause-answer
unfolding made_folder
returns-in_err-unless_full-clause-answer g c =
    let parent = c.args.parent.bits in
    comes_plain parent _
    (comes_then _ (asked (λ T. plain_in T c.args.parent.bits) c.places.ensures c.in_ok-_place.ensures.answer) (reads_ok _ (reads_none _))
    (comes_then _ c.in_ok-unless_child_named.ensures.answer c.in_ok-unless_child_named.ensures.reads
    (comes_then _ (asked_places (λ (u : Unit {0}). u) (λ (places : List FolderPlace). refused_if (is_deep places parent) (Limit Depth)) _ c.places-2.ensures c.in_ok-unless_deep.ensures.answer) (reads_ok _ (reads_none _))
    (comes_exit _ (answers_at (λ q T D. unless_full T q) c.hierarchy.ensures c.in_err-unless_full.ensures.answer) c.from_residual-in_err-unless_full.ensures.1))))

pub returns-in_err-index-clause-answer : goal.returns-in_err-index-clause-answer
unfolding made_folder
returns-in_err-index-clause-answer g c =
    let parent = c.args.parent.bits in
    comes_plain parent _
    (comes_then _ (asked (λ T. plain_in T c.args.parent.bits) c.places.ensures c.in_ok-_place.ensures.answer) (reads_ok _ (reads_none _))
    (comes_then _ c.in_ok-unless_child_named.ensures.answer c.in_ok-unless_child_named.ensures.reads
    (comes_then _ (asked_places (λ (u : Unit {0}). u) (λ (places : List FolderPlace). refused_if (is_deep places parent) (Limit Depth)) _ c.places-2.ensures c.in_ok-unless_deep.ensures.answer) (reads_ok _ (reads_none _))
    (comes_then _ (answers_at (λ q T D. unless_full T q) c.hierarchy.ensures c.in_ok-unless_full.ensures.answer) c.in_ok-unless_full.ensures.reads
    (comes_exit (λ T D i. making_folder T parent c.args.name.now i) c.in_err-index.ensures.answer c.from_residual-in_err-index.ensures.1)))))

pub returns-clause-answer : goal.returns-clause-answer
unfolding made_folder
returns-clause-answer g c =
    let parent = c.args.parent.bits in
    comes_plain parent _
    (comes_then _ (asked (λ T. plain_in T c.args.parent.bits) c.places.ensures c.in_ok-_place.ensures.answer) (reads_ok _ (reads_none _))
    (comes_then _ c.in_ok-unless_child_named.ensures.answer c.in_ok-unless_child_named.ensures.reads
    (comes_then _ (asked_places (λ (u : Unit {0}). u) (λ (places : List FolderPlace). refused_if (is_deep places parent) (Limit Depth)) _ c.places-2.ensures c.in_ok-unless_deep.ensures.answer) (reads_ok _ (reads_none _))
    (comes_then _ (answers_at (λ q T D. unless_full T q) c.hierarchy.ensures c.in_ok-unless_full.ensures.answer) c.in_ok-unless_full.ensures.reads
    (comes_then (λ T D i. making_folder T parent c.args.name.now i) c.in_ok-index.ensures.answer c.in_ok-index.ensures.reads c.making_folder.ensures.answer)))))
