use Rattle.std.proofs.Common.{◌∙◌, ◌==◌, List, false}
use Rattle.std.proofs.lemmas.Bool.{eq-eqb, ne_eqb}
use Rattle.mapi_values.specs.Characters.{folded}
use Rattle.command_text.specs.declared.reply.CommandRefusal.TheVariants.{Cycle, Limit}
use Rattle.command_text.specs.declared.reply.LastLine.TheVariants.{Done}
use Rattle.command_text.specs.declared.reply.Limit.TheVariants.{Depth}
use Rattle.mail_tree.specs.declared.places.FolderPlace.{FolderPlace}
use Rattle.mail_tree.specs.Places.{children, is_within, moves_deep}
use Rattle.mail_tree.specs.Values.{name_of}
use Rattle.mail_tree.specs.Changing.{◌>>=◌, context_at, nothing, refused_if}
use Rattle.mail_tree.specs.Folders.{folder_in, replied, unless_named}
use Rattle.mail_folders.specs.Pieces.{plain_in, unless_crowds_name}
use Rattle.mail_draft.proofs.DeskCalls.{asked_places, comes_exit, comes_then, comes_unchanged}
use Rattle.mail_draft.proofs.DeskLoops.{reads_none, reads_ok}
use Rattle.mail_folders.proofs.Calls.{asked, comes_else, comes_if, comes_plain, comes_regrouped}
use Rattle.mail_folders.proofs.Steps.{reply_is}
use Rattle.mail_searches.specs.Moving.{moved_search}
use Rattle.search_folders.specs.Moves.{moving_search, placing_search}
use Rattle.search_folders.proofs.moving.move_search.Goals as goal

pub returns-in_err-_parent_place-clause-answer : goal.returns-in_err-_parent_place-clause-answer
unfolding moved_search
returns-in_err-_parent_place-clause-answer g c =
    let s = c.args.search.bits in let to = c.args.parent.bits in
    comes_then _ (asked (λ T. folder_in T s) c.places.ensures c.in_ok-place.ensures.answer) (reads_ok _ (reads_none _))
    (comes_plain to _ (comes_exit _ (asked (λ T. plain_in T to) c.places-2.ensures c.in_err-_parent_place.ensures.answer) c.from_residual-in_err-_parent_place.ensures.1))

pub returns-in_err-unless_protected-clause-answer : goal.returns-in_err-unless_protected-clause-answer
unfolding moved_search
returns-in_err-unless_protected-clause-answer g c =
    let s = c.args.search.bits in let to = c.args.parent.bits in
    comes_then _ (asked (λ T. folder_in T s) c.places.ensures c.in_ok-place.ensures.answer) (reads_ok _ (reads_none _))
    (comes_plain to _
    (comes_then _ (asked (λ T. plain_in T to) c.places-2.ensures c.in_ok-_parent_place.ensures.answer) (reads_ok _ (reads_none _))
    (comes_exit _ c.in_err-unless_protected.ensures.answer c.from_residual-in_err-unless_protected.ensures.1)))

pub returns-in_err-unless_within-clause-answer : goal.returns-in_err-unless_within-clause-answer
unfolding moved_search
returns-in_err-unless_within-clause-answer g c =
    let s = c.args.search.bits in let to = c.args.parent.bits in
    comes_then _ (asked (λ T. folder_in T s) c.places.ensures c.in_ok-place.ensures.answer) (reads_ok _ (reads_none _))
    (comes_plain to _
    (comes_then _ (asked (λ T. plain_in T to) c.places-2.ensures c.in_ok-_parent_place.ensures.answer) (reads_ok _ (reads_none _))
    (comes_then _ c.in_ok-unless_protected.ensures.answer c.in_ok-unless_protected.ensures.reads
    (comes_exit _ (asked_places (λ (u : Unit {0}). u) (λ (places : List FolderPlace). refused_if (is_within places s to) Cycle) _ c.places-3.ensures c.in_err-unless_within.ensures.answer) c.from_residual-in_err-unless_within.ensures.1))))

pub returns-then-place-parent-clause-answer : goal.returns-then-place-parent-clause-answer
unfolding moved_search
returns-then-place-parent-clause-answer g c =
    let s = c.args.search.bits in let to = c.args.parent.bits in let coming = c.replied.ensures in let reply = c.without_data-reply in
    comes_then _ (asked (λ T. folder_in T s) c.places.ensures c.in_ok-place.ensures.answer) (reads_ok _ (reads_none _))
    (comes_plain to _
    (comes_then _ (asked (λ T. plain_in T to) c.places-2.ensures c.in_ok-_parent_place.ensures.answer) (reads_ok _ (reads_none _))
    (comes_then _ c.in_ok-unless_protected.ensures.answer c.in_ok-unless_protected.ensures.reads
    (comes_then _ (asked_places (λ (u : Unit {0}). u) (λ (places : List FolderPlace). refused_if (is_within places s to) Cycle) _ c.places-3.ensures c.in_ok-unless_within.ensures.answer) (reads_ok _ (reads_none _))
    (comes_if (c.in_ok-place.place.parent.bits == to) _ _ (eq-eqb _ _ c.if-place-parent.true)
    (comes_unchanged c.replied.result (replied Done) (c.in_ok-unless_protected.ensures.reads.changed ∙ c.requires.fresh) coming.places coming.last (coming.reply ∙ reply_is reply.result Done reply.ensures.lines reply.ensures.last)))))))

pub returns-clause-answer : goal.returns-clause-answer
unfolding moved_search moving_search unless_crowds_name placing_search
returns-clause-answer g c =
    let s = c.args.search.bits in let to = c.args.parent.bits in
    comes_then _ (asked (λ T. folder_in T s) c.places.ensures c.in_ok-place.ensures.answer) (reads_ok _ (reads_none _))
    (comes_plain to _
    (comes_then _ (asked (λ T. plain_in T to) c.places-2.ensures c.in_ok-_parent_place.ensures.answer) (reads_ok _ (reads_none _))
    (comes_then _ c.in_ok-unless_protected.ensures.answer c.in_ok-unless_protected.ensures.reads
    (comes_then _ (asked_places (λ (u : Unit {0}). u) (λ (places : List FolderPlace). refused_if (is_within places s to) Cycle) _ c.places-3.ensures c.in_ok-unless_within.ensures.answer) (reads_ok _ (reads_none _))
    (comes_else (c.in_ok-place.place.parent.bits == to) _ _ (ne_eqb _ _ c.if-place-parent.false)
    (comes_regrouped (λ T D. context_at T nothing s) (λ T D x. unless_named T (folded false (name_of x.props)) (children to T.places))
    (λ T D y. refused_if (moves_deep T.places s to) (Limit Depth) >>= λ z. placing_search T s c.in_ok-place.place.parent.bits to) c.moving_search.ensures.answer))))))
