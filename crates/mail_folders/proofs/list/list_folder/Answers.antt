use Rattle.std.proofs.Common.{◌≡◌, ◌∙◌, [], ap, false, refl}
use Rattle.mail_tree.specs.Folders.{folder_in, listed, listing}
use Rattle.mail_tree.specs.Places.{is_plain}
use Rattle.mail_folders.specs.Pieces.{plain_listing}
use Rattle.mail_draft.proofs.DeskCalls.{comes_as, comes_exit, comes_then, comes_unchanged}
use Rattle.mail_draft.proofs.DeskLoops.{reads_none, reads_ok}
use Rattle.mail_folders.proofs.Calls.{asked, comes_else}
use Rattle.mail_folders.proofs.Steps.{lists_at}
use Rattle.mail_folders.proofs.list.list_folder.Goals as goal

pub returns-in_err-place-clause-answer : goal.returns-in_err-place-clause-answer
unfolding listing
returns-in_err-place-clause-answer g c = comes_exit _ (asked (λ T. folder_in T c.args.folder.bits) c.places.ensures c.in_err-place.ensures.answer) c.from_residual.ensures.1

pub returns-in-Plain-clause-answer : goal.returns-in-Plain-clause-answer
unfolding listing
returns-in-Plain-clause-answer g c =
    comes_then _ (asked (λ T. folder_in T c.args.folder.bits) c.places.ensures c.in_ok-place.ensures.answer) (reads_ok _ (reads_none _))
    (comes_as (λ T D view said. lists_at view T c.args.folder.bits c.in_ok-place.place _ _ c.in-Plain.is said) c.plain_listing.ensures.answer)

pub returns-in-Foreign-clause-answer : goal.returns-in-Foreign-clause-answer
unfolding listing
returns-in-Foreign-clause-answer g c =
    let coming = c.replied.ensures in
    let foreign : is_plain c.in_ok-place.place ≡ false = rw c.in-Foreign.is refl in
    comes_then _ (asked (λ T. folder_in T c.args.folder.bits) c.places.ensures c.in_ok-place.ensures.answer) (reads_ok _ (reads_none _))
    (comes_else (is_plain c.in_ok-place.place) _ _ foreign (comes_unchanged c.replied.result (listed []) c.requires.fresh coming.places coming.last (coming.reply ∙ c.listed.ensures ∙ ap listed c.new.ensures.items)))
