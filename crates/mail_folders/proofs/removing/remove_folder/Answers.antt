use Rattle.std.proofs.Common.{◌||◌}
use Rattle.command_text.specs.declared.reply.CommandRefusal.TheVariants.{NotEmpty}
use Rattle.mail_tree.specs.Changing.{contents, hierarchy, nothing, refused_if, table_at}
use Rattle.mail_tree.specs.Folders.{associated_in, has_associated, has_rows, removed_folder}
use Rattle.mail_folders.specs.Pieces.{has_associated_in, has_rows_in, plain_in, removing_folder, unless_filled}
use Rattle.mail_draft.proofs.DeskCalls.{comes_as, comes_exit, comes_then}
use Rattle.mail_draft.proofs.DeskLoops.{reads_none, reads_ok}
use Rattle.mail_folders.proofs.Calls.{asked, comes_plain}
use Rattle.mail_folders.proofs.Steps.{regroup_tests}
use Rattle.mail_folders.proofs.removing.remove_folder.Goals as goal

pub returns-in_err-place-clause-answer : goal.returns-in_err-place-clause-answer
unfolding removed_folder unless_filled has_rows_in has_associated_in removing_folder
returns-in_err-place-clause-answer g c = comes_plain c.args.folder.bits _ (comes_exit _ (asked (λ T. plain_in T c.args.folder.bits) c.places.ensures c.in_err-place.ensures.answer) c.from_residual.ensures.1)

pub returns-in_err-unless_protected-clause-answer : goal.returns-in_err-unless_protected-clause-answer
unfolding removed_folder unless_filled has_rows_in has_associated_in removing_folder
returns-in_err-unless_protected-clause-answer g c =
    let f = c.args.folder.bits in
    comes_plain f _
    (comes_then _ (asked (λ T. plain_in T c.args.folder.bits) c.places.ensures c.in_ok-place.ensures.answer) (reads_ok _ (reads_none _))
    (comes_exit _ c.in_err-unless_protected.ensures.answer c.from_residual-in_err-unless_protected.ensures.1))

pub returns-in_err-unless_filled-clause-answer : goal.returns-in_err-unless_filled-clause-answer
unfolding removed_folder unless_filled has_rows_in has_associated_in removing_folder
returns-in_err-unless_filled-clause-answer g c =
    let f = c.args.folder.bits in
    comes_plain f _
    (comes_then _ (asked (λ T. plain_in T c.args.folder.bits) c.places.ensures c.in_ok-place.ensures.answer) (reads_ok _ (reads_none _))
    (comes_then _ c.in_ok-unless_protected.ensures.answer c.in_ok-unless_protected.ensures.reads
    (comes_as (λ T D view said. regroup_tests view (table_at T nothing (hierarchy f)) (table_at T nothing (contents f)) (associated_in T f) has_rows has_rows has_associated
    (λ x y z. refused_if (x || (y || z)) NotEmpty) (λ w. removing_folder T f c.in_ok-place.place.parent.bits) _ said)
    (comes_exit (λ T D w. removing_folder T f c.in_ok-place.place.parent.bits) c.in_err-unless_filled.ensures.answer c.from_residual-in_err-unless_filled.ensures.1))))

pub returns-clause-answer : goal.returns-clause-answer
unfolding removed_folder unless_filled has_rows_in has_associated_in removing_folder
returns-clause-answer g c =
    let f = c.args.folder.bits in
    comes_plain f _
    (comes_then _ (asked (λ T. plain_in T c.args.folder.bits) c.places.ensures c.in_ok-place.ensures.answer) (reads_ok _ (reads_none _))
    (comes_then _ c.in_ok-unless_protected.ensures.answer c.in_ok-unless_protected.ensures.reads
    (comes_as (λ T D view said. regroup_tests view (table_at T nothing (hierarchy f)) (table_at T nothing (contents f)) (associated_in T f) has_rows has_rows has_associated
    (λ x y z. refused_if (x || (y || z)) NotEmpty) (λ w. removing_folder T f c.in_ok-place.place.parent.bits) _ said)
    (comes_then (λ T D w. removing_folder T f c.in_ok-place.place.parent.bits) c.in_ok-unless_filled.ensures.answer c.in_ok-unless_filled.ensures.reads c.removing_folder.ensures.answer))))
