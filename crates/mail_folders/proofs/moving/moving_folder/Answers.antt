use Rattle.std.proofs.Common.{List}
use Rattle.command_text.specs.declared.reply.CommandRefusal.TheVariants.{Limit}
use Rattle.command_text.specs.declared.reply.Limit.TheVariants.{Depth}
use Rattle.mail_tree.specs.declared.places.FolderPlace.{FolderPlace}
use Rattle.mail_tree.specs.Places.{moves_deep}
use Rattle.mail_tree.specs.Changing.{refused_if}
use Rattle.mail_folders.specs.Pieces.{moving_folder}
use Rattle.mail_draft.proofs.DeskCalls.{asked_places, comes_exit, comes_then}
use Rattle.mail_draft.proofs.DeskLoops.{reads_none, reads_ok}
use Rattle.mail_folders.proofs.moving.moving_folder.Goals as goal

pub returns-in_err-unless_crowds_name-clause-answer : goal.returns-in_err-unless_crowds_name-clause-answer
unfolding moving_folder
returns-in_err-unless_crowds_name-clause-answer g c = comes_exit _ c.in_err-unless_crowds_name.ensures.answer c.from_residual.ensures.1

pub returns-in_err-unless_moves_deep-clause-answer : goal.returns-in_err-unless_moves_deep-clause-answer
unfolding moving_folder
returns-in_err-unless_moves_deep-clause-answer g c = comes_then _ c.in_ok-unless_crowds_name.ensures.answer c.in_ok-unless_crowds_name.ensures.reads
    (comes_exit _ (asked_places (λ (u : Unit {0}). u) (λ (places : List FolderPlace). refused_if (moves_deep places c.args.folder.bits c.args.to.bits) (Limit Depth)) _ c.places.ensures c.in_err-unless_moves_deep.ensures.answer) c.from_residual-in_err-unless_moves_deep.ensures.1)

pub returns-clause-answer : goal.returns-clause-answer
unfolding moving_folder
returns-clause-answer g c = comes_then _ c.in_ok-unless_crowds_name.ensures.answer c.in_ok-unless_crowds_name.ensures.reads
    (comes_then _ (asked_places (λ (u : Unit {0}). u) (λ (places : List FolderPlace). refused_if (moves_deep places c.args.folder.bits c.args.to.bits) (Limit Depth)) _ c.places.ensures c.in_ok-unless_moves_deep.ensures.answer) (reads_ok _ (reads_none _)) c.placing_folder.ensures.answer)
