use Rattle.std.proofs.Common.{Ok, false}
use Rattle.mapi_values.specs.Characters.{folded}
use Rattle.mail_tree.specs.Places.{children}
use Rattle.mail_tree.specs.Values.{name_of}
use Rattle.mail_tree.specs.Changing.{context_at, nothing}
use Rattle.mail_tree.specs.Folders.{unless_named}
use Rattle.mail_tree.specs.mail_objects.Forms.{Ctx}
use Rattle.mail_folders.specs.Pieces.{name_in, unless_crowds_name}
use Rattle.mail_draft.proofs.DeskCalls.{answers_exit, answers_then, regrouped}
use Rattle.mail_folders.proofs.moving.unless_crowds_name.Goals as goal

pub returns-in_err-name-clause-answer : goal.returns-in_err-name-clause-answer
unfolding unless_crowds_name name_in
returns-in_err-name-clause-answer g c =
    regrouped (λ T D. context_at T nothing c.args.folder.bits) (λ T D (x : Ctx). Ok (name_of x.props)) (λ T D n. unless_named T (folded false n) (children c.args.parent.bits T.places))
    (answers_exit _ c.in_err-name.ensures.answer c.from_residual.ensures.1)

pub returns-clause-answer : goal.returns-clause-answer
unfolding unless_crowds_name name_in
returns-clause-answer g c =
    regrouped (λ T D. context_at T nothing c.args.folder.bits) (λ T D (x : Ctx). Ok (name_of x.props)) (λ T D n. unless_named T (folded false n) (children c.args.parent.bits T.places))
    (answers_then _ c.in_ok-name.ensures.answer c.in_ok-name.ensures.reads c.unless_child_named.ensures.answer)
