use Rattle.std.proofs.Common.{◌≡◌, Ok, false, refl}
use Rattle.std.specs.Prelude.{nat_eq}
use Rattle.std.specs.Cmp.Lexicographic.{pointwise}
use Rattle.mapi_values.specs.Characters.{folded}
use Rattle.mail_tree.specs.mail_objects.Forms.{Ctx}
use Rattle.mail_tree.specs.Values.{name_of}
use Rattle.mail_folders.specs.Pieces.{has_name}
use Rattle.mail_draft.proofs.DeskCalls.{answers_exit, answers_of}
use Rattle.mail_folders.proofs.names.has_name.Goals as goal

pub returns-in-Some-clause-answer : goal.returns-in-Some-clause-answer
unfolding has_name
returns-in-Some-clause-answer g c =
    let known = rw c.in-Some.is at c.known_name.ensures in
    record { says = λ T s. known T (c.flags.ensures T s) }

pub returns-in_err-context-clause-answer : goal.returns-in_err-context-clause-answer
unfolding has_name
returns-in_err-context-clause-answer g c = answers_exit _ c.in_err-context.ensures.answer c.from_residual.ensures.1

pub returns-clause-answer : goal.returns-clause-answer
unfolding has_name
returns-clause-answer g c =
    let has : c.eq.result ≡ pointwise nat_eq (folded false (name_of c.in_ok-context.context.props)) c.args.name.now = rw (c.eq.ensures, c.as_slice.ensures.value, c.as_slice-2.ensures.value, c.in_ok-own.ensures, c.props.ensures) refl in
    answers_of _ (λ (x : Ctx). Ok (pointwise nat_eq (folded false (name_of x.props)) c.args.name.now)) _ c.in_ok-context.ensures.answer has
