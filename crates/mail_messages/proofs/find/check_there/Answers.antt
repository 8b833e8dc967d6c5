use Rattle.std.proofs.Common.{◌≡◌, ◌==◌, arith, false, not, true}
use Rattle.pst_base.specs.Ids.{kind_of}
use Rattle.std.proofs.lemmas.Bool.Decides.{nat_tests}
use Rattle.mail_messages.specs.Finding.{is_there}
use Rattle.mail_draft.proofs.DeskCalls.{answers_exit, answers_then, passing, refusing}
use Rattle.mail_messages.proofs.find.check_there.Goals as goal

pub returns-then-kind-ne4-clause-answer : goal.returns-then-kind-ne4-clause-answer
unfolding is_there
returns-then-kind-ne4-clause-answer g c =
    let other : not (kind_of c.args.message.bits == 4) ≡ true = grind (arith, nat_tests) in refusing _ _ other

pub returns-in_err-folder-clause-answer : goal.returns-in_err-folder-clause-answer
unfolding is_there
returns-in_err-folder-clause-answer g c =
    let own : not (kind_of c.args.message.bits == 4) ≡ false = grind (arith, nat_tests) in passing _ _ own (answers_exit _ c.in_err-folder.ensures.answer c.from_residual.ensures.1)

pub returns-clause-answer : goal.returns-clause-answer
unfolding is_there
returns-clause-answer g c =
    let own : not (kind_of c.args.message.bits == 4) ≡ false = grind (arith, nat_tests) in passing _ _ own (answers_then _ c.in_ok-folder.ensures.answer c.in_ok-folder.ensures.reads c.check_below.ensures.answer)
