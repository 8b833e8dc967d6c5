use Rattle.std.proofs.Common.{◌∙◌, sym}
use Rattle.mail_draft.proofs.Passes.{no_matter}
use Rattle.mail_folders.specs.Pieces.{has_associated_in}
use Rattle.mail_folders.proofs.Calls.{associated_missing}
use Rattle.mail_folders.proofs.Steps.{associated_there, stopped}
use Rattle.mail_folders.proofs.removing.has_associated_in.Goals as goal

pub returns-in_err-is_taken-clause-answer : goal.returns-in_err-is_taken-clause-answer
returns-in_err-is_taken-clause-answer g c = record {
  says = λ T s. stopped _ (has_associated_in T c.args.folder.bits) _ _ c.from_residual.ensures.1 (no_matter _ (has_associated_in T c.args.folder.bits) _ (c.in_err-is_taken.ensures.answer.says T s));
}

pub returns-then-branch-clause-answer : goal.returns-then-branch-clause-answer
returns-then-branch-clause-answer g c = record {
  says = λ T s.
      let taken = rw c.associated-nid.ensures at (c.in_ok-is_taken.ensures.answer.says T s) in
      associated_there T c.args.folder.bits _ (sym c.if-branch.true ∙ taken) (rw c.associated-nid.ensures at (c.has_rows_in.ensures.answer.says T (c.in_ok-is_taken.ensures.reads.shows T s)));
}

pub returns-clause-answer : goal.returns-clause-answer
returns-clause-answer g c = record {
  says = λ T s.
      let taken = rw c.associated-nid.ensures at (c.in_ok-is_taken.ensures.answer.says T s) in
      associated_missing T c.args.folder.bits (sym c.if-branch.false ∙ taken);
}
