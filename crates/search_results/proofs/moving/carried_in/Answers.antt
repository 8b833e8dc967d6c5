use Rattle.std.proofs.Common.{◌∙◌, sym}
use Rattle.mail_draft.proofs.DeskCalls.{answers_exit, answers_then}
use Rattle.mail_searches.specs.Touching.{carried}
use Rattle.search_results.proofs.JoinLaws.{foreign_skipped, in_folder, outside_skipped}
use Rattle.search_results.proofs.moving.carried_in.Goals as goal

pub returns-then-not-is_plain-clause-answer : goal.returns-then-not-is_plain-clause-answer
returns-then-not-is_plain-clause-answer g c = record { says = λ T s. foreign_skipped _ T c.args.folder.bits c.args.place _ (sym c.is_plain.ensures ∙ c.if-not-is_plain.true) c.new.ensures.items }

pub returns-then-not-branch-clause-answer : goal.returns-then-not-branch-clause-answer
returns-then-not-branch-clause-answer g c = record {
  says = λ T s. outside_skipped _ T c.args.folder.bits c.args.place _ _ (c.places.ensures T s) (sym c.is_plain.ensures ∙ c.if-not-is_plain.false) (sym c.in_ok-is_within.ensures ∙ c.if-not-branch.true) c.new-then-not-branch.ensures.items;
}

pub returns-in_err-ids-clause-answer : goal.returns-in_err-ids-clause-answer
returns-in_err-ids-clause-answer g c =
    let listed = answers_exit (λ T D. carried T) c.in_err-ids.ensures.answer c.from_residual-in_err-ids.ensures.1 in
    record {
      says = λ T s. in_folder _ T c.args.folder.bits c.contents.result.bits c.args.place _ _ (c.places.ensures T s) (sym c.is_plain.ensures ∙ c.if-not-is_plain.false) (sym c.in_ok-is_within.ensures ∙ c.if-not-branch.false) c.contents.ensures
          (listed.says T s);
    }

pub returns-clause-answer : goal.returns-clause-answer
returns-clause-answer g c =
    let listed = answers_then (λ T D. carried T) c.in_ok-ids.ensures.answer c.in_ok-ids.ensures.reads (rw c.as_slice.ensures.value at c.carried.ensures.answer) in
    record {
      says = λ T s. in_folder _ T c.args.folder.bits c.contents.result.bits c.args.place _ _ (c.places.ensures T s) (sym c.is_plain.ensures ∙ c.if-not-is_plain.false) (sym c.in_ok-is_within.ensures ∙ c.if-not-branch.false) c.contents.ensures
          (listed.says T s);
    }
