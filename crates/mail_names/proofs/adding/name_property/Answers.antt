use Rattle.std.proofs.Common.{rules}
use Rattle.mail_tree.specs.mail_objects.Forms.{Ctx}
use Rattle.mail_draft.proofs.Passes.{then_says}
use Rattle.mail_tree.specs.Changing.{◌>>=◌, context_at, known, nothing}
use Rattle.mail_tree.specs.Names.{NAMES, found_or_added}
use Rattle.named_props.specs.Finding.{name_at}
use Rattle.named_props.specs.Holding.{names_of}
use Rattle.named_props.specs.declared.names.Names.{Names}
use Rattle.mail_names.proofs.Names.{name_says}
use Rattle.mail_draft.specs.Desks.{coming_of}
use Rattle.mail_draft.proofs.DeskCalls.{exits, no_ok}
use Rattle.mail_names.proofs.adding.name_property.Goals as goal

pub returns-in_err-context-clause-answer : goal.returns-in_err-context-clause-answer
returns-in_err-context-clause-answer g c = record {
  says = λ T s.
      let guid = c.args.guid in let number = c.args.number in
      name_says (coming_of T _) T guid number _ (search rules) (search rules)
      (exits (λ (x : Ctx). x) (coming_of T _) (context_at T nothing NAMES) (λ x. known (names_of x.props) >>= λ n. found_or_added T x n guid number (name_at n.guids n.entries guid number)) _ _
      (c.in_err-context.ensures.answer.says T s) c.from_residual.ensures.1);
  fits = no_ok _ _ c.from_residual.result c.from_residual.ensures.1;
}

pub returns-in_err-names-clause-answer : goal.returns-in_err-names-clause-answer
returns-in_err-names-clause-answer g c = record {
  says = λ T s.
      let guid = c.args.guid in let number = c.args.number in let x = c.in_ok-context.context in
      name_says (coming_of T _) T guid number _ (search rules) (search rules)
      (then_says (λ (x : Ctx). x) (coming_of T _) (context_at T nothing NAMES) (λ x. known (names_of x.props) >>= λ n. found_or_added T x n guid number (name_at n.guids n.entries guid number)) _ _
      (c.in_ok-context.ensures.answer.says T s)
      (exits (λ (n : Names). n) (coming_of T _) (known (names_of x.props)) (λ n. found_or_added T x n guid number (name_at n.guids n.entries guid number)) _ _ c.in_err-names.ensures.answer c.from_residual-in_err-names.ensures.1));
  fits = no_ok _ _ c.from_residual-in_err-names.result c.from_residual-in_err-names.ensures.1;
}

pub returns-clause-answer : goal.returns-clause-answer
returns-clause-answer g c = record {
  says = λ T s.
      let guid = c.args.guid in let number = c.args.number in let x = c.in_ok-context.context in
      name_says (coming_of T _) T guid number _ (search rules) (search rules)
      (then_says (λ (x : Ctx). x) (coming_of T _) (context_at T nothing NAMES) (λ x. known (names_of x.props) >>= λ n. found_or_added T x n guid number (name_at n.guids n.entries guid number)) _ _
      (c.in_ok-context.ensures.answer.says T s)
      (then_says (λ (n : Names). n) (coming_of T _) (known (names_of x.props)) (λ n. found_or_added T x n guid number (name_at n.guids n.entries guid number)) _ _ c.in_ok-names.ensures.answer
      (c.found_or_added.ensures.answer.says T (c.in_ok-context.ensures.reads.shows T s))));
  fits = c.found_or_added.ensures.answer.fits;
}
