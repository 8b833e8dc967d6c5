use Rattle.std.proofs.Common.{◌∙◌, None, Some, Err, ap, refl, subst, sym}
use Rattle.command_text.specs.declared.reply.CommandRefusal.TheVariants.{Limit}
use Rattle.command_text.specs.declared.reply.LastLine.TheVariants.{Named}
use Rattle.command_text.specs.declared.reply.Limit.TheVariants as limits
use Rattle.mail_draft.proofs.Passes.{then_says}
use Rattle.mail_draft.specs.Answers.{Says}
use Rattle.mail_tree.specs.Changing.{Changed, nothing, within_limits}
use Rattle.mail_tree.specs.Folders.{replied, replying}
use Rattle.mail_tree.specs.Names.{NAMES, with_another}
use Rattle.mail_tree.specs.Settling.{with_context}
use Rattle.named_props.specs.Holding.{written}
use Rattle.mail_names.proofs.Names.{adds_says, full_says}
use Rattle.mail_draft.specs.Desks.{coming_of}
use Rattle.mail_draft.proofs.DeskCalls.{as_at, exits, no_ok}
use Rattle.mail_names.proofs.adding.add_name.Goals as goal

pub returns-in-Some-clause-answer : goal.returns-in-Some-clause-answer
returns-in-Some-clause-answer g c = record {
  says = λ T s.
      let x = c.args.context in let n = c.args.names in let guid = c.args.guid in let number = c.args.number in
      let put = c.in_ok-put_context.ensures in
      let draft = put.answer.says T s ∙ ap (with_context NAMES x c.in_ok-props.props) c.requires.fresh ∙ ap (λ ps. with_context NAMES x ps nothing) c.in_ok-props.ensures.values ∙ ap (λ m. with_context NAMES x (written m) nothing) c.in_ok-names.ensures.names in
      adds_says (coming_of T _) T x n guid number c.in-Some.property _ (sym c.in-Some.is ∙ c.in_ok-names.ensures.property)
      (subst (λ (D : Changed). Says (coming_of T (g.D.Desk.view c.replying.new.desk).changed) (replying T None (replied (Named c.in-Some.property)) D) c.replying.result) draft (c.replying.ensures.answer.says T (put.drafts.shows T s)));
  fits = c.replying.ensures.answer.fits;
}

pub returns-in_err-check_limits-in-None-clause-answer : goal.returns-in_err-check_limits-in-None-clause-answer
returns-in_err-check_limits-in-None-clause-answer g c = record {
  says = λ T s.
      let x = c.args.context in let n = c.args.names in let guid = c.args.guid in let number = c.args.number in
      let put = c.in_ok-put_context.ensures in
      let draft = put.answer.says T s ∙ ap (with_context NAMES x c.in_ok-props.props) c.requires.fresh ∙ ap (λ ps. with_context NAMES x ps nothing) c.in_ok-props.ensures.values ∙ ap (λ m. with_context NAMES x (written m) nothing) c.in_ok-names.ensures.names in
      full_says (coming_of T _) T x n guid number _ (sym c.in-None.is ∙ c.in_ok-names.ensures.property)
      (exits (λ (u : Unit {0}). u) (coming_of T _) (within_limits T None (with_context NAMES x (written (with_another n guid number)) nothing)) (λ u. Err (Some (Limit limits.Names))) _ _
      (as_at (λ (u : Unit {0}). u) (λ (D : Changed). within_limits T None D) _ draft (c.in_err-check_limits-in-None.ensures.answer.says T (put.drafts.shows T s))) c.from_residual-in_err-check_limits-in-None.ensures.1);
  fits = no_ok _ _ c.from_residual-in_err-check_limits-in-None.result c.from_residual-in_err-check_limits-in-None.ensures.1;
}

pub returns-clause-answer : goal.returns-clause-answer
returns-clause-answer g c = record {
  says = λ T s.
      let x = c.args.context in let n = c.args.names in let guid = c.args.guid in let number = c.args.number in
      let put = c.in_ok-put_context.ensures in
      let draft = put.answer.says T s ∙ ap (with_context NAMES x c.in_ok-props.props) c.requires.fresh ∙ ap (λ ps. with_context NAMES x ps nothing) c.in_ok-props.ensures.values ∙ ap (λ m. with_context NAMES x (written m) nothing) c.in_ok-names.ensures.names in
      full_says (coming_of T _) T x n guid number _ (sym c.in-None.is ∙ c.in_ok-names.ensures.property)
      (then_says (λ (u : Unit {0}). u) (coming_of T _) (within_limits T None (with_context NAMES x (written (with_another n guid number)) nothing)) (λ u. Err (Some (Limit limits.Names))) _ _
      (as_at (λ (u : Unit {0}). u) (λ (D : Changed). within_limits T None D) _ draft (c.in_ok-check_limits-in-None.ensures.answer.says T (put.drafts.shows T s))) refl);
  fits = tt;
}
