use Rattle.std.proofs.Common.{◌∙◌, sym, ap, not}
use Rattle.command_text.specs.declared.reply.CommandRefusal.TheVariants.{Property}
use Rattle.mail_draft.proofs.Passes.{then_says}
use Rattle.mail_tree.specs.Changing.{refused_if}
use Rattle.mail_tree.specs.Names.{names_in}
use Rattle.named_props.specs.Finding.{is_property_named}
use Rattle.named_props.specs.declared.names.Names.{Names}
use Rattle.mail_draft.proofs.DeskCalls.{exits}
use Rattle.mail_names.proofs.Calls.{test_passes, test_refuses}
use Rattle.mail_names.proofs.Names.{nameless_says}
use Rattle.mail_names.proofs.reading.check_named.Goals as goal

pub returns-in_err-names-clause-answer : goal.returns-in_err-names-clause-answer
returns-in_err-names-clause-answer g c = record {
  says = λ T s.
      nameless_says T c.args.id _ c.if-id-lt-FIRST_NAMED_ID.false
      (exits (λ (n : Names). n) (λ (u : Unit {0}). u) (names_in T) (λ n. refused_if (not (is_property_named n.entries c.args.id)) Property) _ _ (c.in_err-names.ensures.answer.says T s) c.from_residual.ensures.1);
}

pub returns-then-not-has_name-clause-answer : goal.returns-then-not-has_name-clause-answer
returns-then-not-has_name-clause-answer g c = record {
  says = λ T s.
      let n = c.in_ok-names.names in
      nameless_says T c.args.id _ c.if-id-lt-FIRST_NAMED_ID.false
      (then_says (λ (n : Names). n) (λ (u : Unit {0}). u) (names_in T) (λ n. refused_if (not (is_property_named n.entries c.args.id)) Property) _ _ (c.in_ok-names.ensures.answer.says T s)
      (test_refuses (not (is_property_named n.entries c.args.id)) Property (ap not (sym c.has_name.ensures ∙ c.if-not-has_name.true))));
}

pub returns-clause-answer : goal.returns-clause-answer
returns-clause-answer g c = record {
  says = λ T s.
      let n = c.in_ok-names.names in
      nameless_says T c.args.id _ c.if-id-lt-FIRST_NAMED_ID.false
      (then_says (λ (n : Names). n) (λ (u : Unit {0}). u) (names_in T) (λ n. refused_if (not (is_property_named n.entries c.args.id)) Property) _ _ (c.in_ok-names.ensures.answer.says T s)
      (test_passes (not (is_property_named n.entries c.args.id)) Property (ap not (sym c.has_name.ensures ∙ c.if-not-has_name.false))));
}
