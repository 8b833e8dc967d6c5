use Rattle.std.proofs.Common.{◌≡◌, ◌∙◌, true, sym, subst}
use Rattle.pst_base.specs.Subs.{flattened}
use Rattle.mapi_values.specs.Messages.{Mes}
use Rattle.property_context.specs.write_limits.Limits.{message_fits}
use Rattle.mail_objects.specs.Writing.{LaysBelow}
use Rattle.mail_objects.specs.Message.{is_formed}
use Rattle.mail_objects.proofs.BelowLaws.{fitting, forming, lays}
use Rattle.mail_objects.proofs.message.write.write_below.Goals as goal

pub push_table-requires-clause-fit : goal.push_table-requires-clause-fit
push_table-requires-clause-fit c = (fitting _ (subst (λ (m : Mes). message_fits m ≡ true) (sym c.message.view_is) c.requires.fit)).recipients

pub push_table-requires-clause-ascend : goal.push_table-requires-clause-ascend
push_table-requires-clause-ascend c = (forming _ (subst (λ (m : Mes). is_formed m ≡ true) (sym c.message.view_is) c.requires.formed)).recipients

pub push_table-requires-2-clause-fit : goal.push_table-requires-2-clause-fit
push_table-requires-2-clause-fit c = (fitting _ (subst (λ (m : Mes). message_fits m ≡ true) (sym c.message.view_is) c.requires.fit)).attachments

pub push_table-requires-2-clause-ascend : goal.push_table-requires-2-clause-ascend
push_table-requires-2-clause-ascend c = (forming _ (subst (λ (m : Mes). is_formed m ≡ true) (sym c.message.view_is) c.requires.formed)).attachments

pub push_parts-requires-clause-fit : goal.push_parts-requires-clause-fit
push_parts-requires-clause-fit c = rw c.as_slice.ensures.value ((fitting _ (subst (λ (m : Mes). message_fits m ≡ true) (sym c.message.view_is) c.requires.fit)).parts)

pub push_parts-requires-clause-formed : goal.push_parts-requires-clause-formed
push_parts-requires-clause-formed c = rw c.as_slice.ensures.value ((forming _ (subst (λ (m : Mes). is_formed m ≡ true) (sym c.message.view_is) c.requires.formed)).parts)

pub returns : goal.returns
returns c =
    rw c.from_vec.ensures
    (subst (λ (m : Mes). LaysBelow m (flattened c.in_ok-in_order.field-0.items)) c.message.view_is
    (lays _ c.into_vec-subs.result.items c.push_table.new.subs.items c.push_table-2.new.subs.items c.push_parts.new.subs.items c.in_ok-in_order.field-0.items
    (record { named = c.message.invariant.named; others = c.message.invariant.others })
    (c.into_vec-subs.ensures ∙ c.in_ok-copy.ensures)
    (subst (λ (m : Mes). message_fits m ≡ true) (sym c.message.view_is) c.requires.fit)
    (subst (λ (m : Mes). is_formed m ≡ true) (sym c.message.view_is) c.requires.formed)
    c.in_ok-push_table.ensures.adds c.in_ok-push_table-2.ensures.adds (rw c.as_slice.ensures.value at c.in_ok-push_parts.ensures) c.in_ok-push_table-2.ensures.rows
    c.in_ok-in_order.ensures.found c.in_ok-in_order.ensures.ascend c.in_ok-in_order.ensures.len c.in_ok-in_order.ensures.size))
