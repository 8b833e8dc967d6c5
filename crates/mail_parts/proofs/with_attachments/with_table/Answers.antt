use Rattle.std.proofs.Common.{◌≡◌, ◌∙◌, List, Some, sym, ap, subst}
use Rattle.mapi_values.specs.declared.part.Part.{Part}
use Rattle.mapi_values.specs.Messages.{AreNamed}
use Rattle.mapi_values.specs.Tables.{Tab}
use Rattle.mail_tree.specs.Parts.{attachment_tags, attachments_for, is_wide}
use Rattle.mail_parts.proofs.PartTables.{named_for}
use Rattle.mail_parts.proofs.Tests.{some_where}
use Rattle.mail_parts.proofs.with_attachments.with_table.Goals as goal

pub invariant_of-new : goal.invariant_of-new
invariant_of-new c =
    let t = c.message.inside.attachments in let parts = c.message.inside.parts.items in
    let made = some_where (is_wide attachment_tags t) (attachments_for c.as_slice.result.now t) _ (sym c.in-Some.is ∙ c.in_ok-table.ensures) in
    let is : c.in-Some.table ≡ attachments_for parts t = made.1 ∙ ap (λ (ps : List Part). attachments_for ps t) c.as_slice.ensures.value in
    record {
      named = subst (λ (u : Tab). AreNamed parts (Some u)) (sym is) (named_for parts t c.message.invariant.named);
      others = c.message.invariant.others;
    }
