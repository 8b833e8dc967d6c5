use Rattle.std.proofs.Common.{◌≡◌, ◌∙◌, true, IsSome, List, Option, sym, subst}
use Rattle.std.specs.Option.{option_map}
use Rattle.mapi_values.specs.declared.part.Part.{Part}
use Rattle.mapi_values.specs.Keyed.{put_key}
use Rattle.mapi_values.specs.Messages.{AreNamed, Mes, are_others, part_id}
use Rattle.mapi_values.specs.Tables.{Tab}
use Rattle.mail_objects.specs.Message.{is_formed}
use Rattle.mail_tree.specs.Changing.{shown_row}
use Rattle.mail_parts.proofs.PartChanges.{put_message, table_changed, table_missing, with_formed}
use Rattle.mail_parts.proofs.PartTables.{with_named}
use Rattle.mail_parts.proofs.with_attachments.with_part.Goals as goal
use Rattle.mail_parts.proofs.with_attachments.with_part.Goals.{in-Some+in_ok-put_row, in_default}

pub invariant_of-new : goal.invariant_of-new
invariant_of-new c =
    let part = c.args.part in let old = c.message.inside.attachments in let new = c.match-attachments.attachments in let parts = c.message.inside.parts.items in
    let is = c.message.view_is ∙ c.into_message-message.ensures.message in
    let table : new ≡ option_map (λ (u : Tab). record u { rows = shown_row (part_id part) part.props u }) old = elim c.match-attachments.branch [
      | in-Some+in_ok-put_row w ↦
          let e = w.in_ok-put_row.ensures in
          table_changed old new (λ (u : Tab). shown_row (part_id part) part.props u) w.in-Some.table w.put_row.new.table w.in-Some.is w.attachments-is e.row e.columns e.ends e.kept
      | in_default w ↦ table_missing old new (λ (u : Tab). shown_row (part_id part) part.props u) w.in_default.is w.attachments-is
    ] in
    let named = with_named old parts part (subst (λ (m : Mes). IsSome m.attachments) (sym is) c.requires.table) c.message.invariant.named in
    record {
      named = subst (λ (t : Option Tab). AreNamed c.put_at.new.parts.items t) (sym table)
          (subst (λ (ps : List Part). AreNamed ps (option_map (λ (u : Tab). record u { rows = shown_row (part_id part) part.props u }) old)) (sym c.in_ok-put_at.ensures) named);
      others = subst (λ (ps : List Part). are_others ps c.message.inside.kept ≡ true) (sym c.in_ok-put_at.ensures)
          (subst (λ (m : Mes). are_others (put_key part_id part m.parts) m.kept ≡ true) (sym is) c.requires.free);
    }

pub new-requires : goal.new-requires
new-requires c =
    let part = c.args.part in let old = c.message.inside.attachments in let new = c.match-attachments.attachments in
    let table : new ≡ option_map (λ (u : Tab). record u { rows = shown_row (part_id part) part.props u }) old = elim c.match-attachments.branch [
      | in-Some+in_ok-put_row w ↦
          let e = w.in_ok-put_row.ensures in
          table_changed old new (λ (u : Tab). shown_row (part_id part) part.props u) w.in-Some.table w.put_row.new.table w.in-Some.is w.attachments-is e.row e.columns e.ends e.kept
      | in_default w ↦ table_missing old new (λ (u : Tab). shown_row (part_id part) part.props u) w.in_default.is w.attachments-is
    ] in
    subst (λ (m : Mes). is_formed m ≡ true)
    (sym (put_message _ c.args.mail new c.put_at.new.parts.items part (c.message.view_is ∙ c.into_message-message.ensures.message) table c.in_ok-put_at.ensures))
    (with_formed c.args.mail part c.into_message-message.ensures.formed c.requires.formed)
