use Rattle.std.proofs.Common.{◌≡◌, ◌∙◌, true, List, Option, sym, ap, subst}
use Rattle.std.specs.Option.{option_map}
use Rattle.mapi_values.specs.declared.part.Part.{Part}
use Rattle.mapi_values.specs.Keyed.{put_key}
use Rattle.mapi_values.specs.Messages.{AreNamed, Mes, are_others, part_id}
use Rattle.mapi_values.specs.Tables.{Tab, drop_row}
use Rattle.mapi_values.proofs.KeyedLaws.{find-gap}
use Rattle.mail_objects.specs.Message.{is_formed, part_is_formed}
use Rattle.mail_tree.specs.Parts.{with_part}
use Rattle.mail_tree.proofs.PartLaws.{kept_without}
use Rattle.mail_parts.proofs.PartChanges.{all_found, drop_message, part_there, parts_left, table_changed, table_missing, without_formed}
use Rattle.mail_parts.proofs.PartTables.{back_free, back_is, formed_parts, without_named}
use Rattle.mail_parts.proofs.with_attachments.take_attachment.Goals as goal
use Rattle.mail_parts.proofs.with_attachments.take_attachment.Goals.{in-Some, in_default-attachments}

pub returns-in_default-clause-taken : goal.returns-in_default-clause-taken
returns-in_default-clause-taken c = find-gap part_id c.args.nid.bits c.args.mail.parts _ c.in_default.ensures.place

pub invariant_of-new : goal.invariant_of-new
invariant_of-new c =
    let k = c.args.nid.bits in let old = c.message.inside.attachments in let new = c.match-attachments.attachments in let parts = c.message.inside.parts.items in
    let table : new ≡ option_map (λ (u : Tab). record u { rows = drop_row k u.rows }) old = elim c.match-attachments.branch [
      | in-Some w ↦
          let e = w.drop_row-was_there.ensures in
          table_changed old new (λ (u : Tab). drop_row k u.rows) w.in-Some.table w.drop_row-was_there.new.table w.in-Some.is w.attachments-is e.others e.columns e.ends e.kept
      | in_default-attachments w ↦ table_missing old new (λ (u : Tab). drop_row k u.rows) w.in_default-attachments.is w.attachments-is
    ] in
    let left = parts_left c.args.mail.parts parts c.remove-part.new.self.items k c.in-Ok.i (ap (λ (m : Mes). m.parts) (c.message.view_is ∙ c.into_message-message.ensures.message)) c.remove-part.ensures.items c.in-Ok.ensures.ascend c.in-Ok.ensures.place in
    record {
      named = subst (λ (t : Option Tab). AreNamed c.remove-part.new.self.items t) (sym table)
          (subst (λ (ps : List Part). AreNamed ps (option_map (λ (u : Tab). record u { rows = drop_row k u.rows }) old)) (sym left) (without_named old parts k c.message.invariant.named));
      others = subst (λ (ps : List Part). are_others ps c.message.inside.kept ≡ true) (sym left) (kept_without parts k c.message.inside.kept c.message.invariant.others);
    }

pub new-mail-requires : goal.new-mail-requires
new-mail-requires c =
    let k = c.args.nid.bits in let old = c.message.inside.attachments in let new = c.match-attachments.attachments in let parts = c.message.inside.parts.items in
    let table : new ≡ option_map (λ (u : Tab). record u { rows = drop_row k u.rows }) old = elim c.match-attachments.branch [
      | in-Some w ↦
          let e = w.drop_row-was_there.ensures in
          table_changed old new (λ (u : Tab). drop_row k u.rows) w.in-Some.table w.drop_row-was_there.new.table w.in-Some.is w.attachments-is e.others e.columns e.ends e.kept
      | in_default-attachments w ↦ table_missing old new (λ (u : Tab). drop_row k u.rows) w.in_default-attachments.is w.attachments-is
    ] in
    let is = c.message.view_is ∙ c.into_message-message.ensures.message in
    let left = parts_left c.args.mail.parts parts c.remove-part.new.self.items k c.in-Ok.i (ap (λ (m : Mes). m.parts) is) c.remove-part.ensures.items c.in-Ok.ensures.ascend c.in-Ok.ensures.place in
    subst (λ (m : Mes). is_formed m ≡ true) (sym (drop_message _ c.args.mail new c.remove-part.new.self.items k is table left)) (without_formed c.args.mail k c.into_message-message.ensures.formed)

pub returns-clause-taken : goal.returns-clause-taken
returns-clause-taken c =
    let k = c.args.nid.bits in let old = c.message.inside.attachments in let new = c.match-attachments.attachments in let parts = c.message.inside.parts.items in
    let table : new ≡ option_map (λ (u : Tab). record u { rows = drop_row k u.rows }) old = elim c.match-attachments.branch [
      | in-Some w ↦
          let e = w.drop_row-was_there.ensures in
          table_changed old new (λ (u : Tab). drop_row k u.rows) w.in-Some.table w.drop_row-was_there.new.table w.in-Some.is w.attachments-is e.others e.columns e.ends e.kept
      | in_default-attachments w ↦ table_missing old new (λ (u : Tab). drop_row k u.rows) w.in_default-attachments.is w.attachments-is
    ] in
    let is = c.message.view_is ∙ c.into_message-message.ensures.message in
    let all = ap (λ (m : Mes). m.parts) is in
    let left = parts_left c.args.mail.parts parts c.remove-part.new.self.items k c.in-Ok.i all c.remove-part.ensures.items c.in-Ok.ensures.ascend c.in-Ok.ensures.place in (
      part_there c.args.mail.parts parts k c.in-Ok.i c.remove-part.result all c.remove-part.ensures.value c.in-Ok.ensures.ascend c.in-Ok.ensures.place,
      c.new-mail.ensures ∙ drop_message _ c.args.mail new c.remove-part.new.self.items k is table left,
    )

pub returns-clause-free : goal.returns-clause-free
returns-clause-free c = λ part e.
    let is = c.message.view_is ∙ c.into_message-message.ensures.message in
    let taken = returns-clause-taken c in
    subst (λ (m : Mes). are_others (put_key part_id part m.parts) m.kept ≡ true) (sym taken.1)
    (back_free c.args.mail c.args.nid.bits c.remove-part.result part c.in-Ok.ensures.ascend taken.0 (subst (λ (m : Mes). are_others m.parts m.kept ≡ true) is c.message.invariant.others) e)

pub returns-clause-formed : goal.returns-clause-formed
returns-clause-formed c =
    all_found part_id part_is_formed c.args.nid.bits c.args.mail.parts c.remove-part.result (formed_parts c.args.mail c.into_message-message.ensures.formed).parts (returns-clause-taken c).0

pub returns-clause-back : goal.returns-clause-back
returns-clause-back c = λ part e.
    let is = c.message.view_is ∙ c.into_message-message.ensures.message in
    ap (λ (m : Mes). with_part part m) (returns-clause-taken c).1
    ∙ back_is c.args.mail c.args.nid.bits part (subst (λ (m : Mes). AreNamed m.parts m.attachments) is c.message.invariant.named) c.in-Ok.ensures.ascend e
