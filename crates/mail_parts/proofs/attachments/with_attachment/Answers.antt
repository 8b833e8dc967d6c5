use Rattle.std.proofs.Common.{◌≡◌, ◌∙◌, ℕ, Bool, IsSome, true, false, None, Some, refl, sym, ap, subst, if◌then◌else◌}
use Rattle.mapi_values.specs.declared.part.Part.{Part}
use Rattle.mapi_values.specs.Keyed.{put_key}
use Rattle.mapi_values.specs.Messages.{Mes, are_others, part_id}
use Rattle.mail_objects.specs.Message.{part_is_formed}
use Rattle.mail_tree.specs.Parts.{attachment_tags, attachments_for, is_wide, new_part, part_nid, room_for, with_attachment, with_part}
use Rattle.mail_parts.proofs.PartTables.{new_formed, room_free}
use Rattle.mail_tree.specs.Ids.{new_id}
use Rattle.mail_parts.proofs.Tests.{some_where}
use Rattle.mail_parts.proofs.attachments.with_attachment.Goals as goal

-- a thing that is there where a test doesn't hold
there_where : {X : Type 0} (b : Bool) (x y : X) → b ≡ false → y ≡ x → Some y ≡ (if b then None else Some x)
there_where true x y e is = cc
there_where {X} false x y e is = ap (λ (z : X). Some z) is

pub with_part-requires : goal.with_part-requires
with_part-requires c =
    let R = c.room_for-room.result in let index = c.args.index in
    let made = some_where (is_wide attachment_tags R.attachments) (record R { attachments = Some (attachments_for R.parts R.attachments) }) _ (sym c.in-Some.is ∙ c.in_ok-tabled.ensures) in
    let P = c.in_ok-part.part in
    let P_is = c.in_ok-part.ensures in
    record {
      table = subst (λ (m : Mes). IsSome m.attachments) (sym made.1) refl;
      free = subst (λ (m : Mes). are_others (put_key part_id P m.parts) m.kept ≡ true) (sym made.1)
          (subst (λ (m : Mes). are_others (put_key part_id P m.parts) m.kept ≡ true) (sym c.room_for-room.ensures.value)
          (subst (λ (n : ℕ). are_others (put_key part_id P c.args.mail.parts) (room_for n c.args.mail).kept ≡ true) (sym c.requires)
          (room_free c.args.mail P (ap part_id P_is ∙ ap (λ (n : ℕ). new_id 5 n) c.requires) c.room_for-room.ensures.others)));
      formed = subst (λ (q : Part). part_is_formed q ≡ true) (sym P_is) (new_formed index c.args.name.now c.args.held.now);
    }

pub returns-in_ok-with_part-in-Some : goal.returns-in_ok-with_part-in-Some
returns-in_ok-with_part-in-Some c =
    let M = c.args.mail in let R = c.room_for-room.result in let index = c.args.index in let name = c.args.name.now in let held = c.args.held.now in
    let made = some_where (is_wide attachment_tags R.attachments) (record R { attachments = Some (attachments_for R.parts R.attachments) }) _ (sym c.in-Some.is ∙ c.in_ok-tabled.ensures) in
    let P = c.in_ok-part.part in
    there_where (is_wide attachment_tags M.attachments) (with_attachment (new_part (part_nid index) name held) (room_for index M)) _
    (subst (λ (m : Mes). is_wide attachment_tags m.attachments ≡ false) c.room_for-room.ensures.value made.0)
    (c.in_ok-with_part-in-Some.ensures ∙ ap (λ (m : Mes). with_part P m) made.1 ∙ ap (λ (q : Part). with_attachment q R) c.in_ok-part.ensures ∙ ap (λ (m : Mes). with_attachment (new_part (part_nid index) name held) m) c.room_for-room.ensures.value)
