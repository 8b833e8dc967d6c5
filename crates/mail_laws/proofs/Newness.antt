-- The values of what is new.
use Rattle.std.proofs.Common.{◌≡◌, ◌∙◌, ℕ, ◌==◌, false, List, [], ◌∷◌, None, Some, arith, refl, sym}
use Rattle.std.specs.List.{list_any}
use Rattle.std.proofs.lemmas.Bool.{eqb-false, or_parts}
use Rattle.pst_base.specs.Fields.{number_at}
use Rattle.mapi_values.specs.Properties.{find}
use Rattle.mapi_values.specs.Values.{Val}
use Rattle.mail_tree.specs.Messages.{plain_message}
use Rattle.mail_tree.specs.Values.{finished, is_withheld, message_props, number, own_props, put_all, with_attachment_flag}
use Rattle.mail_tree.proofs.GivenValues.{find-put_all_same, find_withheld}
use Rattle.mail_tree.proofs.KeyedFinds.{find-put_other, find-put_same}
use Rattle.mail_laws.specs.MessageLaws.{IsNewMessage, is_new_message_value}
use Rattle.mail_laws.proofs.Effects.{finished_find}
use Rattle.mail_laws.proofs.Finishing.{tells_finished}

-- values of other ids don't give one of this id
pub finds_none : (id : ℕ) (vs : List Val) → list_any (λ v. v.id == id) vs ≡ false → find id vs ≡ None
finds_none id [] e = refl
finds_none id (v ∷ vs) e = let p = or_parts (v.id == id) (list_any (λ x. x.id == id) vs) e in rw p.0 (finds_none id vs p.1)

-- flags without a bit stay so where there is no attachment
still_unflagged : (props : List Val) → find 0x0E07 props ≡ Some (number 0x0E07 0) → find 0x0E07 (with_attachment_flag false props) ≡ Some (number 0x0E07 0)
unfolding with_attachment_flag number_at
still_unflagged props is = rw is (find-put_same (λ v. v.id) (number 0x0E07 0) props)

-- the flags of a new message
new_flags : (m folder : ℕ) (class : List ℕ) (time : ℕ) (store values : List Val) → list_any is_withheld values ≡ false
    → find 0x0E07 (finished (plain_message m folder (message_props m class time store values))).props ≡ Some (number 0x0E07 0)
unfolding finished
new_flags m folder class time store values none =
    find-put_other (λ v. v.id) 0x0E07 _ (with_attachment_flag false (message_props m class time store values)) (λ e. omega arith)
    ∙ still_unflagged (message_props m class time store values) (find_withheld 0x0E07 values (own_props m class time store) refl none)

-- another id finds what is found of the values that are given
other_values : (m folder : ℕ) (class : List ℕ) (time : ℕ) (store values : List Val) (id : ℕ) → is_new_message_value id ≡ false
    → find id (finished (plain_message m folder (message_props m class time store values))).props ≡ find id (put_all values [])
other_values m folder class time store values id other =
    let class_other = or_parts (0x001A == id) _ other in
    let flags_other = or_parts (0x0E07 == id) _ class_other.1 in
    let size_other = or_parts (0x0E08 == id) _ flags_other.1 in
    let made_other = or_parts (0x3007 == id) _ size_other.1 in
    let changed_other = or_parts (0x3008 == id) _ made_other.1 in
    let key_other = or_parts (0x300B == id) false changed_other.1 in
    finished_find (plain_message m folder (message_props m class time store values)) id (λ e. eqb-false 0x0E07 id flags_other.0 (sym e)) (λ e. eqb-false 0x0E08 id size_other.0 (sym e))
    ∙ find-put_all_same id values (own_props m class time store) [] (rw (class_other.0, flags_other.0, made_other.0, changed_other.0, key_other.0) refl)

pub new_values : (m folder : ℕ) (class : List ℕ) (time : ℕ) (store values : List Val) → list_any is_withheld values ≡ false
    → IsNewMessage m folder class time store values (finished (plain_message m folder (message_props m class time store values)))
unfolding finished
new_values m folder class time store values none =
    let M = plain_message m folder (message_props m class time store values) in
    let own = own_props m class time store in
    record {
      folder_is = refl;
      class_is = finished_find M 0x001A (λ e. omega arith) (λ e. omega arith) ∙ find_withheld 0x001A values own refl none;
      flags_are = new_flags m folder class time store values none;
      size_is = (tells_finished M).size_is;
      made_at = finished_find M 0x3007 (λ e. omega arith) (λ e. omega arith) ∙ find_withheld 0x3007 values own refl none;
      changed_at = finished_find M 0x3008 (λ e. omega arith) (λ e. omega arith) ∙ find_withheld 0x3008 values own refl none;
      key_is = finished_find M 0x300B (λ e. omega arith) (λ e. omega arith) ∙ find_withheld 0x300B values own refl none;
      no_other = other_values m folder class time store values;
      no_recipients = refl;
      no_attachments = (refl, refl);
      none_kept = refl;
    }
