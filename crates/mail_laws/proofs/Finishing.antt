-- What a message that was made right tells of itself.
use Rattle.std.proofs.Common.{◌≡◌, ℕ, ◌+◌, ◌/◌, ◌%◌, ◌==◌, Bool, true, false, min, nat_lt, List, [], ◌∷◌, Option, None, Some, is_some, arith, refl, sym, ap, ◌∙◌, inl, inr}
use Rattle.std.specs.Option.{option_and_then, unwrap_or}
use Rattle.std.proofs.lemmas.Bool.{cases_Bool, eqb-true, eq-eqb, ne_eqb}
use Rattle.byteorder.specs.Endian.{little_bytes}
use Rattle.pst_base.specs.Fields.{number_at}
use Rattle.mapi_values.specs.Messages.{Mes, greatest, parts_size, size, table_size, value_size, values_size}
use Rattle.mapi_values.specs.Properties.{put}
use Rattle.mapi_values.specs.Values.{Val}
use Rattle.mail_tree.specs.Values.{bytes_of, finished, has_parts, number, number_of, of_kind, with_attachment_flag, with_flag, with_props}
use Rattle.mail_tree.proofs.KeyedFinds.{find-put_other, find-put_same}
use Rattle.mail_laws.specs.MessageLaws.{TellsOfItself}

-- a value that counts no bytes comes in place of one that counts none
size_put : (v : Val) (vs : List Val) → ((x : Val) → x.id ≡ v.id → value_size x ≡ 0) → values_size (put v vs) ≡ values_size vs
size_put v [] free = omega (arith, free v refl)
size_put v (x ∷ xs) free = elim (cases_Bool (nat_lt x.id v.id)) [
  | inl t ↦ rw t (ap (λ n. value_size x + n) (size_put v xs free))
  | inr t ↦ rw t (elim (cases_Bool (x.id == v.id)) [
    | inl u ↦ rw u (omega (arith, free v refl, free x (eqb-true x.id v.id u)))
    | inr u ↦ rw u (omega (arith, free v refl))
  ])
]

-- the size that a message tells counts no bytes
size_free : (x : Val) → x.id ≡ 0x0E08 → value_size x ≡ 0
unfolding value_size
size_free x e = rw e refl

-- a message's size doesn't depend on the size that it tells
pub size_is : (m : Mes) → let flagged = with_attachment_flag (has_parts m.parts) m.props in size (finished m) ≡ size (with_props flagged m)
unfolding finished size
size_is m =
    let flagged = with_attachment_flag (has_parts m.parts) m.props in
    ap (λ n. min (n + (table_size m.recipients + parts_size m.parts)) greatest) (size_put (number 0x0E08 (size (with_props flagged m))) flagged size_free)

-- bit 10h of a number that is written
bit_written : (n : ℕ) → number_at 4 0 (little_bytes 4 n) / 16 % 2 ≡ n / 16 % 2
unfolding number_at
bit_written n = omega arith

bit_put : (n : ℕ) (props : List Val) → number_of 0x0E07 (put (number 0x0E07 n) props) / 16 % 2 ≡ n / 16 % 2
bit_put n props = ap (λ o. number_at 4 0 (unwrap_or (option_and_then (of_kind 0x0003) o) (0 ∷ 0 ∷ 0 ∷ 0 ∷ [])) / 16 % 2) (find-put_same (λ v. v.id) (number 0x0E07 n) props) ∙ bit_written n

-- bit 10h of flags in which it was made right
bit_of_flag : (on : Bool) (flags : ℕ) → (with_flag on flags / 16 % 2 == 1) ≡ on
bit_of_flag true flags = eq-eqb (with_flag true flags / 16 % 2) 1 (omega arith)
bit_of_flag false flags = ne_eqb (with_flag false flags / 16 % 2) 1 (λ e. omega arith)

no_number : (o : Option (List ℕ)) → is_some o ≡ false → (number_at 4 0 (unwrap_or o (0 ∷ 0 ∷ 0 ∷ 0 ∷ [])) / 16 % 2 == 1) ≡ false
unfolding number_at
no_number None none = refl
no_number (Some bytes) none = cc

flag_of : (on : Bool) (props : List Val) → (number_of 0x0E07 (with_attachment_flag on props) / 16 % 2 == 1) ≡ on
unfolding with_attachment_flag
flag_of on props = elim (cases_Bool (is_some (bytes_of 0x0E07 0x0003 props))) [
  | inl b ↦ rw b (ap (λ x. x == 1) (bit_put (with_flag on (number_of 0x0E07 props)) props) ∙ bit_of_flag on (number_of 0x0E07 props))
  | inr b ↦ rw b (elim (cases_Bool on) [
    | inl c ↦ rw c (ap (λ x. x == 1) (bit_put 16 props))
    | inr c ↦ rw c (no_number (bytes_of 0x0E07 0x0003 props) b)
  ])
]

-- a message that was made right tells of itself rightly
pub tells_finished : (m : Mes) → TellsOfItself (finished m)
unfolding finished
tells_finished m =
    let flagged = with_attachment_flag (has_parts m.parts) m.props in
    let told = number 0x0E08 (size (with_props flagged m)) in
    record {
      size_is = find-put_same (λ v. v.id) told flagged ∙ ap (λ n. Some (number 0x0E08 n)) (sym (size_is m));
      flag_is = ap (λ o. number_at 4 0 (unwrap_or (option_and_then (of_kind 0x0003) o) (0 ∷ 0 ∷ 0 ∷ 0 ∷ [])) / 16 % 2 == 1) (find-put_other (λ v. v.id) 0x0E07 told flagged (λ e. omega arith)) ∙ flag_of (has_parts m.parts) m.props;
    }
