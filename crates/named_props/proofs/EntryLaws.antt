-- Entries and their bytes.
use Rattle.std.proofs.Common.{◌≡◌, ℕ, ◌+◌, ◌*◌, ◌/◌, ◌%◌, ◌^◌, ◌<◌, ◌≤◌, ◌==◌, Bool, true, false, [], ◌++◌, length, ap, sym, ◌∙◌, arith, append-nil, length-append}
use Rattle.std.proofs.lemmas.Bool.{and_parts, eq-eqb, leb-true, lt-ltb, ne_eqb}
use Rattle.byteorder.specs.Endian.{little_bytes}
use Rattle.byteorder.specs.Numbers.{length-bytes_low_first}
use Rattle.pst_base.specs.Fields.{number_at}
use Rattle.pst_base.proofs.Numbers.{number_at-first, number_at-next}
use Rattle.mapi_values.specs.Values.{fits, in_field}
use Rattle.named_props.specs.declared.entry.NameEntry.{NameEntry}
use Rattle.named_props.specs.Entries.{bytes_of, entry_of, greatest_guid, greatest_index, in_range, word_of}

-- a binary value has any length below 2^32
pub fits-binary : (n : ℕ) → n < 2 ^ 32 → fits 258 n ≡ true
unfolding fits in_field
fits-binary n h = lt-ltb n (2 ^ 32) h

pub length-bytes_of : (e : NameEntry) → length (bytes_of e) ≡ 8
unfolding bytes_of
length-bytes_of e =
    omega (
      arith,
      length-append (little_bytes 4 e.id) (little_bytes 2 (word_of e) ++ little_bytes 2 e.index),
      length-append (little_bytes 2 (word_of e)) (little_bytes 2 e.index),
      length-bytes_low_first 0 4 e.id,
      length-bytes_low_first 0 2 (word_of e),
      length-bytes_low_first 0 2 e.index,
    )

same-entry : (a b c d w x y z : ℕ) (s t : Bool) → a ≡ w → s ≡ t → c ≡ y → d ≡ z
    → let e : NameEntry = record { id = a; string = s; guid = c; index = d } in let f : NameEntry = record { id = w; string = t; guid = y; index = z } in e ≡ f
same-entry a b c d w x y z s t p q r u = cc

-- the bit and the index in a word
word-string : (g : ℕ) (s : Bool) → (word_of (record { id = 0; string = s; guid = g; index = 0 }) % 2 == 1) ≡ s
word-string g true = eq-eqb ((2 * g + 1) % 2) 1 (omega arith)
word-string g false = ne_eqb ((2 * g + 0) % 2) 1 (λ e. omega arith)

word-guid : (g : ℕ) (s : Bool) → word_of (record { id = 0; string = s; guid = g; index = 0 }) / 2 ≡ g
word-guid g true = omega arith
word-guid g false = omega arith

word-fits : (g : ℕ) (s : Bool) → g ≤ 32767 → word_of (record { id = 0; string = s; guid = g; index = 0 }) < 256 ^ 2
word-fits g true h = omega arith
word-fits g false h = omega arith

-- an entry reads back
pub entry_of-bytes_of : (e : NameEntry) → e.id < 2 ^ 32 → in_range e ≡ true → entry_of (bytes_of e) ≡ e
unfolding entry_of bytes_of
entry_of-bytes_of e small range =
    let range2 = and_parts _ _ range in
    let guid : e.guid ≤ 32767 = leb-true e.guid greatest_guid range2.0 in
    let index : e.index ≤ 32766 = leb-true e.index greatest_index range2.1 in
    let tail = little_bytes 2 (word_of e) ++ little_bytes 2 e.index in
    let id_is : number_at 4 0 (little_bytes 4 e.id ++ tail) ≡ e.id = number_at-first 4 e.id tail (omega arith) in
    let word_is : number_at 2 4 (little_bytes 4 e.id ++ tail) ≡ word_of e =
    number_at-next 2 0 4 e.id tail ∙ number_at-first 2 (word_of e) (little_bytes 2 e.index) (word-fits e.guid e.string guid) in
    let index_is : number_at 2 6 (little_bytes 4 e.id ++ tail) ≡ e.index =
    number_at-next 2 2 4 e.id tail ∙ number_at-next 2 0 2 (word_of e) (little_bytes 2 e.index)
    ∙ ap (number_at 2 0) (sym (append-nil (little_bytes 2 e.index))) ∙ number_at-first 2 e.index [] (omega arith) in
    same-entry _ 0 _ _ e.id 0 e.guid e.index _ e.string id_is
    (ap (λ (w : ℕ). w % 2 == 1) word_is ∙ word-string e.guid e.string)
    (ap (λ (w : ℕ). w / 2) word_is ∙ word-guid e.guid e.string) index_is
