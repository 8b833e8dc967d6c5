-- Attachments and the rows that name them.
use Rattle.std.proofs.Common.{◌≡◌, ℕ, ◌<◌, ◌≤◌, ◌++◌, drop, ◌==◌, true, List, [], ◌∷◌, length, map, get_or, suc, Option, None, Some, Result, Ok, Err, IsSome, MatchResult, ◌+◌, ◌*◌, max, min, nat_le, nat_lt, arith, refl, sym, subst, ap, ◌∙◌, inl, inr}
use Rattle.std.specs.List.{list_all}
use Rattle.std.specs.Option.{option_map}
use Rattle.std.proofs.lemmas.Bool.{and_from, and_parts, cases_Bool, eqb-false, eqb-true, le-ltb, leb-true, ltb-false, ne_eqb}
use Rattle.std.proofs.lemmas.List.{append-nil, drop_all, get_or-map, length-map}
use Rattle.column_layout.specs.Layout.{has_columns}
use Rattle.mapi_values.specs.declared.column.Column.{Column}
use Rattle.mapi_values.specs.declared.part.Part.{Part}
use Rattle.mapi_values.specs.Keyed.{IsGap, IsHere, drop_key, find_key, keys_ascend, put_key}
use Rattle.mapi_values.specs.Messages.{AreNamed, Mes, are_others, part_id}
use Rattle.mapi_values.specs.Tables.{Tab, drop_row, mirror}
use Rattle.mapi_values.specs.Values.{Val}
use Rattle.mail_objects.specs.Message.{is_formed, part_is_formed, table_ascends}
use Rattle.node_values.specs.Subnodes.{ids_ascend}
use Rattle.pst_base.specs.Ids.{nid_of}
use Rattle.mail_tree.specs.Changing.{shown_row}
use Rattle.mail_tree.specs.Ids.{is_spent, new_id}
use Rattle.mail_tree.specs.Parts.{attachment_tags, attachments_for, greatest_kept, greatest_part, held_subnodes, new_part, next_part, part_in, part_nid, part_row, room_for, with_part, without_attachment}
use Rattle.command_text.specs.declared.command.Held.{Held}
use Rattle.command_text.specs.declared.command.Held.TheVariants.{Data, Message}
use Rattle.mail_parts.proofs.Subnodes.{one_ascends}
use Rattle.mail_tree.proofs.PartLaws.{ids_drop, ids_put, kept_still, past_kept}

-- equal keys ascend alike
pub ascend_alike : {X Y : Type 0} (key : X → ℕ) (key' : Y → ℕ) (low : ℕ) (xs : List X) (ys : List Y) → map key xs ≡ map key' ys → keys_ascend key' low ys ≡ true → keys_ascend key low xs ≡ true
ascend_alike key key' low [] ys all ascend = refl
ascend_alike key key' low (x ∷ xs) [] all ascend = cc
ascend_alike key key' low (x ∷ xs) (y ∷ ys) all ascend =
    let first : key x ≡ key' y = cc in
    let rest : map key xs ≡ map key' ys = cc in
    let t = and_parts (nat_le low (key' y)) (keys_ascend key' (suc (key' y)) ys) ascend in
    rw first (and_from (nat_le low (key' y)) (keys_ascend key (suc (key' y)) xs) t.0 (ascend_alike key key' (suc (key' y)) xs ys rest t.1))

length_alike : {X Y : Type 0} (key : X → ℕ) (key' : Y → ℕ) (xs : List X) (ys : List Y) → map key xs ≡ map key' ys → length xs ≡ length ys
length_alike key key' xs ys all = sym (length-map xs key) ∙ ap length all ∙ length-map ys key'

key_alike : {X Y : Type 0} (key : X → ℕ) (key' : Y → ℕ) (xs : List X) (ys : List Y) (i : ℕ) (d : X) (e : Y) → map key xs ≡ map key' ys → i < length xs → i < length ys → key (get_or xs i d) ≡ key' (get_or ys i e)
key_alike key key' xs ys i d e all h h' = sym (get_or-map key xs i d 0 h) ∙ ap (λ (ks : List ℕ). get_or ks i 0) all ∙ get_or-map key' ys i e 0 h'

-- what has a key stands where it stands among others of the same keys
here_alike : {X Y : Type 0} (key : X → ℕ) (key' : Y → ℕ) (k : ℕ) (xs : List X) (ys : List Y) (i : ℕ) (e : Y) → map key xs ≡ map key' ys → IsHere key' k ys i → IsHere key k xs i
here_alike key key' k xs ys i e all h =
    let same = length_alike key key' xs ys all in
    let within : i < length xs = omega (arith, h.within) in
    record { within = within; here = λ d. key_alike key key' xs ys i d e all within h.within ∙ h.here e }

gap_alike : {X Y : Type 0} (key : X → ℕ) (key' : Y → ℕ) (k : ℕ) (xs : List X) (ys : List Y) (i : ℕ) (e : Y) → map key xs ≡ map key' ys → IsGap key' k ys i → IsGap key k xs i
gap_alike key key' k xs ys i e all h =
    let same = length_alike key key' xs ys all in
    record {
      within = omega (arith, h.within);
      below = λ j d lt. subst (λ (n : ℕ). n < k) (sym (key_alike key key' xs ys j d e all (omega (arith, h.within)) (omega (arith, h.within)))) (h.below j e lt);
      above = λ j d le lt. subst (λ (n : ℕ). k < n) (sym (key_alike key key' xs ys j d e all lt (omega arith))) (h.above j e le (omega arith));
    }

pub place_alike : {X Y : Type 0} (key : X → ℕ) (key' : Y → ℕ) (k : ℕ) (xs : List X) (ys : List Y) (e : Y) (r : Result ℕ ℕ) → map key xs ≡ map key' ys → MatchResult r (IsHere key' k ys) (IsGap key' k ys) → MatchResult r (IsHere key k xs) (IsGap key k xs)
place_alike key key' k xs ys e (Ok i) all h = here_alike key key' k xs ys i e all h
place_alike key key' k xs ys e (Err i) all h = gap_alike key key' k xs ys i e all h

-- the rows that show attachments have their ids
pub rows_named : (columns : List Column) (parts : List Part) → map part_id parts ≡ map (λ (r : ℕ × List Val). r.0) (map (part_row columns) parts)
rows_named columns [] = refl
rows_named columns (p ∷ ps) = ap (λ (ks : List ℕ). part_id p ∷ ks) (rows_named columns ps)

-- the table that one may be added to names the attachments still
pub named_for : (parts : List Part) (t : Option Tab) → AreNamed parts t → AreNamed parts (Some (attachments_for parts t))
named_for parts None named = named
named_for parts (Some t) named = elim (cases_Bool (has_columns t.columns attachment_tags)) [
  | inl has ↦ rw has named
  | inr lacks ↦ rw lacks (rows_named _ parts)
]

-- the parts of a message that can be laid out, and a message of such parts
pub record Formed (m : Mes) : Type 0 where
  pub kept : ids_ascend 0 m.kept ≡ true
  pub recipients : table_ascends m.recipients ≡ true
  pub attachments : table_ascends m.attachments ≡ true
  pub parts : list_all part_is_formed m.parts ≡ true

pub formed_parts : (m : Mes) → is_formed m ≡ true → Formed m
unfolding is_formed
formed_parts m formed =
    let a = and_parts (ids_ascend 0 m.kept) _ formed in
    let b = and_parts (table_ascends m.recipients) _ a.1 in
    let d = and_parts (table_ascends m.attachments) _ b.1 in
    record { kept = a.0; recipients = b.0; attachments = d.0; parts = d.1 }

pub formed_from : (m : Mes) → Formed m → is_formed m ≡ true
unfolding is_formed
formed_from m f = and_from (ids_ascend 0 m.kept) _ f.kept (and_from (table_ascends m.recipients) _ f.recipients (and_from (table_ascends m.attachments) (list_all part_is_formed m.parts) f.attachments f.parts))

-- a table with other rows keeps what stands below it
pub rows_ascend : (t : Option Tab) (rows : Tab → List (ℕ × List Val)) → table_ascends t ≡ true → table_ascends (option_map (λ (u : Tab). record u { rows = rows u }) t) ≡ true
rows_ascend None rows ascends = ascends
rows_ascend (Some t) rows ascends = ascends

-- attachments of which one goes are named by the rows of which its row goes
pub without_named : (t : Option Tab) (parts : List Part) (k : ℕ) → AreNamed parts t → AreNamed (drop_key part_id k parts) (option_map (λ (u : Tab). record u { rows = drop_row k u.rows }) t)
without_named None parts k named = ids_drop part_id (λ (r : ℕ × List Val). r.0) k parts [] named
without_named (Some t) parts k named = ids_drop part_id (λ (r : ℕ × List Val). r.0) k parts t.rows named

-- attachments of which one is put are named by the rows of which its row is put
pub with_named : (t : Option Tab) (parts : List Part) (part : Part) → IsSome t → AreNamed parts t → AreNamed (put_key part_id part parts) (option_map (λ (u : Tab). record u { rows = shown_row (part_id part) part.props u }) t)
with_named (Some t) parts part there named = ids_put part_id (λ (r : ℕ × List Val). r.0) part (part_id part, mirror t.columns part.props) parts t.rows refl named
with_named None parts part there named = cc

-- what comes before all others is put in front of them, and isn't among them
put_low : {X : Type 0} (key : X → ℕ) (x : X) (xs : List X) → keys_ascend key (suc (key x)) xs ≡ true → put_key key x xs ≡ x ∷ xs
put_low key x [] ascend = refl
put_low key x (y ∷ ys) ascend =
    let low = leb-true (suc (key x)) (key y) (and_parts (nat_le (suc (key x)) (key y)) _ ascend).0 in
    rw (le-ltb (key y) (key x) (omega arith), ne_eqb (key y) (key x) (λ e. omega arith)) refl

drop_low : {X : Type 0} (key : X → ℕ) (k low : ℕ) (xs : List X) → k < low → keys_ascend key low xs ≡ true → drop_key key k xs ≡ xs
drop_low key k low [] less ascend = refl
drop_low key k low (y ∷ ys) less ascend =
    let t = and_parts (nat_le low (key y)) (keys_ascend key (suc (key y)) ys) ascend in
    let le = leb-true low (key y) t.0 in
    rw (ne_eqb (key y) k (λ e. omega arith)) (ap (λ (zs : List _). y ∷ zs) (drop_low key k (suc (key y)) ys (omega arith) t.1))

-- what was taken out is put where it stood
put_drop : {X : Type 0} (key : X → ℕ) (low : ℕ) (x : X) (xs : List X) → keys_ascend key low xs ≡ true → put_key key x (drop_key key (key x) xs) ≡ put_key key x xs
put_drop key low x [] ascend = refl
put_drop {X} key low x (y ∷ ys) ascend =
    let t = and_parts (nat_le low (key y)) (keys_ascend key (suc (key y)) ys) ascend in
    elim (cases_Bool (key y == key x)) [
      | inl same ↦
          let e = eqb-true (key y) (key x) same in
          rw (same, le-ltb (key y) (key x) (omega arith)) (put_low key x ys (subst (λ (n : ℕ). keys_ascend key (suc n) ys ≡ true) e t.1))
      | inr other ↦ elim (cases_Bool (nat_lt (key y) (key x))) [
        | inl lt ↦ rw (other, lt) (ap (λ (zs : List X). y ∷ zs) (put_drop key (suc (key y)) x ys t.1))
        | inr ge ↦
            let le = ltb-false (key y) (key x) ge in
            let ne = eqb-false (key y) (key x) other in
            rw (other, ge, drop_low key (key x) (suc (key y)) ys (omega arith) t.1, other) refl
      ]
    ]

back_table : (t : Option Tab) (parts : List Part) (part : Part) → AreNamed parts t → keys_ascend part_id 0 parts ≡ true
    → option_map (λ (u : Tab). record u { rows = shown_row (part_id part) part.props u }) (option_map (λ (u : Tab). record u { rows = drop_row (part_id part) u.rows }) t) ≡ option_map (λ (u : Tab). record u { rows = shown_row (part_id part) part.props u }) t
back_table None parts part named ascend = refl
back_table (Some t) parts part named ascend =
    ap (λ (rows : List (ℕ × List Val)). Some (record t { rows = rows })) (put_drop (λ (r : ℕ × List Val). r.0) 0 (part_id part, mirror t.columns part.props) t.rows (ascend_alike (λ (r : ℕ × List Val). r.0) part_id 0 t.rows parts (sym named) ascend))

-- an attachment that was taken out is put back as if it hadn't been
pub back_is : (M : Mes) (k : ℕ) (part : Part) → AreNamed M.parts M.attachments → keys_ascend part_id 0 M.parts ≡ true → part_id part ≡ k → with_part part (without_attachment k M) ≡ with_part part M
back_is M k part named ascend is = subst (λ (n : ℕ). with_part part (without_attachment n M) ≡ with_part part M) is
    (ap (λ (t : Option Tab). record M { attachments = t; parts = put_key part_id part (drop_key part_id (part_id part) M.parts) }) (back_table M.attachments M.parts part named ascend)
    ∙ ap (λ (ps : List Part). record (with_part part M) { parts = ps }) (put_drop part_id 0 part M.parts ascend))

-- what the message keeps is beside the attachments then
pub back_free : (M : Mes) (k : ℕ) (old part : Part) → keys_ascend part_id 0 M.parts ≡ true → part_in k M ≡ Some old → are_others M.parts M.kept ≡ true → part_id part ≡ k → are_others (put_key part_id part (drop_key part_id k M.parts)) M.kept ≡ true
back_free M k old part ascend found others is =
    subst (λ (n : ℕ). are_others (put_key part_id part (drop_key part_id n M.parts)) M.kept ≡ true) is
    (rw (put_drop part_id 0 part M.parts ascend) (kept_still M.parts old part M.kept (ap (λ (n : ℕ). find_key part_id n M.parts) is ∙ found) others))

-- what an attachment holds stands in order
held_ascend : (held : Held) → ids_ascend 0 (held_subnodes held) ≡ true
held_ascend (Data bytes) = refl
held_ascend (Message bytes node) = one_ascends node

-- the id of a new attachment is that of no table
pub new_formed : (index : ℕ) (name : List ℕ) (held : Held) → part_is_formed (new_part (part_nid index) name held) ≡ true
new_formed index name held =
    let n = min index 134217727 * 32 + 5 in
    rw (held_ascend held, ne_eqb n 0x692 (λ e. omega arith), ne_eqb n 0x671 (λ e. omega arith)) refl

-- where a message gets an attachment of the next index, what it keeps is beside it
pub room_free : (M : Mes) (part : Part) → part_id part ≡ new_id 5 (next_part M) → are_others M.parts M.kept ≡ true → are_others (put_key part_id part M.parts) (room_for (next_part M) M).kept ≡ true
unfolding next_part
room_free M part is others =
    let index = suc (max 1024 (max (greatest_part M.parts) (greatest_kept M.kept))) in
    elim (cases_Bool (is_spent index)) [
      | inl spent ↦ rw spent refl
      | inr left ↦
          let le = ltb-false 134217727 index left in
          rw left (past_kept M.parts part M.kept index (omega arith) (is ∙ ap (λ (n : ℕ). nid_of 5 n) (let m : min index 134217727 ≡ index = omega arith in m)) others)
    ]

-- a loop that pushes what is made of each, at its end
pub all_rows : {X Y : Type 0} (f : X → Y) (out : List Y) (xs : List X) (n : ℕ) → out ++ map f (drop n xs) ≡ map f xs → length xs ≤ n → out ≡ map f xs
all_rows {X} {Y} f out xs n e le = sym (append-nil out) ∙ ap (λ (zs : List X). out ++ map f zs) (sym (drop_all n xs le)) ∙ e
