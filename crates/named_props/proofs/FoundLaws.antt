-- A name that was added is found, and those that were there stay.
use Rattle.std.proofs.Common.{◌≡◌, ℕ, suc, zero, ◌+◌, ◌-◌, ◌<◌, ◌≤◌, ◌==◌, Bool, true, false, List, [], ◌∷◌, ◌++◌, length, Option, None, Some, refl, sym, ap, ◌∙◌, subst, arith, inl, inr, if◌then◌else◌, length-append}
use Rattle.std.specs.Prelude.{nat_lt}
use Rattle.std.specs.List.{find, position, slice_get}
use Rattle.std.specs.Option.{is_some, option_map, option_or, unwrap_or}
use Rattle.std.specs.Str.{bytes_eq}
use Rattle.std.proofs.Math.Seq.{get_or-append_seam}
use Rattle.std.proofs.lemmas.Bool.{and_from, and_parts, cases_Bool, cases_lt, eq-eqb, ltb-true, ne_eqb, or_from}
use Rattle.std.proofs.lemmas.List.{get_or_append_left}
use Rattle.std.proofs.lemmas.List.Folds.{find-append}
use Rattle.std.proofs.lemmas.List.Quantifiers.{position-Some}
use Rattle.std.proofs.lemmas.Option.{slice_get-get_or}
use Rattle.std.proofs.lemmas.Slice.Eq.{bytes_eq-Decides}
use Rattle.named_props.specs.declared.entry.NameEntry.{NameEntry}
use Rattle.named_props.specs.declared.guids.TheConstants.{PS_MAPI, PS_PUBLIC_STRINGS}
use Rattle.named_props.specs.declared.names.Names.{Names}
use Rattle.named_props.specs.Adding.{added, guid_index, index_in, new_entry, next_index, with_guid}
use Rattle.named_props.specs.Finding.{guid_at, guids_known, is_guid, is_named, is_property_named, name_at, property_of}

-- ---- the index of a GUID leads to it

bytes_eq-same : (xs : List ℕ) → bytes_eq xs xs ≡ true
bytes_eq-same xs = (bytes_eq-Decides xs xs).1 refl

-- from 3 on an index counts the stream
guid_at-stream : (guids : List (List ℕ)) (i j : ℕ) → i ≡ 3 + j → guid_at guids i ≡ slice_get guids j
unfolding guid_at
guid_at-stream guids i j is =
    rw (ne_eqb i 0 (λ e. omega arith), ne_eqb i 1 (λ e. omega arith), ne_eqb i 2 (λ e. omega arith)) (let back : i - 3 ≡ j = omega arith in ap (slice_get guids) back)

-- an index below 3 is the same in every stream
guid_at-low : (guids others : List (List ℕ)) (i : ℕ) → i < 3 → guid_at guids i ≡ guid_at others i
unfolding guid_at
guid_at-low guids others zero low = refl
guid_at-low guids others (suc zero) low = refl
guid_at-low guids others (suc (suc zero)) low = refl
guid_at-low guids others (suc (suc (suc i))) low = absurd (omega arith)

slice_get-left : {X : Type 0} (xs ys : List X) (i : ℕ) → i < length xs → slice_get (xs ++ ys) i ≡ slice_get xs i
slice_get-left [] ys i within = absurd (omega arith)
slice_get-left (x ∷ xs) ys i within =
    slice_get-get_or (x ∷ xs ++ ys) i x (omega (arith, length-append xs ys)) ∙ ap Some (get_or_append_left (x ∷ xs) ys x i within) ∙ sym (slice_get-get_or (x ∷ xs) i x within)

-- an index that a stream knows leads to the same GUID in a longer one
guid_at-longer : (guids more : List (List ℕ)) (i : ℕ) → i < 3 + length guids → guid_at (guids ++ more) i ≡ guid_at guids i
guid_at-longer guids more i within =
    elim (cases_lt i 3) [
      | inl low ↦ guid_at-low (guids ++ more) guids i low
      | inr high ↦
          guid_at-stream (guids ++ more) i (i - 3) (omega arith) ∙ slice_get-left guids more (i - 3) (omega arith) ∙ sym (guid_at-stream guids i (i - 3) (omega arith))
    ]

guid_at-with : (guids : List (List ℕ)) (guid : List ℕ) (i : ℕ) → i < 3 + length guids → guid_at (with_guid guids guid) i ≡ guid_at guids i
guid_at-with guids guid i within = either (is_some (index_in guids guid))
  where
    either : (b : Bool) → guid_at (if b then guids else guids ++ guid ∷ []) i ≡ guid_at guids i
    either true = refl
    either false = guid_at-longer guids (guid ∷ []) i within

-- a place in the stream leads to the GUID
place-leads : (guids : List (List ℕ)) (guid : List ℕ) (j : ℕ) → position (λ g. bytes_eq g guid) guids ≡ Some j → is_guid guid (slice_get guids j) ≡ true
place-leads guids guid j is =
    let found = position-Some (λ g. bytes_eq g guid) guids j [] is in
    rw (slice_get-get_or guids j [] found.0) found.1

-- the two that every file knows
known_1 : (guids : List (List ℕ)) (guid : List ℕ) → bytes_eq PS_MAPI guid ≡ true → is_guid guid (guid_at guids 1) ≡ true
unfolding guid_at
known_1 guids guid t = t

known_2 : (guids : List (List ℕ)) (guid : List ℕ) → bytes_eq PS_PUBLIC_STRINGS guid ≡ true → is_guid guid (guid_at guids 2) ≡ true
unfolding guid_at
known_2 guids guid t = t

-- the index of a GUID leads to it
index-leads : (guids : List (List ℕ)) (guid : List ℕ) (i : ℕ) → index_in guids guid ≡ Some i → is_guid guid (guid_at guids i) ≡ true
unfolding index_in
index-leads guids guid i is =
    elim (cases_Bool (bytes_eq PS_MAPI guid)) [
      | inl t ↦ let one : Some 1 ≡ Some i = rw t at is in let first : 1 ≡ i = cc in subst (λ (n : ℕ). is_guid guid (guid_at guids n) ≡ true) first (known_1 guids guid t)
      | inr f ↦ elim (cases_Bool (bytes_eq PS_PUBLIC_STRINGS guid)) [
        | inl t ↦ let two : Some 2 ≡ Some i = rw (f, t) at is in let second : 2 ≡ i = cc in subst (λ (n : ℕ). is_guid guid (guid_at guids n) ≡ true) second (known_2 guids guid t)
        | inr g ↦ let rest : option_map (λ (n : ℕ). 3 + n) (position (λ g. bytes_eq g guid) guids) ≡ Some i = rw (f, g) at is in placed (position (λ g. bytes_eq g guid) guids) refl rest
      ]
    ]
  where
    placed : (o : Option ℕ) → position (λ g. bytes_eq g guid) guids ≡ o → option_map (λ (n : ℕ). 3 + n) o ≡ Some i → is_guid guid (guid_at guids i) ≡ true
    placed None at is = cc
    placed (Some j) at is = let from : i ≡ 3 + j = cc in rw (guid_at-stream guids i j from) (place-leads guids guid j at)

-- the index that a GUID has or gets leads to it
new-leads : (guids : List (List ℕ)) (guid : List ℕ) → is_guid guid (guid_at (with_guid guids guid) (guid_index guids guid)) ≡ true
new-leads guids guid = either (index_in guids guid) refl
  where
    either : (o : Option ℕ) → index_in guids guid ≡ o → is_guid guid (guid_at (if is_some o then guids else guids ++ guid ∷ []) (unwrap_or o (3 + length guids))) ≡ true
    either (Some i) is = index-leads guids guid i is
    either None is =
        rw (
          guid_at-stream (guids ++ guid ∷ []) (3 + length guids) (length guids) refl,
          slice_get-get_or (guids ++ guid ∷ []) (length guids) [] (omega (arith, length-append guids (guid ∷ []))),
          get_or-append_seam guids guid [] [],
        ) (bytes_eq-same guid)

-- ---- names in longer lists

-- an entry whose GUID is known has the same name
named-with : (guids : List (List ℕ)) (guid other : List ℕ) (id : ℕ) (e : NameEntry) → nat_lt e.guid (3 + length guids) ≡ true
    → is_named (with_guid guids guid) other id e ≡ is_named guids other id e
unfolding is_named
named-with guids guid other id e known = rw (guid_at-with guids guid e.guid (ltb-true e.guid (3 + length guids) known)) refl

find-with : (guids : List (List ℕ)) (guid other : List ℕ) (id : ℕ) (es : List NameEntry) → guids_known guids es ≡ true
    → find (is_named (with_guid guids guid) other id) es ≡ find (is_named guids other id) es
find-with guids guid other id [] known = refl
find-with guids guid other id (e ∷ es) known =
    let parts = and_parts (nat_lt e.guid (3 + length guids)) (guids_known guids es) known in
    rw (named-with guids guid other id e parts.0, find-with guids guid other id es parts.1) refl

-- what is found in the lists with one more name
name_at-with : (n : Names) (guid other : List ℕ) (id : ℕ) (e : NameEntry) → guids_known n.guids n.entries ≡ true
    → name_at (with_guid n.guids guid) (n.entries ++ e ∷ []) other id
    ≡ option_map property_of (option_or (find (is_named n.guids other id) n.entries) (if is_named (with_guid n.guids guid) other id e then Some e else None))
name_at-with n guid other id e known =
    ap (option_map property_of) (find-append (is_named (with_guid n.guids guid) other id) n.entries (e ∷ [])
    ∙ ap (λ o. option_or o (if is_named (with_guid n.guids guid) other id e then Some e else None)) (find-with n.guids guid other id n.entries known))

new-named : (n : Names) (guid : List ℕ) (number : ℕ) → is_named (with_guid n.guids guid) guid number (new_entry n guid number) ≡ true
unfolding is_named
new-named n guid number = and_from (number == number) _ (eq-eqb number number refl) (new-leads n.guids guid)

pub name_at-added : (n : Names) (guid : List ℕ) (number : ℕ) → guids_known n.guids n.entries ≡ true → name_at n.guids n.entries guid number ≡ None
    → name_at (added n guid number).guids (added n guid number).entries guid number ≡ Some (0x8000 + next_index n.entries)
name_at-added n guid number known none =
    name_at-with n guid guid number (new_entry n guid number) known ∙ missing (find (is_named n.guids guid number) n.entries) none
  where
    missing : (o : Option NameEntry) → option_map property_of o ≡ None
        → option_map property_of (option_or o (if is_named (with_guid n.guids guid) guid number (new_entry n guid number) then Some (new_entry n guid number) else None)) ≡ Some (0x8000 + next_index n.entries)
    missing (Some e) none = cc
    missing None none = rw (new-named n guid number) refl

pub name_at-kept : (n : Names) (guid other : List ℕ) (number id property : ℕ) → guids_known n.guids n.entries ≡ true → name_at n.guids n.entries other id ≡ Some property
    → name_at (added n guid number).guids (added n guid number).entries other id ≡ Some property
name_at-kept n guid other number id property known some =
    name_at-with n guid other id (new_entry n guid number) known ∙ there (find (is_named n.guids other id) n.entries) (if is_named (with_guid n.guids guid) other id (new_entry n guid number) then Some (new_entry n guid number) else None) some
  where
    there : (o more : Option NameEntry) → option_map property_of o ≡ Some property → option_map property_of (option_or o more) ≡ Some property
    there (Some e) more some = some
    there None more some = cc

-- ---- new properties

not-below : (es : List NameEntry) (k : ℕ) → next_index es ≤ k → is_property_named es (0x8000 + k) ≡ false
not-below [] k le = refl
not-below (e ∷ es) k le =
    or_from (0x8000 + e.index == 0x8000 + k) (is_property_named es (0x8000 + k)) (ne_eqb (0x8000 + e.index) (0x8000 + k) (λ is. omega arith)) (not-below es k (omega arith))

pub next-unnamed : (es : List NameEntry) → is_property_named es (0x8000 + next_index es) ≡ false
next-unnamed es = not-below es (next_index es) (omega arith)
