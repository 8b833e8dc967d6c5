-- Blocks at places of their own are together no longer than the file.
use Rattle.std.proofs.Common.{false, ◌≡◌, ◌⊎◌, inl, inr, ℕ, zero, suc, ◌+◌, ◌-◌, ◌*◌, ◌/◌, ◌<◌, ◌≤◌, eqb, leb, List, [], ◌∷◌, length, map, take, drop, Option, Some, None, refl, sym, ap, arith, if◌then◌else◌}
use Rattle.std.proofs.lemmas.Bool.{cases_lt, cases_eq, eq-eqb, ne_eqb, leb-true, le-leb, lt-ltb, le-ltb, cases_Bool}
use Rattle.std.proofs.lemmas.List.{length-take}
use Rattle.pst_base.specs.declared.ids.Bid.{Bid}
use Rattle.pst_base.specs.Ids.{key_of}
use Rattle.pst_base.specs.declared.places.Place.{Place}
use Rattle.btree_pages.specs.declared.entry.BlockEntry.{BlockEntry}
use Rattle.alloc_map.specs.Slots.{slot_of, slots_in}
use Rattle.alloc_map.specs.Covered.{Once}
use Rattle.file_layout.specs.Trees.{IsPlace}
use Rattle.file_layout.specs.Nodes.{place_of}
use Rattle.lays_kept.specs.Kept.{Each}
use Rattle.alloc_map.specs.Tally.{one_at, tally}
use Rattle.alloc_map.proofs.TallyLaws.{tally_twice}
use Rattle.data_tree.specs.Plan.{bytes_in, contents}
use Rattle.file_blocks.specs.Blocks.{data_of, entry_key}
use Rattle.tree_edit.specs.Edits.{entry_with, of_some}
use Rattle.node_layout.specs.Lookups.{sum_of, Each as EachOf}
use Rattle.data_tree.specs.Keys.{count_of}

-- ---- a slot is covered at most once

pub once-tally : (ps : List Place) → Once ps → (slot : ℕ) → tally slot ps ≤ 1
once-tally ps once slot = elim (cases_lt 1 (tally slot ps)) [ inl a ↦ absurd (once slot (tally_twice ps slot (omega (arith, a)))) | inr a ↦ a ]

-- ---- sums over slots

abbrev pub total : (ℕ → ℕ) → ℕ → ℕ
total f zero = 0
total f (suc n) = total f n + f n

total-most : (f : ℕ → ℕ) (n : ℕ) → ((s : ℕ) → f s ≤ 1) → total f n ≤ n
total-most f zero each = omega arith
total-most f (suc n) each = let a = total-most f n each in let b = each n in omega (arith, a, b)

one-total : (p : Place) (n : ℕ) → total (λ s. one_at s p) n ≡ (n - slot_of p.ib) - (n - (slot_of p.ib + slots_in p))
one-total p zero = omega arith
one-total p (suc n) = by (one-total p n) (cases_lt n (slot_of p.ib)) (cases_lt n (slot_of p.ib + slots_in p))
  where
    a : ℕ
    a = slot_of p.ib

    k : ℕ
    k = slots_in p

    by : total (λ s. one_at s p) n ≡ (n - slot_of p.ib) - (n - (slot_of p.ib + slots_in p)) → ((n < slot_of p.ib) ⊎ (slot_of p.ib ≤ n)) → ((n < slot_of p.ib + slots_in p) ⊎ (slot_of p.ib + slots_in p ≤ n))
        → total (λ s. one_at s p) n + one_at n p ≡ (suc n - slot_of p.ib) - (suc n - (slot_of p.ib + slots_in p))
    by h (inl low) y = let e : one_at n p ≡ 0 = outside low in omega (arith, h, e, low)
      where
        outside : n < slot_of p.ib → one_at n p ≡ 0
        outside low = rw (lt-leb low) refl
          where
            lt-leb : n < slot_of p.ib → leb (slot_of p.ib) n ≡ false
            lt-leb low = elim (cases_Bool (leb (slot_of p.ib) n)) [ inl t ↦ absurd (let z = leb-true (slot_of p.ib) n t in omega (arith, z, low)) | inr f ↦ f ]
    by h (inr high) (inl within) = let e : one_at n p ≡ 1 = rw (le-leb (slot_of p.ib) n high, lt-ltb n (slot_of p.ib + slots_in p) within) refl in omega (arith, h, e, high, within)
    by h (inr high) (inr past) = let e : one_at n p ≡ 0 = rw (le-leb (slot_of p.ib) n high, le-ltb n (slot_of p.ib + slots_in p) past) refl in omega (arith, h, e, high, past)

abbrev pub all_slots : List Place → ℕ
all_slots [] = 0
all_slots (p ∷ ps) = slots_in p + all_slots ps

total-plus : (f h : ℕ → ℕ) (n : ℕ) → total (λ s. f s + h s) n ≡ total f n + total h n
total-plus f h zero = refl
total-plus f h (suc n) = let a = total-plus f h n in omega (arith, a)

total-none : (n : ℕ) → total (λ s. 0) n ≡ 0
total-none zero = refl
total-none (suc n) = let a = total-none n in omega (arith, a)

tally-total : (eof : ℕ) (ps : List Place) → Each (IsPlace eof) ps → total (λ s. tally s ps) ((eof - 0x4400) / 64) ≡ all_slots ps
tally-total eof [] all = total-none ((eof - 0x4400) / 64)
tally-total eof (p ∷ ps) all =
    let n : ℕ = (eof - 0x4400) / 64 in
    let a = total-plus (λ s. one_at s p) (λ s. tally s ps) n in
    let b = one-total p n in
    let c = tally-total eof ps all.1 in
    let above = (all.0).above in
    let start = (all.0).start in
    let whole = (all.0).whole in
    let before = (all.0).before in
    let inside : slot_of p.ib + slots_in p ≤ n = omega (arith, above, start, whole, before) in
    omega (arith, a, b, c, inside)

-- places of which no two meet have together no more slots than the file
pub places-fit : (eof : ℕ) (ps : List Place) → Each (IsPlace eof) ps → Once ps → 64 * all_slots ps ≤ eof
places-fit eof ps all once =
    let n : ℕ = (eof - 0x4400) / 64 in
    let a = tally-total eof ps all in
    let b = total-most (λ s. tally s ps) n (once-tally ps once) in
    omega (arith, a, b)

-- and so have the blocks' bytes
pub blocks-fit : (eof : ℕ) (es : List BlockEntry) → Each (IsPlace eof) (map place_of es) → Once (map place_of es) → sum_of (λ (e : BlockEntry). e.cb) es ≤ eof
blocks-fit eof es all once = let a = places-fit eof (map place_of es) all once in let b = go es in omega (arith, a, b)
  where
    go : (es : List BlockEntry) → sum_of (λ (e : BlockEntry). e.cb) es ≤ 64 * all_slots (map place_of es)
    go [] = omega arith
    go (e ∷ es) = let h = go es in omega (arith, h)

-- ---- blocks named once

-- the sum over the entries of some keys
abbrev pub of_keys : {E : Type 0} → (E → ℕ) → (E → ℕ) → List E → List ℕ → ℕ
of_keys key f es [] = 0
of_keys key f es (k ∷ ks) = of_some f (entry_with key k es) + of_keys key f es ks

keys-without : {E : Type 0} (key f : E → ℕ) (e : E) (es : List E) (ks : List ℕ) → count_of (key e) ks ≡ 0 → of_keys key f (e ∷ es) ks ≡ of_keys key f es ks
keys-without key f e es [] none = refl
keys-without {E} key f e es (k ∷ ks) none = elim (cases_eq k (key e)) [
  | inl same ↦ absurd (let a : ◌≡◌ {A = ℕ} (if eqb k (key e) then 1 else 0) 1 = rw (eq-eqb k (key e) same) refl in omega (arith, none, a))
  | inr other ↦
      let a : ◌≡◌ {A = ℕ} (if eqb k (key e) then 1 else 0) 0 = rw (ne_eqb k (key e) other) refl in
      let rest = keys-without key f e es ks (omega (arith, none, a)) in
      rw (ne_eqb (key e) k (λ h. other (sym h))) (ap (λ (n : ℕ). of_some f (entry_with key k es) + n) rest)
]

keys-with : {E : Type 0} (key f : E → ℕ) (e : E) (es : List E) (ks : List ℕ) → count_of (key e) ks ≤ 1 → of_keys key f (e ∷ es) ks ≤ f e + of_keys key f es ks
keys-with key f e es [] few = omega arith
keys-with {E} key f e es (k ∷ ks) few = elim (cases_eq k (key e)) [
  | inl same ↦
      let a : ◌≡◌ {A = ℕ} (if eqb k (key e) then 1 else 0) 1 = rw (eq-eqb k (key e) same) refl in
      let rest = keys-without key f e es ks (omega (arith, few, a)) in
      rw (eq-eqb (key e) k (sym same)) (omega (arith, rest))
  | inr other ↦
      let a : ◌≡◌ {A = ℕ} (if eqb k (key e) then 1 else 0) 0 = rw (ne_eqb k (key e) other) refl in
      let rest = keys-with key f e es ks (omega (arith, few, a)) in
      rw (ne_eqb (key e) k (λ h. other (sym h))) (omega (arith, rest))
]

none-there : {E : Type 0} (key f : E → ℕ) (ks : List ℕ) → of_keys key f [] ks ≡ 0
none-there key f [] = refl
none-there key f (k ∷ ks) = let h = none-there key f ks in omega (arith, h)

-- blocks of which none is named twice are no more than all
pub keys-fit : {E : Type 0} (key f : E → ℕ) (es : List E) (ks : List ℕ) → ((k : ℕ) → count_of k ks ≤ 1) → of_keys key f es ks ≤ sum_of f es
keys-fit key f [] ks once = let h = none-there key f ks in omega (arith, h)
keys-fit key f (e ∷ es) ks once = let a = keys-with key f e es ks (once (key e)) in let b = keys-fit key f es ks once in omega (arith, a, b)

found-short : (file b : List ℕ) (o : Option BlockEntry) → data_of file o ≡ Some b → length b ≤ of_some (λ (e : BlockEntry). e.cb) o
found-short file b None found = absurd (cc)
found-short file b (Some e) found =
    let same : take e.cb (drop (e.at).ib file) ≡ b = cc in
    let a = ap (λ (l : List ℕ). length l) same in
    let c = length-take e.cb (drop (e.at).ib file) in
    omega (arith, a, c)

-- the data of blocks that are found is no longer than their entries say
pub found-fit : (file : List ℕ) (entries : List BlockEntry) (blocks : List (Bid × List ℕ)) → EachOf (λ block. data_of file (entry_with entry_key (key_of (block.0).bits) entries) ≡ Some block.1) blocks
    → bytes_in (contents blocks) ≤ of_keys entry_key (λ (e : BlockEntry). e.cb) entries (map (λ block. key_of (block.0).bits) blocks)
found-fit file entries [] all = omega arith
found-fit file entries (b ∷ bs) all =
    let a = found-short file b.1 (entry_with entry_key (key_of (b.0).bits) entries) all.0 in
    let rest = found-fit file entries bs all.1 in
    omega (arith, a, rest)

-- data of blocks of which none is named twice is no longer than the file
pub data-fit : (file : List ℕ) (eof : ℕ) (entries : List BlockEntry) (blocks : List (Bid × List ℕ)) → EachOf (λ block. data_of file (entry_with entry_key (key_of (block.0).bits) entries) ≡ Some block.1) blocks
    → ((k : ℕ) → count_of k (map (λ block. key_of (block.0).bits) blocks) ≤ 1) → Each (IsPlace eof) (map place_of entries) → Once (map place_of entries) → bytes_in (contents blocks) ≤ eof
data-fit file eof entries blocks all once places apart =
    let a = found-fit file entries blocks all in
    let b = keys-fit entry_key (λ (e : BlockEntry). e.cb) entries (map (λ block. key_of (block.0).bits) blocks) once in
    let c = blocks-fit eof entries places apart in
    omega (arith, a, b, c)
