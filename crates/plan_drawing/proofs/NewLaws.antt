-- Entries of new blocks, and the numbers that follow them.
use Rattle.std.proofs.Common.{Bool, ◌≡◌, ◌∙◌, ◌⊎◌, inl, inr, ℕ, ◌+◌, ◌-◌, ◌*◌, ◌%◌, ◌^◌, ◌<◌, ◌≤◌, eqb, max, List, [], ◌∷◌, ◌++◌, length, map, take, drop, Option, Some, None, refl, sym, ap, subst, arith, if◌then◌else◌}
use Rattle.std.specs.List.{All}
use Rattle.std.proofs.lemmas.Bool.{cases_lt, lt-ltb, le-ltb, eq-eqb, ne_eqb}
use Rattle.std.proofs.lemmas.List.Elements.{All-cons, All-nil}
use Rattle.pst_base.specs.declared.ids.Bid.{Bid}
use Rattle.pst_base.specs.Ids.{key_of}
use Rattle.pst_header.specs.declared.header.Header.{Header}
use Rattle.btree_pages.specs.declared.entry.BlockEntry.{BlockEntry}
use Rattle.data_tree.specs.Plan.{Rise}
use Rattle.file_blocks.specs.Blocks.{entry_key}
use Rattle.file_layout.specs.Numbers.{counted_to, next_block, past_blocks}
use Rattle.lays_kept.specs.declared.Piece.{Piece}
use Rattle.tree_edit.specs.Edits.{AreEdits, edited, entry_with, of_some, over, under, given}
use Rattle.tree_edit.specs.Shapes.{RiseIn}
use Rattle.node_layout.specs.Joined.{IsHere}
use Rattle.node_layout.specs.Lookups.{Each, edit_at, sum_of}
use Rattle.node_layout.specs.Pieces.{EachStands}
use Rattle.node_layout.specs.Sealed.{AreSealed, IsSealed}
use Rattle.node_layout.proofs.LookupLaws.{sum-append, sum-given}
use Rattle.node_layout.proofs.SealedLaws.{sealed-data}
use Rattle.node_layout.specs.Counts.{sum_put}
use Rattle.plan_drawing.specs.Recounts.{puts_of}
use Rattle.plan_drawing.proofs.RecountLaws.{edit-back}

-- ---- new blocks

-- the key of a block of a plan
key-here : (next bits : ℕ) → next % 4 ≡ 0 → (bits ≡ next) ⊎ (bits ≡ next + 2) → (next ≤ key_of bits) × (key_of bits < next + 4) × (key_of bits ≡ bits)
key-here next bits apart (inl is) = (omega (arith, apart, is), omega (arith, apart, is), omega (arith, apart, is))
key-here next bits apart (inr is) = (omega (arith, apart, is), omega (arith, apart, is), omega (arith, apart, is))

edits-from : (low mid high : ℕ) (ds : List (ℕ × Option BlockEntry)) → low ≤ mid → AreEdits entry_key mid high ds → AreEdits entry_key low high ds
edits-from low mid high [] le are = tt
edits-from low mid high (d ∷ ds) le are = let a = are.0 in (omega (arith, a, le), are.1, are.2, are.3)

pub puts-edits : (next high : ℕ) (blocks : List (Bid × List ℕ)) (entries : List BlockEntry) (pieces : List Piece) → next % 4 ≡ 0 → next + 4 * length blocks ≤ high → Rise next blocks → AreSealed blocks entries pieces → AreEdits entry_key next high (puts_of entries)
puts-edits next high [] entries pieces apart most rise are = subst (λ (es : List BlockEntry). AreEdits entry_key next high (puts_of es)) (sym are.0) tt
puts-edits next high (b ∷ bs) [] pieces apart most rise are = tt
puts-edits next high (b ∷ bs) (e ∷ es) [] apart most rise are = absurd are
puts-edits next high (b ∷ bs) (e ∷ es) (p ∷ ps) apart most rise are =
    let own : (e.at).bid ≡ b.0 = (are.0).bid in
    let bits : ((e.at).bid).bits ≡ (b.0).bits = ap (λ (i : Bid). i.bits) own in
    let k = key-here next (b.0).bits apart rise.0 in
    let same : entry_key e ≡ key_of (b.0).bits = ap key_of bits in
    let low = k.0 in let lt = k.1 in
    let rest = puts-edits (next + 4) high bs es ps (omega (arith, apart)) (omega (arith, most)) rise.1 are.1 in
    (omega (arith, same, low), omega (arith, same, lt, most), refl, edits-from (entry_key e + 1) (next + 4) high (puts_of es) (omega (arith, same, lt)) rest)

here-first : (bytes : List ℕ) (ds : List (ℕ × Option BlockEntry)) (b : Bid × List ℕ) (e : BlockEntry) (p : Piece) → IsSealed b e p → take (length p.bytes) (drop p.at bytes) ≡ p.bytes → edit_at (key_of (b.0).bits) ds ≡ Some (Some e) → IsHere bytes ds b
here-first bytes ds b e p is stands edit = record { entry = e; edit = edit; size = is.size; stands = sealed-data bytes b e p is stands }

here-later : (bytes : List ℕ) (k : ℕ) (o : Option BlockEntry) (ds : List (ℕ × Option BlockEntry)) (b : Bid × List ℕ) → (k ≡ key_of (b.0).bits → ⊥) → IsHere bytes ds b → IsHere bytes ((k, o) ∷ ds) b
here-later bytes k o ds b other is = record {
  entry = is.entry;
  edit = ap (λ (t : Bool). if t then Some o else edit_at (key_of (b.0).bits) ds) (ne_eqb k (key_of (b.0).bits) other) ∙ is.edit;
  size = is.size;
  stands = is.stands;
}

-- each block of a list has P
abbrev pub EachBlock : (Bid × List ℕ → Type 0) → List (Bid × List ℕ) → Type 0
EachBlock P [] = Unit {0}
EachBlock P (b ∷ bs) = P b × EachBlock P bs

pub all-blocks : (P : Bid × List ℕ → Type 0) (bs : List (Bid × List ℕ)) → EachBlock P bs → All P bs
all-blocks P [] all = All-nil P
all-blocks P (b ∷ bs) all = All-cons P b bs all.0 (all-blocks P bs all.1)

each-weaker : (P Q : Bid × List ℕ → Type 0) (next : ℕ) (bs : List (Bid × List ℕ)) → Rise next bs → next % 4 ≡ 0 → ((b : Bid × List ℕ) → next ≤ key_of (b.0).bits → P b → Q b) → EachBlock P bs → EachBlock Q bs
each-weaker P Q next [] rise apart step all = tt
each-weaker P Q next (b ∷ bs) rise apart step all =
    let low = (key-here next (b.0).bits apart rise.0).0 in
    (step b low all.0, each-weaker P Q (next + 4) bs rise.1 (omega (arith, apart)) (λ c le is. step c (omega (arith, le)) is) all.1)

pub puts-here : (bytes : List ℕ) (next : ℕ) (blocks : List (Bid × List ℕ)) (entries : List BlockEntry) (pieces : List Piece) → next % 4 ≡ 0 → Rise next blocks → AreSealed blocks entries pieces → EachStands bytes pieces → EachBlock (IsHere bytes (puts_of entries)) blocks
puts-here bytes next [] entries pieces apart rise are stand = tt
puts-here bytes next (b ∷ bs) [] pieces apart rise are stand = absurd are
puts-here bytes next (b ∷ bs) (e ∷ es) [] apart rise are stand = absurd are
puts-here bytes next (b ∷ bs) (e ∷ es) (p ∷ ps) apart rise are stand =
    let bits : ((e.at).bid).bits ≡ (b.0).bits = ap (λ (i : Bid). i.bits) (are.0).bid in
    let same : entry_key e ≡ key_of (b.0).bits = ap key_of bits in
    let lt = (key-here next (b.0).bits apart rise.0).1 in (
      here-first bytes (puts_of (e ∷ es)) b e p are.0 stand.0 (ap (λ (t : Bool). if t then Some (Some e) else edit_at (key_of (b.0).bits) (puts_of es)) (eq-eqb (entry_key e) (key_of (b.0).bits) same)),
      each-weaker (IsHere bytes (puts_of es)) (IsHere bytes (puts_of (e ∷ es))) (next + 4) bs rise.1 (omega (arith, apart)) (λ c le is. here-later bytes (entry_key e) (Some e) (puts_of es) c (λ h. absurd (omega (arith, h, le, same, lt))) is)
          (puts-here bytes (next + 4) bs es ps (omega (arith, apart)) rise.1 are.1 stand.1),
    )

-- and so in the edits of old blocks and these
pub news-here : (bytes : List ℕ) (next low : ℕ) (old : List (ℕ × Option BlockEntry)) (blocks : List (Bid × List ℕ)) (entries : List BlockEntry) (pieces : List Piece) → next % 4 ≡ 0 → Rise next blocks → AreSealed blocks entries pieces → EachStands bytes pieces
    → AreEdits entry_key low next old → EachBlock (IsHere bytes (old ++ puts_of entries)) blocks
news-here bytes next low old blocks entries pieces apart rise are stand edits =
    each-weaker (IsHere bytes (puts_of entries)) (IsHere bytes (old ++ puts_of entries)) next blocks rise apart
    (λ b le is. record { entry = is.entry; edit = edit-back entry_key low next (key_of (b.0).bits) old (puts_of entries) le edits ∙ is.edit; size = is.size; stands = is.stands })
    (puts-here bytes next blocks entries pieces apart rise are stand)

pub sealed-count : (blocks : List (Bid × List ℕ)) (entries : List BlockEntry) (pieces : List Piece) → AreSealed blocks entries pieces → length entries ≡ length blocks
sealed-count [] entries pieces are = ap length are.0
sealed-count (b ∷ bs) [] pieces are = absurd are
sealed-count (b ∷ bs) (e ∷ es) [] are = absurd are
sealed-count (b ∷ bs) (e ∷ es) (p ∷ ps) are = let h = sealed-count bs es ps are.1 in omega (arith, h)

-- ---- sums over edited entries

-- the sum over old entries whose keys have edits
abbrev pub sum_olds : {E : Type 0} → (E → ℕ) → (E → ℕ) → List E → List (ℕ × Option E) → ℕ
sum_olds key f es [] = 0
sum_olds key f es (d ∷ ds) = of_some f (entry_with key d.0 es) + sum_olds key f es ds

rise-none : {E : Type 0} (key : E → ℕ) (low high k : ℕ) (es : List E) → RiseIn low high (map key es) → k < low → (entry_with key k es ≡ None) × (under key k es ≡ []) × (over key k es ≡ es)
rise-none key low high k [] rise lt = (refl, refl, refl)
rise-none key low high k (e ∷ es) rise lt =
    let a = rise.0 in
    let rest = rise-none key (key e + 1) high k es rise.2 (omega (arith, a, lt)) in (
      rw (ne_eqb (key e) k (λ h. absurd (omega (arith, h, a, lt)))) rest.0,
      rw (le-ltb (key e) k (omega (arith, a, lt))) rest.1,
      rw (lt-ltb k (key e) (omega (arith, a, lt))) (ap (λ (l : List _). e ∷ l) rest.2),
    )

-- the entries below a key, that of the key and those above it, in a list whose keys ascend
sum-exact-parts : {E : Type 0} (key f : E → ℕ) (low high k : ℕ) (es : List E) → RiseIn low high (map key es) → sum_of f (under key k es) + of_some f (entry_with key k es) + sum_of f (over key k es) ≡ sum_of f es
sum-exact-parts key f low high k [] rise = refl
sum-exact-parts {E} key f low high k (e ∷ es) rise =
    elim (cases_lt (key e) k) [
      | inl a ↦ let h = sum-exact-parts key f (key e + 1) high k es rise.2 in rw (lt-ltb _ _ a, le-ltb k (key e) (omega (arith, a)), ne_eqb (key e) k (λ s. absurd (omega (arith, s, a)))) (omega (arith, h))
      | inr a ↦ elim (cases_lt k (key e)) [
        | inl b ↦ let h = sum-exact-parts key f (key e + 1) high k es rise.2 in rw (le-ltb _ _ a, lt-ltb _ _ b, ne_eqb (key e) k (λ s. absurd (omega (arith, s, b)))) (omega (arith, h))
        | inr b ↦
            let none = rise-none key (key e + 1) high k es rise.2 (omega (arith, a, b)) in
            rw (le-ltb _ _ a, le-ltb _ _ b, eq-eqb (key e) k (omega (arith, a, b)), none.1, none.2) (omega arith)
      ]
    ]

rise-over : {E : Type 0} (key : E → ℕ) (low high k : ℕ) (es : List E) → RiseIn low high (map key es) → RiseIn low high (map key (over key k es))
rise-over key low high k [] rise = tt
rise-over key low high k (e ∷ es) rise = elim (cases_lt k (key e)) [
  | inl a ↦ rw (lt-ltb _ _ a) (rise.0, rise.1, rise-over key (key e + 1) high k es rise.2)
  | inr a ↦ let b = rise.0 in rw (le-ltb _ _ a) (rise-less key low (key e + 1) high (over key k es) (omega (arith, b)) (rise-over key (key e + 1) high k es rise.2))
]
  where
    rise-less : {E : Type 0} (key : E → ℕ) (low mid high : ℕ) (es : List E) → low ≤ mid → RiseIn mid high (map key es) → RiseIn low high (map key es)
    rise-less key low mid high [] le rise = tt
    rise-less key low mid high (e ∷ es) le rise = let a = rise.0 in (omega (arith, a, le), rise.1, rise.2)

over-with : {E : Type 0} (key : E → ℕ) (k d : ℕ) (es : List E) → d < k → entry_with key k (over key d es) ≡ entry_with key k es
over-with key k d [] lt = refl
over-with key k d (e ∷ es) lt = elim (cases_lt d (key e)) [
  | inl a ↦ rw (lt-ltb _ _ a) (ap (λ (o : Option _). if eqb (key e) k then Some e else o) (over-with key k d es lt))
  | inr a ↦ rw (le-ltb _ _ a, ne_eqb (key e) k (λ h. absurd (omega (arith, h, a, lt)))) (over-with key k d es lt)
]

olds-over : {E : Type 0} (key f : E → ℕ) (low high k : ℕ) (es : List E) (ds : List (ℕ × Option E)) → k < low → AreEdits key low high ds → sum_olds key f (over key k es) ds ≡ sum_olds key f es ds
olds-over key f low high k es [] lt d = refl
olds-over key f low high k es (x ∷ ds) lt d =
    let a = d.0 in
    let here = over-with key x.0 k es (omega (arith, a, lt)) in
    let rest = olds-over key f (x.0 + 1) high k es ds (omega (arith, a, lt)) d.3 in
    rw (here, rest) refl

-- what edits take away and what they put
pub sum-exact : {E : Type 0} (key f : E → ℕ) (low high l h : ℕ) (es : List E) (ds : List (ℕ × Option E)) → RiseIn l h (map key es) → AreEdits key low high ds
    → sum_of f (edited key es ds) + sum_olds key f es ds ≡ sum_of f es + sum_put f ds
sum-exact key f low high l h es [] rise d = refl
sum-exact {E} key f low high l h es (x ∷ ds) rise d =
    let later : List E = edited key (over key x.0 es) ds in
    let parts = sum-exact-parts key f l h x.0 es rise in
    let rest = sum-exact key f (x.0 + 1) high l h (over key x.0 es) ds (rise-over key l h x.0 es rise) d.3 in
    let same = olds-over key f (x.0 + 1) high x.0 es ds (omega arith) d.3 in
    let one = sum-append f (under key x.0 es) (given x.1 ++ later) in
    let two = sum-append f (given x.1) later in
    let three = sum-given f x.1 in
    omega (arith, parts, rest, same, one, two, three)

-- ---- the number of the next block

past-first : (n : ℕ) (es : List BlockEntry) → n ≤ past_blocks n es
past-first n [] = omega arith
past-first n (e ∷ es) = let h = past-first n es in omega (arith, h)

-- it is past each block
pub past-each : (n m : ℕ) (es : List BlockEntry) → past_blocks n es ≤ m → Each (λ (e : BlockEntry). ((e.at).bid).bits + 4 ≤ m) es
past-each n m [] most = tt
past-each n m (e ∷ es) most = (omega (arith, most), past-each n m es (omega (arith, most)))

pub past-most : (n m : ℕ) (es : List BlockEntry) → n ≤ m → Each (λ (e : BlockEntry). ((e.at).bid).bits + 4 ≤ m) es → past_blocks n es ≤ m
past-most n m [] le all = le
past-most n m (e ∷ es) le all = let a = all.0 in let h = past-most n m es le all.1 in omega (arith, a, h)

-- what is known of a next number that isn't used up
pub next-known : (header : Header) (es : List BlockEntry) (next : ℕ) → next ≡ next_block header es → next < 2 ^ 61
    → (next % 4 ≡ 0) × (4 ≤ next) × (header.next_block ≤ next + 3) × Each (λ (e : BlockEntry). ((e.at).bid).bits + 4 ≤ next + 3) es
next-known header es next is low =
    let all : ℕ = past_blocks (max header.next_block 4) es in
    let first = past-first (max header.next_block 4) es in
    let most : all ≤ next + 3 = omega (arith, is, low) in
    (omega (arith, is), omega (arith, is, low, first), omega (arith, first, most), past-each (max header.next_block 4) (next + 3) es most)

-- it is that number again where the header says so, and no block is past it
pub next-is : (header : Header) (es : List BlockEntry) (next : ℕ) → header.next_block ≡ next → next % 4 ≡ 0 → 4 ≤ next → next < 2 ^ 63 → Each (λ (e : BlockEntry). ((e.at).bid).bits + 4 ≤ next + 3) es → next ≡ next_block header es
next-is header es next is apart some low all =
    let all_past : ℕ = past_blocks (max header.next_block 4) es in
    let first : next ≤ all_past = let a = past-first (max header.next_block 4) es in omega (arith, a, is) in
    let most : all_past ≤ next + 3 = past-most (max header.next_block 4) (next + 3) es (omega (arith, is, some)) all in
    next-num all_past next first most apart low
  where
    next-num : (x n : ℕ) → n ≤ x → x ≤ n + 3 → n % 4 ≡ 0 → n < 2 ^ 63 → n ≡ counted_to x - counted_to x % 4
    next-num x n first most apart low = omega (arith, first, most, apart, low)
