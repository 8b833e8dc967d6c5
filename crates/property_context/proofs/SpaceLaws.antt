-- What is written stays within the room that is asked for.
use Rattle.std.proofs.Common.{◌≡◌, ◌≤◌, ◌<◌, ◌==◌, ◌&&◌, ◌+◌, ◌-◌, ◌*◌, ◌/◌, inl, inr, if◌then◌else◌, ℕ, zero, suc, Bool, true, false, not, List, [], ◌∷◌, length, map, drop, refl, ap, ◌∙◌, arith}
use Rattle.std.proofs.lemmas.Bool.{cases_Bool, cases_lt, le-leb}
use Rattle.pst_base.specs.Flat.{Flat}
use Rattle.node_port.specs.Stops.{subs_size}
use Rattle.mapi_values.specs.Values.{Val}
use Rattle.write_limits.specs.Limits.{is_long}
use Rattle.write_limits.specs.Space.{kept_space, long_blocks, props_space, values_blocks, values_bytes}
use Rattle.heap_on_node.specs.Packing.{IsPacked, halves, spread}
use Rattle.heap_on_node.proofs.BlockLaws.{blocks-halves, blocks-spread, halves-blocks}
use Rattle.bth_tree.specs.Making.{Makes, chunks, items_above, items_made}
use Rattle.bth_tree.proofs.MakeLaws.{above-step}
use Rattle.node_values.specs.Named.{pieces, pieces_of}
use Rattle.node_values.specs.Subnodes.{without}
use Rattle.property_context.specs.declared.placing.Placer.{Placer}
use Rattle.property_context.specs.Placing.{AddsLong, is_id, long_bytes, subnode}
use Rattle.property_context.specs.Writing.{PutsValues}

-- ---- the heap

-- above at most 147 leaves stands one item, if there are two
above-one : (q : ℕ) → 1 < q → q ≤ 147 → items_above 596 2 q ≡ 1
above-one q more few =
    let one : chunks 596 q ≡ 1 = omega arith in
    above-step 596 2 q more (omega arith) ∙ ap (λ (m : ℕ). m + items_above 596 (2 - 1) m) one

above-none : (q : ℕ) → q ≤ 1 → items_above 596 2 q ≡ 0
above-none q few = rw (le-leb q 1 few) refl

-- the items of a tree of n properties
made-count : (n : ℕ) → n ≤ 65536 → items_made 2 6 n ≤ 2 + chunks 447 n
made-count n few = elim (cases_lt 1 (chunks 447 n)) [
  | inl more ↦ omega (arith, above-one (chunks 447 n) more (omega arith))
  | inr one ↦ omega (arith, above-none (chunks 447 n) one)
]

made-few : (n : ℕ) → n ≤ 447 → items_made 2 6 n ≤ 1 + chunks 447 n
made-few n few = omega (arith, above-none (chunks 447 n) (omega arith))

-- the blocks of a heap whose values have so many bytes, with a tree of n properties
heap-small : (b b1 s h1 h2 made bytes n : ℕ) → 8160 * b1 ≤ s + 8189 → s ≤ 0 + (2 * bytes + 2 * n) → h1 ≤ 2 * b1 → h2 ≤ h1 + made → 2 * b ≤ h2 + 1
    → made ≤ 2 + chunks 447 n → (n ≤ 447 → made ≤ 1 + chunks 447 n) → b ≤ 3 + (bytes + 8 * n) / 4080
heap-small b b1 s h1 h2 made bytes n a c d e f g k = elim (cases_lt 447 n) [
  | inl more ↦ omega (arith, a, c, d, e, f, g)
  | inr few ↦ omega (arith, a, c, d, e, f, k few)
]

-- ---- the subnodes

length-pieces_of : (n : ℕ) (b : List ℕ) → length (pieces_of n b) ≡ n
length-pieces_of zero b = refl
length-pieces_of (suc n) b = ap suc (length-pieces_of n (drop 8176 b))

pub length-pieces : (b : List ℕ) → length (pieces b) ≡ (length b + 8175) / 8176
unfolding pieces
length-pieces b = length-pieces_of ((length b + 8175) / 8176) b

-- what subnodes of these bytes take
abbrev sizes : List (List ℕ) → ℕ
sizes [] = 0
sizes (b ∷ bs) = (1 + length (pieces b)) + sizes bs

long-sizes : (long : List (ℕ × List ℕ)) → subs_size (map subnode long) ≡ sizes (map (λ (l : ℕ × List ℕ). l.1) long)
long-sizes [] = refl
long-sizes (l ∷ long) = ap (λ (n : ℕ). 1 + length (pieces l.1) + n) (long-sizes long)

values-sizes : (vs : List Val) → sizes (long_bytes vs) ≤ values_blocks vs
unfolding long_blocks
values-sizes [] = omega arith
values-sizes (v ∷ vs) = elim (cases_Bool (is_long v)) [
  | inl t ↦ rw t (omega (arith, values-sizes vs, length-pieces v.bytes))
  | inr f ↦ rw f (omega (arith, values-sizes vs))
]

true-false : true ≡ false → ⊥
true-false e = cc

-- those that pass a test and those that don't are all
split-size : (test : ℕ → Bool) (a b : Bool) (fs : List Flat) → (a && b) ≡ false → subs_size fs ≤ subs_size (without (λ n. not (test n)) a fs) + subs_size (without test b fs)
split-size test a b [] h = omega arith
split-size test a b (f ∷ fs) h = elim (cases_Bool (f.level == 0)) [
  | inl t ↦ elim (cases_Bool (test f.nid)) [
    | inl t1 ↦ rw (t, t1) (omega (arith, split-size test false true fs refl))
    | inr f1 ↦ rw (t, f1) (omega (arith, split-size test true false fs refl))
  ]
  | inr f0 ↦ rw f0 (deeper test a b f fs h (λ c d k. split-size test c d fs k))
]
  where
    deeper : (test : ℕ → Bool) (a b : Bool) (f : Flat) (fs : List Flat) → (a && b) ≡ false
        → ((c d : Bool) → (c && d) ≡ false → subs_size fs ≤ subs_size (without (λ n. not (test n)) c fs) + subs_size (without test d fs))
        → 1 + length f.blocks + subs_size fs ≤ subs_size (if a then without (λ n. not (test n)) true fs else f ∷ without (λ n. not (test n)) false fs)
        + subs_size (if b then without test true fs else f ∷ without test false fs)
    deeper test true true f fs h k = absurd (true-false h)
    deeper test true false f fs h k = omega (arith, k true false refl)
    deeper test false true f fs h k = omega (arith, k false true refl)
    deeper test false false f fs h k = omega (arith, k false false refl)

pub kept-size : (fs : List Flat) → subs_size fs ≤ kept_space fs
kept-size [] = omega arith
kept-size (f ∷ fs) = omega (arith, kept-size fs)

-- the subnodes of long values among the rest
long-small : (vs : List Val) (rest subs : List Flat) → AddsLong vs rest subs → subs_size subs ≤ values_blocks vs + subs_size rest
long-small vs rest subs a =
    let both = split-size (is_id a.long) false false subs refl in
    let long = ap subs_size a.long_is ∙ long-sizes a.long ∙ ap sizes a.bytes in
    let others = ap subs_size a.rest_is in
    omega (arith, both, long, others, values-sizes vs)

-- ---- all that is written

props-is : (vs : List Val) → props_space vs ≡ 4 + (values_bytes vs + 8 * length vs) / 4080 + values_blocks vs
unfolding props_space
props-is vs = refl

sum : (b subs room long kept space : ℕ) → b ≤ 3 + room → subs ≤ long + kept → space ≡ 4 + room + long → b + subs + 1 ≤ space + kept
sum b subs room long kept space a c d = omega arith

pub written-own : (heap1 heap2 : List (List (List ℕ))) (p0 p1 : Placer) (vs : List Val) (rs : List (ℕ × List ℕ)) (blocks : List (List ℕ)) (root : ℕ) (rest subs : List Flat)
    → PutsValues ([] ∷ []) heap1 p0 p1 vs rs → IsPacked heap1 → length rs ≤ 65536 → Makes heap1 heap2 root 2 6 rs → length blocks ≡ length heap2 → AddsLong vs rest subs
    → length blocks + subs_size subs + 1 ≤ props_space vs + subs_size rest
written-own heap1 heap2 p0 p1 vs rs blocks root rest subs s packed few m count long =
    let halved : halves heap2 ≤ halves heap1 + items_made 2 6 (length vs) = rw s.count at m.half in
    let most : length vs ≤ 65536 = omega (arith, few, s.count) in
    let heap = heap-small (length heap2) (length heap1) (spread heap1) (halves heap1) (halves heap2) (items_made 2 6 (length vs)) (values_bytes vs) (length vs)
    (blocks-spread heap1 packed) s.spent (halves-blocks heap1) halved (blocks-halves heap2) (made-count (length vs) most) (made-few (length vs)) in
    sum (length blocks) (subs_size subs) ((values_bytes vs + 8 * length vs) / 4080) (values_blocks vs) (subs_size rest) (props_space vs) (omega (arith, heap, count)) (long-small vs rest subs long) (props-is vs)

pub written-small : (n : ℕ) (vs : List Val) (rest : List Flat) → n ≤ props_space vs + subs_size rest → n ≤ props_space vs + kept_space rest
written-small n vs rest h = omega (arith, h, kept-size rest)
