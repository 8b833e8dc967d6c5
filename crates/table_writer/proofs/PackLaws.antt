-- How much the items of a heap weigh, and how many blocks they can take.
use Rattle.std.proofs.Common.{◌≡◌, ◌≢◌, ◌∙◌, ◌≤◌, ◌<◌, ◌==◌, ◌&&◌, ◌+◌, ◌-◌, ◌*◌, ◌/◌, ◌%◌, ◌++◌, ◌∷◌, [], ℕ, zero, suc, false, List, length, get_or, Some, None, refl, sym, ap, inl, inr, arith, length-append}
use Rattle.std.specs.Prelude.{nat_le, nat_lt, slice_get}
use Rattle.std.proofs.lemmas.Bool.{and_parts, cases_Bool, cases_lt, and_cases, leb-false, eqb-true, ltb-true}
use Rattle.std.proofs.lemmas.List.{get_or_past}
use Rattle.std.specs.List.{concat}
use Rattle.std.proofs.lemmas.Option.{slice_get_past}
use Rattle.bth_tree.proofs.OptionLaws.{none-some, some-injective}
use Rattle.heap_on_node.specs.Heap.{block_of, index_of}
use Rattle.heap_on_node.specs.Packing.{Adds, IsPacked, has_room, item_in, map_place}
use Rattle.heap_on_node.proofs.PackingLaws.{fit_block-push, head-bounds, hid-parts, item_in-at, item_in-off, room-parts}
use Rattle.table_writer.specs.Making.{weight, weight_of}

list-same : {X : Type 0} (a b : List X) → ((j : ℕ) → slice_get a j ≡ slice_get b j) → a ≡ b
list-same [] [] h = refl
list-same [] (y ∷ ys) h = absurd (none-some y (h 0))
list-same (x ∷ xs) [] h = absurd (none-some x (sym (h 0)))
list-same (x ∷ xs) (y ∷ ys) h =
    let e : x ≡ y = some-injective x y (h 0) in
    ap (λ z. z ∷ xs) e ∙ ap (λ zs. y ∷ zs) (list-same xs ys (λ j. h (suc j)))

list-more : {X : Type 0} (a b : List X) (n : ℕ) (x : X) → slice_get b n ≡ Some x → slice_get a n ≡ None → ((j : ℕ) → j ≢ n → slice_get b j ≡ slice_get a j) → b ≡ a ++ x ∷ []
list-more [] [] n x here free same = absurd (none-some x here)
list-more [] (y ∷ ys) zero x here free same =
    let e : y ≡ x = some-injective y x here in
    ap (λ z. z ∷ ys) e ∙ ap (λ zs. x ∷ zs) (list-same ys [] (λ j. same (suc j) (λ z. absurd (omega (arith, z)))))
list-more [] (y ∷ ys) (suc n) x here free same = absurd (none-some y (sym (same 0 (λ z. absurd (omega (arith, z))))))
list-more (z ∷ zs) b zero x here free same = absurd (none-some z (sym free))
list-more (z ∷ zs) [] (suc n) x here free same = absurd (none-some x here)
list-more (z ∷ zs) (y ∷ ys) (suc n) x here free same =
    let e : y ≡ z = some-injective y z (same 0 (λ w. absurd (omega (arith, w)))) in
    ap (λ w. w ∷ ys) e ∙ ap (λ ws. z ∷ ws) (list-more zs ys n x here free (λ j ne. same (suc j) (λ w. ne (omega (arith, w)))))

weight_of-push : (g : List (List ℕ)) (x : List ℕ) → weight_of (g ++ x ∷ []) ≡ weight_of g + (length x + 4)
weight_of-push [] x = omega arith
weight_of-push (y ∷ g) x = omega (arith, weight_of-push g x)

weight-empty : (G : List (List (List ℕ))) → ((k : ℕ) → get_or G k [] ≡ []) → weight G ≡ 0
weight-empty [] h = refl
weight-empty (g ∷ G) h = omega (arith, ap weight_of (h 0), weight-empty G (λ k. h (suc k)))

weight-same : (A B : List (List (List ℕ))) → ((k : ℕ) → get_or A k [] ≡ get_or B k []) → weight A ≡ weight B
weight-same [] B h = sym (weight-empty B (λ k. sym (h k)))
weight-same (a ∷ A) [] h = weight-empty (a ∷ A) h
weight-same (a ∷ A) (b ∷ B) h = omega (arith, ap weight_of (h 0), weight-same A B (λ k. h (suc k)))

no-push : (g : List (List ℕ)) (x : List ℕ) → [] ≡ g ++ x ∷ [] → ⊥
no-push [] x e = cc
no-push (y ∷ g) x e = cc

weight-more : (n : ℕ) (A B : List (List (List ℕ))) (x : List ℕ) → ((k : ℕ) → k ≢ n → get_or B k [] ≡ get_or A k []) → get_or B n [] ≡ get_or A n [] ++ x ∷ [] → weight B ≡ weight A + (length x + 4)
weight-more n A [] x same here = absurd (no-push (get_or A n []) x here)
weight-more zero [] (b ∷ B) x same here =
    omega (arith, ap weight_of here, weight-empty B (λ k. same (suc k) (λ z. absurd (omega (arith, z)))))
weight-more zero (a ∷ A) (b ∷ B) x same here =
    omega (arith, ap weight_of here, weight_of-push a x, weight-same B A (λ k. same (suc k) (λ z. absurd (omega (arith, z)))))
weight-more (suc n) [] (b ∷ B) x same here =
    omega (arith, ap weight_of (same 0 (λ z. absurd (omega (arith, z)))), weight-more n [] B x (λ k ne. same (suc k) (λ z. ne (omega (arith, z)))) here)
weight-more (suc n) (a ∷ A) (b ∷ B) x same here =
    omega (arith, ap weight_of (same 0 (λ z. absurd (omega (arith, z)))), weight-more n A B x (λ k ne. same (suc k) (λ z. ne (omega (arith, z)))) here)

-- an item stands under its heap id
cell-at : (G : List (List (List ℕ))) (k j : ℕ) → j < 2047 → item_in G (k * 65536 + suc j * 32) ≡ slice_get (get_or G k []) j
cell-at G k j lt =
    let p = hid-parts k (suc j) (omega arith) (omega (arith, lt)) in
    let pos : 0 < index_of (k * 65536 + suc j * 32) = omega (arith, p.2) in
    let j_is : index_of (k * 65536 + suc j * 32) - 1 ≡ j = omega (arith, p.2) in
    item_in-at G (k * 65536 + suc j * 32) p.0 pos
    ∙ ap (λ (n : ℕ). slice_get (get_or G n []) (index_of (k * 65536 + suc j * 32) - 1)) p.1
    ∙ ap (slice_get (get_or G k [])) j_is

few-items : (G : List (List (List ℕ))) (k : ℕ) → IsPacked G → length (get_or G k []) ≤ 2047
few-items G k p = elim (cases_lt k (length G)) [
  | inl low ↦ (room-parts k (length (get_or G k [])) (length (concat (get_or G k []))) (p.fit k low)).0
  | inr high ↦ let none : get_or G k [] ≡ [] = get_or_past G k [] high in rw none (omega arith)
]

-- what stands under a heap id stands in the heap
pub valid-hid : (G : List (List (List ℕ))) (h : ℕ) (x : List ℕ) → item_in G h ≡ Some x → (h % 32 ≡ 0) × (0 < index_of h)
valid-hid G h x some = elim (cases_Bool ((h % 32 == 0) && nat_lt 0 (index_of h))) [
  | inl t ↦ let p = and_parts (h % 32 == 0) (nat_lt 0 (index_of h)) t in (eqb-true (h % 32) 0 p.0, ltb-true 0 (index_of h) p.1)
  | inr f ↦ absurd (none-some x (sym (item_in-off G h f) ∙ some))
]

hid-same : (h k j : ℕ) → h % 32 ≡ 0 → 0 < h / 32 % 2048 → j < 2047 → k * 65536 + suc j * 32 ≡ h → (k ≡ h / 65536) × (j ≡ h / 32 % 2048 - 1)
hid-same h k j a b lt e = (omega arith, omega arith)

pub adds-weigh : (old new : List (List (List ℕ))) (x : List ℕ) (hid : ℕ) → IsPacked old → IsPacked new → Adds old x new hid → weight new ≡ weight old + (length x + 4)
adds-weigh old new x hid p q a =
    let v = valid-hid new hid x a.here in
    let k0 = block_of hid in
    let j0 = index_of hid - 1 in
    let here : slice_get (get_or new (block_of hid) []) (index_of hid - 1) ≡ Some x = sym (item_in-at new hid v.0 v.1) ∙ a.here in
    let free : slice_get (get_or old (block_of hid) []) (index_of hid - 1) ≡ None = sym (item_in-at old hid v.0 v.1) ∙ a.free in
    let same : (k j : ℕ) → (k ≡ block_of hid → j ≡ index_of hid - 1 → ⊥) → slice_get (get_or new k []) j ≡ slice_get (get_or old k []) j =
    λ k j ne. elim (cases_lt j 2047) [
      | inl low ↦
          sym (cell-at new k j low) ∙ a.others (k * 65536 + suc j * 32) (λ e. let s = hid-same hid k j v.0 v.1 low e in ne s.0 s.1) ∙ cell-at old k j low
      | inr high ↦
          slice_get_past (get_or new k []) j (omega (arith, few-items new k q, high)) ∙ sym (slice_get_past (get_or old k []) j (omega (arith, few-items old k p, high)))
    ] in
    weight-more (block_of hid) old new x
    (λ k ne. list-same (get_or new k []) (get_or old k []) (λ j. same k j (λ e f. ne e)))
    (list-more (get_or old (block_of hid) []) (get_or new (block_of hid) []) (index_of hid - 1) x here free (λ j ne. same (block_of hid) j (λ e f. ne f)))

weight_of-is : (g : List (List ℕ)) → weight_of g ≡ length (concat g) + 4 * length g
weight_of-is [] = refl
weight_of-is (x ∷ g) = omega (arith, weight_of-is g, length-append x (concat g))

weight_of-first : (h : List (List ℕ)) → 0 < length h → length (get_or h 0 []) + 4 ≤ weight_of h
weight_of-first [] some = absurd (omega (arith, some))
weight_of-first (x ∷ h) some = omega arith

-- two blocks next to each other weigh as much as a block holds
pair-weighs : (G : List (List (List ℕ))) (k : ℕ) → IsPacked G → k + 1 < length G → 8104 ≤ weight_of (get_or G k []) + weight_of (get_or G (k + 1) [])
pair-weighs G k p lt =
    let g = get_or G k [] in
    let h = get_or G (k + 1) [] in
    let tight : has_room k (length g + 1) (length (concat g) + length (get_or h 0 [])) ≡ false = sym (fit_block-push k g (get_or h 0 [])) ∙ p.tight k lt in
    let some : 0 < length h = p.filled (k + 1) (omega arith) lt in
    let head = head-bounds k in
    let light = weight_of-is g in
    let first = weight_of-first h some in
    elim (and_cases (nat_le (length g + 1) 2047) (nat_le (map_place k (length (concat g) + length (get_or h 0 [])) + 6 + 2 * (length g + 1)) 8176) tight) [
      | inl many ↦ omega (arith, leb-false (length g + 1) 2047 many, light, first)
      | inr long ↦ omega (arith, leb-false (map_place k (length (concat g) + length (get_or h 0 [])) + 6 + 2 * (length g + 1)) 8176 long, light, first, head.1)
    ]

-- each two that follow one another weigh so much
abbrev Heavy : List (List (List ℕ)) → Type 0
Heavy [] = Unit {0}
Heavy (g ∷ []) = Unit {0}
Heavy (g ∷ (h ∷ G)) = (8104 ≤ weight_of g + weight_of h) × Heavy (h ∷ G)

heavy-from : (G : List (List (List ℕ))) → ((k : ℕ) → suc k < length G → 8104 ≤ weight_of (get_or G k []) + weight_of (get_or G (suc k) [])) → Heavy G
heavy-from [] f = tt
heavy-from (g ∷ []) f = tt
heavy-from (g ∷ (h ∷ G)) f = (f 0 (omega arith), heavy-from (h ∷ G) (λ k lt. f (suc k) (omega (arith, lt))))

heavy-room : (g : List (List ℕ)) (G : List (List (List ℕ))) → Heavy (g ∷ G) → 8104 * length G + weight_of g ≤ 2 * weight (g ∷ G)
heavy-room g [] h = omega arith
heavy-room g (k ∷ G) h = omega (arith, h.0, heavy-room k G h.1)

-- how many blocks there can be
pub blocks-room : (G : List (List (List ℕ))) → IsPacked G → 8104 * length G ≤ 2 * weight G + 8104
blocks-room [] p = omega arith
blocks-room (g ∷ G) p = omega (arith, heavy-room g G (heavy-from (g ∷ G) (λ k lt. let next : k + 1 ≡ suc k = omega arith in let w = pair-weighs (g ∷ G) k p (omega (arith, lt)) in omega (arith, w, ap (λ (n : ℕ). weight_of (get_or (g ∷ G) n [])) next))))

-- a heap that isn't too heavy has few enough blocks
pub light-few : (G : List (List (List ℕ))) → IsPacked G → weight G ≤ 210000000 → length G < 65536
light-few G p light = omega (arith, blocks-room G p, light)
