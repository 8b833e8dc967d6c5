-- In more regions than places reach no others meet.
use Rattle.std.proofs.Common.{◌≡◌, ◌<◌, ◌≤◌, ℕ, zero, suc, ◌+◌, ◌-◌, ◌*◌, ◌/◌, List, [], ◌∷◌, ◌++◌, All, sym, subst, inl, inr, arith}
use Rattle.std.proofs.lemmas.Bool.{cases_eq}
use Rattle.std.proofs.Math.Nat.{max-le}
use Rattle.std.proofs.lemmas.List.Elements.{All-head, All-tail, All-weaker}
use Rattle.pst_base.specs.declared.places.Place.{Place}
use Rattle.file_layout.specs.Nodes.{LARGEST, regions_to}
use Rattle.alloc_map.specs.Slots.{IsLaid}
use Rattle.alloc_map.specs.Standing.{amap_place, amap_places, standing, Covers, Meet, MeetsSome, IsMeeting, IsOverlap}

-- ---- a place among others

meets-drop : (p y : Place) (xs ys : List Place) (s : ℕ) → (Meet p y s → ⊥) → MeetsSome p (xs ++ y ∷ ys) s → MeetsSome p (xs ++ ys) s
unfolding MeetsSome
meets-drop p y [] ys s apart (inl m) = absurd (apart m)
meets-drop p y [] ys s apart (inr m) = m
meets-drop p y (x ∷ xs) ys s apart (inl m) = inl m
meets-drop p y (x ∷ xs) ys s apart (inr m) = inr (meets-drop p y xs ys s apart m)

meets-add : (p y : Place) (xs ys : List Place) (s : ℕ) → MeetsSome p (xs ++ ys) s → MeetsSome p (xs ++ y ∷ ys) s
unfolding MeetsSome
meets-add p y [] ys s m = inr m
meets-add p y (x ∷ xs) ys s (inl m) = inl m
meets-add p y (x ∷ xs) ys s (inr m) = inr (meets-add p y xs ys s m)

-- none of these meets the place there
abbrev NoneMeets : Place → ℕ → List Place → Type 0
NoneMeets y s [] = Unit {0}
NoneMeets y s (x ∷ xs) = (Meet x y s → ⊥) × NoneMeets y s xs

meeting-drop : (y : Place) (xs ys : List Place) (s : ℕ) → NoneMeets y s xs → (MeetsSome y ys s → ⊥) → IsMeeting (xs ++ y ∷ ys) s → IsMeeting (xs ++ ys) s
unfolding IsMeeting
meeting-drop y [] ys s apart last (inl m) = absurd (last m)
meeting-drop y [] ys s apart last (inr m) = m
meeting-drop y (x ∷ xs) ys s apart last (inl m) = inl (meets-drop x y xs ys s apart.0 m)
meeting-drop y (x ∷ xs) ys s apart last (inr m) = inr (meeting-drop y xs ys s apart.1 last m)

meeting-add : (y : Place) (xs ys : List Place) (s : ℕ) → IsMeeting (xs ++ ys) s → IsMeeting (xs ++ y ∷ ys) s
unfolding IsMeeting
meeting-add y [] ys s m = inr m
meeting-add y (x ∷ xs) ys s (inl m) = inl (meets-add x y xs ys s m)
meeting-add y (x ∷ xs) ys s (inr m) = inr (meeting-add y xs ys s m)

-- ---- AMap pages

-- a place ends where its regions do
laid-ends : (r s : ℕ) (p : Place) → IsLaid r p → Covers p s → s < 3968 * r
laid-ends r s p laid covers =
    let above = laid.above in let start = laid.start in let whole = laid.whole in let within = laid.within in let ends = covers.ends in
    omega (arith, above, start, whole, within, ends)

amap-starts : (n s : ℕ) → Covers (amap_place n) s → (3968 * n ≤ s) × (s < 3968 * n + 8)
amap-starts n s covers = let begins = covers.begins in let ends = covers.ends in (omega (arith, begins), omega (arith, ends))

none-meets : (r n s : ℕ) (ps : List Place) → r ≤ n → All (IsLaid r) ps → NoneMeets (amap_place n) s ps
none-meets r n s [] less all = tt
none-meets r n s (p ∷ ps) less all =
    ((λ m. never (laid-ends r s p (All-head (IsLaid r) p ps all) m.first) (amap-starts n s m.second).0), none-meets r n s ps less (All-tail (IsLaid r) p ps all))
  where
    never : s < 3968 * r → 3968 * n ≤ s → ⊥
    never a b = omega (arith, a, b, less)

amaps-below : (m n s : ℕ) → m ≤ n → MeetsSome (amap_place n) (amap_places m) s → ⊥
unfolding MeetsSome amap_places
amaps-below zero n s less m = m
amaps-below (suc m) n s less (inl meet) = never (amap-starts n s meet.first).0 (amap-starts m s meet.second).1
  where
    never : 3968 * n ≤ s → s < 3968 * m + 8 → ⊥
    never a b = omega (arith, a, b, less)
amaps-below (suc m) n s less (inr rest) = amaps-below m n s (omega (arith, less)) rest

-- ---- more regions

pub narrow : (r n s : ℕ) (ps : List Place) → r ≤ n → All (IsLaid r) ps → IsMeeting (standing ps n) s → IsMeeting (standing ps r) s
unfolding amap_places
narrow r zero s ps less all m = subst (λ (k : ℕ). IsMeeting (ps ++ amap_places k) s) (let same : 0 ≡ r = omega (arith, less) in same) m
narrow r (suc n) s ps less all m = elim (cases_eq r (suc n)) as (λ v. IsMeeting (ps ++ amap_places r) s) [
  | inl same ↦ subst (λ (k : ℕ). IsMeeting (ps ++ amap_places k) s) (sym same) m
  | inr other ↦ (let lower : r ≤ n = below r n less other in narrow r n s ps lower all (meeting-drop (amap_place n) ps (amap_places n) s (none-meets r n s ps lower all) (amaps-below n n s (omega arith)) m))
]
  where
    below : (a b : ℕ) → a ≤ suc b → (a ≡ suc b → ⊥) → a ≤ b
    below a b less other = omega (arith, less, other)

pub wide : (r n s : ℕ) (ps : List Place) → r ≤ n → IsMeeting (standing ps r) s → IsMeeting (standing ps n) s
unfolding amap_places
wide r zero s ps less m = subst (λ (k : ℕ). IsMeeting (ps ++ amap_places k) s) (let same : r ≡ 0 = omega (arith, less) in same) m
wide r (suc n) s ps less m = elim (cases_eq r (suc n)) as (λ v. IsMeeting (ps ++ amap_places (suc n)) s) [
  | inl same ↦ subst (λ (k : ℕ). IsMeeting (ps ++ amap_places k) s) same m
  | inr other ↦ meeting-add (amap_place n) ps (amap_places n) s (wide r n s ps (below r n less other) m)
]
  where
    below : (a b : ℕ) → a ≤ suc b → (a ≡ suc b → ⊥) → a ≤ b
    below a b less other = omega (arith, less, other)

pub laid-wide : (r n : ℕ) (ps : List Place) → r ≤ n → All (IsLaid r) ps → All (IsLaid n) ps
laid-wide r n ps less all = All-weaker (IsLaid r) (IsLaid n) (λ p laid. let within = laid.within in record { above = laid.above; start = laid.start; whole = laid.whole; within = omega (arith, within, less) }) ps all

-- the least later start of two that meet is the same
pub overlap-narrow : (r n ib : ℕ) (ps : List Place) → r ≤ n → All (IsLaid r) ps → IsOverlap (standing ps n) ib → IsOverlap (standing ps r) ib
overlap-narrow r n ib ps less all o = record { slot = o.slot; start = o.start; meets = narrow r n o.slot ps less all o.meets; least = λ other m. o.least other (wide r n other ps less m) }

-- a file has no more than 8192 regions
pub few-regions : (eof : ℕ) → eof ≤ LARGEST → regions_to eof ≤ 8192
few-regions eof small = max-le {a = 1} {b = (eof - 0x4400 + 253951) / 253952} {k = 8192} (omega arith) (omega (arith, small))
