-- What covering one more place does, and how slots that are covered twice are later starts of places that meet.
use Rattle.std.proofs.Common.{◌≡◌, ◌<◌, ◌≤◌, ◌⊎◌, ◌+◌, ℕ, zero, suc, Bool, true, false, List, [], ◌∷◌, ◌++◌, ◌==◌, ◌%◌, drop, length, get_or, min, Option, Some, None, IfSome, refl, sym, subst, ◌∙◌, inl, inr, arith}
use Rattle.std.proofs.lemmas.Bool.{cases_lt, cases_Bool, true≢false}
use Rattle.std.proofs.lemmas.List.{drop_more}
use Rattle.pst_base.specs.declared.places.Place.{Place}
use Rattle.alloc_map.specs.Covered.{IsCovering, IsLeastOf, IsTwice, IsUsedIn, least_of}
use Rattle.alloc_map.specs.Rooms.{IsLeast}
use Rattle.alloc_map.specs.Slots.{AreAll, Becomes, slot_of, slots_in}
use Rattle.alloc_map.specs.Standing.{amap_places, fixed_places, fixed_slots, occupied, standing, Covers, SomeCovers, IsCovered, Meet, MeetsSome, IsMeeting}

-- the lesser of the least of P and of Q is the least of both
pub least_of_both : (P Q R : ℕ → Type 0) → ((s : ℕ) → P s → R s) → ((s : ℕ) → Q s → R s) → ((s : ℕ) → R s → P s ⊎ Q s) → (a b : Option ℕ) → IsLeastOf P a → IsLeastOf Q b → IsLeastOf R (least_of a b)
least_of_both P Q R p q r None None h g = λ s x. elim (r s x) [ inl y ↦ h s y | inr y ↦ g s y ]
least_of_both P Q R p q r None (Some b) h g = record {
  holds = q b g.holds;
  least = λ s x. elim (r s x) [ inl y ↦ absurd (h s y) | inr y ↦ g.least s y ];
}
least_of_both P Q R p q r (Some a) None h g = record {
  holds = p a h.holds;
  least = λ s x. elim (r s x) [ inl y ↦ h.least s y | inr y ↦ absurd (g s y) ];
}
least_of_both P Q R p q r (Some a) (Some b) h g = record {
  holds = elim (cases_lt b a) [
    | inl lt ↦ let e : b ≡ min a b = omega arith in subst R e (q b g.holds)
    | inr ge ↦ let e : a ≡ min a b = omega arith in subst R e (p a h.holds)
  ];
  least = λ s x. elim (r s x) [
    | inl y ↦ let k : a ≤ s = h.least s y in omega arith
    | inr y ↦ let k : b ≤ s = g.least s y in omega arith
  ];
}

within_both : (a b : Option ℕ) (n m : ℕ) → n ≡ m → IfSome a (λ s. s < n) → IfSome b (λ s. s < n) → IfSome (least_of a b) (λ s. s < m)
within_both None None n m e _ _ = tt
within_both None (Some b) n m e _ h = omega arith
within_both (Some a) None n m e h _ = omega arith
within_both (Some a) (Some b) n m e h g = omega arith

-- one more place is covered
module _ (p : Place) (ps : List Place) (used new : List Bool) (within : slot_of p.ib + slots_in p ≤ length used) (h : IsCovered ps used) (g : Becomes used new (slot_of p.ib) (slots_in p) true) where
  pub covered_more : IsCovered (p ∷ ps) new
  unfolding SomeCovers
  covered_more slot below =
      let small : slot < length used = omega (arith, g.size) in
      elim (cases_lt slot (slot_of p.ib)) [
        | inl lt ↦ (λ on. inr ((h slot small).0 (sym (g.below slot lt) ∙ on)), λ c. elim c [ inl own ↦ absurd (omega (arith, own.begins)) | inr rest ↦ g.below slot lt ∙ (h slot small).1 rest ])
        | inr ge ↦ elim (cases_lt slot (slot_of p.ib + slots_in p)) [
          | inl lt ↦ (λ _. inl (record { begins = ge; ends = lt }), λ _. g.inside slot ge lt)
          | inr past ↦ (λ on. inr ((h slot small).0 (sym (g.above slot past) ∙ on)), λ c. elim c [ inl own ↦ absurd (omega (arith, own.ends)) | inr rest ↦ g.above slot past ∙ (h slot small).1 rest ])
        ]
      ]

  pub cover_more : (twice found : Option ℕ) → IsLeastOf (IsTwice ps) twice → IfSome twice (λ s. s < length used) → IsLeastOf (IsUsedIn used (slot_of p.ib) (slots_in p)) found → IsCovering (p ∷ ps) new (least_of twice found)
  unfolding IsTwice
  cover_more twice found l w f = record {
    covered = covered_more;
    least = least_of_both (IsTwice ps) (IsUsedIn used (slot_of p.ib) (slots_in p)) (IsTwice (p ∷ ps))
        (λ s x. inr x)
        (λ s x. inl (record { begins = x.low; ends = x.high }, (h s (omega (arith, x.high))).0 x.taken))
        (λ s x. elim x [
          | inl y ↦ inr (record { low = y.0.begins; high = y.0.ends; taken = (h s (omega (arith, y.0.ends))).1 y.1 })
          | inr y ↦ inl y
        ])
        twice found l f;
    within = within_both twice found (length used) (length new) (sym g.size) w (found_within found f);
  }
    where
      found_within : (o : Option ℕ) → IsLeastOf (IsUsedIn used (slot_of p.ib) (slots_in p)) o → IfSome o (λ s. s < length used)
      found_within None _ = tt
      found_within (Some s) x = omega (arith, x.holds.high)

-- clear slots are those of no places
pub cover_none : (used : List Bool) → AreAll used 0 (length used) false → IsCovering [] used None
unfolding SomeCovers IsTwice
cover_none used clear = record {
  covered = λ slot below. (λ on. absurd (true≢false (sym on ∙ clear slot (omega arith) (omega arith))), λ c. absurd c);
  least = λ s x. x;
  within = tt;
}

both_cover : (p : Place) (ps : List Place) (s : ℕ) → MeetsSome p ps s → Covers p s × SomeCovers ps s
unfolding MeetsSome SomeCovers
both_cover p [] s m = absurd m
both_cover p (q ∷ qs) s (inl m) = (m.first, inl m.second)
both_cover p (q ∷ qs) s (inr m) = let b = both_cover p qs s m in (b.0, inr b.1)

-- where two places of a list meet, both cover a slot
pub twice_from_meeting : (ps : List Place) (s : ℕ) → IsMeeting ps s → IsTwice ps s
unfolding IsMeeting IsTwice
twice_from_meeting [] s h = h
twice_from_meeting (p ∷ ps) s (inl m) = inl (both_cover p ps s m)
twice_from_meeting (p ∷ ps) s (inr m) = inr (twice_from_meeting ps s m)

-- two places that cover a slot meet there or before
pub meet_before : (p q : Place) (s : ℕ) → Covers p s → Covers q s → (m : ℕ) × (m ≤ s) × Meet p q m
meet_before p q s h g = elim (cases_lt (slot_of p.ib) (slot_of q.ib)) [
  | inl lt ↦ (slot_of q.ib, g.begins, record { first = record { begins = omega arith; ends = omega (arith, h.ends, g.begins) }; second = record { begins = omega arith; ends = omega (arith, g.ends, g.begins) }; later = inr refl })
  | inr ge ↦ (slot_of p.ib, h.begins, record { first = record { begins = omega arith; ends = omega (arith, h.ends, h.begins) }; second = record { begins = ge; ends = omega (arith, g.ends, h.begins) }; later = inl refl })
]

pub some_meet_before : (p : Place) (ps : List Place) (s : ℕ) → Covers p s → SomeCovers ps s → (m : ℕ) × (m ≤ s) × MeetsSome p ps m
unfolding SomeCovers MeetsSome
some_meet_before p [] s h g = absurd g
some_meet_before p (q ∷ qs) s h (inl g) = let m = meet_before p q s h g in (m.0, m.1, inl m.2)
some_meet_before p (q ∷ qs) s h (inr g) = let m = some_meet_before p qs s h g in (m.0, m.1, inr m.2)

pub meeting_before : (ps : List Place) (s : ℕ) → IsTwice ps s → (m : ℕ) × (m ≤ s) × IsMeeting ps m
unfolding IsTwice IsMeeting
meeting_before [] s h = absurd h
meeting_before (p ∷ ps) s (inl h) = let m = some_meet_before p ps s h.0 h.1 in (m.0, m.1, inl m.2)
meeting_before (p ∷ ps) s (inr h) = let m = meeting_before ps s h in (m.0, m.1, inr m.2)

-- the least slot that is covered twice is the least later start
pub least_meeting : (ps : List Place) (s : ℕ) → IsLeast (IsTwice ps) s → IsMeeting ps s × ((other : ℕ) → IsMeeting ps other → s ≤ other)
least_meeting ps s h =
    let m = meeting_before ps s h.holds in
    let e : m.0 ≡ s = omega (arith, m.1, h.least m.0 (twice_from_meeting ps m.0 m.2)) in
    (subst (IsMeeting ps) e m.2, λ other x. h.least other (twice_from_meeting ps other x))

-- a place of a list is the first of what is left there
pub drop_place : (places : List Place) (rest : List Place) (at next : ℕ) (p : Place) → next ≡ at + 1 → at < length places → get_or places at p ≡ p → drop at places ++ rest ≡ p ∷ (drop next places ++ rest)
drop_place places rest at next p e within is = rw (drop_more places at p within, is, e) refl

pub fixed_slots_small : (r : ℕ) → fixed_slots r ≤ 24
fixed_slots_small r = elim (cases_Bool (r % 496 == 128)) [
  | inl e ↦ rw e (omega arith)
  | inr e ↦ rw e (elim (cases_Bool (r % 8 == 0)) [ inl f ↦ rw f (omega arith) | inr f ↦ rw f (omega arith) ])
]

pub fixed_slots_some : (r : ℕ) → 8 ≤ fixed_slots r
fixed_slots_some r = elim (cases_Bool (r % 496 == 128)) [
  | inl e ↦ rw e (omega arith)
  | inr e ↦ rw e (elim (cases_Bool (r % 8 == 0)) [ inl f ↦ rw f (omega arith) | inr f ↦ rw f (omega arith) ])
]

-- ---- places of which some cover a slot

pub covers_first : (ps qs : List Place) (slot : ℕ) → SomeCovers ps slot → SomeCovers (ps ++ qs) slot
unfolding SomeCovers
covers_first [] qs slot c = absurd c
covers_first (p ∷ ps) qs slot (inl c) = inl c
covers_first (p ∷ ps) qs slot (inr c) = inr (covers_first ps qs slot c)

pub covers_last : (ps qs : List Place) (slot : ℕ) → SomeCovers qs slot → SomeCovers (ps ++ qs) slot
unfolding SomeCovers
covers_last [] qs slot c = c
covers_last (p ∷ ps) qs slot c = inr (covers_last ps qs slot c)

pub covers_either : (ps qs : List Place) (slot : ℕ) → SomeCovers (ps ++ qs) slot → SomeCovers ps slot ⊎ SomeCovers qs slot
unfolding SomeCovers
covers_either [] qs slot c = inr c
covers_either (p ∷ ps) qs slot (inl c) = inl (inl c)
covers_either (p ∷ ps) qs slot (inr c) = elim (covers_either ps qs slot c) [ inl a ↦ inl (inr a) | inr b ↦ inr b ]

-- an AMap page is a fixed page, or the first of several
amap_fixed : (r slot : ℕ) → SomeCovers (amap_places r) slot → SomeCovers (fixed_places r) slot
unfolding SomeCovers amap_places fixed_places
amap_fixed zero slot c = c
amap_fixed (suc r) slot (inl c) = let n = fixed_slots_some r in inl (record { begins = c.begins; ends = omega (arith, c.ends, n) })
amap_fixed (suc r) slot (inr c) = inr (amap_fixed r slot c)

-- once all fixed pages are covered too, just the slots of the places and of the fixed pages are
pub covered_fixed : (places : List Place) (r : ℕ) (used : List Bool) → IsCovered (fixed_places r ++ standing places r) used → IsCovered (occupied places r) used
covered_fixed places r used h slot below = (
  λ on. elim (covers_either (fixed_places r) (standing places r) slot ((h slot below).0 on)) [
    | inl c ↦ covers_last places (fixed_places r) slot c
    | inr c ↦ elim (covers_either places (amap_places r) slot c) [
      | inl own ↦ covers_first places (fixed_places r) slot own
      | inr map ↦ covers_last places (fixed_places r) slot (amap_fixed r slot map)
    ]
  ],
  λ c. (h slot below).1 (elim (covers_either places (fixed_places r) slot c) [
    | inl own ↦ covers_last (fixed_places r) (standing places r) slot (covers_first places (amap_places r) slot own)
    | inr page ↦ covers_first (fixed_places r) (standing places r) slot page
  ]),
)
