-- Rooms and bounds, on plain lists.
use Rattle.std.proofs.Common.{◌≡◌, ◌<◌, ◌≤◌, ◌+◌, ◌-◌, ◌*◌, ◌/◌, ℕ, Bool, true, false, List, length, get_or, set, sym, subst, ◌∙◌, inl, inr, arith, length-set}
use Rattle.std.proofs.lemmas.Bool.{cases_lt, cases_eq, true≢false}
use Rattle.std.proofs.lemmas.List.{get_or-set_same, get_or-set_other}
use Rattle.alloc_map.specs.Bounds.{IsFirstAtLeast, Raises}
use Rattle.alloc_map.specs.Rooms.{AreBounds, ArePageBounds, IsIn, IsLeast, IsPageIn, IsRoomAtEighth}
use Rattle.alloc_map.specs.Slots.{AreAll, Becomes, InRegion, IsRoom}

-- the least place of the first region that has one is the least of all
pub least_room : (used : List Bool) (bounds : List ℕ) (n r p : ℕ) → length used ≡ 3968 * length bounds → AreBounds used bounds → n ≤ 128 → IsFirstAtLeast bounds n r → IsLeast (IsIn used r n) p → IsLeast (IsRoom used n) p
least_room used bounds n r p whole sound high first h = record {
  holds = record { region = r; exists = omega (arith, first.within); inside = h.holds.inside; free = h.holds.free };
  least = λ other room. elim (cases_lt other p) [
    | inr ge ↦ ge
    | inl lt ↦ elim (cases_lt room.region r) [
      | inl before ↦
          let bound : n ≤ get_or bounds room.region 0 = sound room.region other n (omega (arith, first.within)) high (record { inside = room.inside; free = room.free }) in
          let small : get_or bounds room.region 0 < n = first.first room.region before in
          absurd (omega arith)
      | inr after ↦
          let same : room.region ≡ r = omega (arith, room.inside.low, h.holds.inside.high) in
          h.least other (record { inside = subst (λ (q : ℕ). InRegion q other n) same room.inside; free = room.free })
    ]
  ];
}

pub no_room : (used : List Bool) (bounds : List ℕ) (n : ℕ) → length used ≡ 3968 * length bounds → AreBounds used bounds → n ≤ 128 → ((r : ℕ) → r < length bounds → get_or bounds r 0 < n) → (p : ℕ) → IsRoom used n p → ⊥
no_room used bounds n whole sound high none p room =
    let bound : n ≤ get_or bounds room.region 0 = sound room.region p n (omega (arith, room.exists)) high (record { inside = room.inside; free = room.free }) in
    let small : get_or bounds room.region 0 < n = none room.region (omega (arith, room.exists)) in
    omega arith

-- a region without n free slots in a row has at most n - 1
pub lowered : (used : List Bool) (bounds : List ℕ) (n r : ℕ) → AreBounds used bounds → r < length bounds → ((p : ℕ) → IsIn used r n p → ⊥) → AreBounds used (set bounds r (n - 1))
lowered used bounds n r sound within none q p m inside high room = elim (cases_eq q r) [
  | inl e ↦ rw (e, get_or-set_same bounds r (n - 1) 0 within) (elim (cases_lt m n) [
    | inl lt ↦ omega arith
    | inr ge ↦ absurd (none p (shorter used q r n p m e ge room))
  ])
  | inr e ↦ rw (get_or-set_other bounds r q (n - 1) 0 e) (sound q p m (omega (arith, length-set bounds r (n - 1))) high room)
]
  where
    shorter : (used : List Bool) (q r n p m : ℕ) → q ≡ r → n ≤ m → IsIn used q m p → IsIn used r n p
    shorter used q r n p m e le room = record {
      inside = record { low = omega (arith, room.inside.low); high = omega (arith, room.inside.high) };
      free = λ s low high. room.free s low (omega arith);
    }

pub least_page : (used : List Bool) (bounds : List ℕ) (r p : ℕ) → length used ≡ 3968 * length bounds → ArePageBounds used bounds → IsFirstAtLeast bounds 1 r → IsLeast (IsPageIn used r) p → IsLeast (IsRoomAtEighth used) p
least_page used bounds r p whole sound first h = record {
  holds = record { room = record { region = r; exists = omega (arith, first.within); inside = h.holds.inside; free = h.holds.free }; aligned = h.holds.aligned };
  least = λ other place. elim (cases_lt other p) [
    | inr ge ↦ ge
    | inl lt ↦ let room = place.room in elim (cases_lt room.region r) [
      | inl before ↦
          let bound : 1 ≤ get_or bounds room.region 0 = sound room.region other (omega (arith, first.within)) (record { inside = room.inside; free = room.free; aligned = place.aligned }) in
          let small : get_or bounds room.region 0 < 1 = first.first room.region before in
          absurd (omega arith)
      | inr after ↦
          let same : room.region ≡ r = omega (arith, room.inside.low, h.holds.inside.high) in
          h.least other (record { inside = subst (λ (q : ℕ). InRegion q other 8) same room.inside; free = room.free; aligned = place.aligned })
    ]
  ];
}

pub no_page : (used : List Bool) (bounds : List ℕ) → length used ≡ 3968 * length bounds → ArePageBounds used bounds → ((r : ℕ) → r < length bounds → get_or bounds r 0 < 1) → (p : ℕ) → IsRoomAtEighth used p → ⊥
no_page used bounds whole sound none p place =
    let room = place.room in
    let bound : 1 ≤ get_or bounds room.region 0 = sound room.region p (omega (arith, room.exists)) (record { inside = room.inside; free = room.free; aligned = place.aligned }) in
    let small : get_or bounds room.region 0 < 1 = none room.region (omega (arith, room.exists)) in
    omega arith

-- slots that are free after some became used were free before
pub freer : {used new : List Bool} {at k : ℕ} (p n : ℕ) → Becomes used new at k true → AreAll new p n false → AreAll used p n false
freer {used} {new} {at} {k} p n h free = λ s low high. elim (cases_lt s at) [
  | inl lt ↦ sym (h.below s lt) ∙ free s low high
  | inr ge ↦ elim (cases_lt s (at + k)) [
    | inl lt ↦ absurd (true≢false (sym (h.inside s ge lt) ∙ free s low high))
    | inr past ↦ sym (h.above s past) ∙ free s low high
  ]
]

pub AreBounds-used : {used new : List Bool} {at k : ℕ} (bounds : List ℕ) → Becomes used new at k true → AreBounds used bounds → AreBounds new bounds
AreBounds-used bounds h sound r p n inside high room = sound r p n inside high (record { inside = room.inside; free = freer p n h room.free })

pub ArePageBounds-used : {used new : List Bool} {at k : ℕ} (bounds : List ℕ) → Becomes used new at k true → ArePageBounds used bounds → ArePageBounds new bounds
ArePageBounds-used bounds h sound r p inside room = sound r p inside (record { inside = room.inside; free = freer p 8 h room.free; aligned = room.aligned })

-- a free run apart from those that became free was free before
pub apart : {used new : List Bool} {at k : ℕ} (r p n : ℕ) → Becomes used new at k false → InRegion r p n → (3968 * r + 3968 ≤ at) → AreAll new p n false → AreAll used p n false
apart r p n h inside past free = λ s low high. sym (h.below s (omega (arith, inside.high))) ∙ free s low high

pub apart_above : {used new : List Bool} {at k : ℕ} (r p n : ℕ) → Becomes used new at k false → InRegion r p n → (at + k ≤ 3968 * r) → AreAll new p n false → AreAll used p n false
apart_above r p n h inside past free = λ s low high. sym (h.above s (omega (arith, inside.low))) ∙ free s low high

pub AreBounds-freed : {used new : List Bool} {at k : ℕ} (bounds raised : List ℕ) → Becomes used new at k false → Raises bounds raised (at / 3968) ((at + k + 3967) / 3968) → AreBounds used bounds → AreBounds new raised
AreBounds-freed {used} {new} {at} {k} bounds raised h g sound r p n inside high room = elim (cases_lt r (at / 3968)) [
  | inl lt ↦ rw (g.below r lt) (sound r p n (omega (arith, g.size)) high (record { inside = room.inside; free = apart r p n h room.inside (omega arith) room.free }))
  | inr ge ↦ elim (cases_lt r ((at + k + 3967) / 3968)) [
    | inl lt ↦ rw (g.raised r ge lt) high
    | inr past ↦ rw (g.above r past) (sound r p n (omega (arith, g.size)) high (record { inside = room.inside; free = apart_above r p n h room.inside (omega arith) room.free }))
  ]
]

pub ArePageBounds-freed : {used new : List Bool} {at k : ℕ} (bounds raised : List ℕ) → Becomes used new at k false → Raises bounds raised (at / 3968) ((at + k + 3967) / 3968) → ArePageBounds used bounds → ArePageBounds new raised
ArePageBounds-freed {used} {new} {at} {k} bounds raised h g sound r p inside room = elim (cases_lt r (at / 3968)) [
  | inl lt ↦ rw (g.below r lt) (sound r p (omega (arith, g.size)) (record { inside = room.inside; free = apart r p 8 h room.inside (omega arith) room.free; aligned = room.aligned }))
  | inr ge ↦ elim (cases_lt r ((at + k + 3967) / 3968)) [
    | inl lt ↦ rw (g.raised r ge lt) (omega arith)
    | inr past ↦ rw (g.above r past) (sound r p (omega (arith, g.size)) (record { inside = room.inside; free = apart_above r p 8 h room.inside (omega arith) room.free; aligned = room.aligned }))
  ]
]
