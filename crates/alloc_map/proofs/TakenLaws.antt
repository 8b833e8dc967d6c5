-- Places taken and given back.
use Rattle.std.proofs.Common.{Bool, true, false, ◌≡◌, ◌∙◌, ◌⊎◌, inl, inr, ℕ, zero, suc, ◌+◌, ◌*◌, ◌/◌, ◌≤◌, ◌<◌, List, [], ◌∷◌, ◌++◌, length, map, take, get_or, refl, sym, ap, subst, arith}
use Rattle.std.proofs.lemmas.Bool.{cases_lt, true≢false}
use Rattle.std.proofs.lemmas.List.{ext_get_or, map-append, take_more}
use Rattle.std.proofs.lemmas.List.Elements.{All-append, All-cons, All-head, All-nil, All-tail}
use Rattle.std.proofs.lemmas.List.Sums.{sum_by-cons}
use Rattle.std.proofs.lemmas.List.Sorted.{All-permutation, sum_by-IsPermutation}
use Rattle.std.specs.List.{sum_by, All}
use Rattle.std.specs.List.Sorted.{IsPermutation}
use Rattle.pst_base.specs.declared.places.Place.{Place}
use Rattle.alloc_map.specs.Slots.{AreAll, Becomes, BeginsLeast, IsLaid, IsPageRoom, IsRoom, is_used, regions_of, slot_of, slots_in}
use Rattle.alloc_map.specs.Standing.{Covers, SomeCovers, IsCovered}
use Rattle.alloc_map.specs.Covered.{IsTwice, Once}
use Rattle.alloc_map.specs.Taken.{IsAll, Takes, Taken}
use Rattle.alloc_map.specs.Tally.{one_at, tally}
use Rattle.alloc_map.proofs.CoverLaws.{covers_either, covers_first, covers_last}
use Rattle.alloc_map.proofs.TallyLaws.{once_reordered, some_tally, tally_append, tally_some}

in-or-out : (q : Place) (slot : ℕ) → Covers q slot ⊎ ((slot < slot_of q.ib) ⊎ (slot_of q.ib + slots_in q ≤ slot))
in-or-out q slot = elim (cases_lt slot (slot_of q.ib)) [
  | inl low ↦ inr (inl low)
  | inr high ↦ elim (cases_lt slot (slot_of q.ib + slots_in q)) [ inl within ↦ inl (record { begins = high; ends = within }) | inr past ↦ inr (inr past) ]
]

covers-cases : (q : Place) (ps : List Place) (slot : ℕ) → SomeCovers (q ∷ ps) slot → Covers q slot ⊎ SomeCovers ps slot
unfolding SomeCovers
covers-cases q ps slot covers = covers

covers-first : (p : Place) (ps : List Place) (slot : ℕ) → Covers p slot → SomeCovers (p ∷ ps) slot
unfolding SomeCovers
covers-first p ps slot c = inl c

covers-later : (p : Place) (ps : List Place) (slot : ℕ) → SomeCovers ps slot → SomeCovers (p ∷ ps) slot
unfolding SomeCovers
covers-later p ps slot c = inr c

once-first : (p : Place) (ps : List Place) → Once (p ∷ ps) → (slot : ℕ) → Covers p slot → SomeCovers ps slot → ⊥
unfolding IsTwice
once-first p ps once slot a b = once slot (inl (a, b))

once-rest : (p : Place) (ps : List Place) → Once (p ∷ ps) → Once ps
unfolding IsTwice
once-rest p ps once slot twice = once slot (inr twice)

beside : {old new : List Bool} {at n : ℕ} {v : Bool} (slot : ℕ) → Becomes old new at n v → (slot < at) ⊎ (at + n ≤ slot) → is_used new slot ≡ is_used old slot
beside slot becomes (inl low) = becomes.below slot low
beside slot becomes (inr high) = becomes.above slot high

no-cover : (slot : ℕ) → SomeCovers [] slot → ⊥
unfolding SomeCovers
no-cover slot c = c

pub taken-none : (used : List Bool) → Taken used used []
unfolding IsTwice
taken-none used = record { size = refl; laid = All-nil (IsLaid (regions_of used)); covered = λ slot c. absurd (no-cover slot c); others = λ slot no. refl; once = λ slot twice. twice }

-- one more place is taken
pub taken-more : (before now next : List Bool) (p : Place) (ps : List Place) → Taken before now ps → IsLaid (regions_of before) p → AreAll now (slot_of p.ib) (slots_in p) false → Becomes now next (slot_of p.ib) (slots_in p) true → Taken before next (p ∷ ps)
unfolding IsTwice
taken-more before now next p ps taken laid free becomes = record {
  size = becomes.size ∙ taken.size;
  laid = All-cons (IsLaid (regions_of before)) p ps laid taken.laid;
  covered = λ slot c. elim (covers-cases p ps slot c) [
    | inl here ↦ (becomes.inside slot here.begins here.ends, sym (taken.others slot (λ there. clash slot here there)) ∙ free slot here.begins here.ends)
    | inr there ↦ elim (in-or-out p slot) [
      | inl here ↦ absurd (clash slot here there)
      | inr out ↦ (beside slot becomes out ∙ (taken.covered slot there).0, (taken.covered slot there).1)
    ]
  ];
  others = λ slot none. elim (in-or-out p slot) [
    | inl here ↦ absurd (none (covers-first p ps slot here))
    | inr out ↦ beside slot becomes out ∙ taken.others slot (λ there. none (covers-later p ps slot there))
  ];
  once = λ slot twice. by slot twice;
}
  where
    clash : (slot : ℕ) → Covers p slot → SomeCovers ps slot → ⊥
    clash slot here there = true≢false (sym (taken.covered slot there).0 ∙ free slot here.begins here.ends)

    by : (slot : ℕ) → IsTwice (p ∷ ps) slot → ⊥
    by slot (inl both) = clash slot both.0 both.1
    by slot (inr twice) = taken.once slot twice

-- the first of them is given back
pub taken-back : (before now next : List Bool) (p : Place) (ps : List Place) → Taken before now (p ∷ ps) → Becomes now next (slot_of p.ib) (slots_in p) false → Taken before next ps
taken-back before now next p ps taken becomes = record {
  size = becomes.size ∙ taken.size;
  laid = All-tail (IsLaid (regions_of before)) p ps taken.laid;
  covered = λ slot there. elim (in-or-out p slot) [
    | inl here ↦ absurd (once-first p ps taken.once slot here there)
    | inr out ↦ (beside slot becomes out ∙ (taken.covered slot (covers-later p ps slot there)).0, (taken.covered slot (covers-later p ps slot there)).1)
  ];
  others = λ slot none. elim (in-or-out p slot) [
    | inl here ↦ becomes.inside slot here.begins here.ends ∙ sym (taken.covered slot (covers-first p ps slot here)).1
    | inr out ↦ beside slot becomes out ∙ taken.others slot (λ c. elim (covers-cases p ps slot c) [ inl here ↦ outside here out | inr there ↦ none there ])
  ];
  once = once-rest p ps taken.once;
}
  where
    outside : {slot : ℕ} → Covers p slot → (slot < slot_of p.ib) ⊎ (slot_of p.ib + slots_in p ≤ slot) → ⊥
    outside here (inl low) = let a = here.begins in absurd (omega (arith, a, low))
    outside here (inr high) = let a = here.ends in absurd (omega (arith, a, high))

-- the first is used, and lies in the regions
pub taken-first : (before now : List Bool) (p : Place) (ps : List Place) → Taken before now (p ∷ ps) → IsLaid (regions_of now) p × AreAll now (slot_of p.ib) (slots_in p) true
taken-first before now p ps taken = (
  subst (λ (n : ℕ). IsLaid n p) (ap (λ (k : ℕ). k / 3968) (sym taken.size)) (All-head (IsLaid (regions_of before)) p ps taken.laid),
  λ slot low high. (taken.covered slot (covers-first p ps slot (record { begins = low; ends = high }))).0,
)

-- the first of them is taken first
pub taken-rest : (before mid now : List Bool) (p : Place) (ps : List Place) → Taken before now (p ∷ ps) → Becomes before mid (slot_of p.ib) (slots_in p) true → Taken mid now ps
taken-rest before mid now p ps taken becomes = record {
  size = taken.size ∙ sym becomes.size;
  laid = subst (λ (n : ℕ). All (IsLaid n) ps) (ap (λ (k : ℕ). k / 3968) (sym becomes.size)) (All-tail (IsLaid (regions_of before)) p ps taken.laid);
  covered = λ slot there. elim (in-or-out p slot) [
    | inl here ↦ absurd (once-first p ps taken.once slot here there)
    | inr out ↦ ((taken.covered slot (covers-later p ps slot there)).0, beside slot becomes out ∙ (taken.covered slot (covers-later p ps slot there)).1)
  ];
  others = λ slot none. elim (in-or-out p slot) [
    | inl here ↦ (taken.covered slot (covers-first p ps slot here)).0 ∙ sym (becomes.inside slot here.begins here.ends)
    | inr out ↦ taken.others slot (λ c. elim (covers-cases p ps slot c) [ inl here ↦ outside here out | inr there ↦ none there ]) ∙ sym (beside slot becomes out)
  ];
  once = once-rest p ps taken.once;
}
  where
    outside : {slot : ℕ} → Covers p slot → (slot < slot_of p.ib) ⊎ (slot_of p.ib + slots_in p ≤ slot) → ⊥
    outside here (inl low) = let a = here.begins in absurd (omega (arith, a, low))
    outside here (inr high) = let a = here.ends in absurd (omega (arith, a, high))

-- and its slots are free before
pub taken-free : (before now : List Bool) (p : Place) (ps : List Place) → Taken before now (p ∷ ps) → IsAll before p false
taken-free before now p ps taken = record {
  laid = All-head (IsLaid (regions_of before)) p ps taken.laid;
  all = λ slot low high. (taken.covered slot (covers-first p ps slot (record { begins = low; ends = high }))).1;
}

-- and used after
pub taken-used : (before now : List Bool) (p : Place) (ps : List Place) → Taken before now (p ∷ ps) → IsAll now p true
taken-used before now p ps taken = let f = taken-first before now p ps taken in record { laid = f.0; all = f.1 }

-- once all are given back, the slots are as before
pub taken-all : (before now : List Bool) → Taken before now [] → now ≡ before
taken-all before now taken = ext_get_or false now before taken.size (λ i lt. taken.others i (λ c. no-cover i c))

-- ---- the least places

pub takes-more : (P : List Bool → Place → Type 0) (used now next : List Bool) (ps : List Place) (p : Place) → Takes P used ps now → P now p → Becomes now next (slot_of p.ib) (slots_in p) true → Takes P used (ps ++ p ∷ []) next
takes-more P used now next [] p takes least becomes = (next, subst (λ (u : List Bool). P u p) takes least, subst (λ (u : List Bool). Becomes u next (slot_of p.ib) (slots_in p) true) takes becomes, refl)
takes-more P used now next (q ∷ ps) p takes least becomes = (takes.0, takes.1, takes.2, takes-more P takes.0 now next ps p takes.3 least becomes)

-- the last place may stand first
covers-push : (p : Place) (ps : List Place) (slot : ℕ) → SomeCovers (ps ++ p ∷ []) slot → SomeCovers (p ∷ ps) slot
unfolding SomeCovers
covers-push p [] slot c = c
covers-push p (q ∷ ps) slot (inl here) = inr (inl here)
covers-push p (q ∷ ps) slot (inr there) = elim (covers-push p ps slot there) [ inl x ↦ inl x | inr x ↦ inr (inr x) ]

push-covers : (p : Place) (ps : List Place) (slot : ℕ) → SomeCovers (p ∷ ps) slot → SomeCovers (ps ++ p ∷ []) slot
unfolding SomeCovers
push-covers p [] slot c = c
push-covers p (q ∷ ps) slot (inl here) = inr (push-covers p ps slot (inl here))
push-covers p (q ∷ ps) slot (inr (inl there)) = inl there
push-covers p (q ∷ ps) slot (inr (inr there)) = inr (push-covers p ps slot (inr there))

pub taken-push : (before now next : List Bool) (p : Place) (ps : List Place) → Taken before now ps → IsLaid (regions_of before) p → AreAll now (slot_of p.ib) (slots_in p) false → Becomes now next (slot_of p.ib) (slots_in p) true → Taken before next (ps ++ p ∷ [])
taken-push before now next p ps taken laid free becomes =
    let t = taken-more before now next p ps taken laid free becomes in
    record {
      size = t.size;
      laid = All-append (IsLaid (regions_of before)) ps (p ∷ []) taken.laid (All-cons (IsLaid (regions_of before)) p [] laid (All-nil (IsLaid (regions_of before))));
      covered = λ slot c. t.covered slot (covers-push p ps slot c);
      others = λ slot none. t.others slot (λ c. none (push-covers p ps slot c));
      once = once_reordered (p ∷ ps) (ps ++ p ∷ []) (λ slot. let a = tally_append slot ps (p ∷ []) in omega (arith, a)) t.once;
    }

-- a page's place lies in the regions
pub page-laid : (used : List Bool) (ib : ℕ) → BeginsLeast (IsPageRoom used) ib → IsLaid (regions_of used) (record { ib = ib; len = 512 }) × AreAll used (slot_of ib) 8 false
page-laid used ib least =
    let room = (least.holds).room in
    let low = (room.inside).low in
    let high = (room.inside).high in
    let exists = room.exists in
    let start = least.start in
    (record { above = omega (arith, start); start = omega (arith, start); whole = refl; within = omega (arith, start, high, exists) }, room.free)

-- a block's place lies in the regions
pub block-laid : (used : List Bool) (m ib : ℕ) → BeginsLeast (IsRoom used (64 * m / 64)) ib → IsLaid (regions_of used) (record { ib = ib; len = 64 * m }) × AreAll used (slot_of ib) (64 * m / 64) false
block-laid used m ib least =
    let room = least.holds in
    let low = (room.inside).low in
    let high = (room.inside).high in
    let exists = room.exists in
    let start = least.start in
    (record { above = omega (arith, start); start = omega (arith, start); whole = omega arith; within = omega (arith, start, high, exists) }, room.free)

-- the places so far have the slots that were asked for
pub more_sized : (sizes : List ℕ) (ps qs : List Place) (p : Place) (i n : ℕ) → qs ≡ ps ++ p ∷ [] → map slots_in ps ≡ take i sizes → i < length sizes → get_or sizes i 0 ≡ n → slots_in p ≡ n → map slots_in qs ≡ take (i + 1) sizes
more_sized sizes ps qs p i n items so_far within here own =
    ap (λ (l : List Place). map slots_in l) items ∙ map-append slots_in ps (p ∷ []) ∙ rw (so_far, own, ← here) (sym (take_more sizes i 0 within))

-- ---- beside what stood

used-within : (used : List Bool) (slot : ℕ) → is_used used slot ≡ true → slot < length used
used-within [] slot is = absurd (true≢false (sym is))
used-within (u ∷ used) zero is = omega arith
used-within (u ∷ used) (suc slot) is = let h = used-within used slot is in omega (arith, h)

twice-parts : (xs ys : List Place) (slot : ℕ) → IsTwice (xs ++ ys) slot → IsTwice xs slot ⊎ (IsTwice ys slot ⊎ (SomeCovers xs slot × SomeCovers ys slot))
unfolding IsTwice SomeCovers
twice-parts [] ys slot twice = inr (inl twice)
twice-parts (x ∷ xs) ys slot (inl both) = elim (covers_either xs ys slot both.1) [ inl a ↦ inl (inl (both.0, a)) | inr b ↦ inr (inr (inl both.0, b)) ]
twice-parts (x ∷ xs) ys slot (inr twice) = elim (twice-parts xs ys slot twice) [
  | inl a ↦ inl (inr a)
  | inr b ↦ elim b [ inl c ↦ inr (inl c) | inr d ↦ inr (inr (inr d.0, d.1)) ]
]

-- places taken beside those that stand are covered once
pub taken-beside : (ps qs : List Place) (used now : List Bool) → IsCovered ps used → Once ps → Taken used now qs → Once (qs ++ ps)
taken-beside ps qs used now covered once taken slot twice = elim (twice-parts qs ps slot twice) [
  | inl a ↦ taken.once slot a
  | inr b ↦ elim b [
    | inl c ↦ once slot c
    | inr d ↦
        let c = taken.covered slot d.0 in
        let lt = used-within now slot c.0 in
        let size = taken.size in
        true≢false (sym ((covered slot (omega (arith, lt, size))).1 d.1) ∙ c.1)
  ]
]

-- ---- in any order

tally-sum : (slot : ℕ) (ps : List Place) → tally slot ps ≡ sum_by (one_at slot) ps
tally-sum slot [] = refl
tally-sum slot (p ∷ ps) = ap (λ (n : ℕ). one_at slot p + n) (tally-sum slot ps) ∙ sym (sum_by-cons (one_at slot) p ps)

pub tally-reordered : (slot : ℕ) (ps qs : List Place) → IsPermutation ps qs → tally slot qs ≡ tally slot ps
tally-reordered slot ps qs moved = tally-sum slot qs ∙ sum_by-IsPermutation (one_at slot) ps qs moved ∙ sym (tally-sum slot ps)

covers-reordered : (slot : ℕ) (ps qs : List Place) → tally slot qs ≡ tally slot ps → SomeCovers qs slot → SomeCovers ps slot
covers-reordered slot ps qs same covers = let some = some_tally qs slot covers in tally_some ps slot (omega (arith, some, same))

-- the places may stand in any order
pub taken-reordered : (before now : List Bool) (ps qs : List Place) → IsPermutation ps qs → Taken before now ps → Taken before now qs
taken-reordered before now ps qs moved taken = record {
  size = taken.size;
  laid = All-permutation (IsLaid (regions_of before)) ps qs moved taken.laid;
  covered = λ slot c. taken.covered slot (covers-reordered slot ps qs (tally-reordered slot ps qs moved) c);
  others = λ slot none. taken.others slot (λ c. none (covers-reordered slot qs ps (sym (tally-reordered slot ps qs moved)) c));
  once = once_reordered ps qs (λ slot. let same = tally-reordered slot ps qs moved in omega (arith, same)) taken.once;
}

-- places taken after others are taken with them
pub taken-both : (before mid now : List Bool) (ps qs : List Place) → Taken before mid ps → Taken mid now qs → Taken before now (qs ++ ps)
taken-both before mid now ps qs one two = record {
  size = two.size ∙ one.size;
  laid = All-append (IsLaid (regions_of before)) qs ps (subst (λ (n : ℕ). All (IsLaid n) qs) (ap (λ (k : ℕ). k / 3968) one.size) two.laid) one.laid;
  covered = λ slot c. elim (covers_either qs ps slot c) [
    | inl a ↦ ((two.covered slot a).0, sym (one.others slot (λ b. clash slot b a)) ∙ (two.covered slot a).1)
    | inr b ↦ (two.others slot (λ a. clash slot b a) ∙ (one.covered slot b).0, (one.covered slot b).1)
  ];
  others = λ slot none. two.others slot (λ a. none (covers_first qs ps slot a)) ∙ one.others slot (λ b. none (covers_last qs ps slot b));
  once = λ slot twice. elim (twice-parts qs ps slot twice) [
    | inl a ↦ two.once slot a
    | inr b ↦ elim b [ inl c ↦ one.once slot c | inr d ↦ clash slot d.1 d.0 ]
  ];
}
  where
    clash : (slot : ℕ) → SomeCovers ps slot → SomeCovers qs slot → ⊥
    clash slot b a = true≢false (sym (one.covered slot b).0 ∙ (two.covered slot a).1)

-- places taken beside those that stand are covered with them
pub covered-beside : (ps qs : List Place) (used now : List Bool) → IsCovered ps used → Taken used now qs → IsCovered (qs ++ ps) now
covered-beside ps qs used now covered taken slot below =
    let size = taken.size in
    let lt : slot < length used = omega (arith, size) in (
      λ on. elim (cases_lt 0 (tally slot qs)) [
        | inl some ↦ covers_first qs ps slot (tally_some qs slot (omega (arith, some)))
        | inr none ↦ covers_last qs ps slot ((covered slot lt).0 (sym (taken.others slot (λ c. let one = some_tally qs slot c in omega (arith, one, none))) ∙ on))
      ],
      λ c. elim (covers_either qs ps slot c) [
        | inl own ↦ (taken.covered slot own).0
        | inr stood ↦ elim (cases_lt 0 (tally slot qs)) [
          | inl some ↦ (taken.covered slot (tally_some qs slot (omega (arith, some)))).0
          | inr none ↦ taken.others slot (λ c. let one = some_tally qs slot c in omega (arith, one, none)) ∙ (covered slot lt).1 stood
        ]
      ],
    )
