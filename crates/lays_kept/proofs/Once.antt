-- Places meet nowhere just where no slot is covered twice.
use Rattle.std.proofs.Common.{inl, inr, ℕ, ◌<◌, ◌≤◌, List, [], ◌∷◌, refl, arith, ⊎_elim}
use Rattle.std.proofs.lemmas.Bool.{cases_lt}
use Rattle.pst_base.specs.declared.places.Place.{Place}
use Rattle.alloc_map.specs.Slots.{slot_of}
use Rattle.alloc_map.specs.Standing.{Covers, SomeCovers, Meet, MeetsSome, IsMeeting}
use Rattle.alloc_map.specs.Covered.{IsTwice, Once}

meets_covers : (p : Place) (ps : List Place) (slot : ℕ) → MeetsSome p ps slot → Covers p slot × SomeCovers ps slot
unfolding MeetsSome SomeCovers
meets_covers p [] slot meets = absurd meets
meets_covers p (q ∷ qs) slot (inl meet) = (meet.first, inl meet.second)
meets_covers p (q ∷ qs) slot (inr meets) = let rest = meets_covers p qs slot meets in (rest.0, inr rest.1)

twice_of : (ps : List Place) (slot : ℕ) → IsMeeting ps slot → IsTwice ps slot
unfolding IsMeeting IsTwice
twice_of [] slot meeting = absurd meeting
twice_of (p ∷ ps) slot (inl meets) = inl (meets_covers p ps slot meets)
twice_of (p ∷ ps) slot (inr meeting) = inr (twice_of ps slot meeting)

-- where no slot is covered twice, no two places meet
pub once_apart : (ps : List Place) → Once ps → (slot : ℕ) → IsMeeting ps slot → ⊥
once_apart ps once slot meeting = once slot (twice_of ps slot meeting)

meet_at : (p q : Place) (slot : ℕ) → Covers p slot → Covers q slot → (at : ℕ) × Meet p q at
meet_at p q slot one two = ⊎_elim
    (λ (first : slot_of p.ib < slot_of q.ib). (
      slot_of q.ib,
      record {
        first = record { begins = omega (arith, first); ends = omega (arith, one.ends, two.begins) };
        second = record { begins = omega arith; ends = omega (arith, two.begins, two.ends) };
        later = inr refl;
      },
    ))
    (λ (later : slot_of q.ib ≤ slot_of p.ib). (
      slot_of p.ib,
      record {
        first = record { begins = omega arith; ends = omega (arith, one.begins, one.ends) };
        second = record { begins = later; ends = omega (arith, two.ends, one.begins) };
        later = inl refl;
      },
    ))
    (cases_lt (slot_of p.ib) (slot_of q.ib))

some_meet : (p : Place) (ps : List Place) (slot : ℕ) → Covers p slot → SomeCovers ps slot → (at : ℕ) × MeetsSome p ps at
unfolding MeetsSome SomeCovers
some_meet p [] slot one two = absurd two
some_meet p (q ∷ qs) slot one (inl two) = let m = meet_at p q slot one two in (m.0, inl m.1)
some_meet p (q ∷ qs) slot one (inr two) = let m = some_meet p qs slot one two in (m.0, inr m.1)

meeting_of : (ps : List Place) (slot : ℕ) → IsTwice ps slot → (at : ℕ) × IsMeeting ps at
unfolding IsMeeting IsTwice
meeting_of [] slot twice = absurd twice
meeting_of (p ∷ ps) slot (inl both) = let m = some_meet p ps slot both.0 both.1 in (m.0, inl m.1)
meeting_of (p ∷ ps) slot (inr twice) = let m = meeting_of ps slot twice in (m.0, inr m.1)

-- and the other way round
pub apart_once : (ps : List Place) → ((slot : ℕ) → IsMeeting ps slot → ⊥) → Once ps
apart_once ps apart slot twice = let m = meeting_of ps slot twice in apart m.0 m.1
