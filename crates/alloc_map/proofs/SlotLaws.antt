-- What stays true of the used slots and their bounds, and where places begin.
use Rattle.std.proofs.Common.{◌≡◌, ◌+◌, ◌/◌, ℕ, Bool, true, false, List, length, sym, subst, ◌∙◌, arith}
use Rattle.std.proofs.lemmas.Bool.{or_parts}
use Rattle.alloc_map.specs.Bounds.{Raises}
use Rattle.alloc_map.specs.Rooms.{AreBounds, IsLeast, IsRoomAtEighth, IsSound}
use Rattle.alloc_map.specs.Slots.{is_used, Becomes, BeginsLeast, IsPageRoom, Unites, slot_of, start_of}
use Rattle.alloc_map.proofs.RoomLaws.{AreBounds-used, ArePageBounds-used, AreBounds-freed, ArePageBounds-freed}

pub IsSound-used : {used new : List Bool} {at k : ℕ} {bounds pages : List ℕ} → IsSound used bounds pages → Becomes used new at k true → IsSound new bounds pages
IsSound-used {used} {new} {at} {k} {bounds} {pages} h g = record {
  whole = g.size ∙ h.whole;
  some = h.some;
  few = h.few;
  paged = h.paged;
  bounded = AreBounds-used bounds g h.bounded;
  page_bounded = ArePageBounds-used pages g h.page_bounded;
}

-- a search may lower bounds
pub IsSound-lowered : {used : List Bool} {bounds pages bounds' : List ℕ} → IsSound used bounds pages → length bounds' ≡ length bounds → AreBounds used bounds' → IsSound used bounds' pages
IsSound-lowered h same sound = record {
  whole = rw same h.whole;
  some = rw same h.some;
  few = rw same h.few;
  paged = rw same h.paged;
  bounded = sound;
  page_bounded = h.page_bounded;
}

pub IsSound-freed : {used new : List Bool} {at k : ℕ} {bounds pages bounds' pages' : List ℕ} → IsSound used bounds pages → Becomes used new at k false → Raises bounds bounds' (at / 3968) ((at + k + 3967) / 3968) → Raises pages pages' (at / 3968) ((at + k + 3967) / 3968) → IsSound new bounds' pages'
IsSound-freed {used} {new} {at} {k} {bounds} {pages} {bounds'} {pages'} h g b p = record {
  whole = omega (arith, g.size, h.whole, b.size);
  some = omega (arith, h.some, b.size);
  few = omega (arith, h.few, b.size);
  paged = p.size ∙ h.paged ∙ sym b.size;
  bounded = AreBounds-freed bounds bounds' g b h.bounded;
  page_bounded = ArePageBounds-freed pages pages' g p h.page_bounded;
}

-- where the union is free, the first set is
pub IsSound-united : {used other new : List Bool} {bounds pages : List ℕ} → IsSound used bounds pages → Unites used other new → IsSound new bounds pages
IsSound-united {used} {other} {new} {bounds} {pages} h g = record {
  whole = g.size ∙ h.whole;
  some = h.some;
  few = h.few;
  paged = h.paged;
  bounded = λ r p n inside high room. h.bounded r p n inside high (record { inside = room.inside; free = λ s low top. (or_parts (is_used used s) (is_used other s) (sym (g.either s) ∙ room.free s low top)).0 });
  page_bounded = λ r p inside room. h.page_bounded r p inside (record { inside = room.inside; free = λ s low top. (or_parts (is_used used s) (is_used other s) (sym (g.either s) ∙ room.free s low top)).0; aligned = room.aligned });
}

pub least_begins : (P : ℕ → Type 0) (slot ib : ℕ) → ib ≡ start_of slot → IsLeast P slot → BeginsLeast P ib
least_begins P slot ib e h =
    let same : slot ≡ slot_of ib = omega arith in
    record {
      start = rw (← same) e;
      holds = subst P same h.holds;
      least = λ other x. rw (← same) (h.least other x);
    }

pub page_room : (used : List Bool) (slot : ℕ) → IsRoomAtEighth used slot → IsPageRoom used slot
page_room used slot h = record { room = h.room; aligned = omega (arith, h.aligned) }

pub room_at_eighth : (used : List Bool) (slot : ℕ) → IsPageRoom used slot → IsRoomAtEighth used slot
room_at_eighth used slot h = record { room = h.room; aligned = omega (arith, h.aligned) }

pub least_page_room : (used : List Bool) (slot : ℕ) → IsLeast (IsRoomAtEighth used) slot → IsLeast (IsPageRoom used) slot
least_page_room used slot h = record { holds = page_room used slot h.holds; least = λ other x. h.least other (room_at_eighth used other x) }
