use Rattle.std.proofs.Common.{◌≡◌, ◌∙◌, ◌*◌, ℕ, true, length, subst, arith}
use Rattle.alloc_map.specs.Rooms.{IsSound}
use Rattle.alloc_map.specs.Slots.{Becomes, IsPageRoom, regions_of, slot_of}
use Rattle.alloc_map.proofs.SlotLaws.{IsSound-used, least_begins, least_page_room, room_at_eighth}
use Rattle.alloc_map.proofs.TakeLaws.{no-page, page-takes}
use Rattle.alloc_map.proofs.slots.Slots.place_page.Goals as goal

pub returns-in_default-clause-none : goal.returns-in_default-clause-none
returns-in_default-clause-none c = rw (← c.self.view_is) (λ slot room. (rw c.bits.ensures at c.in_default.ensures.none) slot (room_at_eighth c.self.inside.used slot room))

pub invariant_of-self-2 : goal.invariant_of-self-2
invariant_of-self-2 c =
    let was = c.self.invariant in
    let found = c.find_page.ensures in
    let sound : IsSound c.self.inside.used c.self.inside.bounds c.find_page.new.bounds = record {
      whole = was.whole;
      some = was.some;
      few = was.few;
      paged = found.same ∙ was.paged;
      bounded = was.bounded;
      page_bounded = rw c.bits.ensures at found.sound;
    } in
    IsSound-used sound c.fill.ensures

pub returns-clause-least : goal.returns-clause-least
returns-clause-least c = rw (← c.self.view_is) (least_begins (IsPageRoom c.self.inside.used) c.in-Some.slot c.start_of.result c.start_of.ensures (least_page_room c.self.inside.used c.in-Some.slot (rw c.bits.ensures at c.in-Some.ensures.some)))

pub returns-in_default-clause-full : goal.returns-in_default-clause-full
returns-in_default-clause-full c =
    let used = c.self.inside.used in
    let whole : length used ≡ 3968 * regions_of used = omega (arith, c.self.invariant.whole) in
    rw (← c.self.view_is) (no-page used whole (λ slot room. (rw c.bits.ensures at c.in_default.ensures.none) slot (room_at_eighth used slot room)))

pub returns-clause-takes : goal.returns-clause-takes
returns-clause-takes c =
    let used = c.self.inside.used in
    let whole : length used ≡ 3968 * regions_of used = omega (arith, c.self.invariant.whole) in
    let least = least_begins (IsPageRoom used) c.in-Some.slot c.start_of.result c.start_of.ensures (least_page_room used c.in-Some.slot (rw c.bits.ensures at c.in-Some.ensures.some)) in
    let same : c.in-Some.slot ≡ slot_of c.start_of.result = omega (arith, c.start_of.ensures) in
    rw (← c.self.view_is) (page-takes used c.fill.new.self c.start_of.result whole least (subst (λ (s : ℕ). Becomes used c.fill.new.self s 8 true) same c.fill.ensures))
