use Rattle.std.proofs.Common.{◌≡◌, ◌*◌, ◌/◌, ℕ, true, length, subst, arith}
use Rattle.alloc_map.specs.Slots.{Becomes, IsRoom, regions_of, slot_of}
use Rattle.alloc_map.proofs.SlotLaws.{IsSound-lowered, IsSound-used, least_begins}
use Rattle.alloc_map.proofs.TakeLaws.{block-takes, no-block}
use Rattle.alloc_map.proofs.slots.Slots.place_block.Goals as goal

pub returns-in_default-clause-none : goal.returns-in_default-clause-none
returns-in_default-clause-none c = rw (← c.self.view_is) (rw c.bits.ensures at c.in_default.ensures.none)

pub find_block-requires-clause-sound : goal.find_block-requires-clause-sound
find_block-requires-clause-sound c = rw c.bits.ensures c.self.invariant.bounded

pub invariant_of-self : goal.invariant_of-self
invariant_of-self c = IsSound-lowered c.self.invariant (c.find_block.ensures).same (rw c.bits.ensures at (c.find_block.ensures).sound)

pub invariant_of-self-2 : goal.invariant_of-self-2
invariant_of-self-2 c = IsSound-used (IsSound-lowered c.self.invariant (c.find_block.ensures).same (rw c.bits.ensures at (c.find_block.ensures).sound)) c.fill.ensures

pub returns-clause-least : goal.returns-clause-least
returns-clause-least c = rw (← c.self.view_is) (least_begins (IsRoom c.self.inside.used (c.args.len / 64)) c.in-Some.slot c.start_of.result c.start_of.ensures (rw c.bits.ensures at c.in-Some.ensures.some))

pub returns-in_default-clause-full : goal.returns-in_default-clause-full
returns-in_default-clause-full c =
    let used = c.self.inside.used in
    let whole : length used ≡ 3968 * regions_of used = omega (arith, c.self.invariant.whole) in
    rw (← c.self.view_is) (no-block used (c.args.len / 64) whole (omega (arith, c.requires.high)) (rw c.bits.ensures at c.in_default.ensures.none))

pub returns-clause-takes : goal.returns-clause-takes
returns-clause-takes c =
    let used = c.self.inside.used in
    let n = c.args.len / 64 in
    let whole : length used ≡ 3968 * regions_of used = omega (arith, c.self.invariant.whole) in
    let least = least_begins (IsRoom used n) c.in-Some.slot c.start_of.result c.start_of.ensures (rw c.bits.ensures at c.in-Some.ensures.some) in
    let same : c.in-Some.slot ≡ slot_of c.start_of.result = omega (arith, c.start_of.ensures) in
    rw (← c.self.view_is) (block-takes used c.fill.new.self n c.start_of.result whole (omega (arith, c.requires.high)) (omega (arith, c.requires.low)) least (subst (λ (s : ℕ). Becomes used c.fill.new.self s n true) same c.fill.ensures))
