use Rattle.std.proofs.Common.{rules, ◌≡◌, ◌∙◌, ◌≤◌, ◌+◌, ◌*◌, ◌/◌, List, map, length, get_or, ℕ, [], ◌∷◌, ◌++◌, refl, sym, ap, subst, arith, length-append, true}
use Rattle.pst_base.specs.declared.places.Place.{Place as Places}
use Rattle.alloc_map.specs.Slots.{IsLaid, IsRoom, Becomes, BeginsLeast, regions_of, slot_of, slots_in}
use Rattle.alloc_map.specs.Taken.{IsBlockPlace, Taken, Takes}
use Rattle.alloc_map.proofs.TakenLaws.{taken-none, taken-push, taken-more, taken-back, takes-more, block-laid, more_sized}
use Rattle.alloc_map.proofs.slots.Slots.place_blocks.Goals as goal

pub loop-size-init : goal.loop-size-init
loop-size-init c =
    let e : c.new-places.result.items ≡ [] = search rules in
    record {
      placed = subst (λ (l : List Places). Takes IsBlockPlace c.args.self.now l c.args.self.now) (sym e) refl;
      count = ap (λ (l : List Places). length l) e;
      taken = subst (Taken c.args.self.now c.args.self.now) (sym e) (taken-none c.args.self.now);
      sized = ap (λ (l : List Places). map slots_in l) e;
      room = omega arith;
    }

pub unreachable-requires : goal.unreachable-requires
unreachable-requires c = omega (arith, c.in_default.ensures.full, c.loop-size.invariant.room, c.requires.room, c.loop-size-test.true)

pub give_back_all-requires : goal.give_back_all-requires
give_back_all-requires c =
    let n : ℕ = get_or c.args.sizes.now c.loop-size.size-index 0 in
    let low : 1 ≤ n = c.requires.low c.loop-size.size-index 0 c.loop-size-test.true in
    let high : n ≤ 128 = c.requires.high c.loop-size.size-index 0 c.loop-size-test.true in
    let p : Places = record { ib = c.in-Some.ib; len = 64 * n } in
    let items : c.as_slice.result.now ≡ c.loop-size.places.items = c.as_slice.ensures.value ∙ c.in-Err.ensures.items in
    let size = c.loop-size.invariant.taken.size in
    let least : BeginsLeast (IsRoom c.loop-size.self (64 * n / 64)) c.in-Some.ib = c.in-Some.ensures.least in
    let used : Becomes c.loop-size.self c.place_block.new.self (slot_of c.in-Some.ib) (64 * n / 64) true = c.in-Some.ensures.used in
    let laid = block-laid c.loop-size.self n c.in-Some.ib least in
    let there : IsLaid (regions_of c.args.self.now) p = subst (λ (n : ℕ). IsLaid n p) (ap (λ (k : ℕ). k / 3968) size) laid.0 in
    let back : Taken c.args.self.now c.give_back.new.self c.loop-size.places.items = taken-back c.args.self.now c.place_block.new.self c.give_back.new.self p c.loop-size.places.items
    (taken-more c.args.self.now c.loop-size.self c.place_block.new.self p c.loop-size.places.items c.loop-size.invariant.taken there laid.1 used)
    (record { size = c.give_back.ensures.size; inside = c.give_back.ensures.inside; below = c.give_back.ensures.below; above = c.give_back.ensures.above }) in
    let taken : Taken c.args.self.now c.give_back.new.self c.as_slice.result.now = subst (Taken c.args.self.now c.give_back.new.self) (sym items) back in
    record { taken = (c.args.self.now, taken) }

pub returns-in-Err-clause-back : goal.returns-in-Err-clause-back
returns-in-Err-clause-back c =
    let n : ℕ = get_or c.args.sizes.now c.loop-size.size-index 0 in
    let low : 1 ≤ n = c.requires.low c.loop-size.size-index 0 c.loop-size-test.true in
    let high : n ≤ 128 = c.requires.high c.loop-size.size-index 0 c.loop-size-test.true in
    let p : Places = record { ib = c.in-Some.ib; len = 64 * n } in
    let items : c.as_slice.result.now ≡ c.loop-size.places.items = c.as_slice.ensures.value ∙ c.in-Err.ensures.items in
    let size = c.loop-size.invariant.taken.size in
    let least : BeginsLeast (IsRoom c.loop-size.self (64 * n / 64)) c.in-Some.ib = c.in-Some.ensures.least in
    let used : Becomes c.loop-size.self c.place_block.new.self (slot_of c.in-Some.ib) (64 * n / 64) true = c.in-Some.ensures.used in
    let laid = block-laid c.loop-size.self n c.in-Some.ib least in
    let there : IsLaid (regions_of c.args.self.now) p = subst (λ (n : ℕ). IsLaid n p) (ap (λ (k : ℕ). k / 3968) size) laid.0 in
    let back : Taken c.args.self.now c.give_back.new.self c.loop-size.places.items = taken-back c.args.self.now c.place_block.new.self c.give_back.new.self p c.loop-size.places.items
    (taken-more c.args.self.now c.loop-size.self c.place_block.new.self p c.loop-size.places.items c.loop-size.invariant.taken there laid.1 used)
    (record { size = c.give_back.ensures.size; inside = c.give_back.ensures.inside; below = c.give_back.ensures.below; above = c.give_back.ensures.above }) in
    let taken : Taken c.args.self.now c.give_back.new.self c.as_slice.result.now = subst (Taken c.args.self.now c.give_back.new.self) (sym items) back in
    c.give_back_all.ensures.back c.args.self.now taken

pub loop-size-preserved : goal.loop-size-preserved
loop-size-preserved c =
    let n : ℕ = get_or c.args.sizes.now c.loop-size.size-index 0 in
    let low : 1 ≤ n = c.requires.low c.loop-size.size-index 0 c.loop-size-test.true in
    let high : n ≤ 128 = c.requires.high c.loop-size.size-index 0 c.loop-size-test.true in
    let p : Places = record { ib = c.in-Some.ib; len = 64 * n } in
    let items : c.push.new.self.items ≡ c.loop-size.places.items ++ p ∷ [] = search rules in
    let size = c.loop-size.invariant.taken.size in
    let least : BeginsLeast (IsRoom c.loop-size.self (64 * n / 64)) c.in-Some.ib = c.in-Some.ensures.least in
    let used : Becomes c.loop-size.self c.place_block.new.self (slot_of c.in-Some.ib) (64 * n / 64) true = c.in-Some.ensures.used in
    let laid = block-laid c.loop-size.self n c.in-Some.ib least in
    let there : IsLaid (regions_of c.args.self.now) p = subst (λ (n : ℕ). IsLaid n p) (ap (λ (k : ℕ). k / 3968) size) laid.0 in
    let count = c.loop-size.invariant.count in
    let room = c.loop-size.invariant.room in
    let takes = c.in-Some.ensures.takes in
    record {
      placed = subst (λ (l : List Places). Takes IsBlockPlace c.args.self.now l c.place_block.new.self) (sym items) (takes-more IsBlockPlace c.args.self.now c.loop-size.self c.place_block.new.self c.loop-size.places.items p c.loop-size.invariant.placed least used);
      count = ap (λ (l : List Places). length l) items ∙ length-append c.loop-size.places.items (p ∷ []) ∙ ap (λ (n : ℕ). n + 1) count;
      taken = subst (Taken c.args.self.now c.place_block.new.self) (sym items) (taken-push c.args.self.now c.loop-size.self c.place_block.new.self p c.loop-size.places.items c.loop-size.invariant.taken there laid.1 used);
      sized = more_sized c.args.sizes.now c.loop-size.places.items c.push.new.self.items p c.loop-size.size-index n items c.loop-size.invariant.sized c.loop-size-test.true refl (omega arith);
      room = omega (arith, room, takes);
    }
