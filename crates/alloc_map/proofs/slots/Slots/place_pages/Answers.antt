use Rattle.std.proofs.Common.{rules, ◌≡◌, ◌∙◌, ◌+◌, ◌/◌, List, length, ℕ, [], ◌∷◌, ◌++◌, refl, sym, ap, subst, arith, length-append, true}
use Rattle.std.proofs.lemmas.List.Elements.{All-nil, All-push}
use Rattle.std.specs.List.{All}
use Rattle.pst_base.specs.declared.places.Place.{Place as Places}
use Rattle.alloc_map.specs.Slots.{IsLaid, IsPageRoom, Becomes, BeginsLeast, regions_of, slot_of}
use Rattle.alloc_map.specs.Taken.{IsPagePlace, Taken, Takes}
use Rattle.alloc_map.proofs.TakenLaws.{taken-none, taken-push, taken-more, taken-back, takes-more, page-laid}
use Rattle.alloc_map.proofs.slots.Slots.place_pages.Goals as goal

pub loop-init : goal.loop-init
loop-init c =
    let e : c.new-places.result.items ≡ [] = search rules in
    record {
      placed = subst (λ (l : List Places). Takes IsPagePlace c.args.self.now l c.args.self.now) (sym e) refl;
      count = ap (λ (l : List Places). length l) e;
      sized = subst (All (λ (p : Places). p.len ≡ 512)) (sym e) (All-nil (λ (p : Places). p.len ≡ 512));
      taken = subst (Taken c.args.self.now c.args.self.now) (sym e) (taken-none c.args.self.now);
      room = omega arith;
    }

pub unreachable-requires : goal.unreachable-requires
unreachable-requires c = omega (arith, c.in_default.ensures.full, c.loop.invariant.room, c.requires.room, c.loop-test.true)

pub give_back_all-requires : goal.give_back_all-requires
give_back_all-requires c =
    let p : Places = record { ib = c.in-Some.ib; len = 512 } in
    let items : c.as_slice.result.now ≡ c.loop.places.items = c.as_slice.ensures.value ∙ c.in-Err.ensures.items in
    let size = c.loop.invariant.taken.size in
    let least : BeginsLeast (IsPageRoom c.loop.self) c.in-Some.ib = c.in-Some.ensures.least in
    let used : Becomes c.loop.self c.place_page.new.self (slot_of c.in-Some.ib) 8 true = c.in-Some.ensures.used in
    let laid = page-laid c.loop.self c.in-Some.ib least in
    let there : IsLaid (regions_of c.args.self.now) p = subst (λ (n : ℕ). IsLaid n p) (ap (λ (k : ℕ). k / 3968) size) laid.0 in
    let back : Taken c.args.self.now c.give_back.new.self c.loop.places.items = taken-back c.args.self.now c.place_page.new.self c.give_back.new.self p c.loop.places.items
    (taken-more c.args.self.now c.loop.self c.place_page.new.self p c.loop.places.items c.loop.invariant.taken there laid.1 used)
    (record { size = c.give_back.ensures.size; inside = c.give_back.ensures.inside; below = c.give_back.ensures.below; above = c.give_back.ensures.above }) in
    let taken : Taken c.args.self.now c.give_back.new.self c.as_slice.result.now = subst (Taken c.args.self.now c.give_back.new.self) (sym items) back in
    record { taken = (c.args.self.now, taken) }

pub returns-in-Err-clause-back : goal.returns-in-Err-clause-back
returns-in-Err-clause-back c =
    let p : Places = record { ib = c.in-Some.ib; len = 512 } in
    let items : c.as_slice.result.now ≡ c.loop.places.items = c.as_slice.ensures.value ∙ c.in-Err.ensures.items in
    let size = c.loop.invariant.taken.size in
    let least : BeginsLeast (IsPageRoom c.loop.self) c.in-Some.ib = c.in-Some.ensures.least in
    let used : Becomes c.loop.self c.place_page.new.self (slot_of c.in-Some.ib) 8 true = c.in-Some.ensures.used in
    let laid = page-laid c.loop.self c.in-Some.ib least in
    let there : IsLaid (regions_of c.args.self.now) p = subst (λ (n : ℕ). IsLaid n p) (ap (λ (k : ℕ). k / 3968) size) laid.0 in
    let back : Taken c.args.self.now c.give_back.new.self c.loop.places.items = taken-back c.args.self.now c.place_page.new.self c.give_back.new.self p c.loop.places.items
    (taken-more c.args.self.now c.loop.self c.place_page.new.self p c.loop.places.items c.loop.invariant.taken there laid.1 used)
    (record { size = c.give_back.ensures.size; inside = c.give_back.ensures.inside; below = c.give_back.ensures.below; above = c.give_back.ensures.above }) in
    let taken : Taken c.args.self.now c.give_back.new.self c.as_slice.result.now = subst (Taken c.args.self.now c.give_back.new.self) (sym items) back in
    c.give_back_all.ensures.back c.args.self.now taken

pub loop-preserved : goal.loop-preserved
loop-preserved c =
    let p : Places = record { ib = c.in-Some.ib; len = 512 } in
    let items : c.push.new.self.items ≡ c.loop.places.items ++ p ∷ [] = search rules in
    let size = c.loop.invariant.taken.size in
    let least : BeginsLeast (IsPageRoom c.loop.self) c.in-Some.ib = c.in-Some.ensures.least in
    let used : Becomes c.loop.self c.place_page.new.self (slot_of c.in-Some.ib) 8 true = c.in-Some.ensures.used in
    let laid = page-laid c.loop.self c.in-Some.ib least in
    let there : IsLaid (regions_of c.args.self.now) p = subst (λ (n : ℕ). IsLaid n p) (ap (λ (k : ℕ). k / 3968) size) laid.0 in
    let count = c.loop.invariant.count in
    let room = c.loop.invariant.room in
    let takes = c.in-Some.ensures.takes in
    record {
      placed = subst (λ (l : List Places). Takes IsPagePlace c.args.self.now l c.place_page.new.self) (sym items) (takes-more IsPagePlace c.args.self.now c.loop.self c.place_page.new.self c.loop.places.items p c.loop.invariant.placed least used);
      count = ap (λ (l : List Places). length l) items ∙ length-append c.loop.places.items (p ∷ []) ∙ ap (λ (n : ℕ). n + 1) count;
      sized = subst (All (λ (p : Places). p.len ≡ 512)) (sym items) (All-push (λ (p : Places). p.len ≡ 512) c.loop.places.items p c.loop.invariant.sized refl);
      taken = subst (Taken c.args.self.now c.place_page.new.self) (sym items) (taken-push c.args.self.now c.loop.self c.place_page.new.self p c.loop.places.items c.loop.invariant.taken there laid.1 used);
      room = omega (arith, room, takes);
    }
