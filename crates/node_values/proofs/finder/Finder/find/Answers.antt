use Rattle.std.proofs.Common.{◌≡◌, ◌-◌, ℕ, List, ◌∙◌, Some, sym, ap, arith}
use Rattle.std.specs.Option.{option_map}
use Rattle.pst_base.specs.Flat.{Flat}
use Rattle.node_values.specs.Subnodes.{subnode}
use Rattle.node_values.proofs.SubLaws.{data-subnode, place-none, place-some}
use Rattle.node_values.proofs.finder.Finder.find.Goals as goal

pub offset_bounds-self-inside-place : goal.offset_bounds-self-inside-place
offset_bounds-self-inside-place c =
    let at = place-some c.args.nid 0 c.in-Some.place.now c.self.inside.subs.now (sym (c.self.invariant c.args.nid) ∙ sym c.in-Some.ensures.value) in
    omega (arith, at.high, c.self.told)

pub bounds-self-inside-place : goal.bounds-self-inside-place
bounds-self-inside-place c =
    let at = place-some c.args.nid 0 c.in-Some.place.now c.self.inside.subs.now (sym (c.self.invariant c.args.nid) ∙ sym c.in-Some.ensures.value) in
    omega (arith, at.high)

pub returns-in-Some : goal.returns-in-Some
returns-in-Some c =
    let at = place-some c.args.nid 0 c.in-Some.place.now c.self.inside.subs.now (sym (c.self.invariant c.args.nid) ∙ sym c.in-Some.ensures.value) in
    let z : c.in-Some.place.now - 0 ≡ c.in-Some.place.now = omega arith in
    let found = sym (ap (λ (fs : List Flat). subnode fs c.args.nid) (sym c.self.view_is) ∙ rw z at (at.here c.index-self-place.result)) in
    record {
      node = found;
      blocks = ap (option_map (λ (s : List (List ℕ) × List Flat). s.0)) found ∙ sym (data-subnode c.args.self.now c.args.nid);
    }

pub returns-in-None : goal.returns-in-None
returns-in-None c =
    let found = sym (ap (λ (fs : List Flat). subnode fs c.args.nid) (sym c.self.view_is)
    ∙ place-none c.args.nid 0 c.self.inside.subs.now (sym (c.self.invariant c.args.nid) ∙ sym c.in-None.ensures.value)) in
    record {
      node = found;
      blocks = ap (option_map (λ (s : List (List ℕ) × List Flat). s.0)) found ∙ sym (data-subnode c.args.self.now c.args.nid);
    }
