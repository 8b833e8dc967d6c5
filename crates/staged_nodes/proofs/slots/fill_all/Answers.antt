use Rattle.std.proofs.Common.{◌∙◌, sym, ap, subst}
use Rattle.std.specs.FinMap.{insert}
use Rattle.std.proofs.lemmas.List.{nil_from_length}
use Rattle.std.specs.Vec.Iter.{into_iter_items}
use Rattle.node_port.specs.Nodes.{changed, set_at}
use Rattle.staged_nodes.specs.Staged.{with_changes}
use Rattle.staged_nodes.specs.Staging.{HasChanges, HasSlots, LiesOver}
use Rattle.staged_nodes.proofs.SlotLaws.{filled_changes, filled_over, filled_slots}
use Rattle.staged_nodes.proofs.slots.fill_all.Goals as goal

pub loop-nid-init : goal.loop-nid-init
loop-nid-init c =
    let items = c.into_iter-nid-iterator.ensures.into_iter_gives.0 in
    record {
      can_next = tt;
      is_finite = tt;
      ready = subst (HasSlots c.args.slots.now) (sym items) c.requires;
      so_far = λ F has. (F, has, ap (with_changes F) (sym items));
      lies = λ N M over. (M, over, ap (changed M) (sym items));
    }

pub fill-requires : goal.fill-requires
fill-requires c = (subst (HasSlots c.loop-nid.slots) c.in-Some.ensures.steps.0 c.loop-nid.invariant.ready).0

pub loop-nid-preserved : goal.loop-nid-preserved
loop-nid-preserved c =
    let items = c.in-Some.ensures.steps.0 in
    let ready = subst (HasSlots c.loop-nid.slots) items c.loop-nid.invariant.ready in
    let filled = c.fill.ensures in
    record {
      can_next = tt;
      is_finite = tt;
      ready = filled_slots c.loop-nid.slots c.fill.new.slots c.in-Some.nid.bits c.in-Some.node _ filled ready.1;
      so_far = λ F has.
          let G = c.loop-nid.invariant.so_far F has in
          (insert G.0 c.in-Some.nid.bits c.in-Some.node, filled_changes c.loop-nid.slots c.fill.new.slots c.in-Some.nid.bits c.in-Some.node G.0 filled G.1, G.2 ∙ ap (with_changes G.0) items);
      lies = λ N M over.
          let L = c.loop-nid.invariant.lies N M over in
          (set_at L.0 c.in-Some.nid.bits c.in-Some.node, filled_over c.loop-nid.slots c.fill.new.slots c.in-Some.nid.bits c.in-Some.node N L.0 filled L.1, L.2 ∙ ap (changed L.0) items);
    }

pub returns-clause-changes : goal.returns-clause-changes
returns-clause-changes c = λ F has.
    let left = c.loop-nid.nid-iterator in
    let none = nil_from_length (into_iter_items left) (sym left.rest.ok.0 ∙ c.in-None.ensures.steps.0) in
    let G = c.loop-nid.invariant.so_far F has in
    subst (HasChanges c.loop-nid.slots) (sym (G.2 ∙ ap (with_changes G.0) none)) G.1

pub returns-clause-over : goal.returns-clause-over
returns-clause-over c = λ N M over.
    let left = c.loop-nid.nid-iterator in
    let none = nil_from_length (into_iter_items left) (sym left.rest.ok.0 ∙ c.in-None.ensures.steps.0) in
    let L = c.loop-nid.invariant.lies N M over in
    subst (LiesOver N c.loop-nid.slots) (sym (L.2 ∙ ap (changed L.0) none)) L.1
