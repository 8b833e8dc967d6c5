use Rattle.std.proofs.Common.{◌∙◌, sym, ap, subst}
use Rattle.node_port.specs.Nodes.{changed, set_at}
use Rattle.node_port.specs.Slots.{HasSlots}
use Rattle.node_port.proofs.SlotLaws.{filled_slots, filled_nodes}
use Rattle.node_port.proofs.slots.fill_all.Goals as goal

pub loop-nid-init : goal.loop-nid-init
loop-nid-init c =
    let items = c.into_iter-nid-iterator.ensures.into_iter_gives.0 in
    record {
      can_next = tt;
      is_finite = tt;
      ready = subst (HasSlots c.args.slots.now) (sym items) c.requires;
      so_far = λ N keeps. (N, keeps, ap (changed N) (sym items));
    }

pub loop-nid-preserved : goal.loop-nid-preserved
loop-nid-preserved c =
    let items = c.in-Some.ensures.steps.0 in
    let ready = subst (HasSlots c.loop-nid.slots) items c.loop-nid.invariant.ready in
    let filled = c.fill.ensures in
    record {
      can_next = tt;
      is_finite = tt;
      ready = filled_slots c.loop-nid.slots c.fill.new.slots c.in-Some.nid.bits c.in-Some.node _ filled ready.1;
      so_far = λ N keeps.
          let M = c.loop-nid.invariant.so_far N keeps in
          (set_at M.0 c.in-Some.nid.bits c.in-Some.node, filled_nodes c.loop-nid.slots c.fill.new.slots c.in-Some.nid.bits c.in-Some.node M.0 filled M.1, M.2 ∙ ap (changed M.0) items);
    }
