use Rattle.std.proofs.Common.{subst, Some}
use Rattle.node_port.specs.Slots.{IsNextSlot}
use Rattle.node_port.proofs.SlotLaws.{stays_put, passes_on, finds, ends}
use Rattle.node_port.proofs.slots.next_kept.Goals as goal

pub loop-nid-init : goal.loop-nid-init
loop-nid-init c = stays_put c.args.slots.now c.args.after

pub loop-nid-preserved : goal.loop-nid-preserved
loop-nid-preserved c =
    passes_on c.args.slots.now c.args.after c.loop-nid.passed c.in-Some.nid c.loop-nid.invariant
    (subst (λ b. IsNextSlot c.args.slots.now c.loop-nid.passed (Some (c.in-Some.nid, b))) c.if-has_node.false c.in-Some.ensures)

pub returns-then-has_node : goal.returns-then-has_node
returns-then-has_node c =
    finds c.args.slots.now c.args.after c.loop-nid.passed c.in-Some.nid c.loop-nid.invariant
    (subst (λ b. IsNextSlot c.args.slots.now c.loop-nid.passed (Some (c.in-Some.nid, b))) c.if-has_node.true c.in-Some.ensures)

pub returns : goal.returns
returns c = ends c.args.slots.now c.args.after c.loop-nid.passed c.loop-nid.invariant c.in_default.ensures
