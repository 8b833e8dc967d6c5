use Rattle.std.proofs.Common.{subst, Some}
use Rattle.staged_nodes.specs.Staging.{IsNextSlot}
use Rattle.staged_nodes.proofs.SlotLaws.{stays_put, passes_on, finds, ends}
use Rattle.staged_nodes.proofs.slots.next_full.Goals as goal

pub loop-nid-init : goal.loop-nid-init
loop-nid-init c = stays_put c.args.slots.now c.args.after

pub loop-nid-preserved : goal.loop-nid-preserved
loop-nid-preserved c =
    passes_on c.args.slots.now c.args.after c.loop-nid.passed c.in-Some.nid c.loop-nid.invariant
    (subst (λ b. IsNextSlot c.args.slots.now c.loop-nid.passed (Some (c.in-Some.nid, b))) c.if-is_put.false c.in-Some.ensures)

pub returns-then-is_put : goal.returns-then-is_put
returns-then-is_put c =
    finds c.args.slots.now c.args.after c.loop-nid.passed c.in-Some.nid c.loop-nid.invariant
    (subst (λ b. IsNextSlot c.args.slots.now c.loop-nid.passed (Some (c.in-Some.nid, b))) c.if-is_put.true c.in-Some.ensures)

pub returns : goal.returns
returns c = ends c.args.slots.now c.args.after c.loop-nid.passed c.loop-nid.invariant c.in_default.ensures
