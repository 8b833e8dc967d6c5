use Rattle.std.proofs.Common.{◌≡◌, ℕ, map, ◌∙◌, ap, arith, length-drop}
use Rattle.data_tree.specs.Plan.{bids_in, listing, numbered, xblock, cut}
use Rattle.data_tree.proofs.PlanSteps.{bytes_in-take, bytes_in-drop, lists-step, lists-end}
use Rattle.data_tree.proofs.plan.lists.Goals as goal

pub bytes_in-requires : goal.bytes_in-requires
bytes_in-requires c =
    let h = c.loop-rest.invariant.together in
    let e = bytes_in-take c.min.result c.loop-rest.rest.now in
    rw c.split_at.ensures.front (omega arith)

pub loop-rest-preserved : goal.loop-rest-preserved
loop-rest-preserved c =
    let inv = c.loop-rest.invariant in
    let here = c.split_at.result.0.now in
    let block : c.in_ok-block.block ≡ xblock here = c.in_ok-block.ensures ∙ ap (λ (n : ℕ). listing 1 n (bids_in here)) c.bytes_in.ensures in
    let some = c.loop-rest-test.true in
    let least = c.min.ensures in
    let left = length-drop c.min.result c.loop-rest.rest.now in
    let fewer = bytes_in-drop c.min.result c.loop-rest.rest.now in
    record {
      made = rw c.in_ok-push.ensures.items
          (lists-step c.loop-rest.bits c.min.result c.loop-rest.out.items c.loop-rest.rest.now here c.split_at.result.1.now c.in_ok-block.block (numbered 2 c.args.next (map xblock (cut 1021 c.args.blocks.now)))
          some least c.split_at.ensures.front c.split_at.ensures.back block inv.made);
      room = rw c.split_at.ensures.back (let room = inv.room in omega arith);
      together = rw c.split_at.ensures.back (let h = inv.together in omega arith);
    }

pub returns : goal.returns
returns c = lists-end c.loop-rest.bits c.loop-rest.out.items c.loop-rest.rest.now (numbered 2 c.args.next (map xblock (cut 1021 c.args.blocks.now))) c.loop-rest-test.false c.loop-rest.invariant.made
