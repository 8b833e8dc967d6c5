use Rattle.std.proofs.Common.{length, ◌<◌, arith, length-drop, length-take}
use Rattle.subnode_tree.specs.declared.tables.Row.{Row}
use Rattle.data_tree.specs.Plan.{cut}
use Rattle.subnode_tree.specs.Tables.{leaves, listed_as}
use Rattle.subnode_tree.proofs.TableSteps.{leaves-step, listed-step, leaves-end, listed-end}
use Rattle.subnode_tree.proofs.tables.leaves.Goals as goal

pub loop-rest-preserved : goal.loop-rest-preserved
loop-rest-preserved c =
    let none : Row = record { nid = record { bits = 0 }; content = record { bits = 0 }; subnodes = record { bits = 0 } } in
    let inv = c.loop-rest.invariant in
    let here = c.split_at.result.0.now in
    let others = c.split_at.result.1.now in
    let rest = c.loop-rest.rest.now in
    let n = c.min.result in
    let some = c.loop-rest-test.true in
    let least = c.min.ensures in
    let taken = length-take n rest in
    let begun : 0 < length here = rw c.split_at.ensures.front (omega arith) in
    let left = length-drop n rest in
    record {
      made = rw c.in_ok-push.ensures.items
          (leaves-step c.loop-rest.bits n rest here others c.loop-rest.blocks.items c.in_ok-leaf.field-0 (leaves c.args.next c.args.rows.now)
          some least c.split_at.ensures.front c.split_at.ensures.back c.in_ok-leaf.ensures inv.made);
      listing = rw c.in_ok-push-2.ensures.items
          (listed-step c.loop-rest.bits n rest here others c.loop-rest.listed.items none (listed_as c.args.next (cut 340 c.args.rows.now))
          some begun least c.split_at.ensures.front c.split_at.ensures.back inv.listing);
      room = rw c.split_at.ensures.back (let room = inv.room in omega arith);
    }

pub returns-clause-blocks : goal.returns-clause-blocks
returns-clause-blocks c = leaves-end c.loop-rest.bits c.loop-rest.blocks.items (leaves c.args.next c.args.rows.now) c.loop-rest.rest.now c.loop-rest-test.false c.loop-rest.invariant.made

pub returns-clause-listed : goal.returns-clause-listed
returns-clause-listed c = listed-end c.loop-rest.bits c.loop-rest.listed.items (listed_as c.args.next (cut 340 c.args.rows.now)) c.loop-rest.rest.now c.loop-rest-test.false c.loop-rest.invariant.listing
