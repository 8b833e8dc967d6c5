use Rattle.std.proofs.Common.{◌∙◌, ap, arith}
use Rattle.byteorder.specs.Endian.{little_bytes}
use Rattle.subnode_tree.specs.declared.tables.Row.{Row}
use Rattle.subnode_tree.proofs.TableSteps.{row-step}
use Rattle.subnode_tree.proofs.tables.leaf.Goals as goal

pub loop-row-preserved : goal.loop-row-preserved
loop-row-preserved c =
    let none : Row = record { nid = record { bits = 0 }; content = record { bits = 0 }; subnodes = record { bits = 0 } } in
    rw (c.in_ok-extend_from_slice-6.ensures.items, c.in_ok-extend_from_slice-5.ensures.items, c.in_ok-extend_from_slice-4.ensures.items)
    (row-step c.loop-row.row-index c.args.rows.now none c.loop-row.out.items c.to_le_bytes-in-loop-row.result c.to_le_bytes-in-loop-row-2.result c.to_le_bytes-in-loop-row-3.result (omega arith)
    (c.to_le_bytes-in-loop-row.ensures ∙ ap (little_bytes 8) c.from.ensures) c.to_le_bytes-in-loop-row-2.ensures c.to_le_bytes-in-loop-row-3.ensures ∙ c.loop-row.invariant)
