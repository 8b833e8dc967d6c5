use Rattle.std.proofs.Common.{◌∙◌, ap, arith}
use Rattle.byteorder.specs.Endian.{little_bytes}
use Rattle.subnode_tree.specs.declared.blocks.Listed.{Listed}
use Rattle.subnode_tree.proofs.TableSteps.{entry-step}
use Rattle.subnode_tree.proofs.tables.inner.Goals as goal

pub loop-entry-preserved : goal.loop-entry-preserved
loop-entry-preserved c =
    let none : Listed = record { nid = record { bits = 0 }; block = record { bits = 0 } } in
    rw (c.in_ok-extend_from_slice-5.ensures.items, c.in_ok-extend_from_slice-4.ensures.items)
    (entry-step c.loop-entry.entry-index c.args.listed.now none c.loop-entry.out.items c.to_le_bytes-in-loop-entry.result c.to_le_bytes-in-loop-entry-2.result (omega arith)
    (c.to_le_bytes-in-loop-entry.ensures ∙ ap (little_bytes 8) c.from.ensures) c.to_le_bytes-in-loop-entry-2.ensures ∙ c.loop-entry.invariant)
