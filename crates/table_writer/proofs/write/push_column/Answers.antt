use Rattle.std.proofs.Common.{◌∙◌, arith}
use Rattle.table_writer.proofs.HeaderLaws.{five-more, one-byte}
use Rattle.table_writer.proofs.write.push_column.Goals as goal

pub returns-clause-bytes : goal.returns-clause-bytes
returns-clause-bytes c =
    five-more _ _ _ _ _ _ _ _ _ _ _ _ _ _ _ _ c.in_ok-extend_from_slice.ensures.items c.in_ok-extend_from_slice-2.ensures.items c.in_ok-extend_from_slice-3.ensures.items c.in_ok-extend_from_slice-4.ensures.items
    c.in_ok-extend_from_slice-5.ensures.items c.to_le_bytes.ensures c.to_le_bytes-2.ensures c.to_le_bytes-3.ensures (c.to_le_bytes-4.ensures ∙ one-byte c.args.column.now.width (omega arith)) (c.to_le_bytes-5.ensures ∙ one-byte c.args.column.now.bit (omega arith))
