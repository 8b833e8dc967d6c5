use Rattle.std.proofs.Common.{◌∙◌, arith}
use Rattle.byteorder.specs.Endian.{little_bytes}
use Rattle.std.proofs.Common.{get_or}
use Rattle.table_writer.proofs.HeaderLaws.{five-more, four-more, nine, one-byte}
use Rattle.table_writer.proofs.write.push_front.Goals as goal

pub returns-clause-bytes : goal.returns-clause-bytes
returns-clause-bytes c =
    nine c.args.x.now.items c.extend_from_slice-5.new.self.items c.extend_from_slice-9.new.self.items (little_bytes 1 0x7C) (little_bytes 1 c.args.count) (little_bytes 2 (get_or c.args.ends.now 0 0)) (little_bytes 2 (get_or c.args.ends.now 1 0))
    (little_bytes 2 (get_or c.args.ends.now 2 0)) (little_bytes 2 (get_or c.args.ends.now 3 0)) (little_bytes 4 c.args.index) (little_bytes 4 c.args.matrix) (little_bytes 4 0)
    (five-more _ _ _ _ _ _ _ _ _ _ _ (little_bytes 1 0x7C) (little_bytes 1 c.args.count) (little_bytes 2 (get_or c.args.ends.now 0 0)) (little_bytes 2 (get_or c.args.ends.now 1 0)) (little_bytes 2 (get_or c.args.ends.now 2 0))
    c.in_ok-extend_from_slice.ensures.items c.in_ok-extend_from_slice-2.ensures.items c.in_ok-extend_from_slice-3.ensures.items c.in_ok-extend_from_slice-4.ensures.items
    c.in_ok-extend_from_slice-5.ensures.items c.to_le_bytes.ensures (c.to_le_bytes-2.ensures ∙ one-byte c.args.count (omega arith)) c.to_le_bytes-3.ensures c.to_le_bytes-4.ensures c.to_le_bytes-5.ensures)
    (four-more _ _ _ _ _ _ _ _ _ (little_bytes 2 (get_or c.args.ends.now 3 0)) (little_bytes 4 c.args.index) (little_bytes 4 c.args.matrix) (little_bytes 4 0)
    c.in_ok-extend_from_slice-6.ensures.items c.in_ok-extend_from_slice-7.ensures.items c.in_ok-extend_from_slice-8.ensures.items c.in_ok-extend_from_slice-9.ensures.items
    c.to_le_bytes-6.ensures c.to_le_bytes-7.ensures c.to_le_bytes-8.ensures c.to_le_bytes-9.ensures)
