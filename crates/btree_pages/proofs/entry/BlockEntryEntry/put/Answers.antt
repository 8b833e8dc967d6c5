use Rattle.std.proofs.Common.{◌+◌, ◌++◌, refl, arith}
use Rattle.byteorder.specs.Endian.{little_bytes}
use Rattle.btree_pages.specs.Entries.{block_bytes}
use Rattle.btree_pages.proofs.WriteLaws.{put-next}
use Rattle.btree_pages.proofs.entry.BlockEntryEntry.put.Goals as goal

pub returns-clause-written : goal.returns-clause-written
unfolding block_bytes
returns-clause-written c =
    let at = c.args.at in
    let b = c.args.page.now in
    let room = c.requires in
    let bid = little_bytes 8 c.args.self.at.bid.bits in
    let ib = little_bytes 8 c.args.self.at.ib in
    let cb = little_bytes 2 c.args.self.cb in
    let refs = little_bytes 2 c.args.self.refs in
    let two = put-next at 8 8 (at + 8) bid ib b c.put_u64.new.b c.put_u64-2.new.b c.put_u64.ensures.written c.put_u64-2.ensures.written refl refl refl (omega (arith, room)) in
    let three = put-next at 16 2 (at + 16) (bid ++ ib) cb b c.put_u64-2.new.b c.put_u16.new.b two c.put_u16.ensures.written refl refl refl (omega (arith, room)) in
    let four = put-next at 18 2 (at + 18) (bid ++ ib ++ cb) refs b c.put_u16.new.b c.put_u16-2.new.b three c.put_u16-2.ensures.written refl refl refl (omega (arith, room)) in
    put-next at 20 4 (at + 20) (bid ++ ib ++ cb ++ refs) (little_bytes 4 0) b c.put_u16-2.new.b c.put_u32.new.b four c.put_u32.ensures.written refl refl refl (omega (arith, room))
