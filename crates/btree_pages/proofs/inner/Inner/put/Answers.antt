use Rattle.std.proofs.Common.{◌+◌, ◌++◌, refl, arith}
use Rattle.byteorder.specs.Endian.{little_bytes}
use Rattle.btree_pages.specs.Entries.{inner_bytes}
use Rattle.btree_pages.proofs.WriteLaws.{put-next}
use Rattle.btree_pages.proofs.inner.Inner.put.Goals as goal

pub returns-clause-written : goal.returns-clause-written
unfolding inner_bytes
returns-clause-written c =
    let at = c.args.at in
    let b = c.args.page.now in
    let room = c.requires in
    let key = little_bytes 8 c.args.self.key in
    let bid = little_bytes 8 c.args.self.page.bid.bits in
    let two = put-next at 8 8 (at + 8) key bid b c.put_u64.new.b c.put_u64-2.new.b c.put_u64.ensures.written c.put_u64-2.ensures.written refl refl refl (omega (arith, room)) in
    put-next at 16 8 (at + 16) (key ++ bid) (little_bytes 8 c.args.self.page.ib) b c.put_u64-2.new.b c.put_u64-3.new.b two c.put_u64-3.ensures.written refl refl refl (omega (arith, room))
