use Rattle.std.proofs.Common.{◌≡◌, ◌+◌, ◌++◌, refl, sym, arith}
use Rattle.byteorder.specs.Endian.{little_bytes}
use Rattle.pst_base.specs.Fields.{replaced}
use Rattle.btree_pages.specs.Entries.{node_bytes}
use Rattle.btree_pages.proofs.WriteLaws.{put-next}
use Rattle.btree_pages.proofs.entry.NodeEntryEntry.put.Goals as goal

pub returns-clause-written : goal.returns-clause-written
unfolding node_bytes
returns-clause-written c =
    let at = c.args.at in
    let b = c.args.page.now in
    let room = c.requires in
    let nid = little_bytes 8 c.args.self.nid.bits in
    let first : c.put_u64.new.b ≡ replaced at nid b = rw (sym c.from.ensures) c.put_u64.ensures.written in
    let content = little_bytes 8 c.args.self.content.bits in
    let subnodes = little_bytes 8 c.args.self.subnodes.bits in
    let parent = little_bytes 4 c.args.self.parent.bits in
    let two = put-next at 8 8 (at + 8) nid content b c.put_u64.new.b c.put_u64-2.new.b first c.put_u64-2.ensures.written refl refl refl (omega (arith, room)) in
    let three = put-next at 16 8 (at + 16) (nid ++ content) subnodes b c.put_u64-2.new.b c.put_u64-3.new.b two c.put_u64-3.ensures.written refl refl refl (omega (arith, room)) in
    let four = put-next at 24 4 (at + 24) (nid ++ content ++ subnodes) parent b c.put_u64-3.new.b c.put_u32.new.b three c.put_u32.ensures.written refl refl refl (omega (arith, room)) in
    put-next at 28 4 (at + 28) (nid ++ content ++ subnodes ++ parent) (little_bytes 4 0) b c.put_u32.new.b c.put_u32-2.new.b four c.put_u32-2.ensures.written refl refl refl (omega (arith, room))
