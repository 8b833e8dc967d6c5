use Rattle.std.proofs.Common.{◌≡◌, ◌∙◌, ◌≤◌, ℕ, List, length, Ok, refl, sym, ap, subst, arith}
use Rattle.pst_outside.specs.World.{Image, after_write}
use Rattle.block_frame.specs.Block.{block_of, reading}
use Rattle.file_blocks.specs.Blocks.{data_at, file_of}
use Rattle.plan_pieces.proofs.BlockLaws.{length-block_of}
use Rattle.copy_pieces.proofs.AddLaws.{adds-write}
use Rattle.copy_pieces.proofs.StopLaws.{changed-at, data-front, data-long}
use Rattle.copy_pieces.proofs.blocks.copy_block.Goals as goal

pub returns-then-len-from-clause-stops : goal.returns-then-len-from-clause-stops
returns-then-len-from-clause-stops g c = changed-at c.changed.result (g.W.Outside.view c.read_block.new.w) (c.args.old.at).ib c.changed.ensures (λ told.
    let new = g.W.Outside.view c.read_block.new.w in
    let same = c.in-Ok.ensures.same.stays in
    let here = same.here told in
    let whole : c.args.eof ≤ length new.here.main = subst (λ (i : Image). c.args.eof ≤ length i.main) (sym here) (c.requires.whole (same.told told)) in
    let is = c.in-Ok.ensures.content (record { tells = told; whole = whole }) in
    let size = data-long new.here.main new.here.side c.args.eof c.args.old c.in-Ok.content whole is in
    let len = c.len.ensures in
    let cb = c.from.ensures in
    let test = c.if-len-from.true in
    absurd (omega (arith, size, len, cb, test)))

pub returns-clause-copy : goal.returns-clause-copy
returns-clause-copy g c = λ told.
    let old = g.W.Outside.view c.args.w.now in
    let mid = g.W.Outside.view c.read_block.new.w in
    let last = g.W.Outside.view c.put.new.w in
    let there = c.in_ok-put.ensures.keeps.told told in
    let same = c.in-Ok.ensures.same.stays in
    let here = same.here there in
    let content = c.in-Ok.content in
    let bytes = c.in_ok-bytes.bytes in
    let whole : c.args.eof ≤ length mid.here.main = subst (λ (i : Image). c.args.eof ≤ length i.main) (sym here) (c.requires.whole (same.told there)) in
    let is = subst (λ (i : Image). data_at (file_of i) c.args.eof c.args.old ≡ Ok content) here (c.in-Ok.ensures.content (record { tells = there; whole = whole })) in
    let body : c.as_slice.result.now ≡ content = c.as_slice.ensures.value in
    let len = c.len.ensures in
    let cb = c.from.ensures in
    let test = c.if-len-from.false in
    let size : c.args.old.cb ≡ length content = omega (arith, len, cb, test) in
    let made : bytes ≡ block_of c.args.new.at content = c.in_ok-bytes.ensures.bytes ∙ ap (block_of c.args.new.at) body in
    let reads : reading (length content) c.args.new.at bytes ≡ Ok content = subst (λ (b : List ℕ). reading (length b) c.args.new.at bytes ≡ Ok b) body c.in_ok-bytes.ensures.reads in
    let copy : last.here.copy ≡ after_write old.here.copy (c.args.new.at).ib bytes =
    c.in_ok-put.ensures.copy told ∙ (λ i. after_write ((here i).copy) (c.args.new.at).ib (c.as_slice-2.ensures.value i)) in (
      record { at = (c.args.new.at).ib; bytes = bytes },
      record {
        content = content;
        was = data-front (file_of old.here) c.args.eof c.args.old content is;
        sealed = record {
          bid = c.requires.bid;
          size = c.requires.size ∙ size;
          short = let a = c.requires.short in let b = c.requires.size in omega (arith, a, b);
          place = refl;
          sealed = (ap length made ∙ length-block_of c.args.new.at content, reads);
        };
      },
      adds-write old.here.copy last.here.copy (c.args.new.at).ib bytes copy,
    )
