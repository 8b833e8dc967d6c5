use Rattle.std.proofs.Common.{ℕ, ◌*◌, length, replicate, refl, ap, ◌∙◌, arith}
use Rattle.pst_base.specs.Fields.{replaced}
use Rattle.btree_pages.specs.Pages.{with_head}
use Rattle.btree_pages.proofs.PageLaws.{piece_within}
use Rattle.btree_pages.proofs.WriteLaws.{underway-start, underway-next, underway-bytes, underway-end, underway-fits}
use Rattle.btree_pages.proofs.write.write_leaf.Goals as goal

pub loop-i-init : goal.loop-i-init
loop-i-init g c = let len = c.put_head.auto.page in underway-start g.E.Entry.bytes g.E.Entry.fits c.args.entries.now c.put_head.new.page (omega (arith, len))

pub loop-i-preserved : goal.loop-i-preserved
loop-i-preserved g c =
    let len = c.put_head.auto.page in
    let few = c.requires.few in
    let test = c.loop-i-test.true in
    let inside = piece_within g.E.Entry.size (length c.args.entries.now) 488 c.loop-i.i few (omega (arith, test)) in
    underway-next g.E.Entry.bytes g.E.Entry.fits g.E.Entry.size c.args.entries.now c.loop-i.i c.index-entries-i.result c.put_head.new.page c.loop-i.page c.put.new.page
    g.met.E.Entry.sized c.loop-i.invariant (omega (arith, test)) c.index-entries-i.is (c.put.ensures.written ∙ ap (λ (s : ℕ). replaced (c.loop-i.i * s) (g.E.Entry.bytes c.index-entries-i.result) c.loop-i.page) c.size-in-loop-i.ensures.value) c.put.ensures.fits (omega (arith, len)) (omega (arith, inside))

pub returns-clause-reads_back : goal.returns-clause-reads_back
returns-clause-reads_back g c =
    let few = c.requires.few in
    let test = c.loop-i-test.false in
    let end = c.loop-i.auto.i-end in
    underway-end g.E.Entry.rule g.E.Entry.bytes g.E.Entry.key g.E.Entry.fits g.E.Entry.size g.E.Entry.size 0 c.args.entries.now c.loop-i.i (replicate 496 0) c.put_head.new.page c.loop-i.page
    g.met.E.Entry.sized g.met.E.Entry.keyed c.loop-i.invariant (omega (arith, test, end)) (c.put_head.ensures ∙ ap (λ (s : ℕ). with_head (length c.args.entries.now) s 0 (replicate 496 0)) c.size.ensures.value) refl (let low = c.size.ensures in omega (arith, low)) (let high = c.size.ensures in omega (arith, high)) (omega arith) few c.requires.ascend refl

pub returns-clause-bytes : goal.returns-clause-bytes
returns-clause-bytes g c =
    let test = c.loop-i-test.false in
    let end = c.loop-i.auto.i-end in
    underway-bytes g.E.Entry.bytes g.E.Entry.fits g.E.Entry.size 0 c.args.entries.now c.loop-i.i (replicate 496 0) c.put_head.new.page c.loop-i.page
    c.loop-i.invariant (omega (arith, test, end)) (c.put_head.ensures ∙ ap (λ (s : ℕ). with_head (length c.args.entries.now) s 0 (replicate 496 0)) c.size.ensures.value)

pub returns-clause-fits : goal.returns-clause-fits
returns-clause-fits g c =
    let test = c.loop-i-test.false in
    let end = c.loop-i.auto.i-end in
    underway-fits g.E.Entry.bytes g.E.Entry.fits c.args.entries.now c.loop-i.i c.put_head.new.page c.loop-i.page c.loop-i.invariant (omega (arith, test, end))
