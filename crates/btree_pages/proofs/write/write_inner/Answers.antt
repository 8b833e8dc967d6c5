use Rattle.std.proofs.Common.{length, get_or, replicate, refl, ap, arith}
use Rattle.std.proofs.lemmas.List.{get_or_default}
use Rattle.btree_pages.specs.declared.inner.Inner.{Inner}
use Rattle.btree_pages.specs.Entries.{inner_bytes, InnerFits}
use Rattle.btree_pages.specs.EntryLaws.{length-inner_bytes, key-inner_bytes}
use Rattle.btree_pages.proofs.PageLaws.{piece_within, size_at-inner}
use Rattle.btree_pages.proofs.WriteLaws.{underway-start, underway-next, underway-bytes, underway-end, underway-fits}
use Rattle.btree_pages.proofs.write.write_inner.Goals as goal

pub loop-i-init : goal.loop-i-init
loop-i-init g c = let len = c.put_head.auto.page in underway-start inner_bytes InnerFits c.args.entries.now c.put_head.new.page (omega (arith, len))

pub loop-i-preserved : goal.loop-i-preserved
loop-i-preserved g c =
    let len = c.put_head.auto.page in
    let few = c.requires.few in
    let test = c.loop-i-test.true in
    let item_of_zeros : Inner = record { key = 0; page = record { bid = record { bits = 0 }; ib = 0 } } in
    let item = get_or c.args.entries.now c.loop-i.i item_of_zeros in
    let inside = piece_within 24 (length c.args.entries.now) 488 c.loop-i.i (omega (arith, few)) (omega (arith, test)) in
    underway-next inner_bytes InnerFits 24 c.args.entries.now c.loop-i.i item c.put_head.new.page c.loop-i.page c.put.new.page
    length-inner_bytes c.loop-i.invariant (omega (arith, test)) (get_or_default c.args.entries.now c.loop-i.i item_of_zeros item (omega (arith, test))) c.put.ensures.written c.put.ensures.fits (omega (arith, len)) (omega (arith, inside))

pub returns-clause-reads_back : goal.returns-clause-reads_back
returns-clause-reads_back g c =
    let few = c.requires.few in
    let test = c.loop-i-test.false in
    let end = c.loop-i.auto.i-end in
    underway-end g.E.Entry.rule inner_bytes (λ (e : Inner). g.E.Entry.rule e.key) InnerFits g.E.Entry.size 24 c.args.level c.args.entries.now c.loop-i.i (replicate 496 0) c.put_head.new.page c.loop-i.page
    length-inner_bytes (λ e fits. ap g.E.Entry.rule (key-inner_bytes e fits)) c.loop-i.invariant (omega (arith, test, end)) (c.put_head.ensures) refl (omega arith) (omega arith) c.requires.high (omega (arith, few)) c.requires.ascend (size_at-inner g.E.Entry.size c.args.level c.requires.low)

pub returns-clause-bytes : goal.returns-clause-bytes
returns-clause-bytes g c =
    let test = c.loop-i-test.false in
    let end = c.loop-i.auto.i-end in
    underway-bytes inner_bytes InnerFits 24 c.args.level c.args.entries.now c.loop-i.i (replicate 496 0) c.put_head.new.page c.loop-i.page
    c.loop-i.invariant (omega (arith, test, end)) c.put_head.ensures

pub returns-clause-fits : goal.returns-clause-fits
returns-clause-fits g c =
    let test = c.loop-i-test.false in
    let end = c.loop-i.auto.i-end in
    underway-fits inner_bytes InnerFits c.args.entries.now c.loop-i.i c.put_head.new.page c.loop-i.page c.loop-i.invariant (omega (arith, test, end))
