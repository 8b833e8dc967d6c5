use Rattle.std.proofs.Common.{◌+◌, ◌-◌, ◌/◌, arith}
use Rattle.btree_pages.specs.Pages.{pieces, keys}
use Rattle.btree_pages.proofs.PageLaws.{length-keys, between-start, between-low, between-high}
use Rattle.btree_pages.proofs.page.TreePage.find.Goals as goal

pub loop-low-init : goal.loop-low-init
loop-low-init g c =
    let inside = c.self.inside in
    between-start (keys g.E.Entry.rule (pieces inside.size inside.count inside.body.now)) c.args.key inside.count
    (length-keys g.E.Entry.rule inside.size inside.count inside.body.now)

pub key_at-requires-clause-within : goal.key_at-requires-clause-within
key_at-requires-clause-within g c =
    let len = length-keys g.E.Entry.rule c.self.inside.size c.self.inside.count c.self.inside.body.now in
    let within = c.loop-low.invariant.within in
    let test = c.loop-low-test.true in
    omega (arith, len, within, test)

pub loop-low-preserved-then-key_at-key : goal.loop-low-preserved-then-key_at-key
loop-low-preserved-then-key_at-key g c =
    let inside = c.self.inside in
    let here = c.key_at.ensures in
    let reached = c.if-key_at-key.true in
    let test = c.loop-low-test.true in
    between-low (keys g.E.Entry.rule (pieces inside.size inside.count inside.body.now)) c.args.key c.loop-low.low
    (c.loop-low.low + (c.loop-low.high - c.loop-low.low) / 2) c.loop-low.high c.self.invariant.5 c.loop-low.invariant (omega (arith, test)) (omega (arith, here, reached))

pub loop-low-preserved : goal.loop-low-preserved
loop-low-preserved g c =
    let inside = c.self.inside in
    let here = c.key_at.ensures in
    let over = c.if-key_at-key.false in
    let test = c.loop-low-test.true in
    between-high (keys g.E.Entry.rule (pieces inside.size inside.count inside.body.now)) c.args.key c.loop-low.low
    (c.loop-low.low + (c.loop-low.high - c.loop-low.low) / 2) c.loop-low.high c.self.invariant.5 c.loop-low.invariant (omega (arith, test)) (omega (arith, test)) (omega (arith, here, over))
