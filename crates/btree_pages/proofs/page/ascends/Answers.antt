use Rattle.std.proofs.Common.{sym, ◌∙◌, arith}
use Rattle.btree_pages.specs.Pages.{pieces, keys}
use Rattle.btree_pages.proofs.PageLaws.{length-keys, rise-stop, rise-end}
use Rattle.btree_pages.proofs.page.ascends.Goals as goal

pub returns-then-key-last : goal.returns-then-key-last
returns-then-key-last g c =
    let ks = keys g.E.Entry.rule (pieces c.args.size c.args.count c.args.body.now) in
    let len = length-keys g.E.Entry.rule c.args.size c.args.count c.args.body.now in
    let key = c.key_at-key.ensures in
    let less = c.if-key-last.true in
    let test = c.loop-i-test.true in
    sym (c.loop-i.invariant ∙ rise-stop c.loop-i.last c.loop-i.i ks (omega (arith, len, test)) (omega (arith, key, less)))

pub returns : goal.returns
returns g c =
    let len = length-keys g.E.Entry.rule c.args.size c.args.count c.args.body.now in
    let test = c.loop-i-test.false in
    sym (c.loop-i.invariant ∙ rise-end c.loop-i.last c.loop-i.i (keys g.E.Entry.rule (pieces c.args.size c.args.count c.args.body.now)) (omega (arith, len, test)))
