use Rattle.std.proofs.Common.{ap, ◌∙◌}
use Rattle.byteorder.specs.Endian.{little_bytes}
use Rattle.bth_tree.specs.Records.{whole}
use Rattle.index_edit.proofs.EditSteps.{child-leaf, put-below}
use Rattle.index_edit.proofs.TreeSteps.{reaches-long}
use Rattle.index_edit.proofs.put.put_below.Goals as goal

pub returns-in-Ok-add_changed-clause-adds : goal.returns-in-Ok-add_changed-clause-adds
returns-in-Ok-add_changed-clause-adds g c = λ was get told recs h.
    let tells = g.H.HeapItems.tells in
    put-below (tells c.put_leaf.new.heap was) (tells c.add_changed.new.heap was) get c.args.key c.ranges.key.fits (little_bytes 4 c.args.entry) c.args.inner c.in-Ok.place.index c.in-Ok.place.child c.in-Ok-add_changed.hid recs c.in-Ok-put_leaf.pairs c.as_slice.result.now
    (c.in-Ok.ensures.found was get told 0 recs h) (c.in-Ok-put_leaf.ensures.adds was get told) (ap (whole 4 4) c.as_slice.ensures.value ∙ c.in_ok-bytes.ensures.pairs) (c.in-Ok-add_changed.ensures.adds was)

pub returns-in-Err-clause-why : goal.returns-in-Err-clause-why
returns-in-Err-clause-why g c = λ was get told recs h. c.in-Err.ensures.why was get told 0 recs h

pub returns-in-Err-put_leaf-clause-why : goal.returns-in-Err-put_leaf-clause-why
returns-in-Err-put_leaf-clause-why g c = λ was get told recs h.
    let l = child-leaf get c.args.key c.ranges.key.fits c.args.inner c.in-Ok.place.index c.in-Ok.place.child recs (c.in-Ok.ensures.found was get told 0 recs h) in
    c.in-Err-put_leaf.ensures.why was get told l.0 l.1

pub returns-clause-why : goal.returns-clause-why
returns-clause-why g c = λ was get told recs h.
    let index = c.in-Ok.place.index in
    let child = c.in-Ok.place.child in
    let r = c.in-Ok.ensures.found was get told 0 recs h in
    let l = child-leaf get c.args.key c.ranges.key.fits c.args.inner index child recs r in
    let a = c.in-Ok-put_leaf.ensures.adds was get told l.0 l.1 in
    c.in-Err-add_changed.ensures.why was a.get a.told r.item (a.kept c.args.inner r.item r.found) (reaches-long get 0 c.args.key c.args.inner recs index child r)
