use Rattle.std.proofs.Common.{ap, ◌∙◌, subst}
use Rattle.byteorder.specs.Endian.{little_bytes}
use Rattle.bth_tree.specs.Records.{whole}
use Rattle.index_edit.specs.Edits.{HoldLeaves}
use Rattle.index_edit.proofs.PutSteps.{put-halves, put-last, put-one}
use Rattle.index_edit.proofs.put.add_leaves.Goals as goal

pub returns-in_ok-only-in-One-clause-adds : goal.returns-in_ok-only-in-One-clause-adds
returns-in_ok-only-in-One-clause-adds g c = λ was get told rs h holds.
    let e = little_bytes 4 c.args.entry in
    let is = subst (HoldLeaves (c.args.key, e) rs) c.in-One.is holds in
    put-one (g.H.HeapItems.tells c.add_leaf.new.heap was) get c.args.leaf c.args.key c.ranges.key.fits e c.as_slice.result.now rs c.in_ok-only-in-One.only h (ap (whole 4 4) c.as_slice.ensures.value ∙ is)
    (c.in_ok-only-in-One.ensures.adds was get told)

pub returns-in_ok-behind-in-Behind-clause-adds : goal.returns-in_ok-behind-in-Behind-clause-adds
returns-in_ok-behind-in-Behind-clause-adds g c = λ was get told rs h holds.
    let e = little_bytes 4 c.args.entry in
    put-last (g.H.HeapItems.tells c.add_leaf-in-Behind.new.heap was) get c.args.key c.ranges.key.fits e c.row.result rs (record { key = c.in-Behind.first; child = c.args.leaf }) c.in_ok-behind-in-Behind.behind h
    c.ranges.leaf.fits c.row.ensures.row (c.in_ok-behind-in-Behind.ensures.adds was get told) (subst (HoldLeaves (c.args.key, e) rs) c.in-Behind.is holds)

pub returns-in_ok-back-in-Halves-clause-adds : goal.returns-in_ok-back-in-Halves-clause-adds
returns-in_ok-back-in-Halves-clause-adds g c = λ was get told rs h holds.
    let tells = g.H.HeapItems.tells in
    let e = little_bytes 4 c.args.entry in
    let is = subst (HoldLeaves (c.args.key, e) rs) c.in-Halves.is holds in
    let y = c.as_slice-in-Halves.result.now in
    let z = c.as_slice-in-Halves-2.result.now in
    put-halves (tells c.add_leaf-in-Halves.new.heap was) (tells c.add_leaf-in-Halves-2.new.heap was) get c.args.leaf c.args.key c.ranges.key.fits e y z rs c.in_ok-front-in-Halves.front c.in_ok-back-in-Halves.back h
    (is.0, is.1, ap (whole 4 4) c.as_slice-in-Halves.ensures.value ∙ is.2, ap (whole 4 4) c.as_slice-in-Halves-2.ensures.value ∙ is.3, is.4) (c.in_ok-front-in-Halves.ensures.adds was get told) (c.in_ok-back-in-Halves.ensures.adds was)
