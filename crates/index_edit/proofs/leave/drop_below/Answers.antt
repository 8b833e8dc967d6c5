use Rattle.std.proofs.Common.{◌∙◌, sym, ap, subst}
use Rattle.mapi_values.specs.Keyed.{drop_key}
use Rattle.bth_tree.specs.Records.{whole}
use Rattle.index_edit.specs.Edits.{LeavesOut}
use Rattle.index_edit.specs.Rows.{key_of}
use Rattle.index_edit.proofs.EditSteps.{child-leaf, entry-below, same-below}
use Rattle.index_edit.proofs.PutSteps.{two-levels}
use Rattle.index_edit.proofs.leave.drop_below.Goals as goal

pub returns-in-Err-clause-why : goal.returns-in-Err-clause-why
returns-in-Err-clause-why g c = λ was get told recs h. c.in-Err.ensures.why was get told 0 recs h

pub returns-in-Ok-None-clause-drops : goal.returns-in-Ok-None-clause-drops
returns-in-Ok-None-clause-drops g c = λ was get told recs h.
    let r = c.in-Ok.ensures.found was get told 0 recs h in
    let l = child-leaf get c.args.key c.ranges.key.fits c.args.inner c.in-Ok.place.index c.in-Ok.place.child recs r in
    let out = subst (LeavesOut c.args.key l.0) c.in-Ok-None.field-0-is (c.in-Ok-None.ensures.out was get told l.0 l.1) in
    same-below get c.args.key c.ranges.key.fits c.args.inner c.in-Ok.place.index c.in-Ok.place.child recs l.0 r l.1 out.0

pub returns-in-Err-left_of-clause-why : goal.returns-in-Err-left_of-clause-why
returns-in-Err-left_of-clause-why g c = λ was get told recs h.
    let r = c.in-Ok.ensures.found was get told 0 recs h in
    let l = child-leaf get c.args.key c.ranges.key.fits c.args.inner c.in-Ok.place.index c.in-Ok.place.child recs r in
    c.in-Err-left_of.ensures.why was get told l.0 l.1

pub returns-in-Err-relay-clause-why : goal.returns-in-Err-relay-clause-why
returns-in-Err-relay-clause-why g c = λ was get told recs h.
    let key = c.args.key in
    let r = c.in-Ok.ensures.found was get told 0 recs h in
    let child = c.in-Ok.place.child in
    let l = child-leaf get key c.ranges.key.fits c.args.inner c.in-Ok.place.index child recs r in
    let out = subst (LeavesOut key l.0) c.in-Ok-Some.field-0-is (c.in-Ok-Some.ensures.out was get told l.0 l.1) in
    c.in-Err-relay.ensures.why was get told key child recs l.0 c.ranges.key.fits r l.1 (ap (whole 4 4) c.as_slice.ensures.value ∙ out.0)

pub returns-in-Ok-add_header-clause-drops : goal.returns-in-Ok-add_header-clause-drops
returns-in-Ok-add_header-clause-drops g c = λ was get told recs h.
    let tells = g.H.HeapItems.tells in
    let key = c.args.key in
    let r = c.in-Ok.ensures.found was get told 0 recs h in
    let index = c.in-Ok.place.index in
    let child = c.in-Ok.place.child in
    let l = child-leaf get key c.ranges.key.fits c.args.inner index child recs r in
    let out = subst (LeavesOut key l.0) c.in-Ok-Some.field-0-is (c.in-Ok-Some.ensures.out was get told l.0 l.1) in
    let added = c.in-Ok-relay.ensures.adds was get told key child recs l.0 c.ranges.key.fits r l.1 (ap (whole 4 4) c.as_slice.ensures.value ∙ out.0) in (
      λ none. out.1 (sym (entry-below get key c.ranges.key.fits c.args.inner index child recs l.0 r l.1) ∙ none),
      two-levels (tells c.relay.new.heap was) (tells c.add_header.new.heap was) get c.in-Ok-relay.root c.in-Ok-add_header.header (drop_key key_of key recs) added (c.in-Ok-add_header.ensures.adds was),
    )
