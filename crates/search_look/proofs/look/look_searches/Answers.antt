use Rattle.std.proofs.Common.{◌+◌, IsSome, get_or, drop, subst}
use Rattle.mail_tree.specs.Folders.{place}
use Rattle.mail_tree.specs.Places.{find_place}
use Rattle.search_look.proofs.Keeping.{kept_later, kept_on}
use Rattle.search_look.proofs.Parts.{finds_searches, here_place, last_part, next_part, none_part}
use Rattle.tree_look.proofs.Found.{looks_same, looks_then}
use Rattle.search_look.proofs.look.look_searches.Goals as goal

pub loop-place-init : goal.loop-place-init
loop-place-init g c = record {
  looks = looks_same _ _ _ _;
  part = λ N held. rw (c.new-own.ensures, c.new-searches.ensures, c.as_slice-place-items.ensures) (none_part N c.args.places.now);
}

pub returns-in_err-look_place-clause-found : goal.returns-in_err-look_place-clause-found
returns-in_err-look_place-clause-found g c = λ N held tree.
    let I = c.loop-place.invariant in
    let items = c.as_slice-place-items.result.now in
    let at = c.loop-place.place-index in
    finds_searches N c.args.places.now c.in_err-look_place.field-0.0 c.from_residual.result c.from_residual.ensures.1
    (c.in_err-look_place.ensures.found N c.args.places.now (drop (at + 1) items) (I.looks.stays N held)
    (subst (λ places. IsSome (find_place ((get_or items at (place 0 0)).nid.bits) places)) c.as_slice-place-items.ensures (here_place items at (place 0 0) c.loop-place-test.true))
    (next_part N c.args.places.now items at (place 0 0) c.loop-place.own c.loop-place.searches c.loop-place-test.true (I.part N held)))

pub returns-in_err-look_place-clause-stops : goal.returns-in_err-look_place-clause-stops
returns-in_err-look_place-clause-stops g c =
    kept_on _ _ _ _ c.in_err-look_place.field-0.0 c.from_residual.result c.from_residual.ensures.1
    (kept_later _ _ c.in_err-look_place.field-0.0 c.loop-place.invariant.looks c.in_err-look_place.ensures.stops)

pub loop-place-preserved : goal.loop-place-preserved
loop-place-preserved g c = record {
  looks = looks_then c.loop-place.invariant.looks c.in_ok-look_place.ensures.looks;
  part = λ N held.
      let I = c.loop-place.invariant in
      let items = c.as_slice-place-items.result.now in
      let at = c.loop-place.place-index in
      c.in_ok-look_place.ensures.found N c.args.places.now (drop (at + 1) items) (I.looks.stays N held)
      (subst (λ places. IsSome (find_place ((get_or items at (place 0 0)).nid.bits) places)) c.as_slice-place-items.ensures (here_place items at (place 0 0) c.loop-place-test.true))
      (next_part N c.args.places.now items at (place 0 0) c.loop-place.own c.loop-place.searches c.loop-place-test.true (I.part N held));
}

pub returns-clause-found : goal.returns-clause-found
returns-clause-found g c = λ N held tree.
    last_part N c.args.places.now c.as_slice-place-items.result.now c.loop-place.place-index c.loop-place.own c.loop-place.searches c.loop-place-test.false (c.loop-place.invariant.part N held)
