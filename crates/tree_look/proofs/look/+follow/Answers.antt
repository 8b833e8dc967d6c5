use Rattle.std.proofs.Common.{◌∙◌, ◌<◌, suc, sym, arith, refl}
use Rattle.tree_look.proofs.Found.{looks_then, stops_on}
use Rattle.tree_look.proofs.Learning.{known-foreign, known-plain, known-still}
use Rattle.tree_look.proofs.Steps.{Begins, awaits_next, comes_next, foreign_follows, known, next_child, plain_begins, plain_follows, plain_opened, put_is}
use Rattle.tree_look.proofs.look.+follow.Goals as goal

pub returns-then-not-is_plain-clause-found : goal.returns-then-not-is_plain-clause-found
returns-then-not-is_plain-clause-found g t c = λ N held n sum comes awaits part.
    let k = known N c.args.above n c.args.row.bits c.args.left c.in_ok-sort.field-0 c.in-Some.sort c.args.places.now c.put.new.self part comes awaits sum c.in_ok-sort.ensures.left c.in-Some.is (c.in_ok-sort.ensures.found N held n sum comes)
    (put_is c.args.row c.parent_of.result _ c.in-Some.sort c.args.places.now c.put.new.self c.parent_of.ensures c.in_ok-put.ensures.ok) in
    foreign_follows N c.args.above n c.args.row.bits c.in-Some.sort c.args.places.now c.put.new.self k (sym c.is_plain.ensures ∙ c.if-not-is_plain.true)

pub returns-in_err-rows-clause-found : goal.returns-in_err-rows-clause-found
returns-in_err-rows-clause-found g t c = λ N held n sum comes awaits part.
    let k = known N c.args.above n c.args.row.bits c.args.left c.in_ok-sort.field-0 c.in-Some.sort c.args.places.now c.put.new.self part comes awaits sum c.in_ok-sort.ensures.left c.in-Some.is (c.in_ok-sort.ensures.found N held n sum comes)
    (put_is c.args.row c.parent_of.result _ c.in-Some.sort c.args.places.now c.put.new.self c.parent_of.ensures c.in_ok-put.ensures.ok) in
    stops_on N _ c.in_err-rows.field-0.0 _ c.from_residual-in_err-rows.ensures.1
    (c.in_err-rows.ensures.found N (c.in_ok-sort.ensures.looks.stays N held) (plain_opened N c.args.above n c.args.row.bits c.in-Some.sort c.args.places.now c.put.new.self k (sym c.is_plain.ensures ∙ c.if-not-is_plain.false)))

pub returns-in_err-follow-clause-found : goal.returns-in_err-follow-clause-found
returns-in_err-follow-clause-found g t c = λ N held n sum comes awaits part.
    let k = known N c.args.above n c.args.row.bits c.args.left c.in_ok-sort.field-0 c.in-Some.sort c.args.places.now c.put.new.self part comes awaits sum c.in_ok-sort.ensures.left c.in-Some.is (c.in_ok-sort.ensures.found N held n sum comes)
    (put_is c.args.row c.parent_of.result _ c.in-Some.sort c.args.places.now c.put.new.self c.parent_of.ensures c.in_ok-put.ensures.ok) in
    let plain = sym c.is_plain.ensures ∙ c.if-not-is_plain.false in
    let held2 = c.in_ok-sort.ensures.looks.stays N held in
    let tables = c.in_ok-rows.ensures.found N held2 (plain_opened N c.args.above n c.args.row.bits c.in-Some.sort c.args.places.now c.put.new.self k plain) in
    let begin : Begins N c.args.row.bits n c.put.new.self c.as_slice-child-items.result.now = plain_begins N c.args.above n c.args.row.bits c.in-Some.sort c.args.places.now c.put.new.self c.as_slice-child-items.result.now k plain
    (tables.1.0, tables.1.1, tables.1.2, c.as_slice-child-items.ensures.value ∙ tables.1.3) in
    let held3 = c.in_ok-rows.ensures.looks.stays N held2 in
    let I = c.loop-child.invariant in
    let so_far = I.so_far N held3 n sum begin in
    stops_on N _ c.in_err-follow.field-0.0 _ c.from_residual-in_err-follow.ensures.1
    (c.in_err-follow.ensures.found N (I.looks.stays N held3) (suc n) (omega (arith, sum, c.loop-child-test.true)) (comes_next c.loop-child.child-index begin c.loop-child-test.true) (awaits_next c.loop-child.child-index begin so_far c.loop-child-test.true) so_far.part)

pub loop-child-preserved : goal.loop-child-preserved
loop-child-preserved g t c = record {
  looks = looks_then c.loop-child.invariant.looks c.in_ok-follow.ensures.looks;
  so_far = λ N held n sum begin.
      let I = c.loop-child.invariant in
      let so_far = I.so_far N held n sum begin in
      let some : 0 < c.args.left = c.in_ok-sort.ensures.left (rw c.in-Some.is refl) in
      next_child c.loop-child.child-index so_far
      (c.in_ok-follow.ensures.found N (I.looks.stays N held) (suc n) (omega (arith, sum, some)) (comes_next c.loop-child.child-index begin c.loop-child-test.true) (awaits_next c.loop-child.child-index begin so_far c.loop-child-test.true) so_far.part);
  learns = λ N held n sum begin seen.
      let I = c.loop-child.invariant in
      let so_far = I.so_far N held n sum begin in
      let some : 0 < c.args.left = c.in_ok-sort.ensures.left (rw c.in-Some.is refl) in
      c.in_ok-follow.ensures.flags N (I.looks.stays N held) (suc n) (omega (arith, sum, some)) (comes_next c.loop-child.child-index begin c.loop-child-test.true) (awaits_next c.loop-child.child-index begin so_far c.loop-child-test.true) so_far.part
      (I.learns N held n sum begin seen);
  known = λ N held n sum begin was.
      let I = c.loop-child.invariant in
      let so_far = I.so_far N held n sum begin in
      let some : 0 < c.args.left = c.in_ok-sort.ensures.left (rw c.in-Some.is refl) in
      c.in_ok-follow.ensures.known N (I.looks.stays N held) (suc n) (omega (arith, sum, some)) (comes_next c.loop-child.child-index begin c.loop-child-test.true) (awaits_next c.loop-child.child-index begin so_far c.loop-child-test.true) so_far.part
      (I.known N held n sum begin was);
}

pub returns-clause-found : goal.returns-clause-found
returns-clause-found g t c = λ N held n sum comes awaits part.
    let k = known N c.args.above n c.args.row.bits c.args.left c.in_ok-sort.field-0 c.in-Some.sort c.args.places.now c.put.new.self part comes awaits sum c.in_ok-sort.ensures.left c.in-Some.is (c.in_ok-sort.ensures.found N held n sum comes)
    (put_is c.args.row c.parent_of.result _ c.in-Some.sort c.args.places.now c.put.new.self c.parent_of.ensures c.in_ok-put.ensures.ok) in
    let plain = sym c.is_plain.ensures ∙ c.if-not-is_plain.false in
    let held2 = c.in_ok-sort.ensures.looks.stays N held in
    let tables = c.in_ok-rows.ensures.found N held2 (plain_opened N c.args.above n c.args.row.bits c.in-Some.sort c.args.places.now c.put.new.self k plain) in
    let begin : Begins N c.args.row.bits n c.put.new.self c.as_slice-child-items.result.now = plain_begins N c.args.above n c.args.row.bits c.in-Some.sort c.args.places.now c.put.new.self c.as_slice-child-items.result.now k plain
    (tables.1.0, tables.1.1, tables.1.2, c.as_slice-child-items.ensures.value ∙ tables.1.3) in
    let held3 = c.in_ok-rows.ensures.looks.stays N held2 in
    let I = c.loop-child.invariant in
    let so_far = I.so_far N held3 n sum begin in
    plain_follows N c.args.above n c.args.row.bits c.in-Some.sort c.args.places.now c.put.new.self c.loop-child.places c.as_slice-child-items.result.now c.loop-child.child-index k plain tables.0 begin so_far c.loop-child-test.false

pub returns-clause-flags : goal.returns-clause-flags
returns-clause-flags g t c = λ N held n sum comes awaits part seen.
    let k = known N c.args.above n c.args.row.bits c.args.left c.in_ok-sort.field-0 c.in-Some.sort c.args.places.now c.put.new.self part comes awaits sum c.in_ok-sort.ensures.left c.in-Some.is (c.in_ok-sort.ensures.found N held n sum comes)
    (put_is c.args.row c.parent_of.result _ c.in-Some.sort c.args.places.now c.put.new.self c.parent_of.ensures c.in_ok-put.ensures.ok) in
    let plain = sym c.is_plain.ensures ∙ c.if-not-is_plain.false in
    let held2 = c.in_ok-sort.ensures.looks.stays N held in
    let tables = c.in_ok-rows.ensures.found N held2 (plain_opened N c.args.above n c.args.row.bits c.in-Some.sort c.args.places.now c.put.new.self k plain) in
    let begin : Begins N c.args.row.bits n c.put.new.self c.as_slice-child-items.result.now = plain_begins N c.args.above n c.args.row.bits c.in-Some.sort c.args.places.now c.put.new.self c.as_slice-child-items.result.now k plain
    (tables.1.0, tables.1.1, tables.1.2, c.as_slice-child-items.ensures.value ∙ tables.1.3) in
    let held3 = c.in_ok-rows.ensures.looks.stays N held2 in
    let I = c.loop-child.invariant in
    I.learns N held3 n sum begin
    (c.in_ok-rows.ensures.flags N held2 (plain_opened N c.args.above n c.args.row.bits c.in-Some.sort c.args.places.now c.put.new.self k plain) (c.in_ok-sort.ensures.flags N held n comes seen))

pub returns-in_default-clause-known : goal.returns-in_default-clause-known
returns-in_default-clause-known g t c = λ N held n sum comes awaits part was. known-still N c.args.places.now c.args.flags.now c.check_row.new.flags c.in_ok-sort.ensures.known was

pub returns-then-not-is_plain-clause-known : goal.returns-then-not-is_plain-clause-known
returns-then-not-is_plain-clause-known g t c = λ N held n sum comes awaits part was.
    known-foreign N c.args.row.bits _ c.in-Some.sort c.args.places.now c.put.new.self c.check_row.new.flags (sym c.is_plain.ensures ∙ c.if-not-is_plain.true)
    (put_is c.args.row c.parent_of.result _ c.in-Some.sort c.args.places.now c.put.new.self c.parent_of.ensures c.in_ok-put.ensures.ok)
    (known-still N c.args.places.now c.args.flags.now c.check_row.new.flags c.in_ok-sort.ensures.known was)

pub returns-clause-known : goal.returns-clause-known
returns-clause-known g t c = λ N held n sum comes awaits part was.
    let put = put_is c.args.row c.parent_of.result _ c.in-Some.sort c.args.places.now c.put.new.self c.parent_of.ensures c.in_ok-put.ensures.ok in
    let k = known N c.args.above n c.args.row.bits c.args.left c.in_ok-sort.field-0 c.in-Some.sort c.args.places.now c.put.new.self part comes awaits sum c.in_ok-sort.ensures.left c.in-Some.is (c.in_ok-sort.ensures.found N held n sum comes) put in
    let plain = sym c.is_plain.ensures ∙ c.if-not-is_plain.false in
    let held2 = c.in_ok-sort.ensures.looks.stays N held in
    let opened = plain_opened N c.args.above n c.args.row.bits c.in-Some.sort c.args.places.now c.put.new.self k plain in
    let tables = c.in_ok-rows.ensures.found N held2 opened in
    let begin : Begins N c.args.row.bits n c.put.new.self c.as_slice-child-items.result.now = plain_begins N c.args.above n c.args.row.bits c.in-Some.sort c.args.places.now c.put.new.self c.as_slice-child-items.result.now k plain
    (tables.1.0, tables.1.1, tables.1.2, c.as_slice-child-items.ensures.value ∙ tables.1.3) in
    let held3 = c.in_ok-rows.ensures.looks.stays N held2 in
    c.loop-child.invariant.known N held3 n sum begin
    (known-plain N c.args.row.bits _ c.in-Some.sort c.args.places.now c.put.new.self c.check_row.new.flags _ put (c.in_ok-rows.ensures.known N held2 opened)
    (known-still N c.args.places.now c.args.flags.now c.check_row.new.flags c.in_ok-sort.ensures.known was))
