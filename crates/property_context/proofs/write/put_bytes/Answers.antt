use Rattle.property_context.proofs.WriteLaws.{puts-item, puts-none, puts-sub}
use Rattle.property_context.proofs.write.put_bytes.Goals as goal

pub returns-then-bytes-eq0 : goal.returns-then-bytes-eq0
returns-then-bytes-eq0 c = puts-none c.args.h.now c.args.p.now c.args.bytes.now c.if-bytes-eq0.true

pub returns-then-bytes-le3580 : goal.returns-then-bytes-le3580
returns-then-bytes-le3580 c = puts-item c.args.h.now c.add.new.self c.args.p.now c.args.bytes.now c.in_ok-add.field-0 c.if-bytes-eq0.false c.if-bytes-le3580.true c.in_ok-add.ensures.ok

pub returns : goal.returns
returns c = puts-sub c.args.h.now c.args.p.now c.place.new.p c.args.bytes.now c.in_ok-place.field-0 c.if-bytes-le3580.false c.in_ok-place.ensures
