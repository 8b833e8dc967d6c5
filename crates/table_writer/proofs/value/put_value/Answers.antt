use Rattle.std.proofs.Common.{◌∙◌, ap, arith, length}
use Rattle.std.specs.List.{concat}
use Rattle.node_values.proofs.PieceLaws.{concat-pieces}
use Rattle.table_writer.proofs.MakingLaws.{item-puts, length-pieces, nothing-puts, sub-puts}
use Rattle.table_writer.proofs.value.put_value.Goals as goal

pub returns-then-bytes-eq0-clause-puts : goal.returns-then-bytes-eq0-clause-puts
returns-then-bytes-eq0-clause-puts c = nothing-puts c.args.made c.args.bytes.now c.if-bytes-eq0.true

pub returns-then-bytes-le3580-clause-puts : goal.returns-then-bytes-le3580-clause-puts
returns-then-bytes-le3580-clause-puts c =
    item-puts c.put_item.result c.args.made c.args.bytes.now (omega arith) c.if-bytes-le3580.true c.requires.made c.put_item.ensures.made c.put_item.ensures.adds c.put_item.ensures.subs c.put_item.ensures.singles

pub returns-clause-puts : goal.returns-clause-puts
returns-clause-puts c =
    sub-puts c.put_sub.result c.args.made c.args.bytes.now c.in_ok-cut.field-0 c.if-bytes-le3580.false (ap concat c.in_ok-cut.ensures ∙ concat-pieces c.args.bytes.now) (ap length c.in_ok-cut.ensures ∙ length-pieces c.args.bytes.now)
    c.put_sub.ensures.adds c.put_sub.ensures.maker c.put_sub.ensures.singles
