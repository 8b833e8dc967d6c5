use Rattle.index_edit.proofs.LeafLaws.{leaf-had, leaf-out, leaf-same}
use Rattle.index_edit.proofs.leaf.leaf_without.Goals as goal

pub returns-then-span-clause-out : goal.returns-then-span-clause-out
returns-then-span-clause-out c = λ rs o.
    leaf-same c.args.key c.args.x.now rs c.span_of-span.result.from c.span_of-span.result.to o c.span_of-span.ensures.span c.if-span.true

pub returns-clause-out : goal.returns-clause-out
returns-clause-out c = λ rs o.
    let s = c.span_of-span in (
      leaf-out c.args.key c.args.x.now c.in_ok-spliced.field-0.items rs s.result.from s.result.to o s.ensures.span c.in_ok-spliced.ensures,
      leaf-had c.args.key c.args.x.now rs s.result.from s.result.to o s.ensures.span c.if-span.false,
    )
