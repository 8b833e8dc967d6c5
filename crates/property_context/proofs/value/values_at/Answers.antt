use Rattle.std.proofs.Common.{◌∙◌, [], map, sym, get_or, arith}
use Rattle.std.proofs.lemmas.Result.{err_from_is_err_and}
use Rattle.heap_on_node.specs.Heap.{item}
use Rattle.bth_tree.specs.Answers.{seen}
use Rattle.bth_tree.proofs.ReadLaws.{no_record, stops-along}
use Rattle.property_context.specs.Context.{value_of, values_of}
use Rattle.node_values.specs.Subnodes.{data_of}
use Rattle.property_context.proofs.ValueLaws.{behind-none, values-none, values-step}
use Rattle.property_context.proofs.value.values_at.Goals as goal

pub returns-in_err-value_at : goal.returns-in_err-value_at
returns-in_err-value_at c =
    let p = err_from_is_err_and c.from_residual-in_err-value_at.result c.from_residual-in_err-value_at.ensures.1 in
    rw (p.1, p.2)
    (stops-along c.in_err-value_at.field-0.0 (value_of (item c.args.h.now) (data_of c.args.finder.now) (seen (get_or c.args.records.now c.loop-property.property-index no_record)))
    (values_of (item c.args.h.now) (data_of c.args.finder.now) (map seen c.args.records.now))
    (λ none. behind-none [] (values_of (item c.args.h.now) (data_of c.args.finder.now) (map seen c.args.records.now))
    (sym c.loop-property.invariant ∙ values-none (item c.args.h.now) (data_of c.args.finder.now) c.loop-property.property-index c.args.records.now c.loop-property.values.items (omega arith) none))
    c.in_err-value_at.ensures)

pub loop-property-preserved : goal.loop-property-preserved
loop-property-preserved c =
    rw c.in_ok-push.ensures.items
    (values-step (item c.args.h.now) (data_of c.args.finder.now) c.loop-property.property-index c.args.records.now c.loop-property.values.items c.in_ok-value_at.field-0 (omega arith) c.in_ok-value_at.ensures
    ∙ c.loop-property.invariant)
