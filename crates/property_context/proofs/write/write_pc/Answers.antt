use Rattle.std.proofs.Common.{◌≡◌, ◌∙◌, ◌+◌, ◌≤◌, ◌∷◌, [], length, ap, arith}
use Rattle.mapi_values.specs.Properties.{ascend_from}
use Rattle.write_limits.specs.Limits.{direct, long_values}
use Rattle.property_context.specs.Writing.{PutsValues}
use Rattle.property_context.proofs.WriteLaws.{fit-count, records-ascend, written, written-fields, written-long}
use Rattle.property_context.proofs.SpaceLaws.{written-own, written-small}
use Rattle.node_port.specs.Stops.{subs_size}
use Rattle.property_context.proofs.write.write_pc.Goals as goal

pub put_values-requires-clause-span : goal.put_values-requires-clause-span
put_values-requires-clause-span c =
    let count : direct c.args.rest + long_values c.args.p.now ≤ 173400 = fit-count c.args.p.now c.args.rest c.requires.fit in
    let same : long_values c.values.result.now ≡ long_values c.args.p.now = ap long_values c.values.ensures.value in
    omega (arith, count, same, c.begin-placer.ensures.span)

pub bth_make-requires-clause-ascend : goal.bth_make-requires-clause-ascend
bth_make-requires-clause-ascend c =
    rw c.as_slice.ensures.value
    (records-ascend ([] ∷ []) c.in_ok-heap.heap c.begin-placer.result c.put_values.new.p c.values.result.now c.in_ok-heap.records.items c.in_ok-heap.ensures.puts
    (ap (ascend_from 0) c.values.ensures.value ∙ c.values.ensures.props.ascend))

pub returns-clause-exact : goal.returns-clause-exact
returns-clause-exact c =
    let puts : PutsValues ([] ∷ []) c.in_ok-heap.heap c.begin-placer.result c.put_values.new.p c.args.p.now c.in_ok-heap.records.items = rw c.values.ensures.value at c.in_ok-heap.ensures.puts in
    written ([] ∷ []) c.in_ok-heap.heap c.bth_make.new.h c.begin-placer.result c.put_values.new.p c.args.p.now c.in_ok-heap.records.items c.in_ok-blocks.blocks c.in_ok-root.root c.args.rest c.in_ok-all_placed.field-0
    puts (rw c.as_slice.ensures.value at c.in_ok-root.ensures) c.in_ok-blocks.ensures.heap c.in_ok-blocks.ensures.items c.begin-placer.ensures.placing c.in_ok-all_placed.ensures

pub returns-clause-subnodes : goal.returns-clause-subnodes
returns-clause-subnodes c =
    let puts : PutsValues ([] ∷ []) c.in_ok-heap.heap c.begin-placer.result c.put_values.new.p c.args.p.now c.in_ok-heap.records.items = rw c.values.ensures.value at c.in_ok-heap.ensures.puts in
    written-long ([] ∷ []) c.in_ok-heap.heap c.begin-placer.result c.put_values.new.p c.args.p.now c.in_ok-heap.records.items c.args.rest c.in_ok-all_placed.field-0 puts c.begin-placer.ensures.placing c.in_ok-all_placed.ensures

pub returns-clause-fields : goal.returns-clause-fields
returns-clause-fields c =
    let puts : PutsValues ([] ∷ []) c.in_ok-heap.heap c.begin-placer.result c.put_values.new.p c.args.p.now c.in_ok-heap.records.items = rw c.values.ensures.value at c.in_ok-heap.ensures.puts in
    written-fields ([] ∷ []) c.in_ok-heap.heap c.bth_make.new.h c.begin-placer.result c.put_values.new.p c.args.p.now c.in_ok-heap.records.items c.in_ok-blocks.blocks c.in_ok-root.root
    puts (rw c.as_slice.ensures.value at c.in_ok-root.ensures) c.in_ok-blocks.ensures.heap c.in_ok-blocks.ensures.items

pub returns-clause-own : goal.returns-clause-own
returns-clause-own c =
    let puts : PutsValues ([] ∷ []) c.in_ok-heap.heap c.begin-placer.result c.put_values.new.p c.args.p.now c.in_ok-heap.records.items = rw c.values.ensures.value at c.in_ok-heap.ensures.puts in
    written-own c.in_ok-heap.heap c.bth_make.new.h c.begin-placer.result c.put_values.new.p c.args.p.now c.in_ok-heap.records.items c.in_ok-blocks.blocks c.in_ok-root.root c.args.rest c.in_ok-all_placed.field-0
    puts c.in_ok-heap.ensures.packed c.in_ok-heap.ensures.few (rw c.as_slice.ensures.value at c.in_ok-root.ensures) c.in_ok-blocks.ensures.blocks
    (written-long ([] ∷ []) c.in_ok-heap.heap c.begin-placer.result c.put_values.new.p c.args.p.now c.in_ok-heap.records.items c.args.rest c.in_ok-all_placed.field-0 puts c.begin-placer.ensures.placing c.in_ok-all_placed.ensures)

pub returns-clause-small : goal.returns-clause-small
returns-clause-small c =
    written-small (length c.in_ok-blocks.blocks + subs_size c.in_ok-all_placed.field-0 + 1) c.args.p.now c.args.rest (returns-clause-own c)
