use Rattle.std.proofs.Common.{◌≡◌, ◌∙◌, ◌++◌, ◌∷◌, ◌+◌, [], take, sym, ap, subst, arith}
use Rattle.std.proofs.lemmas.List.{take_more}
use Rattle.mapi_values.specs.Values.{Val}
use Rattle.heap_on_node.specs.Packing.{IsPacked}
use Rattle.property_context.proofs.WriteLaws.{few-blocks, few-values, puts-step, room-left}
use Rattle.property_context.proofs.write.put_values.Goals as goal

pub put_value-requires-clause-blocks : goal.put_value-requires-clause-blocks
put_value-requires-clause-blocks c =
    omega (arith, few-blocks c.loop-value.heap c.args.p.now c.loop-value.p c.loop-value.value-index c.args.values.now c.loop-value.records.items c.loop-value.invariant.puts c.loop-value.invariant.packed c.requires.ascend)

pub put_value-requires-clause-span : goal.put_value-requires-clause-span
put_value-requires-clause-span c =
    omega (arith, c.requires.span, room-left ([] ∷ []) c.loop-value.heap c.args.p.now c.loop-value.p c.loop-value.value-index c.args.values.now c.loop-value.records.items c.loop-value.invariant.puts)

pub put_value-requires-clause-placing : goal.put_value-requires-clause-placing
put_value-requires-clause-placing c = (c.loop-value.invariant.puts.added, c.requires.placing.0, c.loop-value.invariant.puts.grows.placing [] c.requires.placing.0 c.requires.placing.1)

pub loop-value-preserved : goal.loop-value-preserved
loop-value-preserved c =
    let more : take (c.loop-value.value-index + 1) c.args.values.now ≡ take c.loop-value.value-index c.args.values.now ++ c.value-item.result ∷ [] =
    take_more c.args.values.now c.loop-value.value-index c.value-item.result (omega arith) ∙ ap (λ (v : Val). take c.loop-value.value-index c.args.values.now ++ v ∷ []) (sym c.value-item.is) in
    record {
      puts = rw (more, c.in_ok-push.ensures.items)
          (puts-step ([] ∷ []) c.loop-value.heap c.put_value.new.h c.args.p.now c.loop-value.p c.put_value.new.p (take c.loop-value.value-index c.args.values.now) c.loop-value.records.items c.value-item.result c.in_ok-put_value.field-0
          c.loop-value.invariant.puts c.in_ok-put_value.ensures);
      packed = subst IsPacked c.heap-in-loop-value.view_is c.heap-in-loop-value.invariant;
    }

pub returns-clause-blocks : goal.returns-clause-blocks
returns-clause-blocks c =
    few-blocks c.loop-value.heap c.args.p.now c.loop-value.p c.loop-value.value-index c.args.values.now c.loop-value.records.items c.loop-value.invariant.puts c.loop-value.invariant.packed c.requires.ascend

pub returns-clause-few : goal.returns-clause-few
returns-clause-few c =
    few-values ([] ∷ []) c.loop-value.heap c.args.p.now c.loop-value.p c.loop-value.value-index c.args.values.now c.loop-value.records.items c.loop-value.invariant.puts c.requires.ascend

pub returns-clause-packed : goal.returns-clause-packed
returns-clause-packed c = c.loop-value.invariant.packed
