use Rattle.std.proofs.Common.{◌+◌, ◌∷◌, [], refl, arith}
use Rattle.pst_base.specs.declared.subs.Sub.{Sub}
use Rattle.property_context.proofs.PlaceLaws.{place-data, place-placing, push-data}
use Rattle.property_context.specs.declared.placing.Placer.{Placer}
use Rattle.property_context.proofs.placing.place.Goals as goal

pub returns : goal.returns
returns c =
    let sub : Sub = record { nid = record { bits = c.pass_all.new.p.free }; blocks = c.in_ok-cut.field-0; subs = c.new.result } in
    let new : Placer = record { placed = c.push.new.self; left = c.pass_all.new.p.left; free = c.pass_all.new.p.free + 32 } in
    let placing = c.in_ok-pass_all.ensures.placing c.requires.placing.0 c.requires.placing.1 c.requires.placing.2 in
    record {
      kind = placing.free_kind;
      here = place-data c.pass_all.new.p new sub c.args.bytes.now c.requires.placing.0 c.requires.placing.1 placing refl c.in_ok-cut.ensures c.new.ensures c.in_ok-push.ensures.items;
      kept = λ nid bs h. push-data c.pass_all.new.p new (sub ∷ []) c.in_ok-push.ensures.items nid bs (c.in_ok-pass_all.ensures.kept nid bs h);
      span_is = omega (arith, c.in_ok-pass_all.ensures.span);
      placing = λ long rest h. place-placing c.pass_all.new.p new sub c.args.bytes.now long rest (c.in_ok-pass_all.ensures.placing long rest h) c.in_ok-pass_all.ensures.ahead refl refl c.in_ok-cut.ensures c.new.ensures c.in_ok-push.ensures.items refl;
    }
