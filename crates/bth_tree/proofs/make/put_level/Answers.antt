use Rattle.std.proofs.Common.{◌≡◌, ◌∙◌, ◌+◌, ◌-◌, ◌++◌, ◌∷◌, ◌<◌, [], ℕ, List, length, drop, take, min, sym, ap, append_assoc, length-drop, length-take, arith}
use Rattle.std.proofs.lemmas.List.{length_push, take-append-drop}
use Rattle.bth_tree.specs.Making.{chunks, per_item}
use Rattle.bth_tree.proofs.MakeLaws.{AreRecords-split, along, chunks-step, level-step, part-size, per-pos}
use Rattle.bth_tree.proofs.make.put_level.Goals as goal

pub put_part-requires-clause-size : goal.put_part-requires-clause-size
put_part-requires-clause-size c =
    rw c.split_at.ensures.front (part-size c.args.k c.args.e c.min.result c.loop-rest.rest.now c.loop-rest.invariant.records (omega (arith, c.min.ensures)))

counted : (m n a b c d : ℕ) → m ≡ n + 1 → a ≡ b → c ≡ 1 + b → n + c ≡ d → m + a ≡ d
counted m n a b c d p q r s = omega arith

pub loop-rest-preserved : goal.loop-rest-preserved
loop-rest-preserved c =
    let inv = c.loop-rest.invariant in
    let whole : c.split_at.result.0.now ++ c.split_at.result.1.now ≡ c.loop-rest.rest.now =
    ap (λ (xs : List (ℕ × List ℕ)). xs ++ c.split_at.result.1.now) c.split_at.ensures.front ∙ ap (λ (ys : List (ℕ × List ℕ)). take c.min.result c.loop-rest.rest.now ++ ys) c.split_at.ensures.back
    ∙ take-append-drop c.min.result c.loop-rest.rest.now in
    let two = AreRecords-split c.args.k c.args.e c.split_at.result.0.now c.split_at.result.1.now (along c.args.k c.args.e c.loop-rest.rest.now (c.split_at.result.0.now ++ c.split_at.result.1.now) (sym whole) inv.records) in
    let pos : 0 < per_item (c.args.k + c.args.e) = per-pos (c.args.k + c.args.e) (omega arith) (omega arith) in
    let some : 0 < length c.split_at.result.0.now = rw c.split_at.ensures.front (omega (arith, length-take c.min.result c.loop-rest.rest.now, c.min.ensures)) in
    let left : chunks (per_item (c.args.k + c.args.e)) (length (drop c.min.result c.loop-rest.rest.now)) ≡ chunks (per_item (c.args.k + c.args.e)) (length c.loop-rest.rest.now - min (per_item (c.args.k + c.args.e)) (length c.loop-rest.rest.now)) =
    ap (chunks (per_item (c.args.k + c.args.e))) (length-drop c.min.result c.loop-rest.rest.now ∙ ap (λ (n : ℕ). length c.loop-rest.rest.now - n) c.min.ensures) in
    let step = chunks-step (per_item (c.args.k + c.args.e)) (length c.loop-rest.rest.now) pos (omega arith) in
    record {
      level = (
        inv.level.0 ++ c.split_at.result.0.now,
        append_assoc inv.level.0 c.split_at.result.0.now c.split_at.result.1.now ∙ ap (λ (ws : List (ℕ × List ℕ)). inv.level.0 ++ ws) whole ∙ inv.level.1,
        rw c.in_ok-push.ensures.items (level-step c.args.h.now c.loop-rest.h c.put_part.new.h c.args.k c.args.e inv.level.0 c.split_at.result.0.now c.loop-rest.pairs.items c.in_ok-put_part.field-0 inv.level.2 c.in_ok-put_part.ensures some two.0),
      );
      records = two.1;
      count = rw (c.in_ok-push.ensures.items, c.split_at.ensures.back)
          (counted (length (c.loop-rest.pairs.items ++ c.in_ok-put_part.field-0 ∷ [])) (length c.loop-rest.pairs.items) (chunks (per_item (c.args.k + c.args.e)) (length (drop c.min.result c.loop-rest.rest.now)))
          (chunks (per_item (c.args.k + c.args.e)) (length c.loop-rest.rest.now - min (per_item (c.args.k + c.args.e)) (length c.loop-rest.rest.now))) (chunks (per_item (c.args.k + c.args.e)) (length c.loop-rest.rest.now))
          (chunks (per_item (c.args.k + c.args.e)) (length c.args.recs.now)) (length_push c.loop-rest.pairs.items c.in_ok-put_part.field-0) left step inv.count);
    }
