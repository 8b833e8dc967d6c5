use Rattle.std.proofs.Common.{◌≡◌, ◌∙◌, ◌∷◌, ◌++◌, ◌^◌, [], sym, ap, arith}
use Rattle.std.proofs.lemmas.List.{nil_from_length}
use Rattle.bth_tree.specs.Records.{ordered}
use Rattle.bth_tree.proofs.OptionLaws.{before}
use Rattle.bth_tree.proofs.FindLaws.{before-all, look-step}
use Rattle.bth_tree.proofs.RecordLaws.{ordered-low, ordered-none, ordered-short}
use Rattle.bth_tree.proofs.find.look_leaf.Goals as goal

pub returns-then-rest-k : goal.returns-then-rest-k
returns-then-rest-k c =
    sym c.loop-rest.invariant.1 ∙ ap (before c.loop-rest.invariant.0) (ordered-short c.args.k c.args.e c.loop-rest.low (2 ^ 32) c.loop-rest.rest.now (omega arith) (omega arith))

pub returns-then-from-low : goal.returns-then-from-low
returns-then-from-low c =
    sym c.loop-rest.invariant.1 ∙ ap (before c.loop-rest.invariant.0)
    (ordered-low c.args.k c.args.e c.loop-rest.low (2 ^ 32) c.loop-rest.rest.now (omega arith) (omega arith) (omega (arith, c.record_at-record.ensures.key, c.from.ensures)))

pub loop-rest-preserved : goal.loop-rest-preserved
loop-rest-preserved c = (
  c.loop-rest.invariant.0 ++ (c.record_at-record.result.key, c.record_at-record.result.entry.now) ∷ [],
  rw (c.behind-rest.ensures, c.from-low.ensures)
      (look-step c.args.k c.args.e c.loop-rest.low (2 ^ 32) c.record_at-record.result.key c.record_at-record.result.entry.now c.loop-rest.rest.now c.loop-rest.invariant.0
      (omega arith) (omega arith) (omega (arith, c.from.ensures)) (omega arith) c.record_at-record.ensures.key c.record_at-record.ensures.entry ∙ c.loop-rest.invariant.1),
  c.joined.ensures c.args.key c.loop-rest.invariant.0 ((c.record_at-record.result.key, c.record_at-record.result.entry.now) ∷ []) c.loop-rest.invariant.2 c.one.ensures,
)

pub returns : goal.returns
returns c =
    let e : c.loop-rest.rest.now ≡ [] = nil_from_length c.loop-rest.rest.now (omega arith) in
    let done = ap (before c.loop-rest.invariant.0) (ap (ordered c.args.k c.args.e c.loop-rest.low (2 ^ 32)) e ∙ ordered-none c.args.k c.args.e c.loop-rest.low (2 ^ 32) (omega arith)) in
    (c.loop-rest.invariant.0, before-all c.loop-rest.invariant.0 (ordered c.args.k c.args.e 0 (2 ^ 32) c.args.x.now) (sym done ∙ c.loop-rest.invariant.1), c.loop-rest.invariant.2)
