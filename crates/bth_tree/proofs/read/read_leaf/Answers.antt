use Rattle.std.proofs.Common.{◌≡◌, ◌∙◌, ◌^◌, [], map, sym, ap, arith}
use Rattle.std.proofs.lemmas.List.{nil_from_length}
use Rattle.bth_tree.specs.Answers.{seen}
use Rattle.bth_tree.specs.Records.{ordered}
use Rattle.bth_tree.proofs.OptionLaws.{before, before-none}
use Rattle.bth_tree.proofs.ReadLaws.{before-done, each-push, leaf-step}
use Rattle.bth_tree.proofs.RecordLaws.{ordered-low, ordered-none, ordered-short}
use Rattle.bth_tree.proofs.read.read_leaf.Goals as goal

pub returns-then-rest-k-clause-put : goal.returns-then-rest-k-clause-put
returns-then-rest-k-clause-put c =
    before-none (map seen c.args.out.now.items) (ordered c.args.k c.args.e 0 (2 ^ 32) c.args.x.now)
    (sym c.loop-rest.invariant.so_far ∙ ap (before (map seen c.loop-rest.out.items)) (ordered-short c.args.k c.args.e c.loop-rest.low (2 ^ 32) c.loop-rest.rest.now (omega arith) (omega arith)))

pub returns-then-from-low-clause-put : goal.returns-then-from-low-clause-put
returns-then-from-low-clause-put c =
    before-none (map seen c.args.out.now.items) (ordered c.args.k c.args.e 0 (2 ^ 32) c.args.x.now)
    (sym c.loop-rest.invariant.so_far ∙ ap (before (map seen c.loop-rest.out.items))
    (ordered-low c.args.k c.args.e c.loop-rest.low (2 ^ 32) c.loop-rest.rest.now (omega arith) (omega arith) (omega (arith, c.record_at-record.ensures.key, c.from.ensures))))

pub loop-rest-preserved : goal.loop-rest-preserved
loop-rest-preserved c = record {
  so_far = rw (c.in_ok-push.ensures.items, c.behind-rest.ensures, c.from-low.ensures)
      (leaf-step c.args.k c.args.e c.loop-rest.low (2 ^ 32) c.args.x.now c.loop-rest.rest.now (map seen c.args.out.now.items) c.loop-rest.out.items c.record_at-record.result
      (omega arith) (omega arith) (omega (arith, c.from.ensures)) (omega arith) c.record_at-record.ensures.key c.record_at-record.ensures.entry c.loop-rest.invariant.so_far);
  each = rw c.in_ok-push.ensures.items (each-push c.args.k c.args.e c.loop-rest.out.items c.record_at-record.result c.loop-rest.invariant.each
      (record { key = c.record_at-record.ensures.fits; entry = c.record_at-record.ensures.length }));
}

pub returns-clause-put : goal.returns-clause-put
returns-clause-put c =
    let e : c.loop-rest.rest.now ≡ [] = nil_from_length c.loop-rest.rest.now (omega arith) in
    let done = ap (before (map seen c.loop-rest.out.items)) (ap (ordered c.args.k c.args.e c.loop-rest.low (2 ^ 32)) e ∙ ordered-none c.args.k c.args.e c.loop-rest.low (2 ^ 32) (omega arith)) in
    before-done (map seen c.args.out.now.items) (map seen c.loop-rest.out.items) (ordered c.args.k c.args.e 0 (2 ^ 32) c.args.x.now) (sym done ∙ c.loop-rest.invariant.so_far)
