use Rattle.std.proofs.Common.{◌≡◌, ◌∙◌, ◌-◌, ◌^◌, [], List, true, false, length, map, drop, sym, ap, refl, length-append, arith}
use Rattle.std.proofs.lemmas.List.{drop_at, length-map, nil_from_length}
use Rattle.std.proofs.lemmas.Result.{err_from_is_err_and}
use Rattle.std.specs.Option.{option_and_then}
use Rattle.byteorder.specs.Endian.{little_number}
use Rattle.heap_on_node.specs.Heap.{item}
use Rattle.bth_tree.specs.declared.record.Record.{Record}
use Rattle.bth_tree.specs.Answers.{seen}
use Rattle.bth_tree.specs.Records.{front, ordered, within}
use Rattle.bth_tree.specs.Tree.{children, filled, tree}
use Rattle.bth_tree.proofs.OptionLaws.{before}
use Rattle.bth_tree.proofs.ReadLaws.{before-done, ends-filled, stops-along}
use Rattle.bth_tree.proofs.TreeLaws.{child-in, child-none, child-out, children-none, children-short, inner-none, tree-inner, tree-leaf, tree-none}
use Rattle.bth_tree.proofs.read.+read_tree.Goals as goal

pub returns-in_default-clause-put : goal.returns-in_default-clause-put
returns-in_default-clause-put t c = tree-none (item c.args.h.now) c.args.k c.args.e c.args.level c.args.hid (sym c.in_default.ensures)

pub returns-in_err-read_leaf-clause-put : goal.returns-in_err-read_leaf-clause-put
returns-in_err-read_leaf-clause-put t c =
    let p = err_from_is_err_and c.from_residual.result c.from_residual.ensures.1 in
    rw (p.1, p.2) (stops-along c.in_err-read_leaf.field-0.0 (ordered c.args.k c.args.e 0 (2 ^ 32) c.in-Some.x.now) (tree (item c.args.h.now) c.args.k c.args.e c.args.level c.args.hid)
    (λ none. tree-leaf (item c.args.h.now) c.args.k c.args.e c.args.level c.args.hid c.in-Some.x.now (sym c.in-Some.ensures) c.if-level-eq0.true ∙ ap (option_and_then filled) none)
    c.in_err-read_leaf.ensures.put)

pub returns-then-level-eq0-clause-put : goal.returns-then-level-eq0-clause-put
returns-then-level-eq0-clause-put t c =
    ends-filled c.grown.result c.args.out.now.items c.read_leaf.new.out.items c.len-start.result
    (tree (item c.args.h.now) c.args.k c.args.e c.args.level c.args.hid) (ordered c.args.k c.args.e 0 (2 ^ 32) c.in-Some.x.now)
    (tree-leaf (item c.args.h.now) c.args.k c.args.e c.args.level c.args.hid c.in-Some.x.now (sym c.in-Some.ensures) c.if-level-eq0.true)
    c.in_ok-read_leaf.ensures.put (omega arith) (rw c.as_slice.ensures.value at c.grown.ensures)

pub loop-rest-init : goal.loop-rest-init
loop-rest-init t c = record { start = omega arith; each = c.requires.each; so_far = refl }

pub returns-then-rest-k-clause-put : goal.returns-then-rest-k-clause-put
returns-then-rest-k-clause-put t c =
    inner-none (item c.args.h.now) c.args.k c.args.e c.args.level c.args.hid c.in-Some.x.now c.loop-rest.rest.now (map seen c.loop-rest.out.items) (map seen c.args.out.now.items)
    (sym c.in-Some.ensures) (omega arith) c.loop-rest.invariant.so_far
    (children-short (tree (item c.args.h.now) c.args.k c.args.e (c.args.level - 1)) c.args.k c.loop-rest.rest.now (omega arith) (omega arith))

pub returns-in_err-read_tree-clause-put : goal.returns-in_err-read_tree-clause-put
returns-in_err-read_tree-clause-put t c =
    let p = err_from_is_err_and c.from_residual-in_err-read_tree.result c.from_residual-in_err-read_tree.ensures.1 in
    rw (p.1, p.2) (stops-along c.in_err-read_tree.field-0.0 (tree (item c.args.h.now) c.args.k c.args.e (c.args.level - 1) c.key_at.result) (tree (item c.args.h.now) c.args.k c.args.e c.args.level c.args.hid)
    (λ none.
    inner-none (item c.args.h.now) c.args.k c.args.e c.args.level c.args.hid c.in-Some.x.now c.loop-rest.rest.now (map seen c.loop-rest.out.items) (map seen c.args.out.now.items)
    (sym c.in-Some.ensures) (omega arith) c.loop-rest.invariant.so_far
    (child-none (tree (item c.args.h.now) c.args.k c.args.e (c.args.level - 1)) c.args.k c.key_at.result c.loop-rest.rest.now (omega arith) (omega arith)
    (c.key_at.ensures.value ∙ ap (little_number 4) c.record_at-pair.ensures.entry) none))
    c.in_err-read_tree.ensures.put)

pub lie_within-requires : goal.lie_within-requires
lie_within-requires t c =
    let e = ap length c.in_ok-read_tree.ensures.put.2 in
    omega (arith, e, length-map c.loop-rest.out.items seen, length-map c.read_tree.new.out.items seen, length-append (map seen c.loop-rest.out.items) c.in_ok-read_tree.ensures.put.0)

pub returns-then-not-lie_within-clause-put : goal.returns-then-not-lie_within-clause-put
returns-then-not-lie_within-clause-put t c =
    let at : drop c.len-from.result (map seen c.read_tree.new.out.items) ≡ c.in_ok-read_tree.ensures.put.0 =
    ap (drop c.len-from.result) c.in_ok-read_tree.ensures.put.2
    ∙ drop_at (map seen c.loop-rest.out.items) c.in_ok-read_tree.ensures.put.0 c.len-from.result (omega (arith, length-map c.loop-rest.out.items seen)) in
    let test : within c.record_at-pair.result.key c.end_at-end.result c.in_ok-read_tree.ensures.put.0 ≡ false =
    ap (within c.record_at-pair.result.key c.end_at-end.result) (sym at)
    ∙ ap (λ (rs : List Record). within c.record_at-pair.result.key c.end_at-end.result (drop c.len-from.result (map seen rs))) (sym c.as_slice-in-loop-rest.ensures.value)
    ∙ sym c.lie_within.ensures ∙ c.if-not-lie_within.true in
    inner-none (item c.args.h.now) c.args.k c.args.e c.args.level c.args.hid c.in-Some.x.now c.loop-rest.rest.now (map seen c.loop-rest.out.items) (map seen c.args.out.now.items)
    (sym c.in-Some.ensures) (omega arith) c.loop-rest.invariant.so_far
    (child-out (tree (item c.args.h.now) c.args.k c.args.e (c.args.level - 1)) c.args.k c.key_at.result c.record_at-pair.result.key c.end_at-end.result c.loop-rest.rest.now c.in_ok-read_tree.ensures.put.0
    (omega arith) (omega arith) (c.key_at.ensures.value ∙ ap (little_number 4) c.record_at-pair.ensures.entry) c.record_at-pair.ensures.key (c.end_at-end.ensures ∙ ap (front c.args.k) c.behind-rest.ensures)
    c.in_ok-read_tree.ensures.put.1 test)

pub loop-rest-preserved : goal.loop-rest-preserved
loop-rest-preserved t c =
    let at : drop c.len-from.result (map seen c.read_tree.new.out.items) ≡ c.in_ok-read_tree.ensures.put.0 =
    ap (drop c.len-from.result) c.in_ok-read_tree.ensures.put.2
    ∙ drop_at (map seen c.loop-rest.out.items) c.in_ok-read_tree.ensures.put.0 c.len-from.result (omega (arith, length-map c.loop-rest.out.items seen)) in
    let test : within c.record_at-pair.result.key c.end_at-end.result c.in_ok-read_tree.ensures.put.0 ≡ true =
    ap (within c.record_at-pair.result.key c.end_at-end.result) (sym at)
    ∙ ap (λ (rs : List Record). within c.record_at-pair.result.key c.end_at-end.result (drop c.len-from.result (map seen rs))) (sym c.as_slice-in-loop-rest.ensures.value)
    ∙ sym c.lie_within.ensures ∙ c.if-not-lie_within.false in
    let e = ap length c.in_ok-read_tree.ensures.put.2 in
    record {
      start = omega (arith, e, length-map c.loop-rest.out.items seen, length-map c.read_tree.new.out.items seen, length-append (map seen c.loop-rest.out.items) c.in_ok-read_tree.ensures.put.0);
      each = c.in_ok-read_tree.ensures.each;
      so_far = rw (c.in_ok-read_tree.ensures.put.2, c.behind-rest.ensures)
          (child-in (tree (item c.args.h.now) c.args.k c.args.e (c.args.level - 1)) c.args.k c.key_at.result c.record_at-pair.result.key c.end_at-end.result c.loop-rest.rest.now c.in_ok-read_tree.ensures.put.0 (map seen c.loop-rest.out.items)
          (omega arith) (omega arith) (c.key_at.ensures.value ∙ ap (little_number 4) c.record_at-pair.ensures.entry) c.record_at-pair.ensures.key (c.end_at-end.ensures ∙ ap (front c.args.k) c.behind-rest.ensures)
          c.in_ok-read_tree.ensures.put.1 test ∙ c.loop-rest.invariant.so_far);
    }

pub returns-clause-put : goal.returns-clause-put
returns-clause-put t c =
    let e : c.loop-rest.rest.now ≡ [] = nil_from_length c.loop-rest.rest.now (omega arith) in
    let done = ap (before (map seen c.loop-rest.out.items)) (ap (children (tree (item c.args.h.now) c.args.k c.args.e (c.args.level - 1)) c.args.k) e ∙ children-none (tree (item c.args.h.now) c.args.k c.args.e (c.args.level - 1)) c.args.k (omega arith)) in
    ends-filled c.grown-2.result c.args.out.now.items c.loop-rest.out.items c.len-start.result
    (tree (item c.args.h.now) c.args.k c.args.e c.args.level c.args.hid) (children (tree (item c.args.h.now) c.args.k c.args.e (c.args.level - 1)) c.args.k c.in-Some.x.now)
    (tree-inner (item c.args.h.now) c.args.k c.args.e c.args.level c.args.hid c.in-Some.x.now (sym c.in-Some.ensures) (omega arith))
    (before-done (map seen c.args.out.now.items) (map seen c.loop-rest.out.items) (children (tree (item c.args.h.now) c.args.k c.args.e (c.args.level - 1)) c.args.k c.in-Some.x.now) (sym done ∙ c.loop-rest.invariant.so_far))
    (omega arith) (rw c.as_slice-2.ensures.value at c.grown-2.ensures)
