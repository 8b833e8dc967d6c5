use Rattle.std.proofs.Common.{◌≡◌, ◌∙◌, ◌-◌, ◌++◌, [], sym, ap, arith}
use Rattle.std.proofs.lemmas.List.{nil_from_length}
use Rattle.std.proofs.lemmas.Result.{err_from_is_err_and}
use Rattle.std.specs.Option.{option_and_then}
use Rattle.byteorder.specs.Endian.{little_number}
use Rattle.heap_on_node.specs.Heap.{item}
use Rattle.bth_tree.specs.Records.{front}
use Rattle.bth_tree.specs.Tree.{children, filled, tree}
use Rattle.bth_tree.proofs.OptionLaws.{before}
use Rattle.bth_tree.proofs.FindLaws.{before-all}
use Rattle.bth_tree.proofs.TreeLaws.{child-in, child-none, child-out, children-none, children-short, tree-inner, tree-leaf, tree-none}
use Rattle.bth_tree.proofs.WholeLaws.{tree-within}
use Rattle.bth_tree.proofs.find.+look_tree.Goals as goal

pub returns-in_default : goal.returns-in_default
returns-in_default t c = tree-none (item c.args.h.now) c.args.k c.args.e c.args.level c.args.hid (sym c.in_default.ensures)

pub returns-in_err-look_leaf : goal.returns-in_err-look_leaf
returns-in_err-look_leaf t c =
    let p = err_from_is_err_and c.from_residual.result c.from_residual.ensures.1 in
    rw p.1 (tree-leaf (item c.args.h.now) c.args.k c.args.e c.args.level c.args.hid c.in-Some.x.now (sym c.in-Some.ensures) c.if-level-eq0.true ∙ ap (option_and_then filled) c.in_err-look_leaf.ensures)

pub returns-then-level-eq0 : goal.returns-then-level-eq0
returns-then-level-eq0 t c =
    let put = c.in_ok-look_leaf.ensures in
    rw (tree-leaf (item c.args.h.now) c.args.k c.args.e c.args.level c.args.hid c.in-Some.x.now (sym c.in-Some.ensures) c.if-level-eq0.true ∙ ap (option_and_then filled) c.in_ok-look_leaf.ensures.1)
    (c.filled_sum.ensures c.args.key c.in_ok-look_leaf.ensures.0 c.in_ok-look_leaf.ensures.2)

pub returns-then-rest-k : goal.returns-then-rest-k
returns-then-rest-k t c =
    tree-inner (item c.args.h.now) c.args.k c.args.e c.args.level c.args.hid c.in-Some.x.now (sym c.in-Some.ensures) (omega arith)
    ∙ ap (option_and_then filled) (sym c.loop-rest.invariant.1 ∙ ap (before c.loop-rest.invariant.0) (children-short (tree (item c.args.h.now) c.args.k c.args.e (c.args.level - 1)) c.args.k c.loop-rest.rest.now (omega arith) (omega arith)))

pub returns-in_err-child : goal.returns-in_err-child
returns-in_err-child t c =
    let p = err_from_is_err_and c.from_residual-in_err-child.result c.from_residual-in_err-child.ensures.1 in
    rw p.1
    (tree-inner (item c.args.h.now) c.args.k c.args.e c.args.level c.args.hid c.in-Some.x.now (sym c.in-Some.ensures) (omega arith)
    ∙ ap (option_and_then filled) (sym c.loop-rest.invariant.1 ∙ ap (before c.loop-rest.invariant.0)
    (child-none (tree (item c.args.h.now) c.args.k c.args.e (c.args.level - 1)) c.args.k c.key_at.result c.loop-rest.rest.now (omega arith) (omega arith)
    (c.key_at.ensures.value ∙ ap (little_number 4) c.record_at-pair.ensures.entry) c.in_err-child.ensures)))

pub returns-then-not-lies_within : goal.returns-then-not-lies_within
returns-then-not-lies_within t c =
    let put = c.in_ok-child.ensures in
    let test = sym (c.lies_within.ensures c.args.key c.in_ok-child.ensures.0 c.in_ok-child.ensures.2 (tree-within (item c.args.h.now) c.args.k c.args.e (c.args.level - 1) c.key_at.result c.in_ok-child.ensures.0 c.in_ok-child.ensures.1)) ∙ c.if-not-lies_within.true in
    tree-inner (item c.args.h.now) c.args.k c.args.e c.args.level c.args.hid c.in-Some.x.now (sym c.in-Some.ensures) (omega arith)
    ∙ ap (option_and_then filled) (sym c.loop-rest.invariant.1 ∙ ap (before c.loop-rest.invariant.0)
    (child-out (tree (item c.args.h.now) c.args.k c.args.e (c.args.level - 1)) c.args.k c.key_at.result c.record_at-pair.result.key c.end_at-end.result c.loop-rest.rest.now c.in_ok-child.ensures.0
    (omega arith) (omega arith) (c.key_at.ensures.value ∙ ap (little_number 4) c.record_at-pair.ensures.entry) c.record_at-pair.ensures.key (c.end_at-end.ensures ∙ ap (front c.args.k) c.behind-rest.ensures)
    c.in_ok-child.ensures.1 test))

pub loop-rest-preserved : goal.loop-rest-preserved
loop-rest-preserved t c =
    let test = sym (c.lies_within.ensures c.args.key c.in_ok-child.ensures.0 c.in_ok-child.ensures.2 (tree-within (item c.args.h.now) c.args.k c.args.e (c.args.level - 1) c.key_at.result c.in_ok-child.ensures.0 c.in_ok-child.ensures.1)) ∙ c.if-not-lies_within.false in (
      c.loop-rest.invariant.0 ++ c.in_ok-child.ensures.0,
      rw c.behind-rest.ensures
          (child-in (tree (item c.args.h.now) c.args.k c.args.e (c.args.level - 1)) c.args.k c.key_at.result c.record_at-pair.result.key c.end_at-end.result c.loop-rest.rest.now c.in_ok-child.ensures.0 c.loop-rest.invariant.0
          (omega arith) (omega arith) (c.key_at.ensures.value ∙ ap (little_number 4) c.record_at-pair.ensures.entry) c.record_at-pair.ensures.key (c.end_at-end.ensures ∙ ap (front c.args.k) c.behind-rest.ensures)
          c.in_ok-child.ensures.1 test ∙ c.loop-rest.invariant.1),
      c.joined.ensures c.args.key c.loop-rest.invariant.0 c.in_ok-child.ensures.0 c.loop-rest.invariant.2 c.in_ok-child.ensures.2,
    )

pub returns : goal.returns
returns t c =
    let e : c.loop-rest.rest.now ≡ [] = nil_from_length c.loop-rest.rest.now (omega arith) in
    let child = tree (item c.args.h.now) c.args.k c.args.e (c.args.level - 1) in
    let done = ap (before c.loop-rest.invariant.0) (ap (children (tree (item c.args.h.now) c.args.k c.args.e (c.args.level - 1)) c.args.k) e ∙ children-none (tree (item c.args.h.now) c.args.k c.args.e (c.args.level - 1)) c.args.k (omega arith)) in
    let all = before-all c.loop-rest.invariant.0 (children (tree (item c.args.h.now) c.args.k c.args.e (c.args.level - 1)) c.args.k c.in-Some.x.now) (sym done ∙ c.loop-rest.invariant.1) in
    rw (tree-inner (item c.args.h.now) c.args.k c.args.e c.args.level c.args.hid c.in-Some.x.now (sym c.in-Some.ensures) (omega arith) ∙ ap (option_and_then filled) all)
    (c.filled_sum-2.ensures c.args.key c.loop-rest.invariant.0 c.loop-rest.invariant.2)
