use Rattle.std.proofs.Common.{◌∙◌, [], refl, sym, arith}
use Rattle.std.proofs.lemmas.Result.{err_from_is_err_and}
use Rattle.heap_on_node.specs.Heap.{item}
use Rattle.bth_tree.proofs.WholeLaws.{under-leaf, under-leaf_none, under-none, under-tree}
use Rattle.bth_tree.proofs.find.look_under.Goals as goal

pub returns-then-hid-eq0 : goal.returns-then-hid-eq0
returns-then-hid-eq0 c = ([], under-none (item c.args.h.now) c.args.k c.args.e c.args.x.now (omega (arith, c.u32_at-hid.ensures)), refl)

pub returns-in_err-look_tree : goal.returns-in_err-look_tree
returns-in_err-look_tree c =
    let p = err_from_is_err_and c.from_residual.result c.from_residual.ensures.1 in
    rw p.1 (under-tree (item c.args.h.now) c.args.k c.args.e c.u8_at-level.result c.u32_at-hid.result c.args.x.now c.u8_at-level.ensures c.u32_at-hid.ensures c.if-hid-eq0.false (omega arith) ∙ c.in_err-look_tree.ensures)

pub returns-then-level-gt0 : goal.returns-then-level-gt0
returns-then-level-gt0 c = (
  c.in_ok-look_tree.ensures.0,
  under-tree (item c.args.h.now) c.args.k c.args.e c.u8_at-level.result c.u32_at-hid.result c.args.x.now c.u8_at-level.ensures c.u32_at-hid.ensures c.if-hid-eq0.false (omega arith) ∙ c.in_ok-look_tree.ensures.1,
  c.in_ok-look_tree.ensures.2,
)

pub returns-in_default : goal.returns-in_default
returns-in_default c =
    under-leaf_none (item c.args.h.now) c.args.k c.args.e c.u8_at-level.result c.u32_at-hid.result c.args.x.now c.u8_at-level.ensures c.u32_at-hid.ensures c.if-hid-eq0.false (omega arith) (sym c.in_default.ensures)

pub returns : goal.returns
returns c =
    rw (under-leaf (item c.args.h.now) c.args.k c.args.e c.u8_at-level.result c.u32_at-hid.result c.args.x.now c.in-Some.leaf.now c.u8_at-level.ensures c.u32_at-hid.ensures c.if-hid-eq0.false (omega arith) (sym c.in-Some.ensures))
    c.look_leaf.ensures
