use Rattle.std.proofs.Common.{[], map, sym, arith}
use Rattle.std.proofs.lemmas.List.{append-nil}
use Rattle.heap_on_node.specs.Heap.{item}
use Rattle.bth_tree.specs.Answers.{seen}
use Rattle.bth_tree.proofs.WholeLaws.{under-leaf, under-leaf_none, under-none, under-tree}
use Rattle.bth_tree.proofs.read.read_under.Goals as goal

pub returns-then-hid-eq0-clause-put : goal.returns-then-hid-eq0-clause-put
returns-then-hid-eq0-clause-put c =
    ([], under-none (item c.args.h.now) c.args.k c.args.e c.args.x.now (omega (arith, c.u32_at-hid.ensures)), sym (append-nil (map seen c.args.out.now.items)))

pub returns-then-level-gt0-clause-put : goal.returns-then-level-gt0-clause-put
returns-then-level-gt0-clause-put c =
    rw (under-tree (item c.args.h.now) c.args.k c.args.e c.u8_at-level.result c.u32_at-hid.result c.args.x.now c.u8_at-level.ensures c.u32_at-hid.ensures c.if-hid-eq0.false (omega arith))
    c.read_tree.ensures.put

pub returns-in_default-clause-put : goal.returns-in_default-clause-put
returns-in_default-clause-put c =
    under-leaf_none (item c.args.h.now) c.args.k c.args.e c.u8_at-level.result c.u32_at-hid.result c.args.x.now c.u8_at-level.ensures c.u32_at-hid.ensures c.if-hid-eq0.false (omega arith) (sym c.in_default.ensures)

pub returns-clause-put : goal.returns-clause-put
returns-clause-put c =
    rw (under-leaf (item c.args.h.now) c.args.k c.args.e c.u8_at-level.result c.u32_at-hid.result c.args.x.now c.in-Some.leaf.now c.u8_at-level.ensures c.u32_at-hid.ensures c.if-hid-eq0.false (omega arith) (sym c.in-Some.ensures))
    c.read_leaf.ensures.put
