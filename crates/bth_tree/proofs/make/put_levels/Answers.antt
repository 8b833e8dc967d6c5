use Rattle.std.proofs.Common.{◌≡◌, ◌≤◌, ◌∙◌, ◌+◌, ◌-◌, ◌*◌, suc, ℕ, List, Some, length, get_or, ap, arith}
use Rattle.byteorder.specs.Endian.{little_number}
use Rattle.pst_base.proofs.FieldLaws.{number_at-zero}
use Rattle.heap_on_node.specs.Packing.{halves, item_in, spread}
use Rattle.bth_tree.specs.Making.{Parts, chunks, items_above, items_made, per_item, spelled}
use Rattle.bth_tree.specs.Tree.{gather, tree}
use Rattle.bth_tree.proofs.MakeLaws.{chunks-pos, cover-leaves, cover-pairs, fewer, few-first, length-pairs, level-kept, one-pair, per-pos, room-first, room-last, room-level, room-next, room-step, root-from, root-nonzero, spent-first, spent-last, spent-next}
use Rattle.bth_tree.proofs.make.put_levels.Goals as goal

pub levels-init : goal.levels-init
levels-init c =
    let m = c.in_ok-pairs.ensures.level in
    let n = c.in_ok-pairs.ensures.count in
    let above = items_above (per_item (c.args.k + 4)) 2 (chunks (per_item (c.args.k + c.args.e)) (length c.args.recs.now)) in
    record {
      kept = m.kept;
      some = rw n (chunks-pos (per_item (c.args.k + c.args.e)) (length c.args.recs.now) (per-pos (c.args.k + c.args.e) (omega arith) (omega arith)) c.requires.some);
      pairs = m.pairs;
      reads = cover-leaves (item_in c.put_level.new.h) c.args.k c.args.e c.in_ok-pairs.pairs.items c.args.recs.now (omega arith) m.parts c.requires.records c.requires.ascend;
      level = omega arith;
      first = λ z. few-first (length c.args.h.now) (chunks (per_item (c.args.k + c.args.e)) (length c.args.recs.now)) (length c.in_ok-pairs.pairs.items) above c.requires.blocks n;
      second = λ z. absurd (omega arith);
      third = λ z. absurd (omega arith);
      room = room-first (length c.args.h.now) (length c.put_level.new.h) (per_item (c.args.k + 4)) (chunks (per_item (c.args.k + c.args.e)) (length c.args.recs.now)) (length c.in_ok-pairs.pairs.items) m.blocks n;
      half = room-first (halves c.args.h.now) (halves c.put_level.new.h) (per_item (c.args.k + 4)) (chunks (per_item (c.args.k + c.args.e)) (length c.args.recs.now)) (length c.in_ok-pairs.pairs.items) m.half n;
      spent = spent-first (spread c.args.h.now) (spread c.put_level.new.h) (length (spelled c.args.k c.args.recs.now)) (chunks (per_item (c.args.k + c.args.e)) (length c.args.recs.now)) (length c.in_ok-pairs.pairs.items) m.spent n;
    }

pub put_level-requires-in-levels-clause-blocks : goal.put_level-requires-in-levels-clause-blocks
put_level-requires-in-levels-clause-blocks c =
    let inv = c.levels.invariant in
    let s = room-step (length c.levels.h) (per_item (c.args.k + 4)) c.levels.level (length c.levels.pairs.items) (length c.args.h.now + items_made c.args.k c.args.e (length c.args.recs.now)) inv.level inv.third (omega arith) inv.room in
    rw c.as_slice.ensures.value
    (room-level (length c.levels.h) (chunks (per_item (c.args.k + 4)) (length c.levels.pairs.items)) (items_above (per_item (c.args.k + 4)) (2 - (c.levels.level + 1)) (chunks (per_item (c.args.k + 4)) (length c.levels.pairs.items)))
    (length c.args.h.now + items_made c.args.k c.args.e (length c.args.recs.now)) s.1 c.requires.blocks)

pub levels-smaller : goal.levels-smaller
levels-smaller c =
    let f = fewer c.args.k c.requires.low c.requires.high in
    rw (c.in_ok-pairs-2.ensures.count, c.as_slice.ensures.value) (f.less (length c.levels.pairs.items) (omega arith))

pub levels-preserved : goal.levels-preserved
levels-preserved c =
    let inv = c.levels.invariant in
    let m = c.in_ok-pairs-2.ensures.level in
    let f = fewer c.args.k c.requires.low c.requires.high in
    let count : length c.in_ok-pairs-2.pairs.items ≡ chunks (per_item (c.args.k + 4)) (length c.levels.pairs.items) =
    c.in_ok-pairs-2.ensures.count ∙ ap (λ (ps : List (ℕ × List ℕ)). chunks (per_item (c.args.k + 4)) (length ps)) c.as_slice.ensures.value in
    let parts : Parts (item_in c.put_level-in-levels.new.h) c.args.k c.in_ok-pairs-2.pairs.items c.levels.pairs.items = rw c.as_slice.ensures.value at m.parts in
    let next : c.levels.level + 1 ≡ suc c.levels.level = omega arith in
    let s = room-step (length c.levels.h) (per_item (c.args.k + 4)) c.levels.level (length c.levels.pairs.items) (length c.args.h.now + items_made c.args.k c.args.e (length c.args.recs.now)) inv.level inv.third (omega arith) inv.room in
    let halved = room-step (halves c.levels.h) (per_item (c.args.k + 4)) c.levels.level (length c.levels.pairs.items) (halves c.args.h.now + items_made c.args.k c.args.e (length c.args.recs.now)) inv.level inv.third (omega arith) inv.half in
    let spent : spread c.put_level-in-levels.new.h ≤ spread c.levels.h + (2 * length (spelled c.args.k c.levels.pairs.items) + 4 * length c.in_ok-pairs-2.pairs.items) = rw c.as_slice.ensures.value at m.spent in
    record {
      kept = λ hid x h. m.kept hid x (inv.kept hid x h);
      some = rw count (chunks-pos (per_item (c.args.k + 4)) (length c.levels.pairs.items) f.pos inv.some);
      pairs = m.pairs;
      reads = ap (λ (n : ℕ). gather (tree (item_in c.put_level-in-levels.new.h) c.args.k c.args.e n) c.in_ok-pairs-2.pairs.items) next
          ∙ cover-pairs (item_in c.put_level-in-levels.new.h) c.args.k c.args.e c.levels.level c.in_ok-pairs-2.pairs.items c.levels.pairs.items c.args.recs.now (omega arith) parts inv.pairs
          (level-kept (item_in c.levels.h) (item_in c.put_level-in-levels.new.h) c.args.k c.args.e c.levels.level c.levels.pairs.items c.args.recs.now m.kept inv.reads);
      level = omega (arith, s.0);
      first = λ z. absurd (omega arith);
      second = λ z. rw count (f.second (length c.levels.pairs.items) (inv.first (omega arith)));
      third = λ z. rw count (f.third (length c.levels.pairs.items) (inv.second (omega arith)));
      room = room-next (length c.levels.h) (length c.put_level-in-levels.new.h) (per_item (c.args.k + 4)) (2 - (c.levels.level + 1)) (chunks (per_item (c.args.k + 4)) (length c.levels.pairs.items)) (length c.in_ok-pairs-2.pairs.items)
          (length c.args.h.now + items_made c.args.k c.args.e (length c.args.recs.now)) m.blocks count s.1;
      half = room-next (halves c.levels.h) (halves c.put_level-in-levels.new.h) (per_item (c.args.k + 4)) (2 - (c.levels.level + 1)) (chunks (per_item (c.args.k + 4)) (length c.levels.pairs.items)) (length c.in_ok-pairs-2.pairs.items)
          (halves c.args.h.now + items_made c.args.k c.args.e (length c.args.recs.now)) m.half count halved.1;
      spent = spent-next (spread c.levels.h) (spread c.put_level-in-levels.new.h) (length c.levels.pairs.items) (length c.in_ok-pairs-2.pairs.items)
          (spread c.args.h.now + (2 * length (spelled c.args.k c.args.recs.now) + 48 * chunks (per_item (c.args.k + c.args.e)) (length c.args.recs.now))) (length (spelled c.args.k c.levels.pairs.items))
          inv.spent spent (length-pairs c.args.k c.levels.pairs.items c.requires.high inv.pairs) (rw count (f.half (length c.levels.pairs.items) (omega arith)));
    }

pub returns : goal.returns
returns c =
    let inv = c.levels.invariant in
    let one : length c.levels.pairs.items ≡ 1 = omega (arith, inv.some) in
    let hid_is : c.u32_at.result ≡ little_number 4 (get_or c.levels.pairs.items 0 c.index.result.now).1 =
    c.u32_at.ensures ∙ number_at-zero 4 c.as_slice-2.result.now ∙ ap (little_number 4) (c.as_slice-2.ensures.value ∙ ap (λ (p : ℕ × List ℕ). p.1) c.index.ensures) in
    let reads : tree (item_in c.levels.h) c.args.k c.args.e c.levels.level c.u32_at.result ≡ Some c.args.recs.now =
    ap (tree (item_in c.levels.h) c.args.k c.args.e c.levels.level) hid_is
    ∙ one-pair (tree (item_in c.levels.h) c.args.k c.args.e c.levels.level) c.levels.pairs.items c.args.recs.now c.index.result.now one inv.reads in
    record {
      kept = inv.kept;
      root = root-from (item_in c.levels.h) c.args.k c.args.e c.levels.level c.u32_at.result c.args.recs.now reads;
      some = root-nonzero c.levels.h c.args.k c.args.e c.levels.level c.u32_at.result c.args.recs.now reads;
      blocks = room-last (length c.levels.h) (items_above (per_item (c.args.k + 4)) (2 - c.levels.level) (length c.levels.pairs.items)) (length c.args.h.now + items_made c.args.k c.args.e (length c.args.recs.now)) inv.room;
      half = room-last (halves c.levels.h) (items_above (per_item (c.args.k + 4)) (2 - c.levels.level) (length c.levels.pairs.items)) (halves c.args.h.now + items_made c.args.k c.args.e (length c.args.recs.now)) inv.half;
      spent = spent-last (spread c.levels.h) (length c.levels.pairs.items) (spread c.args.h.now) (length (spelled c.args.k c.args.recs.now)) (chunks (per_item (c.args.k + c.args.e)) (length c.args.recs.now)) one inv.spent;
    }
