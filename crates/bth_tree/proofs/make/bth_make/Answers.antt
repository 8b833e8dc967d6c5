use Rattle.std.proofs.Common.{length, ◌≡◌, ◌∙◌, ◌<◌, ◌≤◌, ◌+◌, ◌*◌, ◌^◌, [], ℕ, Some, sym, ap, arith}
use Rattle.std.proofs.lemmas.List.{nil_from_length}
use Rattle.std.proofs.lemmas.Result.{IfOk-weaker}
use Rattle.heap_on_node.specs.Packing.{Adds, halves, item_in, spend, spread}
use Rattle.heap_on_node.proofs.PackingLaws.{kept-by_adds}
use Rattle.bth_tree.specs.Making.{Makes, chunks, header_of, items_above, items_made, per_item, spelled, tree_spend}
use Rattle.bth_tree.specs.Tree.{root}
use Rattle.bth_tree.proofs.MakeLaws.{header-none, header-over, header-spend, root-kept}
use Rattle.bth_tree.proofs.make.bth_make.Goals as goal

none-made : (new old x : ℕ) → new ≤ old + 1 → new ≤ old + (1 + x)
none-made new old x h = omega arith

all-made : (new mid old x : ℕ) → new ≤ mid + 1 → mid + 1 ≤ old + x → new ≤ old + x
all-made new mid old x a b = omega arith

none-spent : (new old x len q : ℕ) → new ≡ old + x → x ≡ 16 → new ≤ old + (2 * len + 48 * q + 16)
none-spent new old x len q a b = omega arith

all-spent : (new mid old x bound : ℕ) → new ≡ mid + x → x ≡ 16 → mid + 16 ≤ old + bound → new ≤ old + bound
all-spent new mid old x bound a b c = omega arith

pub returns-then-recs-eq0 : goal.returns-then-recs-eq0
returns-then-recs-eq0 c =
    let none : c.args.recs.now ≡ [] = nil_from_length c.args.recs.now c.if-recs-eq0.true in
    IfOk-weaker c.put_header.result (λ (hid : ℕ). Adds c.args.h.now (header_of c.args.key_len c.args.ent_len 0 0) c.put_header.new.h hid)
    (λ (hid : ℕ). Makes c.args.h.now c.put_header.new.h hid c.args.key_len c.args.ent_len c.args.recs.now)
    (λ hid a. record {
      kept = kept-by_adds c.args.h.now c.put_header.new.h (header_of c.args.key_len c.args.ent_len 0 0) hid a;
      tree = header-none (item_in c.put_header.new.h) hid c.args.key_len c.args.ent_len a.here ∙ ap Some (sym none);
      blocks = none-made (length c.put_header.new.h) (length c.args.h.now) (chunks (per_item (c.args.key_len + c.args.ent_len)) (length c.args.recs.now) + items_above (per_item (c.args.key_len + 4)) 2 (chunks (per_item (c.args.key_len + c.args.ent_len)) (length c.args.recs.now))) a.blocks;
      half = none-made (halves c.put_header.new.h) (halves c.args.h.now) (chunks (per_item (c.args.key_len + c.args.ent_len)) (length c.args.recs.now) + items_above (per_item (c.args.key_len + 4)) 2 (chunks (per_item (c.args.key_len + c.args.ent_len)) (length c.args.recs.now))) a.half;
      spent = none-spent (spread c.put_header.new.h) (spread c.args.h.now) (spend (header_of c.args.key_len c.args.ent_len 0 0)) (length (spelled c.args.key_len c.args.recs.now)) (chunks (per_item (c.args.key_len + c.args.ent_len)) (length c.args.recs.now))
          a.spent (header-spend c.args.key_len c.args.ent_len 0 0);
    })
    c.put_header.ensures

pub returns : goal.returns
returns c =
    let m = c.in_ok-level.ensures in
    let fit : c.in_ok-level.root < 2 ^ 32 = omega arith in
    let reads : root (item_in c.put_levels.new.h) c.args.key_len c.args.ent_len c.in_ok-level.level c.in_ok-level.root ≡ Some c.args.recs.now =
    ap (λ (k : ℕ). root (item_in c.put_levels.new.h) k c.args.ent_len c.in_ok-level.level c.in_ok-level.root) (sym c.from.ensures)
    ∙ ap (λ (e : ℕ). root (item_in c.put_levels.new.h) c.from.result e c.in_ok-level.level c.in_ok-level.root) (sym c.from-2.ensures) ∙ m.root in
    let made : length c.put_levels.new.h + 1 ≤ length c.args.h.now + items_made c.args.key_len c.args.ent_len (length c.args.recs.now) =
    rw (← c.from.ensures, ← c.from-2.ensures) m.blocks in
    let half : halves c.put_levels.new.h + 1 ≤ halves c.args.h.now + items_made c.args.key_len c.args.ent_len (length c.args.recs.now) =
    rw (← c.from.ensures, ← c.from-2.ensures) m.half in
    let spent : spread c.put_levels.new.h + 16 ≤ spread c.args.h.now + tree_spend c.args.key_len c.args.ent_len c.args.recs.now =
    rw (← c.from.ensures, ← c.from-2.ensures) m.spent in
    IfOk-weaker c.put_header-2.result (λ (hid : ℕ). Adds c.put_levels.new.h (header_of c.args.key_len c.args.ent_len c.in_ok-level.level c.in_ok-level.root) c.put_header-2.new.h hid)
    (λ (hid : ℕ). Makes c.args.h.now c.put_header-2.new.h hid c.args.key_len c.args.ent_len c.args.recs.now)
    (λ hid a. record {
      kept = λ i x h. kept-by_adds c.put_levels.new.h c.put_header-2.new.h (header_of c.args.key_len c.args.ent_len c.in_ok-level.level c.in_ok-level.root) hid a i x (m.kept i x h);
      tree = header-over (item_in c.put_header-2.new.h) hid c.args.key_len c.args.ent_len c.in_ok-level.level c.in_ok-level.root c.args.recs.now fit m.some a.here
          (root-kept (item_in c.put_levels.new.h) (item_in c.put_header-2.new.h) c.args.key_len c.args.ent_len c.in_ok-level.level c.in_ok-level.root c.args.recs.now
          (λ i x h. kept-by_adds c.put_levels.new.h c.put_header-2.new.h (header_of c.args.key_len c.args.ent_len c.in_ok-level.level c.in_ok-level.root) hid a i x h) reads);
      blocks = all-made (length c.put_header-2.new.h) (length c.put_levels.new.h) (length c.args.h.now) (items_made c.args.key_len c.args.ent_len (length c.args.recs.now)) a.blocks made;
      half = all-made (halves c.put_header-2.new.h) (halves c.put_levels.new.h) (halves c.args.h.now) (items_made c.args.key_len c.args.ent_len (length c.args.recs.now)) a.half half;
      spent = all-spent (spread c.put_header-2.new.h) (spread c.put_levels.new.h) (spread c.args.h.now) (spend (header_of c.args.key_len c.args.ent_len c.in_ok-level.level c.in_ok-level.root))
          (tree_spend c.args.key_len c.args.ent_len c.args.recs.now) a.spent (header-spend c.args.key_len c.args.ent_len c.in_ok-level.level c.in_ok-level.root) spent;
    })
    c.put_header-2.ensures
