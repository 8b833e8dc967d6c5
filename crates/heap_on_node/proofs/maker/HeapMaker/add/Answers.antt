use Rattle.std.proofs.Common.{◌≡◌, ◌+◌, ◌∙◌, ◌∷◌, ◌++◌, [], true, false, length, sym, arith}
use Rattle.std.proofs.lemmas.List.{length_push}
use Rattle.std.specs.List.{concat}
use Rattle.heap_on_node.specs.Packing.{has_room}
use Rattle.heap_on_node.proofs.PackingLaws.{adds-in_last, adds-in_new, half-in_new, packed-in_last, packed-in_new, room-parts}
use Rattle.heap_on_node.proofs.maker.HeapMaker.add.Goals as goal

pub invariant_of-self-then-is_room : goal.invariant_of-self-then-is_room
invariant_of-self-then-is_room c =
    let room : has_room (length c.self.inside.full.items) (length c.self.inside.last + 1) (length (concat c.self.inside.last) + length c.args.item.now) ≡ true =
    let n : c.len-block.result ≡ length c.self.inside.full.items = omega arith in
    rw (← n, ← c.count.ensures, ← c.size.ensures) (sym c.is_room.ensures ∙ c.if-is_room.true) in
    rw c.in_ok-push.ensures.ok (packed-in_last c.self.inside.full.items c.self.inside.last c.args.item.now c.self.invariant room)

pub returns-then-is_room-clause-ok : goal.returns-then-is_room-clause-ok
returns-then-is_room-clause-ok c =
    let room : has_room (length c.self.inside.full.items) (length c.self.inside.last + 1) (length (concat c.self.inside.last) + length c.args.item.now) ≡ true =
    let n : c.len-block.result ≡ length c.self.inside.full.items = omega arith in
    rw (← n, ← c.count.ensures, ← c.size.ensures) (sym c.is_room.ensures ∙ c.if-is_room.true) in
    let small = (room-parts (length c.self.inside.full.items) (length c.self.inside.last + 1) (length (concat c.self.inside.last) + length c.args.item.now) room).0 in
    let n : c.len-block.result ≡ length c.self.inside.full.items = omega arith in
    rw (c.in_ok-push.ensures.ok, ← c.self.view_is, n, c.count.ensures)
    (adds-in_last c.self.inside.full.items c.self.inside.last c.args.item.now small)

pub invariant_of-self-2 : goal.invariant_of-self-2
invariant_of-self-2 c =
    let full : has_room (length c.self.inside.full.items) (length c.self.inside.last + 1) (length (concat c.self.inside.last) + length c.args.item.now) ≡ false =
    let n : c.len-block.result ≡ length c.self.inside.full.items = omega arith in
    rw (← n, ← c.count.ensures, ← c.size.ensures) (sym c.is_room.ensures ∙ c.if-is_room.false) in
    rw (c.in_ok-begin.ensures.full, c.in_ok-begin.ensures.last) (packed-in_new c.self.inside.full.items c.self.inside.last c.args.item.now c.self.invariant c.requires.size full)

pub returns-clause-ok : goal.returns-clause-ok
returns-clause-ok c =
    let e : length (c.self.inside.full.items ++ c.self.inside.last ∷ []) ≡ length c.self.inside.full.items + 1 = length_push c.self.inside.full.items c.self.inside.last in
    let n : c.len-block.result + 1 ≡ length (c.self.inside.full.items ++ c.self.inside.last ∷ []) = omega arith in
    let full : has_room (length c.self.inside.full.items) (length c.self.inside.last + 1) (length (concat c.self.inside.last) + length c.args.item.now) ≡ false =
    let n : c.len-block.result ≡ length c.self.inside.full.items = omega arith in
    rw (← n, ← c.count.ensures, ← c.size.ensures) (sym c.is_room.ensures ∙ c.if-is_room.false) in
    rw (c.in_ok-begin.ensures.full, c.in_ok-begin.ensures.last, ← c.self.view_is, n)
    (adds-in_new (c.self.inside.full.items ++ c.self.inside.last ∷ []) c.args.item.now
    (half-in_new c.self.inside.full.items c.self.inside.last c.args.item.now c.requires.size full))
