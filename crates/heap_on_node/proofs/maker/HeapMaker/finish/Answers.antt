use Rattle.std.proofs.Common.{◌≡◌, ◌∙◌, ◌∷◌, ◌++◌, [], ap, arith}
use Rattle.std.proofs.lemmas.List.{length_push}
use Rattle.heap_on_node.specs.Layout.{laid}
use Rattle.heap_on_node.proofs.FinishLaws.{IsHeap-laid, item-laid, length-laid, plain-laid, tight-laid}
use Rattle.heap_on_node.proofs.maker.HeapMaker.finish.Goals as goal

-- the blocks are those of the groups
made : (c : goal.After-drop-drafts-2) → c.from_vec.result ≡ laid 0 c.args.client c.args.root (c.self.inside.full.items ++ c.self.inside.last ∷ [])
made c = c.from_vec.ensures ∙ c.in_ok-blocks_of.ensures ∙ ap (laid 0 c.args.client c.args.root) (c.as_slice.ensures.value ∙ c.in_ok-push.ensures.items)

pub returns-clause-heap : goal.returns-clause-heap
returns-clause-heap c =
    rw (made c) (IsHeap-laid c.args.client c.args.root (c.self.inside.full.items ++ c.self.inside.last ∷ []) c.ranges.root.fits
    (omega (arith, length_push c.self.inside.full.items c.self.inside.last)) c.self.invariant.fit)

pub returns-clause-items : goal.returns-clause-items
returns-clause-items c =
    rw (made c, ← c.self.view_is) (item-laid c.args.client c.args.root (c.self.inside.full.items ++ c.self.inside.last ∷ []) c.self.invariant.fit)

pub returns-clause-blocks : goal.returns-clause-blocks
returns-clause-blocks c =
    rw (made c, ← c.self.view_is) (length-laid 0 c.args.client c.args.root (c.self.inside.full.items ++ c.self.inside.last ∷ []))

pub returns-clause-plain : goal.returns-clause-plain
returns-clause-plain c =
    rw (made c) (plain-laid c.args.client c.args.root (c.self.inside.full.items ++ c.self.inside.last ∷ []) c.self.invariant.fit)

pub returns-clause-tight : goal.returns-clause-tight
returns-clause-tight c =
    rw (made c) (tight-laid c.args.client c.args.root (c.self.inside.full.items ++ c.self.inside.last ∷ []) c.self.invariant)
