use Rattle.std.proofs.Common.{◌≡◌, map, take}
use Rattle.btree_pages.specs.declared.inner.Inner.{Inner}
use Rattle.tree_edit.specs.Plans.{keys_of}
use Rattle.page_shelf.proofs.pages.inner_content.Given as goal

abbrev pub invariant-loop-i : goal.invariant-loop-i
invariant-loop-i l = map (λ (e : Inner). e.key) l.entries.items ≡ keys_of (take l.i l.children)
