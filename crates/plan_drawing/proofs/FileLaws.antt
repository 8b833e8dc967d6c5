-- How far a file reaches, and how many pages its trees have.
use Rattle.std.proofs.Common.{◌≡◌, ◌∙◌, ℕ, zero, suc, ◌<◌, List, [], ◌∷◌, length, refl, sym, arith}
use Rattle.pst_base.specs.declared.ids.Bref.{Bref}
use Rattle.pst_header.specs.declared.header.Header.{Header}
use Rattle.file_layout.specs.declared.tree_pages.Seat.{Seat}
use Rattle.file_layout.specs.Nodes.{Lays, NodeMap, block_tree}
use Rattle.file_layout.specs.Trees.{FileTree, Found, IsTree, root_seat}
use Rattle.tree_edit.specs.Plans.{tally}
use Rattle.node_layout.proofs.TreeLaws.{same-sums, sum_at}

-- a file with a tree has bytes for its root
root-high : (t : FileTree) (n : ℕ) (seat : Seat) (found : Found) → IsTree t n seat found → 17408 < t.eof
root-high t zero seat found is = let above = ((is.1).stands).above in let before = ((is.1).stands).before in omega (arith, above, before)
root-high t (suc n) seat found is = let above = ((is.2).stands).above in let before = ((is.2).stands).before in omega (arith, above, before)

pub laid-high : {header : Header} {file : List ℕ} {m : NodeMap} (is : Lays header file m) → 17408 < header.eof
laid-high {header} {file} {m} is = root-high (block_tree file header.eof) (is.block_pages).level (root_seat header.bbt) is.blocks (is.block_pages).tree

sum-ones : (ps : List Bref) → sum_at (λ ib. 1) ps ≡ length ps
sum-ones [] = refl
sum-ones (p ∷ ps) = let h = sum-ones ps in omega (arith, h)

-- lists that name each place equally often are equally long
pub same-length : (xs ys : List Bref) → ((k : ℕ) → tally k xs ≡ tally k ys) → length xs ≡ length ys
same-length xs ys same = sym (sum-ones xs) ∙ same-sums (λ ib. 1) xs ys same ∙ sum-ones ys
