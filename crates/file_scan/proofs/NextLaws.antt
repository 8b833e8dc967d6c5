-- The numbers that follow, as a loop over entries gathers them.
use Rattle.std.proofs.Common.{◌≡◌, ◌∙◌, ℕ, ◌+◌, ◌≤◌, ◌<◌, max, List, [], ◌∷◌, length, drop, get_or, refl, sym, ap, arith}
use Rattle.std.proofs.lemmas.List.{drop_all}
use Rattle.data_tree.proofs.ListingLaws.{drop-here}
use Rattle.pst_base.specs.declared.ids.Bref.{Bref}
use Rattle.btree_pages.specs.declared.entry.BlockEntry.{BlockEntry}
use Rattle.file_layout.specs.Numbers.{past_blocks, past_pages, counted_to}

more : (x n m p q : ℕ) → p ≡ max q m → max x p ≡ max (max x q) m
more x n m p q is = grind (arith, is)

blocks-more : (n m : ℕ) (es : List BlockEntry) → past_blocks (max n m) es ≡ max (past_blocks n es) m
blocks-more n m [] = refl
blocks-more n m (e ∷ es) = more (e.at.bid.bits + 4) n m (past_blocks (max n m) es) (past_blocks n es) (blocks-more n m es)

pages-more : (n m : ℕ) (ps : List Bref) → past_pages (max n m) ps ≡ max (past_pages n ps) m
pages-more n m [] = refl
pages-more n m (p ∷ ps) = more (p.bid.bits + 1) n m (past_pages (max n m) ps) (past_pages n ps) (pages-more n m ps)

one-more : (x p s : ℕ) → s ≡ counted_to x → counted_to (max p s) ≡ counted_to (max x p)
one-more x p s is = grind (arith, is)

counted-small : (n : ℕ) → n ≤ 0xffff_ffff_ffff_ffff → counted_to n ≡ n
counted-small n h = grind (arith, h)

-- an entry more
pub blocks-next : (blocks : List BlockEntry) (i : ℕ) (d : BlockEntry) (n s all : ℕ) → i < length blocks → counted_to (past_blocks n (drop i blocks)) ≡ all → s ≡ counted_to ((get_or blocks i d).at.bid.bits + 4)
    → counted_to (past_blocks (max n s) (drop (i + 1) blocks)) ≡ all
blocks-next blocks i d n s all within so_far is =
    let rest = drop (i + 1) blocks in
    ap counted_to (blocks-more n s rest) ∙ one-more ((get_or blocks i d).at.bid.bits + 4) (past_blocks n rest) s is
    ∙ sym (ap (λ (es : List BlockEntry). counted_to (past_blocks n es)) (drop-here blocks i d within)) ∙ so_far

pub pages-next : (pages : List Bref) (i : ℕ) (d : Bref) (n s all : ℕ) → i < length pages → counted_to (past_pages n (drop i pages)) ≡ all → s ≡ counted_to ((get_or pages i d).bid.bits + 1)
    → counted_to (past_pages (max n s) (drop (i + 1) pages)) ≡ all
pages-next pages i d n s all within so_far is =
    let rest = drop (i + 1) pages in
    ap counted_to (pages-more n s rest) ∙ one-more ((get_or pages i d).bid.bits + 1) (past_pages n rest) s is
    ∙ sym (ap (λ (ps : List Bref). counted_to (past_pages n ps)) (drop-here pages i d within)) ∙ so_far

pub pages-end : (pages : List Bref) (i n all : ℕ) → length pages ≤ i → n ≤ 0xffff_ffff_ffff_ffff → counted_to (past_pages n (drop i pages)) ≡ all → n ≡ all
pages-end pages i n all done small so_far =
    sym (counted-small n small) ∙ sym (ap (λ (ps : List Bref). counted_to (past_pages n ps)) (drop_all i pages done)) ∙ so_far
