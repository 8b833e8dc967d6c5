-- The reading of all levels, at one entry more.
use Rattle.std.proofs.Common.{◌≡◌, ℕ, zero, suc, ◌+◌, ◌-◌, ◌<◌, ◌≤◌, List, [], ◌∷◌, ◌++◌, length, drop, get_or, Option, Result, Ok, Err, refl, ap, ◌∙◌, arith}
use Rattle.std.proofs.lemmas.Bool.{ne_eqb}
use Rattle.std.proofs.lemmas.List.{drop_all}
use Rattle.pst_base.specs.declared.ids.Bid.{Bid}
use Rattle.data_tree.specs.declared.source.TreeStop.{TreeStop}
use Rattle.data_tree.specs.declared.source.TreeStop.TheVariants.{Deep, Many}
use Rattle.data_tree.specs.Tree.{and_then}
use Rattle.data_tree.proofs.ListingLaws.{drop-here}
use Rattle.data_tree.proofs.Steps.{before}
use Rattle.subnode_tree.specs.declared.blocks.SubEntry.{SubEntry}
use Rattle.subnode_tree.specs.Subnodes.{level_of, rows, branch, tree_from}

abbrev Finder : Type 0
Finder = ℕ → Option (List ℕ)

-- what an entry leads to, where so many levels may follow its own
abbrev pub row_of : Finder → ℕ → ℕ → SubEntry → Result (List SubEntry) TreeStop
row_of find zero left entry = Err Deep
row_of find (suc deeper) left entry = branch (tree_from find deeper) left entry

pub tree-none : (find : Finder) (deeper room : ℕ) (bid : Bid) → bid.bits ≡ 0 → tree_from find deeper room bid ≡ Ok []
tree-none find zero room bid e = rw e refl
tree-none find (suc deeper) room bid e = rw e refl

-- a tree that has a block
pub tree-some : (find : Finder) (deeper room : ℕ) (bid : Bid) → (bid.bits ≡ 0 → ⊥) → deeper ≤ 8
    → tree_from find deeper room bid ≡ and_then (level_of find (9 - deeper) bid) (rows (row_of find deeper) room)
tree-some find zero room bid some h = rw (ne_eqb bid.bits 0 some) refl
tree-some find (suc deeper) room bid some h =
    let e : 8 - deeper ≡ 9 - suc deeper = omega arith in
    rw (ne_eqb bid.bits 0 some) (ap (λ (level : ℕ). and_then (level_of find level bid) (rows (branch (tree_from find deeper)) room)) e)

pub tree-read : (find : Finder) (deeper room : ℕ) (bid : Bid) (es : List SubEntry) → (bid.bits ≡ 0 → ⊥) → deeper ≤ 8 → level_of find (9 - deeper) bid ≡ Ok es
    → tree_from find deeper room bid ≡ rows (row_of find deeper) room es
tree-read find deeper room bid es some h e =
    tree-some find deeper room bid some h ∙ ap (λ (r : Result (List SubEntry) TreeStop). and_then r (rows (row_of find deeper) room)) e

pub tree-fault : (find : Finder) (deeper room : ℕ) (bid : Bid) (fault : TreeStop) → (bid.bits ≡ 0 → ⊥) → deeper ≤ 8 → level_of find (9 - deeper) bid ≡ Err fault
    → tree_from find deeper room bid ≡ Err fault
tree-fault find deeper room bid fault some h e =
    tree-some find deeper room bid some h ∙ ap (λ (r : Result (List SubEntry) TreeStop). and_then r (rows (row_of find deeper) room)) e

-- the rows from an entry on
after_row : {Y : Type 0} → (ℕ → SubEntry → Result (List Y) TreeStop) → ℕ → List SubEntry → Result (List Y) TreeStop → Result (List Y) TreeStop
after_row row left rest r = and_then r (λ here. and_then (rows row (left - length here) rest) (λ more. Ok (here ++ more)))

rows-is : {Y : Type 0} (row : ℕ → SubEntry → Result (List Y) TreeStop) (left : ℕ) (es : List SubEntry) (i : ℕ) (d : SubEntry) → i < length es
    → rows row left (drop i es) ≡ after_row row left (drop (i + 1) es) (row left (get_or es i d))
unfolding after_row
rows-is row left es i d h = ap (rows row left) (drop-here es i d h)

pub rows-stop : {Y : Type 0} (row : ℕ → SubEntry → Result (List Y) TreeStop) (left : ℕ) (es : List SubEntry) (i : ℕ) (d : SubEntry) (fault : TreeStop) → i < length es
    → row left (get_or es i d) ≡ Err fault → rows row left (drop i es) ≡ Err fault
unfolding after_row
rows-stop row left es i d fault h e = rows-is row left es i d h ∙ ap (after_row row left (drop (i + 1) es)) e

pub rows-next : {Y : Type 0} (row : ℕ → SubEntry → Result (List Y) TreeStop) (left : ℕ) (es : List SubEntry) (i : ℕ) (d : SubEntry) (here : List Y) → i < length es
    → row left (get_or es i d) ≡ Ok here → rows row left (drop i es) ≡ before here (rows row (left - length here) (drop (i + 1) es))
unfolding after_row
rows-next row left es i d here h e = rows-is row left es i d h ∙ ap (after_row row left (drop (i + 1) es)) e

pub rows-end : {Y : Type 0} (row : ℕ → SubEntry → Result (List Y) TreeStop) (left : ℕ) (es : List SubEntry) (i : ℕ) → length es ≤ i → rows row left (drop i es) ≡ Ok []
rows-end row left es i h = ap (rows row left) (drop_all i es h)

pub rows-deep : (find : Finder) (deeper left : ℕ) (es : List SubEntry) (i : ℕ) (d : SubEntry) → deeper ≡ 0 → i < length es → rows (row_of find deeper) left (drop i es) ≡ Err Deep
rows-deep find zero left es i d e h = rows-stop (row_of find zero) left es i d Deep h refl
rows-deep find (suc deeper) left es i d e h = absurd (omega (arith, e))

pub rows-many : (find : Finder) (deeper left : ℕ) (es : List SubEntry) (i : ℕ) (d : SubEntry) → 0 < deeper → left ≡ 0 → i < length es
    → rows (row_of find deeper) left (drop i es) ≡ Err Many
rows-many find zero left es i d some e h = absurd (omega (arith, some))
rows-many find (suc deeper) left es i d some e h = rows-stop (row_of find (suc deeper)) left es i d Many h (rw e refl)

pub rows-fault : (find : Finder) (deeper left : ℕ) (es : List SubEntry) (i : ℕ) (d : SubEntry) (fault : TreeStop) → 0 < deeper → 0 < left → i < length es
    → tree_from find (deeper - 1) (left - 1) (get_or es i d).subnodes ≡ Err fault → rows (row_of find deeper) left (drop i es) ≡ Err fault
rows-fault find zero left es i d fault some more h e = absurd (omega (arith, some))
rows-fault find (suc deeper) left es i d fault some more h e =
    let same : suc deeper - 1 ≡ deeper = omega arith in
    let inner : tree_from find deeper (left - 1) (get_or es i d).subnodes ≡ Err fault = rw same at e in
    rows-stop (row_of find (suc deeper)) left es i d fault h
    (rw (ne_eqb left 0 (λ z. absurd (omega (arith, z, more)))) (ap (λ (r : Result (List SubEntry) TreeStop). and_then r (λ inner. Ok (get_or es i d ∷ inner))) inner))

pub rows-step : (find : Finder) (deeper left : ℕ) (es : List SubEntry) (i : ℕ) (d : SubEntry) (inner : List SubEntry) → 0 < deeper → 0 < left → i < length es
    → tree_from find (deeper - 1) (left - 1) (get_or es i d).subnodes ≡ Ok inner
    → rows (row_of find deeper) left (drop i es) ≡ before (get_or es i d ∷ inner) (rows (row_of find deeper) (left - (1 + length inner)) (drop (i + 1) es))
rows-step find zero left es i d inner some more h e = absurd (omega (arith, some))
rows-step find (suc deeper) left es i d inner some more h e =
    let same : suc deeper - 1 ≡ deeper = omega arith in
    let found : tree_from find deeper (left - 1) (get_or es i d).subnodes ≡ Ok inner = rw same at e in
    let count : left - suc (length inner) ≡ left - (1 + length inner) = omega arith in
    rows-next (row_of find (suc deeper)) left es i d (get_or es i d ∷ inner) h
    (rw (ne_eqb left 0 (λ z. absurd (omega (arith, z, more)))) (ap (λ (r : Result (List SubEntry) TreeStop). and_then r (λ inner. Ok (get_or es i d ∷ inner))) found))
    ∙ ap (λ (n : ℕ). before (get_or es i d ∷ inner) (rows (row_of find (suc deeper)) n (drop (i + 1) es))) count
