-- What one entry more leads to, and the ids of its data and of all below it.
use Rattle.std.proofs.Common.{◌≡◌, ℕ, suc, ◌+◌, ◌-◌, ◌≤◌, List, [], ◌∷◌, ◌++◌, length, map, Option, Some, Result, Ok, sym, ap, subst, ◌∙◌, arith, length-append, append_assoc, append-nil}
use Rattle.std.proofs.lemmas.Bool.{ne_eqb}
use Rattle.pst_base.specs.declared.ids.Bid.{Bid}
use Rattle.data_tree.specs.declared.source.TreeStop.{TreeStop}
use Rattle.data_tree.specs.Tree.{and_then, bids_of}
use Rattle.data_tree.proofs.NamedLaws.{then-ok}
use Rattle.subnode_tree.specs.declared.blocks.SubEntry.{SubEntry}
use Rattle.subnode_tree.specs.Bids.{bids_each, entry_bids}
use Rattle.subnode_tree.specs.Subnodes.{branch, rows, tree_from}
use Rattle.subnode_tree.proofs.PairLaws.{Keep}

-- what one entry more leads to
pub rows-last : {Y : Type 0} (row : ℕ → SubEntry → Result (List Y) TreeStop) (room : ℕ) (es : List SubEntry) (e : SubEntry) (here last : List Y) → rows row room es ≡ Ok here → row (room - length here) e ≡ Ok last
    → rows row room (es ++ e ∷ []) ≡ Ok (here ++ last)
rows-last {Y} row room [] e here last read more =
    let none : [] ≡ here = cc in
    let size : room - 0 ≡ room = omega arith in
    let first : row room e ≡ Ok last = ap (λ (n : ℕ). row n e) (sym size) ∙ subst (λ (l : List Y). row (room - length l) e ≡ Ok last) (sym none) more in
    ap (λ (r : Result (List Y) TreeStop). and_then r (λ here. and_then (rows row (room - length here) []) (λ more. Ok (here ++ more)))) first
    ∙ ap Ok (append-nil last) ∙ ap (λ (l : List Y). Ok (l ++ last)) none
rows-last {Y} row room (first ∷ es) e here last read more =
    let one = then-ok (row room first) (λ here. and_then (rows row (room - length here) es) (λ more. Ok (here ++ more))) here read in
    let rest = then-ok (rows row (room - length one.0) es) (λ more. Ok (one.0 ++ more)) here one.2 in
    let whole : one.0 ++ rest.0 ≡ here = let end = rest.2 in cc in
    let sizes = ap length whole in
    let both = length-append one.0 rest.0 in
    let left : room - length here ≡ room - length one.0 - length rest.0 = omega (arith, sizes, both) in
    let after = rows-last row (room - length one.0) es e rest.0 last rest.1 (ap (λ (n : ℕ). row n e) (sym left) ∙ more) in
    ap (λ (r : Result (List Y) TreeStop). and_then r (λ here. and_then (rows row (room - length here) (es ++ e ∷ [])) (λ more. Ok (here ++ more)))) one.1
    ∙ ap (λ (r : Result (List Y) TreeStop). and_then r (λ more. Ok (one.0 ++ more))) after
    ∙ ap Ok (sym (append_assoc one.0 rest.0 last)) ∙ ap (λ (l : List Y). Ok (l ++ last)) whole

bids-append : (find : ℕ → Option (List ℕ)) (xs ys : List SubEntry) (ids more : Keep) → bids_each find xs ≡ Ok ids → bids_each find ys ≡ Ok more → bids_each find (xs ++ ys) ≡ Ok (ids ++ more)
bids-append find [] ys ids more e rest = let none : [] ≡ ids = cc in rest ∙ ap (λ (l : Keep). Ok (l ++ more)) none
bids-append find (x ∷ xs) ys ids more e rest =
    let here = then-ok (entry_bids find x) (λ here. and_then (bids_each find xs) (λ more. Ok (here ∷ more))) ids e in
    let next = then-ok (bids_each find xs) (λ more. Ok (here.0 ∷ more)) ids here.2 in
    let whole : here.0 ∷ next.0 ≡ ids = let end = next.2 in cc in
    ap (λ (r : Result (List (Option Bid)) TreeStop). and_then r (λ here. and_then (bids_each find (xs ++ ys)) (λ more. Ok (here ∷ more)))) here.1
    ∙ ap (λ (r : Result Keep TreeStop). and_then r (λ more. Ok (here.0 ∷ more))) (bids-append find xs ys next.0 more next.1 rest)
    ∙ ap (λ (l : Keep). Ok (l ++ more)) whole

bids-count : (find : ℕ → Option (List ℕ)) (es : List SubEntry) (ids : Keep) → bids_each find es ≡ Ok ids → length es ≡ length ids
bids-count find [] ids e = let none : [] ≡ ids = cc in ap length none
bids-count find (x ∷ es) ids e =
    let here = then-ok (entry_bids find x) (λ here. and_then (bids_each find es) (λ more. Ok (here ∷ more))) ids e in
    let next = then-ok (bids_each find es) (λ more. Ok (here.0 ∷ more)) ids here.2 in
    let whole : here.0 ∷ next.0 ≡ ids = let end = next.2 in cc in
    ap suc (bids-count find es next.0 next.1) ∙ ap length whole

-- an entry more, of which these are the ids, and those of all below it
pub names-more : (find : ℕ → Option (List ℕ)) (deeper room n : ℕ) (es : List SubEntry) (e : SubEntry) (own : List Bid) (ids below : Keep) → and_then (rows (branch (tree_from find deeper)) room es) (bids_each find) ≡ Ok ids
    → length ids + (1 + n) ≤ room → bids_of find e.content ≡ Ok own → ((left : ℕ) → n ≤ left → and_then (tree_from find deeper left e.subnodes) (bids_each find) ≡ Ok below)
    → and_then (rows (branch (tree_from find deeper)) room (es ++ e ∷ [])) (bids_each find) ≡ Ok (ids ++ (map Some own ∷ below))
names-more find deeper room n es e own ids below read some named inner =
    let row = branch (tree_from find deeper) in
    let all = then-ok (rows row room es) (bids_each find) ids read in
    let count = bids-count find all.0 ids all.2 in
    let left = room - length all.0 in
    let under = then-ok (tree_from find deeper (left - 1) e.subnodes) (bids_each find) below (inner (left - 1) (omega (arith, some, count))) in
    let here : row left e ≡ Ok (e ∷ under.0) = rw (ne_eqb left 0 (λ z. absurd (omega (arith, z, some, count)))) (ap (λ (r : Result (List SubEntry) TreeStop). and_then r (λ inner. Ok (e ∷ inner))) under.1) in
    let last : bids_each find (e ∷ under.0) ≡ Ok (map Some own ∷ below) =
    ap (λ (r : Result (List Bid) TreeStop). and_then (and_then r (λ bids. Ok (map Some bids))) (λ here. and_then (bids_each find under.0) (λ more. Ok (here ∷ more)))) named
    ∙ ap (λ (r : Result Keep TreeStop). and_then r (λ more. Ok (map Some own ∷ more))) under.2 in
    ap (λ (r : Result (List SubEntry) TreeStop). and_then r (bids_each find)) (rows-last row room es e all.0 (e ∷ under.0) all.1 here)
    ∙ bids-append find all.0 (e ∷ under.0) ids (map Some own ∷ below) all.2 last
