-- The ids of subnodes' data blocks lead to their data.
use Rattle.std.proofs.Common.{false, ◌≡◌, ◌∙◌, ℕ, zero, suc, ◌-◌, ◌/◌, inl, inr, eqb, List, [], ◌∷◌, ◌++◌, length, drop, map, Option, Some, Result, Ok, Err, refl, sym, ap, subst, arith, length-append}
use Rattle.std.proofs.lemmas.Bool.{cases_Bool, cases_eq, ne_eqb}
use Rattle.std.proofs.lemmas.List.{length-map}
use Rattle.pst_base.specs.declared.ids.Bid.{Bid}
use Rattle.pst_base.specs.Flat.{Flat}
use Rattle.pst_base.specs.Subs.{one_deeper}
use Rattle.data_tree.specs.declared.source.TreeStop.{TreeStop}
use Rattle.data_tree.specs.declared.source.TreeStop.TheVariants.{Deep}
use Rattle.data_tree.specs.Plan.{AreFound}
use Rattle.data_tree.specs.Tree.{and_then, bids_of, blocks_of}
use Rattle.data_tree.proofs.NamedLaws.{bids-name, then-ok}
use Rattle.data_tree.proofs.PieceLaws.{Each, all_from-each, each-append}
use Rattle.subnode_tree.specs.declared.blocks.SubEntry.{SubEntry}
use Rattle.subnode_tree.specs.Bids.{bids_each, entry_bids, sub_bids_of}
use Rattle.subnode_tree.specs.Plan.{SubsFound, paired}
use Rattle.subnode_tree.specs.Subnodes.{branch, branch_with, level_of, rows, subs_from, subs_of, tree_from, tree_of}
use Rattle.subnode_tree.proofs.PairLaws.{Keep, Pair, paired-append, paired-deeper}
use Rattle.subnode_tree.proofs.SubPlanLaws.{PairFound}

-- entries and the subnodes read from them: as many, and their ids lead to their data
record Alike (find : ℕ → Option (List ℕ)) (es : List SubEntry) (flats : List Flat) : Type 0 where
  count : length es ≡ length flats
  found : (keep : Keep) → bids_each find es ≡ Ok keep → Each (PairFound find) (paired keep flats) × (length keep ≡ length flats)

alike-none : (find : ℕ → Option (List ℕ)) (es : List SubEntry) (flats : List Flat) → es ≡ [] → flats ≡ [] → Alike find es flats
alike-none find es flats none empty =
    let P : List SubEntry → Type 0 = λ l. Alike find l flats in
    let Q : List Flat → Type 0 = λ l. Alike find [] l in
    let R : (keep : Keep) → bids_each find [] ≡ Ok keep → Each (PairFound find) (paired keep []) × (length keep ≡ 0) = λ keep e. let same : [] ≡ keep = cc in (tt, sym (ap length same)) in
    subst P (sym none) (subst Q (sym empty) (record { count = refl; found = R }))

-- ids in two parts
bids-parts : (find : ℕ → Option (List ℕ)) (xs ys : List SubEntry) (keep : Keep) → bids_each find (xs ++ ys) ≡ Ok keep
    → (first : Keep) × (later : Keep) × (bids_each find xs ≡ Ok first) × (bids_each find ys ≡ Ok later) × (keep ≡ first ++ later)
bids-parts find [] ys keep e = ([], keep, refl, e, refl)
bids-parts find (x ∷ xs) ys keep e =
    let here = then-ok (entry_bids find x) (λ here. and_then (bids_each find (xs ++ ys)) (λ more. Ok (here ∷ more))) keep e in
    let next = then-ok (bids_each find (xs ++ ys)) (λ more. Ok (here.0 ∷ more)) keep here.2 in
    let rest = bids-parts find xs ys next.0 next.1 in
    let whole : here.0 ∷ next.0 ≡ keep = let last = next.2 in cc in (
      here.0 ∷ rest.0,
      rest.1,
      ap (λ (r : Result (List (Option Bid)) TreeStop). and_then r (λ here. and_then (bids_each find xs) (λ more. Ok (here ∷ more)))) here.1
          ∙ ap (λ (r : Result Keep TreeStop). and_then r (λ more. Ok (here.0 ∷ more))) rest.2,
      rest.3,
      sym whole ∙ ap (λ (l : Keep). here.0 ∷ l) rest.4,
    )

drop-front : (xs ys : Keep) → drop (length xs) (xs ++ ys) ≡ ys
drop-front [] ys = refl
drop-front (x ∷ xs) ys = drop-front xs ys

paired-front : (xs ys : Keep) (flats : List Flat) → length xs ≡ length flats → paired (xs ++ ys) flats ≡ paired xs flats
paired-front xs ys [] same = refl
paired-front [] ys (f ∷ flats) same = absurd (omega arith)
paired-front (x ∷ xs) ys (f ∷ flats) same = ap (λ (l : List Pair). (x, f.blocks) ∷ l) (paired-front xs ys flats (omega arith))

alike-append : (find : ℕ → Option (List ℕ)) (xs ys : List SubEntry) (us vs : List Flat) → Alike find xs us → Alike find ys vs → Alike find (xs ++ ys) (us ++ vs)
alike-append find xs ys us vs first later = record {
  count = let a = first.count in let b = later.count in let c = length-append xs ys in let d = length-append us vs in omega arith;
  found = λ keep e.
      let parts = bids-parts find xs ys keep e in
      let k = parts.0 in
      let m = parts.1 in
      let one = first.found k parts.2 in
      let two = later.found m parts.3 in
      let here : paired (k ++ m) us ≡ paired k us = paired-front k m us one.1 in
      let there : drop (length us) (k ++ m) ≡ m = ap (λ (n : ℕ). drop n (k ++ m)) (sym one.1) ∙ drop-front k m in
      let whole : paired keep (us ++ vs) ≡ paired k us ++ paired m vs =
      ap (λ (l : Keep). paired l (us ++ vs)) parts.4 ∙ paired-append (k ++ m) us vs ∙ ap (λ (l : List Pair). l ++ paired (drop (length us) (k ++ m)) vs) here
      ∙ ap (λ (l : Keep). paired k us ++ paired l vs) there in
      let sizes = ap length parts.4 ∙ length-append k m in
      let sum = length-append us vs in
      let a = one.1 in
      let b = two.1 in
      (subst (λ (l : List Pair). Each (PairFound find) l) (sym whole) (each-append (PairFound find) (paired k us) (paired m vs) one.0 two.0), omega arith);
}

alike-one : (find : ℕ → Option (List ℕ)) (eof : ℕ) (entry : SubEntry) (blocks : List (List ℕ)) (inner : List SubEntry) (below : List Flat) → blocks_of find eof entry.content ≡ Ok blocks → Alike find inner below
    → Alike find (entry ∷ inner) (record { level = 0; nid = (entry.nid).bits; blocks = blocks } ∷ map one_deeper below)
alike-one find eof entry blocks inner below read alike = record {
  count = let a = alike.count in let b = length-map below one_deeper in omega arith;
  found = λ keep e.
      let here = then-ok (entry_bids find entry) (λ here. and_then (bids_each find inner) (λ more. Ok (here ∷ more))) keep e in
      let next = then-ok (bids_each find inner) (λ more. Ok (here.0 ∷ more)) keep here.2 in
      let ids = then-ok (bids_of find entry.content) (λ bids. Ok (map Some bids)) here.0 here.1 in
      let named = bids-name find eof entry.content ids.0 blocks ids.1 read in
      let own : map Some ids.0 ≡ here.0 = let last = ids.2 in cc in
      let whole : here.0 ∷ next.0 ≡ keep = let last = next.2 in cc in
      let rest = alike.found next.0 next.1 in
      let deeper = length-map below one_deeper in
      let size = rest.1 in
      let P : Keep → Type 0 = λ k. Each (PairFound find) (paired k (record { level = 0; nid = (entry.nid).bits; blocks = blocks } ∷ map one_deeper below)) × (length k ≡ suc (length (map one_deeper below))) in
      subst P whole ((subst (λ (k : List (Option Bid)). AreFound find k blocks) own named.0, subst (λ (l : List Pair). Each (PairFound find) l) (sym (paired-deeper next.0 below)) rest.0), omega arith);
}

branch-parts : (below : ℕ → Bid → Result (List SubEntry) TreeStop) (room : ℕ) (entry : SubEntry) (here : List SubEntry) → branch below room entry ≡ Ok here
    → (inner : List SubEntry) × (below (room - 1) entry.subnodes ≡ Ok inner) × (entry ∷ inner ≡ here)
branch-parts below room entry here e = elim (cases_Bool (eqb room 0)) [
  | inl none ↦ let stops = rw none at e in absurd cc
  | inr some ↦
      let goes = rw some at e in
      let parts = then-ok (below (room - 1) entry.subnodes) (λ inner. Ok (entry ∷ inner)) here goes in
      (parts.0, parts.1, let last = parts.2 in cc)
]

abbrev flat_here : SubEntry → List (List ℕ) → List Flat → List Flat
flat_here entry blocks inner = record { level = 0; nid = (entry.nid).bits; blocks = blocks } ∷ map one_deeper inner

with-parts : (find : ℕ → Option (List ℕ)) (eof : ℕ) (below : ℕ → Bid → Result (List Flat) TreeStop) (room : ℕ) (entry : SubEntry) (here : List Flat) → branch_with find eof below room entry ≡ Ok here
    → (blocks : List (List ℕ)) × (inner : List Flat) × (blocks_of find eof entry.content ≡ Ok blocks) × (below (room - 1) entry.subnodes ≡ Ok inner) × (flat_here entry blocks inner ≡ here)
with-parts find eof below room entry here e = elim (cases_Bool (eqb room 0)) [
  | inl none ↦ let stops = rw none at e in absurd cc
  | inr some ↦
      let goes = rw some at e in
      let content = then-ok (blocks_of find eof entry.content) (λ blocks. and_then (below (room - 1) entry.subnodes) (λ inner. Ok (flat_here entry blocks inner))) here goes in
      let parts = then-ok (below (room - 1) entry.subnodes) (λ inner. Ok (flat_here entry content.0 inner)) here content.2 in
      (content.0, parts.0, content.1, parts.1, let last = parts.2 in cc)
]

rows-alike : (find : ℕ → Option (List ℕ)) (eof deeper : ℕ) → ((room : ℕ) (bid : Bid) (es : List SubEntry) (flats : List Flat) → tree_from find deeper room bid ≡ Ok es → subs_from find eof deeper room bid ≡ Ok flats → Alike find es flats)
    → (room : ℕ) (entries es : List SubEntry) (flats : List Flat) → rows (branch (tree_from find deeper)) room entries ≡ Ok es → rows (branch_with find eof (subs_from find eof deeper)) room entries ≡ Ok flats → Alike find es flats
rows-alike find eof deeper rec room [] es flats e f =
    let none : es ≡ [] = cc in
    let empty : flats ≡ [] = cc in
    alike-none find es flats none empty
rows-alike find eof deeper rec room (entry ∷ entries) es flats e f =
    let first = then-ok (branch (tree_from find deeper) room entry) (λ here. and_then (rows (branch (tree_from find deeper)) (room - length here) entries) (λ more. Ok (here ++ more))) es e in
    let next = then-ok (rows (branch (tree_from find deeper)) (room - length first.0) entries) (λ more. Ok (first.0 ++ more)) es first.2 in
    let own = branch-parts (tree_from find deeper) room entry first.0 first.1 in
    let start = then-ok (branch_with find eof (subs_from find eof deeper) room entry)
    (λ here. and_then (rows (branch_with find eof (subs_from find eof deeper)) (room - length here) entries) (λ more. Ok (here ++ more))) flats f in
    let then_rows = then-ok (rows (branch_with find eof (subs_from find eof deeper)) (room - length start.0) entries) (λ more. Ok (start.0 ++ more)) flats start.2 in
    let made = with-parts find eof (subs_from find eof deeper) room entry start.0 start.1 in
    let below = rec (room - 1) entry.subnodes own.0 made.1 own.1 made.3 in
    let here = alike-one find eof entry made.0 own.0 made.1 made.2 below in
    let here_again : Alike find first.0 start.0 =
    let P : List SubEntry → Type 0 = λ l. Alike find l start.0 in
    let Q : List Flat → Type 0 = λ l. Alike find (entry ∷ own.0) l in
    subst P own.2 (subst Q made.4 here) in
    let count = here_again.count in
    let after_rows : rows (branch_with find eof (subs_from find eof deeper)) (room - length first.0) entries ≡ Ok then_rows.0 =
    ap (λ (n : ℕ). rows (branch_with find eof (subs_from find eof deeper)) (room - n) entries) count ∙ then_rows.1 in
    let after = rows-alike find eof deeper rec (room - length first.0) entries next.0 then_rows.0 next.1 after_rows in
    let whole : first.0 ++ next.0 ≡ es = let last = next.2 in cc in
    let whole_flats : start.0 ++ then_rows.0 ≡ flats = let last = then_rows.2 in cc in
    let P : List SubEntry → Type 0 = λ l. Alike find l flats in
    let Q : List Flat → Type 0 = λ l. Alike find (first.0 ++ next.0) l in
    subst P whole (subst Q whole_flats (alike-append find first.0 next.0 start.0 then_rows.0 here_again after))

zero-rows : {Y : Type 0} (room : ℕ) (entries : List SubEntry) (ys : List Y) → rows {Y = Y} (λ left entry. Err Deep) room entries ≡ Ok ys → ys ≡ []
zero-rows room [] ys e = cc
zero-rows room (entry ∷ entries) ys e = absurd cc

same-entries : (find : ℕ → Option (List ℕ)) (level : ℕ) (bid : Bid) (xs ys : List SubEntry) → level_of find level bid ≡ Ok xs → level_of find level bid ≡ Ok ys → xs ≡ ys
same-entries find level bid xs ys e f = let both : ◌≡◌ {A = Result (List SubEntry) TreeStop} (Ok xs) (Ok ys) = sym e ∙ f in cc

tree-alike : (find : ℕ → Option (List ℕ)) (eof deeper room : ℕ) (bid : Bid) (es : List SubEntry) (flats : List Flat) → tree_from find deeper room bid ≡ Ok es → subs_from find eof deeper room bid ≡ Ok flats → Alike find es flats
tree-alike find eof zero room bid es flats e f = elim (cases_eq bid.bits 0) [
  | inl none ↦ let one = rw none at e in let two = rw none at f in alike-none find es flats (let given = one in cc) (let given = two in cc)
  | inr some ↦
      let is_some : eqb bid.bits 0 ≡ false = ne_eqb bid.bits 0 some in
      let one = rw is_some at e in
      let two = rw is_some at f in
      let first = then-ok (level_of find 9 bid) (rows (λ left entry. Err Deep) room) es one in
      let second = then-ok (level_of find 9 bid) (rows (λ left entry. Err Deep) room) flats two in
      alike-none find es flats (zero-rows room first.0 es first.2) (zero-rows room second.0 flats second.2)
]
tree-alike find eof (suc deeper) room bid es flats e f = elim (cases_eq bid.bits 0) [
  | inl none ↦ let one = rw none at e in let two = rw none at f in alike-none find es flats (let given = one in cc) (let given = two in cc)
  | inr some ↦
      let is_some : eqb bid.bits 0 ≡ false = ne_eqb bid.bits 0 some in
      let one = rw is_some at e in
      let two = rw is_some at f in
      let first = then-ok (level_of find (8 - deeper) bid) (rows (branch (tree_from find deeper)) room) es one in
      let second = then-ok (level_of find (8 - deeper) bid) (rows (branch_with find eof (subs_from find eof deeper)) room) flats two in
      let same = same-entries find (8 - deeper) bid second.0 first.0 second.1 first.1 in
      rows-alike find eof deeper (tree-alike find eof deeper) room first.0 es flats first.2
      (ap (rows (branch_with find eof (subs_from find eof deeper)) room) (sym same) ∙ second.2)
]

pub sub-bids-name : (find : ℕ → Option (List ℕ)) (eof : ℕ) (bid : Bid) (keep : Keep) (flats : List Flat) → sub_bids_of find eof bid ≡ Ok keep → subs_of find eof bid ≡ Ok flats
    → SubsFound find keep flats × (length keep ≡ length flats)
unfolding sub_bids_of subs_of tree_of
sub-bids-name find eof bid keep flats ids read =
    let walk = then-ok (tree_from find 8 (eof / 24) bid) (bids_each find) keep ids in
    let both = (tree-alike find eof 8 (eof / 24) bid walk.0 flats walk.1 read).found keep walk.2 in
    (all_from-each (PairFound find) (paired keep flats) both.0, both.1)
