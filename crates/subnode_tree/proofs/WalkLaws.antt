-- The walk of all subnodes gives all keys that they reach.
use Rattle.std.proofs.Common.{false, ◌≡◌, ◌∙◌, ℕ, zero, suc, ◌+◌, ◌-◌, ◌/◌, ◌<◌, inl, inr, eqb, List, [], ◌∷◌, ◌++◌, length, drop, get_or, map, Option, Some, None, Result, Ok, Err, refl, sym, ap, subst, append_assoc, append-nil}
use Rattle.std.proofs.lemmas.Bool.{cases_Bool, cases_eq, ne_eqb}
use Rattle.pst_base.specs.declared.ids.Bid.{Bid}
use Rattle.pst_base.specs.Ids.{key_of}
use Rattle.data_tree.specs.declared.source.TreeStop.{TreeStop}
use Rattle.data_tree.specs.declared.source.TreeStop.TheVariants.{Deep}
use Rattle.data_tree.specs.Keys.{data_keys}
use Rattle.data_tree.specs.Tree.{and_then, bids_of, named}
use Rattle.data_tree.proofs.ListingLaws.{drop-here}
use Rattle.data_tree.proofs.Steps.{before}
use Rattle.data_tree.proofs.PieceLaws.{Each, each-append}
use Rattle.subnode_tree.specs.declared.blocks.SubEntry.{SubEntry}
use Rattle.subnode_tree.specs.Bids.{bids_each, sub_bids_of}
use Rattle.subnode_tree.specs.KeyReads.{list_keys, list_keys_read, entry_keys_read, entries_keys_read, walked_keys, sub_keys_read}
use Rattle.subnode_tree.specs.Keys.{each_keys, listed_in, ok_entries, sub_keys, sub_keys_from}
use Rattle.subnode_tree.specs.Subnodes.{branch, level_in, level_of, rows, tree_from, tree_of}

-- ---- readings

then-ok : {X Y : Type 0} (r : Result X TreeStop) (f : X → Result Y TreeStop) (y : Y) → and_then r f ≡ Ok y → (x : X) × (r ≡ Ok x) × (f x ≡ Ok y)
then-ok (Ok x) f y e = (x, refl, e)
then-ok (Err fault) f y e = absurd cc

then-same : {X Y : Type 0} (r : Result X TreeStop) (f g : X → Result Y TreeStop) → ((x : X) → r ≡ Ok x → f x ≡ g x) → and_then r f ≡ and_then r g
then-same (Ok x) f g same = same x refl
then-same (Err fault) f g same = refl

then-then : {X Y Z : Type 0} (r : Result X TreeStop) (f : X → Result Y TreeStop) (g : Y → Result Z TreeStop) → and_then (and_then r f) g ≡ and_then r (λ x. and_then (f x) g)
then-then (Ok x) f g = refl
then-then (Err fault) f g = refl

-- ---- the keys of each entry

-- what an entry gives by itself
abbrev own_keys : (ℕ → Option (List ℕ)) → SubEntry → List ℕ
own_keys find entry = data_keys find entry.content ++ list_keys find entry.subnodes

-- what it reaches
abbrev all_keys : (ℕ → Option (List ℕ)) → ℕ → SubEntry → List ℕ
all_keys find deeper entry = data_keys find entry.content ++ sub_keys_from find deeper entry.subnodes

each_keys-append : (f : SubEntry → List ℕ) (xs ys : List SubEntry) → each_keys f (xs ++ ys) ≡ each_keys f xs ++ each_keys f ys
each_keys-append f [] ys = refl
each_keys-append f (x ∷ xs) ys = ap (λ (l : List ℕ). f x ++ l) (each_keys-append f xs ys) ∙ sym (append_assoc (f x) (each_keys f xs) (each_keys f ys))

abbrev Lists : (ℕ → Option (List ℕ)) → Bid → Type 0
Lists find bid = list_keys_read find bid ≡ Ok (list_keys find bid)

record Walked (find : ℕ → Option (List ℕ)) (deeper : ℕ) (bid : Bid) (es : List SubEntry) : Type 0 where
  lists : Lists find bid
  each : Each (λ (e : SubEntry). Lists find e.subnodes) es
  keys : sub_keys_from find deeper bid ≡ list_keys find bid ++ each_keys (own_keys find) es

lists-none : (find : ℕ → Option (List ℕ)) (bid : Bid) → bid.bits ≡ 0 → Lists find bid
lists-none find bid none = rw none refl

lists-at : (bid : Bid) (o : Option (List ℕ)) (es : List SubEntry) (next : List ℕ → Result (List SubEntry) TreeStop) → and_then (named bid o) next ≡ Ok es
    → and_then (named bid o) (λ b. Ok (key_of bid.bits ∷ listed_in (Some b))) ≡ Ok (key_of bid.bits ∷ listed_in o)
lists-at bid None es next e = absurd cc
lists-at bid (Some b) es next e = refl

lists-some : (find : ℕ → Option (List ℕ)) (level : ℕ) (bid : Bid) (es : List SubEntry) → (bid.bits ≡ 0 → ⊥) → level_of find level bid ≡ Ok es → Lists find bid
lists-some find level bid es some read =
    let e : eqb bid.bits 0 ≡ false = ne_eqb bid.bits 0 some in
    rw e (lists-at bid (find (key_of bid.bits)) es (level_in find level bid) read)

walked-none : (find : ℕ → Option (List ℕ)) (deeper : ℕ) (bid : Bid) (es : List SubEntry) → bid.bits ≡ 0 → es ≡ [] → Walked find deeper bid es
walked-none find deeper bid es none empty =
    let P : List SubEntry → Type 0 = λ l. Walked find deeper bid l in
    subst P (sym empty) (record { lists = lists-none find bid none; each = tt; keys = nothing deeper })
  where
    nothing : (n : ℕ) → sub_keys_from find n bid ≡ list_keys find bid ++ []
    nothing zero = rw none refl
    nothing (suc n) = rw none refl

rows-zero : (room : ℕ) (entries es : List SubEntry) → rows {Y = SubEntry} (λ left entry. Err Deep) room entries ≡ Ok es → es ≡ []
rows-zero room [] es e = cc
rows-zero room (entry ∷ entries) es e = absurd cc

-- an entry's branch
branch-ok : (below : ℕ → Bid → Result (List SubEntry) TreeStop) (room : ℕ) (entry : SubEntry) (here : List SubEntry) → branch below room entry ≡ Ok here
    → (inner : List SubEntry) × (below (room - 1) entry.subnodes ≡ Ok inner) × (entry ∷ inner ≡ here)
branch-ok below room entry here e = elim (cases_Bool (eqb room 0)) [
  | inl none ↦ let stops = rw none at e in absurd cc
  | inr some ↦
      let goes = rw some at e in
      let parts = then-ok (below (room - 1) entry.subnodes) (λ inner. Ok (entry ∷ inner)) here goes in
      (parts.0, parts.1, let last = parts.2 in cc)
]

record RowsWalked (find : ℕ → Option (List ℕ)) (deeper : ℕ) (entries es : List SubEntry) : Type 0 where
  each : Each (λ (e : SubEntry). Lists find e.subnodes) es
  keys : each_keys (all_keys find deeper) entries ≡ each_keys (own_keys find) es

rows-walked : (find : ℕ → Option (List ℕ)) (deeper : ℕ) → ((room : ℕ) (bid : Bid) (es : List SubEntry) → tree_from find deeper room bid ≡ Ok es → Walked find deeper bid es)
    → (room : ℕ) (entries es : List SubEntry) → rows (branch (tree_from find deeper)) room entries ≡ Ok es → RowsWalked find deeper entries es
rows-walked find deeper rec room [] es e =
    let P : List SubEntry → Type 0 = λ l. RowsWalked find deeper [] l in
    let empty : [] ≡ es = cc in
    subst P empty (record { each = tt; keys = refl })
rows-walked find deeper rec room (entry ∷ entries) es e =
    let first = then-ok (branch (tree_from find deeper) room entry) (λ here. and_then (rows (branch (tree_from find deeper)) (room - length here) entries) (λ more. Ok (here ++ more))) es e in
    let here = first.0 in
    let next = then-ok (rows (branch (tree_from find deeper)) (room - length here) entries) (λ more. Ok (here ++ more)) es first.2 in
    let own = branch-ok (tree_from find deeper) room entry here first.1 in
    let inner = own.0 in
    let below = rec (room - 1) entry.subnodes inner own.1 in
    let more = next.0 in
    let after = rows-walked find deeper rec (room - length here) entries more next.1 in
    let last : here ++ more ≡ es = let end = next.2 in cc in
    let all : entry ∷ (inner ++ more) ≡ es = ap (λ (l : List SubEntry). l ++ more) own.2 ∙ last in
    let P : List SubEntry → Type 0 = λ l. RowsWalked find deeper (entry ∷ entries) l in
    let F = own_keys find in
    let D = data_keys find entry.content in
    let L = list_keys find entry.subnodes in
    subst P all (record {
      each = (below.lists, each-append (λ (e : SubEntry). Lists find e.subnodes) inner more below.each after.each);
      keys = ap (λ (l : List ℕ). (D ++ l) ++ each_keys (all_keys find deeper) entries) below.keys ∙ ap (λ (l : List ℕ). (D ++ (L ++ each_keys F inner)) ++ l) after.keys
          ∙ ap (λ (l : List ℕ). l ++ each_keys F more) (sym (append_assoc D L (each_keys F inner))) ∙ append_assoc (D ++ L) (each_keys F inner) (each_keys F more)
          ∙ ap (λ (l : List ℕ). (D ++ L) ++ l) (sym (each_keys-append F inner more));
    })

walked-some : (find : ℕ → Option (List ℕ)) (deeper : ℕ) (bid : Bid) (es entries : List SubEntry) → (bid.bits ≡ 0 → ⊥) → level_of find (8 - deeper) bid ≡ Ok entries → RowsWalked find deeper entries es
    → Walked find (suc deeper) bid es
walked-some find deeper bid es entries some read walked = record {
  lists = lists-some find (8 - deeper) bid entries some read;
  each = walked.each;
  keys = let e : eqb bid.bits 0 ≡ false = ne_eqb bid.bits 0 some in
      rw e (ap (λ (r : Result (List SubEntry) TreeStop). key_of bid.bits ∷ (listed_in (find (key_of bid.bits)) ++ each_keys (all_keys find deeper) (ok_entries r))) read
      ∙ ap (λ (l : List ℕ). key_of bid.bits ∷ (listed_in (find (key_of bid.bits)) ++ l)) walked.keys);
}

tree-walked : (find : ℕ → Option (List ℕ)) (deeper room : ℕ) (bid : Bid) (es : List SubEntry) → tree_from find deeper room bid ≡ Ok es → Walked find deeper bid es
tree-walked find zero room bid es e = elim (cases_eq bid.bits 0) [
  | inl none ↦ let read = rw none at e in walked-none find zero bid es none (let given = read in cc)
  | inr some ↦
      let is_some : eqb bid.bits 0 ≡ false = ne_eqb bid.bits 0 some in
      let read = rw is_some at e in
      let parts = then-ok (level_of find 9 bid) (rows (λ left entry. Err Deep) room) es read in
      let empty = rows-zero room parts.0 es parts.2 in
      let P : List SubEntry → Type 0 = λ l. Walked find zero bid l in
      subst P (sym empty) (record { lists = lists-some find 9 bid parts.0 some parts.1; each = tt; keys = sym (append-nil (list_keys find bid)) })
]
tree-walked find (suc deeper) room bid es e = elim (cases_eq bid.bits 0) [
  | inl none ↦ let read = rw none at e in walked-none find (suc deeper) bid es none (let given = read in cc)
  | inr some ↦
      let is_some : eqb bid.bits 0 ≡ false = ne_eqb bid.bits 0 some in
      let read = rw is_some at e in
      let parts = then-ok (level_of find (8 - deeper) bid) (rows (branch (tree_from find deeper)) room) es read in
      walked-some find deeper bid es parts.0 some parts.1 (rows-walked find deeper (tree-walked find deeper) room parts.0 es parts.2)
]

-- ---- the walk's reading

entry-parts : (find : ℕ → Option (List ℕ)) (entry : SubEntry) (front : List ℕ) (r : Result (List Bid) TreeStop) (list : Result (List ℕ) TreeStop) (B : Result (List (List (Option Bid))) TreeStop) (K : List ℕ)
    → list ≡ Ok front
    → and_then (and_then (and_then r (λ bids. Ok (data_keys find entry.content))) (λ content. and_then list (λ l. Ok (content ++ l)))) (λ here. and_then (and_then B (λ all. Ok K)) (λ more. Ok (here ++ more)))
    ≡ and_then (and_then (and_then r (λ bids. Ok (map Some bids))) (λ here. and_then B (λ more. Ok (here ∷ more)))) (λ all. Ok ((data_keys find entry.content ++ front) ++ K))
entry-parts find entry front (Err fault) list B K e = refl
entry-parts find entry front (Ok bids) list (Err fault) K e = rw e refl
entry-parts find entry front (Ok bids) list (Ok all) K e = rw e refl

entries-read : (find : ℕ → Option (List ℕ)) (es : List SubEntry) → Each (λ (e : SubEntry). Lists find e.subnodes) es → entries_keys_read find es ≡ and_then (bids_each find es) (λ all. Ok (each_keys (own_keys find) es))
entries-read find [] each = refl
entries-read find (entry ∷ es) each =
    ap (λ (r : Result (List ℕ) TreeStop). and_then (entry_keys_read find entry) (λ here. and_then r (λ more. Ok (here ++ more)))) (entries-read find es each.1)
    ∙ entry-parts find entry (list_keys find entry.subnodes) (bids_of find entry.content) (list_keys_read find entry.subnodes) (bids_each find es) (each_keys (own_keys find) es) each.0

front-then : (front K : List ℕ) (B : Result (List (List (Option Bid))) TreeStop) → and_then (and_then B (λ all. Ok K)) (λ more. Ok (front ++ more)) ≡ and_then B (λ all. Ok (front ++ K))
front-then front K (Ok all) = refl
front-then front K (Err fault) = refl

after-tree : (find : ℕ → Option (List ℕ)) (bid : Bid) (es : List SubEntry) → Walked find 8 bid es
    → and_then (list_keys_read find bid) (λ front. and_then (entries_keys_read find es) (λ more. Ok (front ++ more))) ≡ and_then (bids_each find es) (λ all. Ok (sub_keys find bid))
unfolding sub_keys
after-tree find bid es walked =
    let front = list_keys find bid in
    let K = each_keys (own_keys find) es in
    ap (λ (r : Result (List ℕ) TreeStop). and_then r (λ front. and_then (entries_keys_read find es) (λ more. Ok (front ++ more)))) walked.lists
    ∙ ap (λ (r : Result (List ℕ) TreeStop). and_then r (λ more. Ok (front ++ more))) (entries-read find es walked.each) ∙ front-then front K (bids_each find es)
    ∙ ap (λ (l : List ℕ). and_then (bids_each find es) (λ all. Ok l)) (sym walked.keys)

pub walk-keys : (find : ℕ → Option (List ℕ)) (eof : ℕ) (bid : Bid) → sub_keys_read find eof bid ≡ walked_keys find eof bid
unfolding walked_keys sub_bids_of tree_of
walk-keys find eof bid =
    then-then (tree_from find 8 (eof / 24) bid) (bids_each find) (λ all. Ok (sub_keys find bid))
    ∙ sym (then-same (tree_from find 8 (eof / 24) bid) (λ es. and_then (list_keys_read find bid) (λ front. and_then (entries_keys_read find es) (λ more. Ok (front ++ more)))) (λ es. and_then (bids_each find es) (λ all. Ok (sub_keys find bid)))
    (λ es e. after-tree find bid es (tree-walked find 8 (eof / 24) bid es e)))

-- ---- one entry more

after_keys : (ℕ → Option (List ℕ)) → List SubEntry → Result (List ℕ) TreeStop → Result (List ℕ) TreeStop
after_keys find rest r = and_then r (λ here. and_then (entries_keys_read find rest) (λ more. Ok (here ++ more)))

pub keys-next : (find : ℕ → Option (List ℕ)) (es : List SubEntry) (here : List ℕ) (i : ℕ) (d : SubEntry) → i < length es → entry_keys_read find (get_or es i d) ≡ Ok here
    → entries_keys_read find (drop i es) ≡ before here (entries_keys_read find (drop (i + 1) es))
unfolding after_keys
keys-next find es here i d h e = ap (entries_keys_read find) (drop-here es i d h) ∙ ap (after_keys find (drop (i + 1) es)) e

pub keys-stop : (find : ℕ → Option (List ℕ)) (es : List SubEntry) (i : ℕ) (d : SubEntry) (fault : TreeStop) → i < length es → entry_keys_read find (get_or es i d) ≡ Err fault → entries_keys_read find (drop i es) ≡ Err fault
unfolding after_keys
keys-stop find es i d fault h e = ap (entries_keys_read find) (drop-here es i d h) ∙ ap (after_keys find (drop (i + 1) es)) e
