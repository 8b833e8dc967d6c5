-- Subnodes that are read ascend.
use Rattle.std.proofs.Common.{Bool, true, false, ◌&&◌, ◌≡◌, ◌∙◌, ℕ, zero, suc, ◌-◌, ◌/◌, eqb, if◌then◌else◌, List, [], ◌∷◌, ◌++◌, length, drop, map, Option, Result, Ok, Err, refl, sym, ap, subst, add-one}
use Rattle.std.proofs.lemmas.Bool.{and_parts}
use Rattle.pst_base.specs.declared.ids.Bid.{Bid}
use Rattle.pst_base.specs.Flat.{Flat}
use Rattle.pst_base.specs.Subs.{one_deeper}
use Rattle.data_tree.specs.declared.source.TreeStop.{TreeStop}
use Rattle.data_tree.specs.declared.source.TreeStop.TheVariants.{Deep, Form, Many}
use Rattle.data_tree.specs.Tree.{and_then, blocks_of, fetched}
use Rattle.data_tree.proofs.NamedLaws.{then-ok}
use Rattle.subnode_tree.specs.Keys.{Entry}
use Rattle.subnode_tree.specs.Subnodes.{ascend, branch_with, entries_of, inner_in, is_inner, is_leaf, level_in, level_of, listed_ascend, listed_of, ordered, parts_of, rise_above, rows, subs_from, subs_of}
use Rattle.content_plan.specs.Keep.{ascend_after, first_below, path_after, subs_ascend}

-- ---- one level

ordered-ascend : (bid : Bid) (entries es : List Entry) → ordered bid entries ≡ Ok es → ascend es ≡ true
ordered-ascend bid entries es e = by (ascend entries) refl e
  where
    by : (t : Bool) → ascend entries ≡ t → ◌≡◌ {A = Result (List Entry) TreeStop} (if t then Ok entries else Err (Form bid)) (Ok es) → ascend es ≡ true
    by true up e = let same : entries ≡ es = cc in ap ascend (sym same) ∙ up
    by false up e = absurd (cc)

block-ascends : (find : ℕ → Option (List ℕ)) (level : ℕ) (bid : Bid) (b : List ℕ) (es : List Entry) → level_in find level bid b ≡ Ok es → ascend es ≡ true
unfolding level_in
block-ascends find level bid b es e = leaf (is_leaf b) e
  where
    listed : (t : Bool) → (if t then and_then (parts_of find level (listed_of b)) (ordered bid) else Err (Form bid)) ≡ Ok es → ascend es ≡ true
    listed true e = let parts = then-ok (parts_of find level (listed_of b)) (ordered bid) es e in ordered-ascend bid parts.0 es parts.2
    listed false e = absurd (cc)

    inner : (t : Bool) → (if t then inner_in find level bid (listed_of b) else Err (Form bid)) ≡ Ok es → ascend es ≡ true
    inner true e = listed (listed_ascend (listed_of b)) e
    inner false e = absurd (cc)

    leaf : (t : Bool) → (if t then ordered bid (entries_of level b) else (if is_inner b then inner_in find level bid (listed_of b) else Err (Form bid))) ≡ Ok es → ascend es ≡ true
    leaf true e = ordered-ascend bid (entries_of level b) es e
    leaf false e = inner (is_inner b) e

level-ascends : (find : ℕ → Option (List ℕ)) (level : ℕ) (bid : Bid) (es : List Entry) → level_of find level bid ≡ Ok es → ascend es ≡ true
level-ascends find level bid es e = let parts = then-ok (fetched find bid) (level_in find level bid) es e in block-ascends find level bid parts.0 es parts.2

-- ---- all levels

-- entries that ascend, where a path comes before them
abbrev follow : List ℕ → List Entry → Bool
follow last [] = true
follow last (entry ∷ entries) = first_below last (entry.nid).bits && rise_above (entry.nid).bits entries

follow-start : (entries : List Entry) → ascend entries ≡ true → follow [] entries ≡ true
follow-start [] up = refl
follow-start (entry ∷ entries) up = up

follow-next : (n : ℕ) (tail : List ℕ) (entries : List Entry) → rise_above n entries ≡ true → follow (n ∷ tail) entries ≡ true
follow-next n tail [] up = refl
follow-next n tail (entry ∷ entries) up = up

join-below : (n : ℕ) (inner : List Flat) (last : List ℕ) (rest : List Flat) → ascend_after last inner ≡ true → ((tail : List ℕ) → ascend_after (n ∷ tail) rest ≡ true) → ascend_after (n ∷ last) (map one_deeper inner ++ rest) ≡ true
join-below n [] last rest up after = after last
join-below n (f ∷ inner) last rest up after =
    let both = and_parts (first_below (drop f.level last) f.nid) (ascend_after (path_after last f) inner) up in
    let here = both.0 in
    rw (add-one f.level, here) (join-below n inner (path_after last f) rest both.1 after)

abbrev flat_here : Entry → List (List ℕ) → List Flat → List Flat
flat_here entry blocks inner = record { level = 0; nid = (entry.nid).bits; blocks = blocks } ∷ map one_deeper inner

-- what one entry comes to
branch-parts : (find : ℕ → Option (List ℕ)) (eof : ℕ) (below : ℕ → Bid → Result (List Flat) TreeStop) (room : ℕ) (entry : Entry) (here : List Flat) → branch_with find eof below room entry ≡ Ok here
    → (blocks : List (List ℕ)) × (inner : List Flat) × (below (room - 1) entry.subnodes ≡ Ok inner) × (flat_here entry blocks inner ≡ here)
branch-parts find eof below room entry here e = by (eqb room 0) e
  where
    by : (none : Bool) → (if none then Err Many else and_then (blocks_of find eof entry.content) (λ blocks. and_then (below (room - 1) entry.subnodes) (λ inner. Ok (flat_here entry blocks inner)))) ≡ Ok here
        → (blocks : List (List ℕ)) × (inner : List Flat) × (below (room - 1) entry.subnodes ≡ Ok inner) × (flat_here entry blocks inner ≡ here)
    by true e = absurd (cc)
    by false e =
        let content = then-ok (blocks_of find eof entry.content) (λ blocks. and_then (below (room - 1) entry.subnodes) (λ inner. Ok (flat_here entry blocks inner))) here e in
        let parts = then-ok (below (room - 1) entry.subnodes) (λ inner. Ok (flat_here entry content.0 inner)) here content.2 in
        (content.0, parts.0, parts.1, let last = parts.2 in cc)

abbrev EachAscends : (ℕ → Bid → Result (List Flat) TreeStop) → Type 0
EachAscends below = (room : ℕ) (bid : Bid) (flats : List Flat) → below room bid ≡ Ok flats → subs_ascend flats ≡ true

rows-ascend : (find : ℕ → Option (List ℕ)) (eof : ℕ) (below : ℕ → Bid → Result (List Flat) TreeStop) → EachAscends below → (entries : List Entry) (room : ℕ) (flats : List Flat) (last : List ℕ)
    → follow last entries ≡ true → rows (branch_with find eof below) room entries ≡ Ok flats → ascend_after last flats ≡ true
rows-ascend find eof below each [] room flats last up e = let none : [] ≡ flats = cc in subst (λ (l : List Flat). ascend_after last l ≡ true) none refl
rows-ascend find eof below each (entry ∷ entries) room flats last up e =
    let f = branch_with find eof below in
    let first = then-ok (f room entry) (λ here. and_then (rows f (room - length here) entries) (λ more. Ok (here ++ more))) flats e in
    let next = then-ok (rows f (room - length first.0) entries) (λ more. Ok (first.0 ++ more)) flats first.2 in
    let whole : first.0 ++ next.0 ≡ flats = let last_step = next.2 in cc in
    let parts = branch-parts find eof below room entry first.0 first.1 in
    let both = and_parts (first_below last (entry.nid).bits) (rise_above (entry.nid).bits entries) up in
    let here = both.0 in
    let inner = each (room - 1) entry.subnodes parts.1 parts.2 in
    let made : flat_here entry parts.0 parts.1 ++ next.0 ≡ flats = ap (λ (l : List Flat). l ++ next.0) parts.3 ∙ whole in
    let risen : ascend_after last (flat_here entry parts.0 parts.1 ++ next.0) ≡ true =
    rw here (join-below (entry.nid).bits parts.1 [] next.0 inner (λ tail. rows-ascend find eof below each entries (room - length first.0) next.0 ((entry.nid).bits ∷ tail) (follow-next (entry.nid).bits tail entries both.1) next.1)) in
    subst (λ (l : List Flat). ascend_after last l ≡ true) made risen

subs-ascend : (find : ℕ → Option (List ℕ)) (eof deeper : ℕ) → EachAscends (subs_from find eof deeper)
subs-ascend find eof zero room bid flats e = by (eqb bid.bits 0) e
  where
    none : (entries : List Entry) → rows {Y = Flat} (λ left entry. Err Deep) room entries ≡ Ok flats → subs_ascend flats ≡ true
    none [] e = let empty : [] ≡ flats = cc in subst (λ (l : List Flat). subs_ascend l ≡ true) empty refl
    none (entry ∷ entries) e = absurd (cc)

    by : (t : Bool) → ◌≡◌ {A = Result (List Flat) TreeStop} (if t then Ok [] else and_then (level_of find 9 bid) (rows {Y = Flat} (λ left entry. Err Deep) room)) (Ok flats) → subs_ascend flats ≡ true
    by true e = let empty : [] ≡ flats = cc in subst (λ (l : List Flat). subs_ascend l ≡ true) empty refl
    by false e = let parts = then-ok (level_of find 9 bid) (rows {Y = Flat} (λ left entry. Err Deep) room) flats e in none parts.0 parts.2
subs-ascend find eof (suc deeper) room bid flats e = by (subs-ascend find eof deeper) (eqb bid.bits 0) e
  where
    by : EachAscends (subs_from find eof deeper) → (t : Bool)
        → ◌≡◌ {A = Result (List Flat) TreeStop} (if t then Ok [] else and_then (level_of find (8 - deeper) bid) (rows (branch_with find eof (subs_from find eof deeper)) room)) (Ok flats) → subs_ascend flats ≡ true
    by each true e = let empty : [] ≡ flats = cc in subst (λ (l : List Flat). subs_ascend l ≡ true) empty refl
    by each false e =
        let parts = then-ok (level_of find (8 - deeper) bid) (rows (branch_with find eof (subs_from find eof deeper)) room) flats e in
        rows-ascend find eof (subs_from find eof deeper) each parts.0 room flats [] (follow-start parts.0 (level-ascends find (8 - deeper) bid parts.0 parts.1)) parts.2

-- all subnodes of a node
pub read-ascend : (find : ℕ → Option (List ℕ)) (eof : ℕ) (bid : Bid) (flats : List Flat) → subs_of find eof bid ≡ Ok flats → subs_ascend flats ≡ true
unfolding subs_of
read-ascend find eof bid flats e = subs-ascend find eof 8 (eof / 24) bid flats e
