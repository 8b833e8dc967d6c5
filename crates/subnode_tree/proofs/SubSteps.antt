-- The reading of all levels with their data, at one entry more.
use Rattle.std.proofs.Common.{◌≡◌, ℕ, zero, suc, ◌+◌, ◌-◌, ◌<◌, ◌≤◌, List, [], ◌∷◌, ◌++◌, map, length, drop, get_or, Option, Result, Ok, Err, refl, sym, ap, ◌∙◌, arith, append-nil, append_assoc}
use Rattle.std.proofs.lemmas.Bool.{ne_eqb}
use Rattle.std.proofs.lemmas.List.{length-map}
use Rattle.pst_base.specs.declared.ids.Bid.{Bid}
use Rattle.pst_base.specs.declared.subs.Sub.{Sub}
use Rattle.pst_base.specs.Flat.{Flat}
use Rattle.pst_base.specs.Subs.{one_deeper, flattened}
use Rattle.data_tree.specs.declared.source.TreeStop.{TreeStop}
use Rattle.data_tree.specs.declared.source.TreeStop.TheVariants.{Deep, Many}
use Rattle.data_tree.specs.Tree.{and_then, blocks_of}
use Rattle.data_tree.proofs.Steps.{before}
use Rattle.subnode_tree.specs.declared.blocks.SubEntry.{SubEntry}
use Rattle.subnode_tree.specs.Subnodes.{level_of, rows, branch_with, subs_from}
use Rattle.subnode_tree.proofs.RowSteps.{rows-stop, rows-next}

abbrev Finder : Type 0
Finder = ℕ → Option (List ℕ)

-- what an entry leads to, where so many levels may follow its own
abbrev pub sub_row : Finder → ℕ → ℕ → ℕ → SubEntry → Result (List Flat) TreeStop
sub_row find eof zero left entry = Err Deep
sub_row find eof (suc deeper) left entry = branch_with find eof (subs_from find eof deeper) left entry

-- an entry with its data, and those below it
abbrev pub sub_here : SubEntry → List (List ℕ) → List Flat → List Flat
sub_here entry blocks inner = record { level = 0; nid = (entry.nid).bits; blocks = blocks } ∷ map one_deeper inner

subs-some : (find : Finder) (eof deeper room : ℕ) (bid : Bid) → (bid.bits ≡ 0 → ⊥) → deeper ≤ 8
    → subs_from find eof deeper room bid ≡ and_then (level_of find (9 - deeper) bid) (rows (sub_row find eof deeper) room)
subs-some find eof zero room bid some h = rw (ne_eqb bid.bits 0 some) refl
subs-some find eof (suc deeper) room bid some h =
    let e : 8 - deeper ≡ 9 - suc deeper = omega arith in
    rw (ne_eqb bid.bits 0 some) (ap (λ (level : ℕ). and_then (level_of find level bid) (rows (branch_with find eof (subs_from find eof deeper)) room)) e)

pub subs-read : (find : Finder) (eof deeper room : ℕ) (bid : Bid) (es : List SubEntry) → (bid.bits ≡ 0 → ⊥) → deeper ≤ 8 → level_of find (9 - deeper) bid ≡ Ok es
    → subs_from find eof deeper room bid ≡ rows (sub_row find eof deeper) room es
subs-read find eof deeper room bid es some h e =
    subs-some find eof deeper room bid some h ∙ ap (λ (r : Result (List SubEntry) TreeStop). and_then r (rows (sub_row find eof deeper) room)) e

pub subs-fault : (find : Finder) (eof deeper room : ℕ) (bid : Bid) (fault : TreeStop) → (bid.bits ≡ 0 → ⊥) → deeper ≤ 8 → level_of find (9 - deeper) bid ≡ Err fault
    → subs_from find eof deeper room bid ≡ Err fault
subs-fault find eof deeper room bid fault some h e =
    subs-some find eof deeper room bid some h ∙ ap (λ (r : Result (List SubEntry) TreeStop). and_then r (rows (sub_row find eof deeper) room)) e

pub sub-deep : (find : Finder) (eof deeper left : ℕ) (es : List SubEntry) (i : ℕ) (d : SubEntry) → deeper ≡ 0 → i < length es → rows (sub_row find eof deeper) left (drop i es) ≡ Err Deep
sub-deep find eof zero left es i d e h = rows-stop (sub_row find eof zero) left es i d Deep h refl
sub-deep find eof (suc deeper) left es i d e h = absurd (omega (arith, e))

pub sub-many : (find : Finder) (eof deeper left : ℕ) (es : List SubEntry) (i : ℕ) (d : SubEntry) → 0 < deeper → left ≡ 0 → i < length es
    → rows (sub_row find eof deeper) left (drop i es) ≡ Err Many
sub-many find eof zero left es i d some e h = absurd (omega (arith, some))
sub-many find eof (suc deeper) left es i d some e h = rows-stop (sub_row find eof (suc deeper)) left es i d Many h (rw e refl)

-- what an entry leads to, from its data and from what stands below it
joins : SubEntry → Result (List (List ℕ)) TreeStop → Result (List Flat) TreeStop → Result (List Flat) TreeStop
joins entry content inner = and_then content (λ blocks. and_then inner (λ found. Ok (sub_here entry blocks found)))

sub_row-is : (find : Finder) (eof deeper left : ℕ) (entry : SubEntry) → 0 < deeper → 0 < left
    → sub_row find eof deeper left entry ≡ joins entry (blocks_of find eof entry.content) (subs_from find eof (deeper - 1) (left - 1) entry.subnodes)
unfolding joins
sub_row-is find eof zero left entry some more = absurd (omega (arith, some))
sub_row-is find eof (suc deeper) left entry some more =
    let same : deeper ≡ suc deeper - 1 = omega arith in
    rw (ne_eqb left 0 (λ z. absurd (omega (arith, z, more))))
    (ap (λ (n : ℕ). joins entry (blocks_of find eof entry.content) (subs_from find eof n (left - 1) entry.subnodes)) same)

pub sub-data-fault : (find : Finder) (eof deeper left : ℕ) (es : List SubEntry) (i : ℕ) (d : SubEntry) (fault : TreeStop) → 0 < deeper → 0 < left → i < length es
    → blocks_of find eof (get_or es i d).content ≡ Err fault → rows (sub_row find eof deeper) left (drop i es) ≡ Err fault
unfolding joins
sub-data-fault find eof deeper left es i d fault some more h e =
    rows-stop (sub_row find eof deeper) left es i d fault h
    (sub_row-is find eof deeper left (get_or es i d) some more
    ∙ ap (λ (r : Result (List (List ℕ)) TreeStop). joins (get_or es i d) r (subs_from find eof (deeper - 1) (left - 1) (get_or es i d).subnodes)) e)

pub sub-inner-fault : (find : Finder) (eof deeper left : ℕ) (es : List SubEntry) (i : ℕ) (d : SubEntry) (blocks : List (List ℕ)) (fault : TreeStop) → 0 < deeper → 0 < left → i < length es
    → blocks_of find eof (get_or es i d).content ≡ Ok blocks → subs_from find eof (deeper - 1) (left - 1) (get_or es i d).subnodes ≡ Err fault
    → rows (sub_row find eof deeper) left (drop i es) ≡ Err fault
unfolding joins
sub-inner-fault find eof deeper left es i d blocks fault some more h e f =
    rows-stop (sub_row find eof deeper) left es i d fault h
    (sub_row-is find eof deeper left (get_or es i d) some more
    ∙ ap (λ (r : Result (List (List ℕ)) TreeStop). joins (get_or es i d) r (subs_from find eof (deeper - 1) (left - 1) (get_or es i d).subnodes)) e
    ∙ ap (joins (get_or es i d) (Ok blocks)) f)

pub sub-step : (find : Finder) (eof deeper left : ℕ) (es : List SubEntry) (i : ℕ) (d : SubEntry) (blocks : List (List ℕ)) (inner : List Flat) → 0 < deeper → 0 < left → i < length es
    → blocks_of find eof (get_or es i d).content ≡ Ok blocks → subs_from find eof (deeper - 1) (left - 1) (get_or es i d).subnodes ≡ Ok inner
    → rows (sub_row find eof deeper) left (drop i es) ≡ before (sub_here (get_or es i d) blocks inner) (rows (sub_row find eof deeper) (left - (1 + length inner)) (drop (i + 1) es))
unfolding joins
sub-step find eof deeper left es i d blocks inner some more h e f =
    let len = length-map inner one_deeper in
    let count : left - suc (length (map one_deeper inner)) ≡ left - (1 + length inner) = omega (arith, len) in
    rows-next (sub_row find eof deeper) left es i d (sub_here (get_or es i d) blocks inner) h
    (sub_row-is find eof deeper left (get_or es i d) some more
    ∙ ap (λ (r : Result (List (List ℕ)) TreeStop). joins (get_or es i d) r (subs_from find eof (deeper - 1) (left - 1) (get_or es i d).subnodes)) e
    ∙ ap (joins (get_or es i d) (Ok blocks)) f)
    ∙ ap (λ (n : ℕ). before (sub_here (get_or es i d) blocks inner) (rows (sub_row find eof deeper) n (drop (i + 1) es))) count

pub flattened-append : (xs ys : List Sub) → flattened (xs ++ ys) ≡ flattened xs ++ flattened ys
flattened-append [] ys = refl
flattened-append (x ∷ xs) ys =
    let here : List Flat = record { level = 0; nid = (x.nid).bits; blocks = x.blocks } ∷ map one_deeper x.subs in
    ap (λ (rest : List Flat). here ++ rest) (flattened-append xs ys) ∙ sym (append_assoc here (flattened xs) (flattened ys))

-- one subnode more
pub flattened-more : (xs : List Sub) (x : Sub) → flattened (xs ++ x ∷ []) ≡ flattened xs ++ (record { level = 0; nid = (x.nid).bits; blocks = x.blocks } ∷ map one_deeper x.subs)
flattened-more xs x =
    flattened-append xs (x ∷ []) ∙ ap (λ (l : List Flat). flattened xs ++ l) (append-nil (record { level = 0; nid = (x.nid).bits; blocks = x.blocks } ∷ map one_deeper x.subs))
