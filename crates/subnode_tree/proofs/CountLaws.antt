-- The subnodes at all levels counted, at one entry more.
use Rattle.std.proofs.Common.{Bool, ◌≡◌, ℕ, ◌+◌, ◌-◌, ◌<◌, cond, eqb, List, [], ◌∷◌, ◌++◌, map, length, drop, get_or, Option, Ok, Err, refl, ap, ◌∙◌, arith}
use Rattle.std.proofs.lemmas.Bool.{ne_eqb}
use Rattle.std.proofs.lemmas.List.{length-map}
use Rattle.std.proofs.lemmas.List.Sums.{sum_by-append}
use Rattle.pst_base.specs.Flat.{Flat}
use Rattle.pst_base.specs.Subs.{one_deeper}
use Rattle.data_tree.specs.declared.source.TreeStop.{TreeStop}
use Rattle.data_tree.specs.Measure.{bytes_in, measured}
use Rattle.data_tree.specs.Tree.{blocks_of}
use Rattle.data_tree.proofs.CountSteps.{tallied-ok, tallied-fault}
use Rattle.data_tree.proofs.Steps.{before}
use Rattle.subnode_tree.specs.declared.blocks.SubEntry.{SubEntry}
use Rattle.subnode_tree.specs.Counts.{directs, all_counted}
use Rattle.subnode_tree.specs.Subnodes.{rows, subs_from}
use Rattle.subnode_tree.proofs.SubSteps.{sub_row, sub_here, sub-data-fault, sub-inner-fault, sub-step}

abbrev Finder : Type 0
Finder = ℕ → Option (List ℕ)

pub directs-sum : (xs ys : List Flat) → directs (xs ++ ys) ≡ directs xs + directs ys
directs-sum xs ys = sum_by-append (λ (sub : Flat). cond (eqb sub.level 0) 1 0) xs ys

-- those one level deeper don't stand directly in the node
directs-deeper : (subs : List Flat) → directs (map one_deeper subs) ≡ 0
directs-deeper [] = refl
directs-deeper (sub ∷ subs) =
    let first : directs (one_deeper sub ∷ []) ≡ 0 = ap (λ (t : Bool). 0 + cond t 1 0) (ne_eqb (sub.level + 1) 0 (λ z. absurd (omega (arith, z)))) in
    let rest = directs-deeper subs in
    let none : directs (one_deeper sub ∷ []) + directs (map one_deeper subs) ≡ 0 = omega (arith, first, rest) in
    directs-sum (one_deeper sub ∷ []) (map one_deeper subs) ∙ none

-- an entry and those below it, of which it alone stands directly in the node
pub directs-here : (entry : SubEntry) (blocks : List (List ℕ)) (inner : List Flat) → directs (sub_here entry blocks inner) ≡ 1
directs-here entry blocks inner =
    directs-sum (record { level = 0; nid = (entry.nid).bits; blocks = blocks } ∷ []) (map one_deeper inner) ∙ ap (λ (n : ℕ). 1 + n) (directs-deeper inner)

pub count-data-fault : (find : Finder) (eof deeper left : ℕ) (es : List SubEntry) (i : ℕ) (d : SubEntry) (fault : TreeStop) → 0 < deeper → 0 < left → i < length es
    → measured (blocks_of find eof (get_or es i d).content) ≡ Err fault → rows (sub_row find eof deeper) left (drop i es) ≡ Err fault
count-data-fault find eof deeper left es i d fault some more h e =
    sub-data-fault find eof deeper left es i d fault some more h (tallied-fault bytes_in (blocks_of find eof (get_or es i d).content) fault e)

pub count-inner-fault : (find : Finder) (eof deeper left : ℕ) (es : List SubEntry) (i : ℕ) (d : SubEntry) (bytes : ℕ) (fault : TreeStop) → 0 < deeper → 0 < left → i < length es
    → measured (blocks_of find eof (get_or es i d).content) ≡ Ok bytes → all_counted (subs_from find eof (deeper - 1) (left - 1) (get_or es i d).subnodes) ≡ Err fault
    → rows (sub_row find eof deeper) left (drop i es) ≡ Err fault
count-inner-fault find eof deeper left es i d bytes fault some more h e f =
    let blocks = tallied-ok bytes_in (blocks_of find eof (get_or es i d).content) bytes e in
    sub-inner-fault find eof deeper left es i d blocks.0 fault some more h blocks.1 (tallied-fault length (subs_from find eof (deeper - 1) (left - 1) (get_or es i d).subnodes) fault f)

-- an entry with as many below it
pub record OneMore (find : ℕ → Option (List ℕ)) (eof deeper left all : ℕ) (es : List SubEntry) (i : ℕ) : Type 0 where
  pub here : List Flat
  pub direct : directs here ≡ 1
  pub whole : length here ≡ 1 + all
  pub steps : rows (sub_row find eof deeper) left (drop i es) ≡ before here (rows (sub_row find eof deeper) (left - (1 + all)) (drop (i + 1) es))

pub one-more : (find : Finder) (eof deeper left : ℕ) (es : List SubEntry) (i : ℕ) (d : SubEntry) (bytes all : ℕ) → 0 < deeper → 0 < left → i < length es
    → measured (blocks_of find eof (get_or es i d).content) ≡ Ok bytes → all_counted (subs_from find eof (deeper - 1) (left - 1) (get_or es i d).subnodes) ≡ Ok all
    → OneMore find eof deeper left all es i
one-more find eof deeper left es i d bytes all some more h e f =
    let entry = get_or es i d in
    let blocks = tallied-ok bytes_in (blocks_of find eof entry.content) bytes e in
    let inner = tallied-ok length (subs_from find eof (deeper - 1) (left - 1) entry.subnodes) all f in
    let len = length-map inner.0 one_deeper in
    let same = inner.2 in
    record {
      here = sub_here entry blocks.0 inner.0;
      direct = directs-here entry blocks.0 inner.0;
      whole = omega (arith, len, same);
      steps = sub-step find eof deeper left es i d blocks.0 inner.0 some more h blocks.1 inner.1
          ∙ ap (λ (n : ℕ). before (sub_here entry blocks.0 inner.0) (rows (sub_row find eof deeper) (left - (1 + n)) (drop (i + 1) es))) same;
    }
