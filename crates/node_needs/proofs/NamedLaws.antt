-- The ids of subnodes' data blocks name their data.
use Rattle.std.proofs.Common.{Bool, true, false, ◌≡◌, ◌∙◌, ℕ, zero, suc, ◌+◌, ◌-◌, ◌/◌, ◌≤◌, eqb, ltb, List, [], ◌∷◌, ◌++◌, length, map, Option, Some, Result, Ok, Err, refl, sym, ap, subst, arith, length-append, if◌then◌else◌}
use Rattle.std.proofs.lemmas.List.{length-map}
use Rattle.std.proofs.lemmas.Bool.{eqb-false, ltb-false}
use Rattle.pst_base.specs.declared.ids.Bid.{Bid}
use Rattle.pst_base.specs.Flat.{Flat}
use Rattle.pst_base.specs.Subs.{one_deeper}
use Rattle.data_tree.specs.declared.source.TreeStop.{TreeStop}
use Rattle.data_tree.specs.declared.source.TreeStop.TheVariants.{Deep, Long, Many}
use Rattle.data_tree.specs.Measure.{bytes_in}
use Rattle.data_tree.specs.Plan.{AreFound}
use Rattle.data_tree.specs.Tree.{and_then, bids_of, blocks_from, blocks_of, fetched}
use Rattle.data_tree.proofs.NamedLaws.{bids-name, then-ok}
use Rattle.subnode_tree.specs.Keys.{Entry}
use Rattle.subnode_tree.specs.Bids.{bids_each, entry_bids, sub_bids_of}
use Rattle.subnode_tree.specs.Subnodes.{branch, branch_with, level_of, opened, rows, subs_from, subs_of, tree_from, tree_of}
use Rattle.node_needs.specs.Named.{AllNamed, EachNamed}
use Rattle.node_needs.proofs.FitLaws.{bytes-next, long-or}

abbrev Ids : Type 0
Ids = List (List (Option Bid))

-- ---- one data tree

all-named : (find : ℕ → Option (List ℕ)) (ids : List Bid) (bs : List (List ℕ)) → AreFound find (map Some ids) bs → length ids ≡ length bs → AllNamed find (map Some ids) bs
all-named find [] [] found same = tt
all-named find [] (b ∷ bs) found same = absurd (omega (arith, same))
all-named find (id ∷ ids) [] found same = absurd (omega (arith, same))
all-named find (id ∷ ids) (b ∷ bs) found same = (found.0, all-named find ids bs found.1 (omega (arith, same)))

from-short : (find : ℕ → Option (List ℕ)) (eof before : ℕ) (bids : List Bid) (bs : List (List ℕ)) → before ≤ eof → blocks_from find eof before bids ≡ Ok bs → before + bytes_in bs ≤ eof
from-short find eof before [] bs low e = let none : [] ≡ bs = cc in let sum = ap bytes_in none in omega (arith, low, sum)
from-short find eof before (bid ∷ bids) bs low e =
    let first = then-ok (fetched find bid) (λ b. if ltb eof (before + length b) then Err Long else and_then (blocks_from find eof (before + length b) bids) (λ more. Ok (b ∷ more))) bs e in
    let b = first.0 in
    let within = long-or (ltb eof (before + length b)) Long (and_then (blocks_from find eof (before + length b) bids) (λ more. Ok (b ∷ more))) bs first.2 in
    let next = then-ok (blocks_from find eof (before + length b) bids) (λ more. Ok (b ∷ more)) bs within.1 in
    let whole : b ∷ next.0 ≡ bs = let last = next.2 in cc in
    let sum = sym (bytes-next b next.0) ∙ ap bytes_in whole in
    let rest = from-short find eof (before + length b) bids next.0 (ltb-false eof (before + length b) within.0) next.1 in
    omega (arith, rest, sum)

blocks-short : (find : ℕ → Option (List ℕ)) (eof : ℕ) (bid : Bid) (bs : List (List ℕ)) → blocks_of find eof bid ≡ Ok bs → bytes_in bs ≤ eof
unfolding blocks_of
blocks-short find eof bid bs e =
    let first = then-ok (bids_of find bid) (blocks_from find eof 0) bs e in
    let h = from-short find eof 0 first.0 bs (omega arith) first.2 in
    omega (arith, h)

-- a data tree that is read has ids, which name its data
record Listed (find : ℕ → Option (List ℕ)) (bid : Bid) (bs : List (List ℕ)) : Type 0 where
  ids : List Bid
  is : bids_of find bid ≡ Ok ids
  named : AllNamed find (map Some ids) bs

data-listed : (find : ℕ → Option (List ℕ)) (eof : ℕ) (bid : Bid) (bs : List (List ℕ)) → blocks_of find eof bid ≡ Ok bs → Listed find bid bs
unfolding blocks_of
data-listed find eof bid bs e =
    let first = then-ok (bids_of find bid) (blocks_from find eof 0) bs e in
    let names = bids-name find eof bid first.0 bs first.1 e in
    record { ids = first.0; is = first.1; named = all-named find first.0 bs names.0 names.1 }

-- ---- entries and subnodes

bids-append : (find : ℕ → Option (List ℕ)) (xs ys : List Entry) (k m : Ids) → bids_each find xs ≡ Ok k → bids_each find ys ≡ Ok m → bids_each find (xs ++ ys) ≡ Ok (k ++ m)
bids-append find [] ys k m e f = let none : [] ≡ k = cc in f ∙ ap (λ (l : Ids). Ok (l ++ m)) none
bids-append find (x ∷ xs) ys k m e f =
    let first = then-ok (entry_bids find x) (λ here. and_then (bids_each find xs) (λ more. Ok (here ∷ more))) k e in
    let next = then-ok (bids_each find xs) (λ more. Ok (first.0 ∷ more)) k first.2 in
    let whole : first.0 ∷ next.0 ≡ k = let last = next.2 in cc in
    let rest = bids-append find xs ys next.0 m next.1 f in
    rw (first.1, rest) (ap (λ (l : Ids). Ok (l ++ m)) whole)

named-append : (find : ℕ → Option (List ℕ)) (eof : ℕ) (k m : Ids) (us vs : List Flat) → EachNamed find eof k us → EachNamed find eof m vs → EachNamed find eof (k ++ m) (us ++ vs)
named-append find eof [] m [] vs a b = b
named-append find eof [] m (u ∷ us) vs a b = absurd a
named-append find eof (i ∷ k) m [] vs a b = absurd a
named-append find eof (i ∷ k) m (u ∷ us) vs a b = (a.0, a.1, named-append find eof k m us vs a.2 b)

named-deeper : (find : ℕ → Option (List ℕ)) (eof : ℕ) (k : Ids) (fs : List Flat) → EachNamed find eof k fs → EachNamed find eof k (map one_deeper fs)
named-deeper find eof [] [] a = tt
named-deeper find eof [] (f ∷ fs) a = absurd a
named-deeper find eof (i ∷ k) [] a = absurd a
named-deeper find eof (i ∷ k) (f ∷ fs) a = (a.0, a.1, named-deeper find eof k fs a.2)

-- entries with the subnodes that are read from them: as many, and the ids of each name its data
record AreListed (find : ℕ → Option (List ℕ)) (eof : ℕ) (es : List Entry) (fs : List Flat) : Type 0 where
  count : length es ≡ length fs
  ids : Ids
  are : bids_each find es ≡ Ok ids
  named : EachNamed find eof ids fs

none-listed : (find : ℕ → Option (List ℕ)) (eof : ℕ) (fs : List Flat) → fs ≡ [] → AreListed find eof [] fs
none-listed find eof fs none = subst (AreListed find eof []) (sym none) (record { count = refl; ids = []; are = refl; named = tt })

listed-append : (find : ℕ → Option (List ℕ)) (eof : ℕ) (xs ys : List Entry) (us vs : List Flat) → AreListed find eof xs us → AreListed find eof ys vs → AreListed find eof (xs ++ ys) (us ++ vs)
listed-append find eof xs ys us vs a b = record {
  count = let p = a.count in let q = b.count in let r = length-append xs ys in let s = length-append us vs in omega (arith, p, q, r, s);
  ids = a.ids ++ b.ids;
  are = bids-append find xs ys a.ids b.ids a.are b.are;
  named = named-append find eof a.ids b.ids us vs a.named b.named;
}

-- a walk over entries gives those of the subnodes that are read, of which there is room for each
record Walks (find : ℕ → Option (List ℕ)) (eof room : ℕ) (walk : Result (List Entry) TreeStop) (fs : List Flat) : Type 0 where
  es : List Entry
  is : walk ≡ Ok es
  listed : AreListed find eof es fs
  few : length fs ≤ room

abbrev WalkEach : (ℕ → Option (List ℕ)) → ℕ → (ℕ → Entry → Result (List Entry) TreeStop) → (ℕ → Entry → Result (List Flat) TreeStop) → Type 0
WalkEach find eof row reads = (room : ℕ) (e : Entry) (here : List Flat) → reads room e ≡ Ok here → Walks find eof room (row room e) here

rows-walk : (find : ℕ → Option (List ℕ)) (eof : ℕ) (row : ℕ → Entry → Result (List Entry) TreeStop) (reads : ℕ → Entry → Result (List Flat) TreeStop) → WalkEach find eof row reads → (room : ℕ) (es : List Entry) (fs : List Flat)
    → rows reads room es ≡ Ok fs → Walks find eof room (rows row room es) fs
rows-walk find eof row reads each room [] fs e =
    let none : fs ≡ [] = cc in
    let size = ap length none in
    record { es = []; is = refl; listed = none-listed find eof fs none; few = omega (arith, size) }
rows-walk find eof row reads each room (entry ∷ entries) fs e =
    let first = then-ok (reads room entry) (λ here. and_then (rows reads (room - length here) entries) (λ more. Ok (here ++ more))) fs e in
    let next = then-ok (rows reads (room - length first.0) entries) (λ more. Ok (first.0 ++ more)) fs first.2 in
    let whole : first.0 ++ next.0 ≡ fs = let last = next.2 in cc in
    let here = each room entry first.0 first.1 in
    let rest = rows-walk find eof row reads each (room - length first.0) entries next.0 next.1 in
    let count = here.listed.count in
    let few = here.few in
    let more = rest.few in
    let size = ap length whole in
    let parts = length-append first.0 next.0 in
    let again : rows row (room - length here.es) entries ≡ Ok rest.es = ap (λ (n : ℕ). rows row (room - n) entries) count ∙ rest.is in
    record {
      es = here.es ++ rest.es;
      is = rw (here.is, again) refl;
      listed = subst (AreListed find eof (here.es ++ rest.es)) whole (listed-append find eof here.es rest.es first.0 next.0 here.listed rest.listed);
      few = omega (arith, few, more, size, parts);
    }

branch-walk : (find : ℕ → Option (List ℕ)) (eof : ℕ) (walk : ℕ → Bid → Result (List Entry) TreeStop) (below : ℕ → Bid → Result (List Flat) TreeStop)
    → ((room : ℕ) (bid : Bid) (fs : List Flat) → below room bid ≡ Ok fs → Walks find eof room (walk room bid) fs) → WalkEach find eof (branch walk) (branch_with find eof below)
branch-walk find eof walk below each room e here is =
    let some = long-or (eqb room 0) Many (and_then (blocks_of find eof e.content) (λ blocks. and_then (below (room - 1) e.subnodes) (λ inner. Ok (record { level = 0; nid = (e.nid).bits; blocks = blocks } ∷ map one_deeper inner)))) here is in
    let first = then-ok (blocks_of find eof e.content) (λ blocks. and_then (below (room - 1) e.subnodes) (λ inner. Ok (record { level = 0; nid = (e.nid).bits; blocks = blocks } ∷ map one_deeper inner))) here some.1 in
    let next = then-ok (below (room - 1) e.subnodes) (λ inner. Ok (record { level = 0; nid = (e.nid).bits; blocks = first.0 } ∷ map one_deeper inner)) here first.2 in
    let whole : record { level = 0; nid = (e.nid).bits; blocks = first.0 } ∷ map one_deeper next.0 ≡ here = let last = next.2 in cc in
    let rest = each (room - 1) e.subnodes next.0 next.1 in
    let own = data-listed find eof e.content first.0 first.1 in
    let size = length-map next.0 one_deeper in
    let count = rest.listed.count in
    let few = rest.few in
    let total = ap length whole in
    let room_some : room ≡ 0 → ⊥ = eqb-false room 0 some.0 in
    let entry_ids : entry_bids find e ≡ Ok (map Some own.ids) = ap (λ (r : Result (List Bid) TreeStop). and_then r (λ bids. Ok (map Some bids))) own.is in
    record {
      es = e ∷ rest.es;
      is = ap (λ (t : Bool). if t then Err Many else and_then (walk (room - 1) e.subnodes) (λ inner. Ok (e ∷ inner))) some.0 ∙ ap (λ (r : Result (List Entry) TreeStop). and_then r (λ inner. Ok (e ∷ inner))) rest.is;
      listed = subst (AreListed find eof (e ∷ rest.es)) whole (record {
        count = omega (arith, count, size);
        ids = map Some own.ids ∷ rest.listed.ids;
        are = rw (entry_ids, rest.listed.are) refl;
        named = (own.named, blocks-short find eof e.content first.0 first.1, named-deeper find eof rest.listed.ids next.0 rest.listed.named);
      });
      few = omega (arith, few, size, total, room_some);
    }

deep-walk : (find : ℕ → Option (List ℕ)) (eof : ℕ) → WalkEach find eof (λ left entry. Err Deep) (λ left entry. Err Deep)
deep-walk find eof room e here is = absurd cc

opened-walk : (find : ℕ → Option (List ℕ)) (eof room level : ℕ) (bid : Bid) (next : List Entry → Result (List Entry) TreeStop) (reads : List Entry → Result (List Flat) TreeStop) (fs : List Flat)
    → ((es : List Entry) → reads es ≡ Ok fs → Walks find eof room (next es) fs) → opened find level bid reads ≡ Ok fs → Walks find eof room (opened find level bid next) fs
opened-walk find eof room level bid next reads fs each e = by (eqb bid.bits 0) (level_of find level bid) e
  where
    by : (t : Bool) (r : Result (List Entry) TreeStop) → (if t then Ok [] else and_then r reads) ≡ Ok fs → Walks find eof room (if t then Ok [] else and_then r next) fs
    by true r e =
        let none : fs ≡ [] = cc in
        let size = ap length none in
        record { es = []; is = refl; listed = none-listed find eof fs none; few = omega (arith, size) }
    by false (Ok es) e = each es e
    by false (Err stop) e = absurd cc

from-walk : (find : ℕ → Option (List ℕ)) (eof deeper room : ℕ) (bid : Bid) (fs : List Flat) → subs_from find eof deeper room bid ≡ Ok fs → Walks find eof room (tree_from find deeper room bid) fs
from-walk find eof zero room bid fs e =
    opened-walk find eof room 9 bid (rows (λ left entry. Err Deep) room) (rows (λ left entry. Err Deep) room) fs (λ es h. rows-walk find eof (λ left entry. Err Deep) (λ left entry. Err Deep) (deep-walk find eof) room es fs h) e
from-walk find eof (suc deeper) room bid fs e =
    opened-walk find eof room (8 - deeper) bid (rows (branch (tree_from find deeper)) room) (rows (branch_with find eof (subs_from find eof deeper)) room) fs
    (λ es h. rows-walk find eof (branch (tree_from find deeper)) (branch_with find eof (subs_from find eof deeper))
    (branch-walk find eof (tree_from find deeper) (subs_from find eof deeper) (λ room bid fs h. from-walk find eof deeper room bid fs h)) room es fs h) e

-- subnodes that are read have ids, which name their data
pub record AreNamed (find : ℕ → Option (List ℕ)) (eof : ℕ) (bid : Bid) (fs : List Flat) : Type 0 where
  pub ids : List (List (Option Bid))
  pub are : sub_bids_of find eof bid ≡ Ok ids
  pub named : EachNamed find eof ids fs
  pub few : length fs ≤ eof / 24

pub subs-named : (find : ℕ → Option (List ℕ)) (eof : ℕ) (bid : Bid) (fs : List Flat) → subs_of find eof bid ≡ Ok fs → AreNamed find eof bid fs
unfolding subs_of sub_bids_of tree_of
subs-named find eof bid fs e =
    let walk = from-walk find eof 8 (eof / 24) bid fs e in
    record { ids = walk.listed.ids; are = rw (walk.is) walk.listed.are; named = walk.listed.named; few = walk.few }

pub named-count : (find : ℕ → Option (List ℕ)) (eof : ℕ) (ids : List (List (Option Bid))) (fs : List Flat) → EachNamed find eof ids fs → length ids ≡ length fs
named-count find eof [] [] named = refl
named-count find eof [] (f ∷ fs) named = absurd named
named-count find eof (i ∷ ids) [] named = absurd named
named-count find eof (i ∷ ids) (f ∷ fs) named = ap suc (named-count find eof ids fs named.2)

-- a walk gives one list of ids
pub same-ids : {Y : Type 0} {r : Result Y TreeStop} {x y : Y} → r ≡ Ok x → r ≡ Ok y → x ≡ y
same-ids {Y} {r} {x} {y} e f = let both : ◌≡◌ {A = Result Y TreeStop} (Ok x) (Ok y) = sym e ∙ f in cc
