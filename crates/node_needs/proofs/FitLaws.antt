-- A node reads the same in a file that has as many bytes as it needs.
use Rattle.std.proofs.Common.{Bool, true, false, ◌≡◌, ◌∙◌, ℕ, zero, suc, ◌+◌, ◌-◌, ◌/◌, ◌≤◌, eqb, ltb, max, List, [], ◌∷◌, ◌++◌, length, map, Option, Result, Ok, Err, refl, sym, ap, arith, length-append, if◌then◌else◌}
use Rattle.std.proofs.lemmas.Bool.{le-ltb, ne_eqb}
use Rattle.std.proofs.lemmas.List.{length-map}
use Rattle.pst_base.specs.declared.ids.Bid.{Bid}
use Rattle.pst_base.specs.Flat.{Flat}
use Rattle.pst_base.specs.Subs.{one_deeper}
use Rattle.btree_pages.specs.declared.entry.NodeEntry.{NodeEntry}
use Rattle.data_tree.specs.declared.source.TreeStop.{TreeStop}
use Rattle.data_tree.specs.declared.source.TreeStop.TheVariants.{Deep, Long, Many}
use Rattle.data_tree.specs.Measure.{bytes_in}
use Rattle.data_tree.specs.Tree.{and_then, bids_of, blocks_from, blocks_of, fetched}
use Rattle.data_tree.proofs.BlockSteps.{bytes-sum}
use Rattle.data_tree.proofs.NamedLaws.{then-ok}
use Rattle.subnode_tree.specs.Keys.{Entry}
use Rattle.subnode_tree.specs.Subnodes.{branch_with, level_of, opened, rows, subs_from, subs_of}
use Rattle.file_layout.specs.Nodes.{AreNodes, Node, node_at}
use Rattle.node_needs.specs.Needs.{longest, need_of, need_of_subs, needs}

-- ---- data

pub long-or : {Y : Type 0} (t : Bool) (stop : TreeStop) (r : Result Y TreeStop) (y : Y) → (if t then Err stop else r) ≡ Ok y → (t ≡ false) × (r ≡ Ok y)
long-or true stop r y e = absurd cc
long-or false stop r y e = (refl, e)

pub bytes-next : (b : List ℕ) (bs : List (List ℕ)) → bytes_in (b ∷ bs) ≡ length b + bytes_in bs
bytes-next b bs = let one : 0 + length b ≡ length b = omega arith in bytes-sum (b ∷ []) bs ∙ ap (λ (n : ℕ). n + bytes_in bs) one

from-fits : (find : ℕ → Option (List ℕ)) (eof more before : ℕ) (bids : List Bid) (bs : List (List ℕ)) → blocks_from find eof before bids ≡ Ok bs → before + bytes_in bs ≤ more → blocks_from find more before bids ≡ Ok bs
from-fits find eof more before [] bs e fits = e
from-fits find eof more before (bid ∷ bids) bs e fits =
    let first = then-ok (fetched find bid) (λ b. if ltb eof (before + length b) then Err Long else and_then (blocks_from find eof (before + length b) bids) (λ more. Ok (b ∷ more))) bs e in
    let b = first.0 in
    let within = long-or (ltb eof (before + length b)) Long (and_then (blocks_from find eof (before + length b) bids) (λ more. Ok (b ∷ more))) bs first.2 in
    let next = then-ok (blocks_from find eof (before + length b) bids) (λ more. Ok (b ∷ more)) bs within.1 in
    let whole : b ∷ next.0 ≡ bs = let last = next.2 in cc in
    let sum = sym (bytes-next b next.0) ∙ ap bytes_in whole in
    let low : ltb more (before + length b) ≡ false = le-ltb more (before + length b) (omega (arith, fits, sum)) in
    let rest = from-fits find eof more (before + length b) bids next.0 next.1 (omega (arith, fits, sum)) in
    rw (first.1, low, rest) (ap Ok whole)

pub blocks-fit : (find : ℕ → Option (List ℕ)) (eof more : ℕ) (bid : Bid) (bs : List (List ℕ)) → blocks_of find eof bid ≡ Ok bs → bytes_in bs ≤ more → blocks_of find more bid ≡ Ok bs
unfolding blocks_of
blocks-fit find eof more bid bs e fits =
    let first = then-ok (bids_of find bid) (blocks_from find eof 0) bs e in
    rw (first.1) (from-fits find eof more 0 first.0 bs first.2 (omega (arith, fits)))

-- ---- subnodes

pub longest-append : (xs ys : List Flat) → longest (xs ++ ys) ≡ max (longest xs) (longest ys)
longest-append [] ys = omega arith
longest-append (x ∷ xs) ys = let h = longest-append xs ys in omega (arith, h)

pub longest-deeper : (fs : List Flat) → longest (map one_deeper fs) ≡ longest fs
longest-deeper [] = refl
longest-deeper (f ∷ fs) = ap (λ (n : ℕ). max (bytes_in f.blocks) n) (longest-deeper fs)

-- what is read within these bounds is read so by the other
abbrev Fits : ℕ → ℕ → (ℕ → Entry → Result (List Flat) TreeStop) → (ℕ → Entry → Result (List Flat) TreeStop) → Type 0
Fits eof more row other = (room left : ℕ) (e : Entry) (here : List Flat) → row room e ≡ Ok here → length here ≤ left → longest here ≤ more → other left e ≡ Ok here

rows-fit : (eof more : ℕ) (row other : ℕ → Entry → Result (List Flat) TreeStop) → Fits eof more row other → (room left : ℕ) (es : List Entry) (fs : List Flat) → rows row room es ≡ Ok fs → length fs ≤ left → longest fs ≤ more → rows other left es ≡ Ok fs
rows-fit eof more row other each room left [] fs e few short = e
rows-fit eof more row other each room left (entry ∷ es) fs e few short =
    let first = then-ok (row room entry) (λ here. and_then (rows row (room - length here) es) (λ more. Ok (here ++ more))) fs e in
    let here = first.0 in
    let next = then-ok (rows row (room - length here) es) (λ more. Ok (here ++ more)) fs first.2 in
    let whole : here ++ next.0 ≡ fs = let last = next.2 in cc in
    let count = ap length whole in
    let parts = length-append here next.0 in
    let most = ap longest whole in
    let both = longest-append here next.0 in
    let one = each room left entry here first.1 (omega (arith, few, count, parts)) (omega (arith, short, most, both)) in
    let rest = rows-fit eof more row other each (room - length here) (left - length here) es next.0 next.1 (omega (arith, few, count, parts)) (omega (arith, short, most, both)) in
    rw (one, rest) (ap Ok whole)

branch-fits : (find : ℕ → Option (List ℕ)) (eof more : ℕ) (below other : ℕ → Bid → Result (List Flat) TreeStop)
    → ((room left : ℕ) (bid : Bid) (fs : List Flat) → below room bid ≡ Ok fs → length fs ≤ left → longest fs ≤ more → other left bid ≡ Ok fs) → Fits eof more (branch_with find eof below) (branch_with find more other)
branch-fits find eof more below other each room left e here is few short =
    let some = long-or (eqb room 0) Many (and_then (blocks_of find eof e.content) (λ blocks. and_then (below (room - 1) e.subnodes) (λ inner. Ok (record { level = 0; nid = (e.nid).bits; blocks = blocks } ∷ map one_deeper inner)))) here is in
    let first = then-ok (blocks_of find eof e.content) (λ blocks. and_then (below (room - 1) e.subnodes) (λ inner. Ok (record { level = 0; nid = (e.nid).bits; blocks = blocks } ∷ map one_deeper inner))) here some.1 in
    let blocks = first.0 in
    let next = then-ok (below (room - 1) e.subnodes) (λ inner. Ok (record { level = 0; nid = (e.nid).bits; blocks = blocks } ∷ map one_deeper inner)) here first.2 in
    let whole : record { level = 0; nid = (e.nid).bits; blocks = blocks } ∷ map one_deeper next.0 ≡ here = let last = next.2 in cc in
    let count = ap length whole in
    let size = length-map next.0 one_deeper in
    let most = ap longest whole in
    let same = longest-deeper next.0 in
    let own = blocks-fit find eof more e.content blocks first.1 (omega (arith, short, most)) in
    let rest = each (room - 1) (left - 1) e.subnodes next.0 next.1 (omega (arith, few, count, size)) (omega (arith, short, most, same)) in
    let left_some : eqb left 0 ≡ false = ne_eqb left 0 (λ z. absurd (omega (arith, z, few, count))) in
    rw (left_some, own, rest) (ap Ok whole)

deep-fits : (eof more : ℕ) → Fits eof more (λ left entry. Err Deep) (λ left entry. Err Deep)
deep-fits eof more room left e here is few short = absurd cc

opened-fits : (find : ℕ → Option (List ℕ)) (level : ℕ) (bid : Bid) (next other : List Entry → Result (List Flat) TreeStop) (fs : List Flat)
    → ((es : List Entry) → next es ≡ Ok fs → other es ≡ Ok fs) → opened find level bid next ≡ Ok fs → opened find level bid other ≡ Ok fs
opened-fits find level bid next other fs each e = by (eqb bid.bits 0) (level_of find level bid) e
  where
    by : (t : Bool) (r : Result (List Entry) TreeStop) → (if t then Ok [] else and_then r next) ≡ Ok fs → (if t then Ok [] else and_then r other) ≡ Ok fs
    by true r e = e
    by false (Ok es) e = each es e
    by false (Err stop) e = absurd cc

from-sub-fits : (find : ℕ → Option (List ℕ)) (eof more deeper room left : ℕ) (bid : Bid) (fs : List Flat) → subs_from find eof deeper room bid ≡ Ok fs → length fs ≤ left → longest fs ≤ more → subs_from find more deeper left bid ≡ Ok fs
from-sub-fits find eof more zero room left bid fs e few short =
    opened-fits find 9 bid (rows (λ left entry. Err Deep) room) (rows (λ left entry. Err Deep) left) fs (λ es h. rows-fit eof more (λ left entry. Err Deep) (λ left entry. Err Deep) (deep-fits eof more) room left es fs h few short) e
from-sub-fits find eof more (suc deeper) room left bid fs e few short =
    opened-fits find (8 - deeper) bid (rows (branch_with find eof (subs_from find eof deeper)) room) (rows (branch_with find more (subs_from find more deeper)) left) fs
    (λ es h. rows-fit eof more (branch_with find eof (subs_from find eof deeper)) (branch_with find more (subs_from find more deeper))
    (branch-fits find eof more (subs_from find eof deeper) (subs_from find more deeper) (λ room left bid fs h few short. from-sub-fits find eof more deeper room left bid fs h few short)) room left es fs h few short) e

pub subs-fit : (find : ℕ → Option (List ℕ)) (eof more : ℕ) (bid : Bid) (fs : List Flat) → subs_of find eof bid ≡ Ok fs → need_of_subs fs ≤ more → subs_of find more bid ≡ Ok fs
unfolding subs_of
subs-fit find eof more bid fs e fits = from-sub-fits find eof more 8 (eof / 24) (more / 24) bid fs e (omega (arith, fits)) (omega (arith, fits))

-- ---- nodes

pub node-fits : (find : ℕ → Option (List ℕ)) (eof more : ℕ) (e : NodeEntry) (n : Node) → node_at find eof e ≡ Ok n → need_of n ≤ more → node_at find more e ≡ Ok n
unfolding node_at
node-fits find eof more e n is fits =
    let first = then-ok (blocks_of find eof e.content) (λ blocks. and_then (subs_of find eof e.subnodes) (λ subs. Ok (record { nid = (e.nid).bits; parent = (e.parent).bits; blocks = blocks; subs = subs }))) n is in
    let next = then-ok (subs_of find eof e.subnodes) (λ subs. Ok (record { nid = (e.nid).bits; parent = (e.parent).bits; blocks = first.0; subs = subs })) n first.2 in
    let whole : record { nid = (e.nid).bits; parent = (e.parent).bits; blocks = first.0; subs = next.0 } ≡ n = let last = next.2 in cc in
    let need = ap need_of whole in
    let own = blocks-fit find eof more e.content first.0 first.1 (omega (arith, fits, need)) in
    let subs = subs-fit find eof more e.subnodes next.0 next.1 (omega (arith, fits, need)) in
    rw (own, subs) (ap Ok whole)

pub nodes-fit : (find : ℕ → Option (List ℕ)) (eof more : ℕ) (es : List NodeEntry) (ns : List Node) → AreNodes find eof es ns → needs ns ≤ more → AreNodes find more es ns
nodes-fit find eof more [] ns are fits = are
nodes-fit find eof more (e ∷ es) ns are fits =
    let need = ap needs are.2 in
    (are.0, are.1, are.2, node-fits find eof more e are.0 are.3 (omega (arith, fits, need)), nodes-fit find eof more es are.1 are.4 (omega (arith, fits, need)))
