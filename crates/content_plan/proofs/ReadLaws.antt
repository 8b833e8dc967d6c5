-- What is read of a node that is there.
use Rattle.std.proofs.Common.{Bool, true, false, ◌≡◌, ◌∙◌, ℕ, zero, suc, ◌-◌, ◌/◌, eqb, if◌then◌else◌, List, [], ◌∷◌, ◌++◌, length, map, Option, Some, Result, Ok, Err, refl, sym, ap, subst, arith, length-append}
use Rattle.std.proofs.lemmas.List.{length-map}
use Rattle.pst_base.specs.declared.ids.Bid.{Bid}
use Rattle.pst_base.specs.Flat.{Flat}
use Rattle.pst_base.specs.Subs.{one_deeper}
use Rattle.btree_pages.specs.declared.entry.NodeEntry.{NodeEntry}
use Rattle.data_tree.specs.declared.source.TreeStop.{TreeStop}
use Rattle.data_tree.specs.declared.source.TreeStop.TheVariants.{Deep, Many}
use Rattle.data_tree.specs.Keys.{data_keys}
use Rattle.data_tree.specs.Tree.{and_then, bids_of, blocks_from, blocks_of}
use Rattle.data_tree.proofs.NamedLaws.{bids-name, then-ok}
use Rattle.file_layout.specs.Nodes.{Node, node_at}
use Rattle.lays_kept.specs.Renewed.{EachLeads}
use Rattle.node_layout.specs.Joined.{node_id}
use Rattle.node_reach.specs.Reach.{node_keys}
use Rattle.subnode_tree.specs.Bids.{bids_each, entry_bids, sub_bids_of}
use Rattle.subnode_tree.specs.Keys.{Entry, sub_keys}
use Rattle.subnode_tree.specs.Subnodes.{branch, branch_with, level_of, rows, subs_from, subs_of, tree_from, tree_of}
use Rattle.subnode_tree.proofs.NamedLaws.{sub-bids-name}
use Rattle.subnode_tree.proofs.PairLaws.{Keep}
use Rattle.tree_edit.specs.Edits.{entry_with}
use Rattle.content_plan.proofs.OrderLaws.{read-ascend}
use Rattle.content_plan.specs.Told.{Content, IsOld, content_at, content_read, keys_read, or_none}

-- ---- subnodes that are read have ids

-- a walk over entries that gives as many as there are subnodes, whose ids are read
record Walk (find : ℕ → Option (List ℕ)) (walked : Result (List Entry) TreeStop) (flats : List Flat) : Type 0 where
  es : List Entry
  is : walked ≡ Ok es
  count : length es ≡ length flats
  keep : Keep
  ids : bids_each find es ≡ Ok keep

walk-none : (find : ℕ → Option (List ℕ)) (flats : List Flat) → [] ≡ flats → Walk find (Ok []) flats
walk-none find flats none = record { es = []; is = refl; count = ap length none; keep = []; ids = refl }

ids-join : (find : ℕ → Option (List ℕ)) (xs ys : List Entry) (k m : Keep) → bids_each find xs ≡ Ok k → bids_each find ys ≡ Ok m → bids_each find (xs ++ ys) ≡ Ok (k ++ m)
ids-join find [] ys k m a b = let none : [] ≡ k = cc in b ∙ ap (λ (l : Keep). Ok (l ++ m)) none
ids-join find (x ∷ xs) ys k m a b =
    let here = then-ok (entry_bids find x) (λ here. and_then (bids_each find xs) (λ more. Ok (here ∷ more))) k a in
    let next = then-ok (bids_each find xs) (λ more. Ok (here.0 ∷ more)) k here.2 in
    let last : here.0 ∷ next.0 ≡ k = let e = next.2 in cc in
    let rest = ids-join find xs ys next.0 m next.1 b in
    ap (λ (r : Result (List (Option Bid)) TreeStop). and_then r (λ here. and_then (bids_each find (xs ++ ys)) (λ more. Ok (here ∷ more)))) here.1
    ∙ ap (λ (r : Result Keep TreeStop). and_then r (λ more. Ok (here.0 ∷ more))) rest
    ∙ ap (λ (l : Keep). Ok (l ++ m)) last

ids-read : (find : ℕ → Option (List ℕ)) (eof : ℕ) (bid : Bid) (blocks : List (List ℕ)) → blocks_of find eof bid ≡ Ok blocks → (ids : List Bid) × (bids_of find bid ≡ Ok ids)
unfolding blocks_of
ids-read find eof bid blocks e = let p = then-ok (bids_of find bid) (blocks_from find eof 0) blocks e in (p.0, p.1)

-- a subnode and all below it
branch-walk : (find : ℕ → Option (List ℕ)) (eof deeper : ℕ) → ((room : ℕ) (bid : Bid) (flats : List Flat) → subs_from find eof deeper room bid ≡ Ok flats → Walk find (tree_from find deeper room bid) flats)
    → (room : ℕ) (entry : Entry) (here : List Flat) → branch_with find eof (subs_from find eof deeper) room entry ≡ Ok here → Walk find (branch (tree_from find deeper) room entry) here
branch-walk find eof deeper rec room entry here e = by (eqb room 0) e
  where
    flat_of : List (List ℕ) → List Flat → List Flat
    flat_of blocks inner = record { level = 0; nid = (entry.nid).bits; blocks = blocks } ∷ map one_deeper inner

    by : (none : Bool) → (if none then Err Many else and_then (blocks_of find eof entry.content) (λ blocks. and_then (subs_from find eof deeper (room - 1) entry.subnodes) (λ inner. Ok (record { level = 0; nid = (entry.nid).bits; blocks = blocks } ∷ map one_deeper inner)))) ≡ Ok here
        → Walk find (if none then Err Many else and_then (tree_from find deeper (room - 1) entry.subnodes) (λ inner. Ok (entry ∷ inner))) here
    by true e = absurd (cc)
    by false e =
        let data_read = then-ok (blocks_of find eof entry.content) (λ blocks. and_then (subs_from find eof deeper (room - 1) entry.subnodes) (λ inner. Ok (record { level = 0; nid = (entry.nid).bits; blocks = blocks } ∷ map one_deeper inner))) here e in
        let below = then-ok (subs_from find eof deeper (room - 1) entry.subnodes) (λ inner. Ok (record { level = 0; nid = (entry.nid).bits; blocks = data_read.0 } ∷ map one_deeper inner)) here data_read.2 in
        let whole : record { level = 0; nid = (entry.nid).bits; blocks = data_read.0 } ∷ map one_deeper below.0 ≡ here = let last = below.2 in cc in
        let walk = rec (room - 1) entry.subnodes below.0 below.1 in
        let ids = ids-read find eof entry.content data_read.0 data_read.1 in
        let size = ap length whole in
        let deep = length-map below.0 one_deeper in
        let count = walk.count in
        record {
          es = entry ∷ walk.es;
          is = ap (λ (r : Result (List Entry) TreeStop). and_then r (λ inner. Ok (entry ∷ inner))) walk.is;
          count = omega (arith, size, deep, count);
          keep = map Some ids.0 ∷ walk.keep;
          ids = ap (λ (r : Result (List Bid) TreeStop). and_then (and_then r (λ bids. Ok (map Some bids))) (λ here. and_then (bids_each find walk.es) (λ more. Ok (here ∷ more)))) ids.1
              ∙ ap (λ (r : Result Keep TreeStop). and_then r (λ more. Ok (map Some ids.0 ∷ more))) walk.ids;
        }

rows-walk : (find : ℕ → Option (List ℕ)) (eof deeper : ℕ) → ((room : ℕ) (bid : Bid) (flats : List Flat) → subs_from find eof deeper room bid ≡ Ok flats → Walk find (tree_from find deeper room bid) flats)
    → (room : ℕ) (entries : List Entry) (flats : List Flat) → rows (branch_with find eof (subs_from find eof deeper)) room entries ≡ Ok flats → Walk find (rows (branch (tree_from find deeper)) room entries) flats
rows-walk find eof deeper rec room [] flats e = walk-none find flats (cc)
rows-walk find eof deeper rec room (entry ∷ entries) flats e =
    let f = branch_with find eof (subs_from find eof deeper) in
    let g = branch (tree_from find deeper) in
    let first = then-ok (f room entry) (λ here. and_then (rows f (room - length here) entries) (λ more. Ok (here ++ more))) flats e in
    let next = then-ok (rows f (room - length first.0) entries) (λ more. Ok (first.0 ++ more)) flats first.2 in
    let whole : first.0 ++ next.0 ≡ flats = let last = next.2 in cc in
    let one = branch-walk find eof deeper rec room entry first.0 first.1 in
    let rest = rows-walk find eof deeper rec (room - length first.0) entries next.0 next.1 in
    let same : rows g (room - length one.es) entries ≡ Ok rest.es = ap (λ (n : ℕ). rows g (room - n) entries) one.count ∙ rest.is in
    let a = one.count in
    let b = rest.count in
    let c = length-append one.es rest.es in
    let d = length-append first.0 next.0 in
    let s = ap length whole in
    record {
      es = one.es ++ rest.es;
      is = ap (λ (r : Result (List Entry) TreeStop). and_then r (λ here. and_then (rows g (room - length here) entries) (λ more. Ok (here ++ more)))) one.is
          ∙ ap (λ (r : Result (List Entry) TreeStop). and_then r (λ more. Ok (one.es ++ more))) same;
      count = omega (arith, a, b, c, d, s);
      keep = one.keep ++ rest.keep;
      ids = ids-join find one.es rest.es one.keep rest.keep one.ids rest.ids;
    }

zero-walk : (find : ℕ → Option (List ℕ)) (room : ℕ) (entries : List Entry) (flats : List Flat) → rows {Y = Flat} (λ left entry. Err Deep) room entries ≡ Ok flats → Walk find (rows {Y = Entry} (λ left entry. Err Deep) room entries) flats
zero-walk find room [] flats e = walk-none find flats (cc)
zero-walk find room (entry ∷ entries) flats e = absurd (cc)

subs-walk : (find : ℕ → Option (List ℕ)) (eof deeper room : ℕ) (bid : Bid) (flats : List Flat) → subs_from find eof deeper room bid ≡ Ok flats → Walk find (tree_from find deeper room bid) flats
subs-walk find eof zero room bid flats e = by (eqb bid.bits 0) e
  where
    by : (none : Bool) → ◌≡◌ {A = Result (List Flat) TreeStop} (if none then Ok [] else and_then (level_of find 9 bid) (rows {Y = Flat} (λ left entry. Err Deep) room)) (Ok flats)
        → Walk find (if none then Ok [] else and_then (level_of find 9 bid) (rows {Y = Entry} (λ left entry. Err Deep) room)) flats
    by true e = walk-none find flats (cc)
    by false e =
        let p = then-ok (level_of find 9 bid) (rows {Y = Flat} (λ left entry. Err Deep) room) flats e in
        subst (λ (r : Result (List Entry) TreeStop). Walk find (and_then r (rows {Y = Entry} (λ left entry. Err Deep) room)) flats) (sym p.1) (zero-walk find room p.0 flats p.2)
subs-walk find eof (suc deeper) room bid flats e = by (subs-walk find eof deeper) (eqb bid.bits 0) e
  where
    by : ((room : ℕ) (bid : Bid) (flats : List Flat) → subs_from find eof deeper room bid ≡ Ok flats → Walk find (tree_from find deeper room bid) flats)
        → (none : Bool) → (if none then Ok [] else and_then (level_of find (8 - deeper) bid) (rows (branch_with find eof (subs_from find eof deeper)) room)) ≡ Ok flats
        → Walk find (if none then Ok [] else and_then (level_of find (8 - deeper) bid) (rows (branch (tree_from find deeper)) room)) flats
    by rec true e = walk-none find flats (cc)
    by rec false e =
        let p = then-ok (level_of find (8 - deeper) bid) (rows (branch_with find eof (subs_from find eof deeper)) room) flats e in
        subst (λ (r : Result (List Entry) TreeStop). Walk find (and_then r (rows (branch (tree_from find deeper)) room)) flats) (sym p.1) (rows-walk find eof deeper rec room p.0 flats p.2)

sub-ids-read : (find : ℕ → Option (List ℕ)) (eof : ℕ) (bid : Bid) (flats : List Flat) → subs_of find eof bid ≡ Ok flats → (keep : Keep) × (sub_bids_of find eof bid ≡ Ok keep)
unfolding subs_of sub_bids_of tree_of
sub-ids-read find eof bid flats e =
    let walk = subs-walk find eof 8 (eof / 24) bid flats e in
    (walk.keep, ap (λ (r : Result (List Entry) TreeStop). and_then r (bids_each find)) walk.is ∙ walk.ids)

-- ---- a node that is there has no fault

-- what a node is read from
record NodeRead (find : ℕ → Option (List ℕ)) (eof : ℕ) (e : NodeEntry) : Type 0 where
  ids : List Bid
  blocks : List (List ℕ)
  sub_ids : Keep
  subs : List Flat
  ids_are : bids_of find e.content ≡ Ok ids
  blocks_are : blocks_of find eof e.content ≡ Ok blocks
  sub_ids_are : sub_bids_of find eof e.subnodes ≡ Ok sub_ids
  subs_are : subs_of find eof e.subnodes ≡ Ok subs

node-read : (find : ℕ → Option (List ℕ)) (eof : ℕ) (e : NodeEntry) (n : Node) → node_at find eof e ≡ Ok n → NodeRead find eof e
unfolding node_at
node-read find eof e n is =
    let one = then-ok (blocks_of find eof e.content) (λ blocks. and_then (subs_of find eof e.subnodes) (λ subs. Ok (record { nid = (e.nid).bits; parent = (e.parent).bits; blocks = blocks; subs = subs }))) n is in
    let two = then-ok (subs_of find eof e.subnodes) (λ subs. Ok (record { nid = (e.nid).bits; parent = (e.parent).bits; blocks = one.0; subs = subs })) n one.2 in
    let ids = ids-read find eof e.content one.0 one.1 in
    let sub_ids = sub-ids-read find eof e.subnodes two.0 two.1 in
    record { ids = ids.0; blocks = one.0; sub_ids = sub_ids.0; subs = two.0; ids_are = ids.1; blocks_are = one.1; sub_ids_are = sub_ids.1; subs_are = two.1 }

pub keys-no-fault : (find : ℕ → Option (List ℕ)) (eof : ℕ) (e : NodeEntry) (n : Node) (fault : TreeStop) → node_at find eof e ≡ Ok n → keys_read find eof e ≡ Err fault → ⊥
unfolding keys_read
keys-no-fault find eof e n fault is bad =
    let r = node-read find eof e n is in
    let good : keys_read find eof e ≡ Ok (data_keys find e.content ++ sub_keys find e.subnodes) = rw (r.ids_are, r.sub_ids_are) refl in
    let both : ◌≡◌ {A = Result (List ℕ) TreeStop} (Ok (data_keys find e.content ++ sub_keys find e.subnodes)) (Err fault) = sym good ∙ bad in
    cc

pub content-no-fault : (find : ℕ → Option (List ℕ)) (eof : ℕ) (e : NodeEntry) (n : Node) (fault : TreeStop) → node_at find eof e ≡ Ok n → content_read find eof e ≡ Err fault → ⊥
unfolding content_read
content-no-fault find eof e n fault is bad =
    let r = node-read find eof e n is in
    let c : Content = record { ids = map Some r.ids; blocks = r.blocks; sub_ids = r.sub_ids; subs = r.subs } in
    let good : content_read find eof e ≡ Ok c = rw (r.ids_are, r.blocks_are, r.sub_ids_are, r.subs_are) refl in
    let both : ◌≡◌ {A = Result Content TreeStop} (Ok c) (Err fault) = sym good ∙ bad in
    cc

-- ---- what was read

pub keys-are : (find : ℕ → Option (List ℕ)) (eof : ℕ) (e : NodeEntry) (keys : List ℕ) → keys_read find eof e ≡ Ok keys → keys ≡ node_keys find e
unfolding keys_read node_keys
keys-are find eof e keys is = by (bids_of find e.content) (sub_bids_of find eof e.subnodes) is
  where
    by : (a : Result (List Bid) TreeStop) (b : Result Keep TreeStop)
        → and_then (and_then a (λ bids. Ok (data_keys find e.content))) (λ content. and_then (and_then b (λ all. Ok (sub_keys find e.subnodes))) (λ subs. Ok (content ++ subs))) ≡ Ok keys → keys ≡ data_keys find e.content ++ sub_keys find e.subnodes
    by (Ok a) (Ok b) is = cc
    by (Ok a) (Err stop) is = absurd (cc)
    by (Err stop) b is = absurd (cc)

pub content-old : (find : ℕ → Option (List ℕ)) (eof : ℕ) (e : NodeEntry) (c : Content) → content_read find eof e ≡ Ok c → IsOld find c
unfolding content_read
content-old find eof e c is =
    let one = then-ok (bids_of find e.content) (λ ids. and_then (blocks_of find eof e.content) (λ blocks. and_then (sub_bids_of find eof e.subnodes) (λ sub_ids. and_then (subs_of find eof e.subnodes) (λ subs. Ok (record { ids = map Some ids; blocks = blocks; sub_ids = sub_ids; subs = subs }))))) c is in
    let two = then-ok (blocks_of find eof e.content) (λ blocks. and_then (sub_bids_of find eof e.subnodes) (λ sub_ids. and_then (subs_of find eof e.subnodes) (λ subs. Ok (record { ids = map Some one.0; blocks = blocks; sub_ids = sub_ids; subs = subs })))) c one.2 in
    let three = then-ok (sub_bids_of find eof e.subnodes) (λ sub_ids. and_then (subs_of find eof e.subnodes) (λ subs. Ok (record { ids = map Some one.0; blocks = two.0; sub_ids = sub_ids; subs = subs }))) c two.2 in
    let four = then-ok (subs_of find eof e.subnodes) (λ subs. Ok (record { ids = map Some one.0; blocks = two.0; sub_ids = three.0; subs = subs })) c three.2 in
    let made : Content = record { ids = map Some one.0; blocks = two.0; sub_ids = three.0; subs = four.0 } in
    let same : made ≡ c = let last = four.2 in cc in
    subst (λ (x : Content). IsOld find x) same (record { data_found = (bids-name find eof e.content one.0 two.0 one.1 two.1).0; subs_found = (sub-bids-name find eof e.subnodes three.0 four.0 three.1 four.1).0; subs_rise = read-ascend find eof e.subnodes four.0 four.1 })

-- the entry of a node leads to it
pub led-entry : (find : ℕ → Option (List ℕ)) (eof k : ℕ) (es : List NodeEntry) (e : NodeEntry) → EachLeads find eof es → entry_with node_id k es ≡ Some e → (n : Node) × (node_at find eof e ≡ Ok n)
led-entry find eof k [] e lead is = absurd (cc)
led-entry find eof k (x ∷ es) e lead is = by (eqb (node_id x) k) (led-entry find eof k es e lead.1) is
  where
    by : (b : Bool) → (entry_with node_id k es ≡ Some e → (n : Node) × (node_at find eof e ≡ Ok n)) → (if b then Some x else entry_with node_id k es) ≡ Some e → (n : Node) × (node_at find eof e ≡ Ok n)
    by true rest is = let same : x ≡ e = cc in (subst (λ (y : NodeEntry). (n : Node) × (node_at find eof y ≡ Ok n)) same lead.0)
    by false rest is = rest is

-- the content of an entry that was read
pub content-exact : (find : ℕ → Option (List ℕ)) (eof : ℕ) (e : NodeEntry) (c : Content) → content_read find eof e ≡ Ok c → c ≡ content_at find eof (Some e)
content-exact find eof e c is = sym (ap or_none is)
