-- All that a node reaches is found, where it is read.
use Rattle.std.proofs.Common.{Bool, true, false, ◌≡◌, ◌∙◌, ℕ, zero, suc, ◌+◌, ◌-◌, ◌/◌, eqb, ltb, List, [], ◌∷◌, ◌++◌, length, map, Option, Some, None, Result, Ok, Err, refl, sym, ap, subst, if◌then◌else◌}
use Rattle.std.proofs.lemmas.List.{map-append}
use Rattle.pst_base.specs.declared.ids.Bid.{Bid}
use Rattle.pst_base.specs.Flat.{Flat}
use Rattle.pst_base.specs.Ids.{key_of}
use Rattle.pst_base.specs.Subs.{one_deeper}
use Rattle.btree_pages.specs.declared.entry.NodeEntry.{NodeEntry}
use Rattle.data_tree.specs.declared.source.TreeStop.{TreeStop}
use Rattle.data_tree.specs.declared.source.TreeStop.TheVariants.{Form, Long, Deep, Many}
use Rattle.data_tree.specs.Tree.{and_then, named, fetched, is_internal, is_listing, names_of, leaves, below, all_below, listed, bids_of, blocks_from, blocks_of, are_data}
use Rattle.subnode_tree.specs.Subnodes.{is_leaf, is_inner, entries_of, listed_ascend, listed_of, ordered, part_in, part_of, parts_of, level_in, level_of, rows, branch_with, subs_from, subs_of}
use Rattle.file_layout.specs.Nodes.{Node, node_at}
use Rattle.data_tree.specs.Keys.{keys_of, named_in, under, led_from, data_keys}
use Rattle.subnode_tree.specs.Keys.{Entry, listed_in, ok_entries, each_keys, sub_keys_from, sub_keys}
use Rattle.node_reach.specs.Reach.{node_keys, AgreeOn, AllFound}
use Rattle.node_layout.specs.Lookups.{AllIn}

found-front : (find : ℕ → Option (List ℕ)) (xs ys : List ℕ) → AllFound find (xs ++ ys) → AllFound find xs
found-front find [] ys all = tt
found-front find (x ∷ xs) ys all = (all.0, found-front find xs ys all.1)

found-back : (find : ℕ → Option (List ℕ)) (xs ys : List ℕ) → AllFound find (xs ++ ys) → AllFound find ys
found-back find [] ys all = all
found-back find (x ∷ xs) ys all = found-back find xs ys all.1

found-join : (find : ℕ → Option (List ℕ)) (xs ys : List ℕ) → AllFound find xs → AllFound find ys → AllFound find (xs ++ ys)
found-join find [] ys a b = b
found-join find (x ∷ xs) ys a b = (a.0, found-join find xs ys a.1 b)

-- what a reading after another read first
record Both {X Y : Type 0} (r : Result X TreeStop) (f : X → Result Y TreeStop) (y : Y) : Type 0 where
  x : X
  first : r ≡ Ok x
  later : f x ≡ Ok y

then-parts : {X Y : Type 0} (r : Result X TreeStop) (f : X → Result Y TreeStop) (y : Y) → and_then r f ≡ Ok y → Both r f y
then-parts (Ok x) f y e = record { x = x; first = refl; later = e }
then-parts (Err stop) f y e = absurd (cc)

list_rec : {A : Type 0} (P : List A → Type 0) → P [] → ((x : A) (xs : List A) → P xs → P (x ∷ xs)) → (xs : List A) → P xs
list_rec P none more [] = none
list_rec P none more (x ∷ xs) = more x xs (list_rec P none more xs)

module _ (find : ℕ → Option (List ℕ)) where
  fetched-found : (bid : Bid) (b : List ℕ) → fetched find bid ≡ Ok b → find (key_of bid.bits) ≡ Some b
  fetched-found bid b e = by (find (key_of bid.bits)) e
    where
      by : (o : Option (List ℕ)) → named bid o ≡ Ok b → o ≡ Some b
      by None e = absurd (cc)
      by (Some c) e = ap Some (cc)

  from-found : (eof before : ℕ) (bids : List Bid) (bs : List (List ℕ)) → blocks_from find eof before bids ≡ Ok bs → AllFound find (keys_of bids)
  from-found eof before [] bs e = tt
  from-found eof before (bid ∷ bids) bs e =
      let p = then-parts (fetched find bid) (λ b. if ltb eof (before + length b) then Err Long else and_then (blocks_from find eof (before + length b) bids) (λ more. Ok (b ∷ more))) bs e in
      ((p.x, fetched-found bid p.x p.first), by p.x (from-found eof (before + length p.x) bids) (ltb eof (before + length p.x)) p.later)
    where
      by : (b : List ℕ) → ((more : List (List ℕ)) → blocks_from find eof (before + length b) bids ≡ Ok more → AllFound find (keys_of bids)) → (long : Bool)
          → (if long then Err Long else and_then (blocks_from find eof (before + length b) bids) (λ more. Ok (b ∷ more))) ≡ Ok bs → AllFound find (keys_of bids)
      by b rec true e = absurd (cc)
      by b rec false e = let q = then-parts (blocks_from find eof (before + length b) bids) (λ more. Ok (b ∷ more)) bs e in rec q.x q.first

  leaves-are : (bid : Bid) (b : List ℕ) (bids : List Bid) → leaves bid b ≡ Ok bids → names_of b ≡ bids
  unfolding leaves
  leaves-are bid b bids e = by (are_data (names_of b)) e
    where
      by : (plain : Bool) → (if plain then Ok (names_of b) else Err (Form bid)) ≡ Ok bids → names_of b ≡ bids
      by false e = absurd (cc)
      by true e = cc

  below-found : (parent bid : Bid) (bids : List Bid) → below find parent bid ≡ Ok bids → AllFound find (keys_of bids) → AllFound find (key_of bid.bits ∷ named_in (find (key_of bid.bits)))
  unfolding below
  below-found parent bid bids e all = by (is_internal bid) e
    where
      at : (b : List ℕ) (l : Bool) → (if l then leaves bid b else Err (Form parent)) ≡ Ok bids → AllFound find (keys_of (names_of b))
      at b true e = subst (λ (l : List Bid). AllFound find (keys_of l)) (sym (leaves-are bid b bids e)) all
      at b false e = absurd (cc)

      by : (internal : Bool) → (if internal then and_then (fetched find bid) (λ b. if is_listing 1 b then leaves bid b else Err (Form parent)) else Err (Form parent)) ≡ Ok bids → AllFound find (key_of bid.bits ∷ named_in (find (key_of bid.bits)))
      by false e = absurd (cc)
      by true e =
          let p = then-parts (fetched find bid) (λ b. if is_listing 1 b then leaves bid b else Err (Form parent)) bids e in
          let is : find (key_of bid.bits) ≡ Some p.x = fetched-found bid p.x p.first in
          ((p.x, is), subst (λ (o : Option (List ℕ)). AllFound find (named_in o)) (sym is) (at p.x (is_listing 1 p.x) p.later))

  under-found : (parent : Bid) (names bids : List Bid) → all_below find parent names ≡ Ok bids → AllFound find (keys_of bids) → AllFound find (under find names)
  under-found parent [] bids e all = tt
  under-found parent (bid ∷ names) bids e all =
      let p = then-parts (below find parent bid) (λ here. and_then (all_below find parent names) (λ more. Ok (here ++ more))) bids e in
      let q = then-parts (all_below find parent names) (λ more. Ok (p.x ++ more)) bids p.later in
      let same : p.x ++ q.x ≡ bids = ok-is (p.x ++ q.x) bids q.later in
      let parts : AllFound find (keys_of p.x ++ keys_of q.x) = subst (AllFound find) (map-append (λ (bid : Bid). key_of bid.bits) p.x q.x) (subst (λ (l : List Bid). AllFound find (keys_of l)) (sym same) all) in
      let here = below-found parent bid p.x p.first (found-front find (keys_of p.x) (keys_of q.x) parts) in
      (here.0, found-join find (named_in (find (key_of bid.bits))) (under find names) here.1 (under-found parent names q.x q.first (found-back find (keys_of p.x) (keys_of q.x) parts)))
    where
      ok-is : (a b : List Bid) → ◌≡◌ {A = Result (List Bid) TreeStop} (Ok a) (Ok b) → a ≡ b
      ok-is a b e = cc

  data-found : (eof : ℕ) (bid : Bid) (bs : List (List ℕ)) → blocks_of find eof bid ≡ Ok bs → AllFound find (data_keys find bid)
  unfolding blocks_of bids_of data_keys listed
  data-found eof bid bs e =
      let p = then-parts (bids_of find bid) (blocks_from find eof 0) bs e in
      by (eqb bid.bits 0) (is_internal bid) p.x p.first (from-found eof 0 p.x bs p.later)
    where
      at : (b : List ℕ) (bids : List Bid) (one two : Bool) → (if one then leaves bid b else (if two then all_below find bid (names_of b) else Err (Form bid))) ≡ Ok bids → AllFound find (keys_of bids)
          → AllFound find (if one then keys_of (names_of b) else (if two then under find (names_of b) else []))
      at b bids true two e all = subst (λ (l : List Bid). AllFound find (keys_of l)) (sym (leaves-are bid b bids e)) all
      at b bids false true e all = under-found bid (names_of b) bids e all
      at b bids false false e all = absurd (cc)

      by : (none internal : Bool) (bids : List Bid) → (if none then Ok [] else (if internal then and_then (fetched find bid) (listed find bid) else Ok (bid ∷ []))) ≡ Ok bids → AllFound find (keys_of bids)
          → AllFound find (if none then [] else key_of bid.bits ∷ (if internal then led_from find (find (key_of bid.bits)) else []))
      by true internal bids e all = tt
      by false false bids e all = let same : bid ∷ [] ≡ bids = cc in (subst (λ (l : List Bid). AllFound find (keys_of l)) (sym same) all)
      by false true bids e all =
          let q = then-parts (fetched find bid) (listed find bid) bids e in
          let is : find (key_of bid.bits) ≡ Some q.x = fetched-found bid q.x q.first in
          ((q.x, is), subst (λ (o : Option (List ℕ)). AllFound find (led_from find o)) (sym is) (at q.x bids (is_listing 1 q.x) (is_listing 2 q.x) q.later all))

  -- ---- subnodes

  parts-found : (level : ℕ) (b : List ℕ) (entries : List Entry) → parts_of find level (listed_of b) ≡ Ok entries → AllFound find (map (λ l. key_of (l.block).bits) (listed_of b))
  parts-found level b entries e = list_rec (λ ls. (es : List Entry) → parts_of find level ls ≡ Ok es → AllFound find (map (λ l. key_of (l.block).bits) ls))
      (λ es is. tt)
      (λ l ls rest es is.
      let p = then-parts (part_of find level l) (λ here. and_then (parts_of find level ls) (λ rest. Ok (here ++ rest))) es is in
      let q = then-parts (fetched find l.block) (part_in level l) p.x p.first in
      let r = then-parts (parts_of find level ls) (λ rest. Ok (p.x ++ rest)) es p.later in
      ((q.x, fetched-found l.block q.x q.first), rest r.x r.first))
      (listed_of b) entries e

  level-found : (level : ℕ) (bid : Bid) (entries : List Entry) → level_of find level bid ≡ Ok entries → AllFound find (key_of bid.bits ∷ listed_in (find (key_of bid.bits)))
  unfolding level_in
  level-found level bid entries e =
      let p = then-parts (fetched find bid) (level_in find level bid) entries e in
      let is : find (key_of bid.bits) ≡ Some p.x = fetched-found bid p.x p.first in
      ((p.x, is), subst (λ (o : Option (List ℕ)). AllFound find (listed_in o)) (sym is) (by p.x (is_leaf p.x) (is_inner p.x) (listed_ascend (listed_of p.x)) p.later))
    where
      by : (b : List ℕ) (one two up : Bool) → (if one then ordered bid (entries_of level b) else (if two then (if up then and_then (parts_of find level (listed_of b)) (ordered bid) else Err (Form bid)) else Err (Form bid))) ≡ Ok entries
          → AllFound find (if one then [] else (if two then map (λ l. key_of (l.block).bits) (listed_of b) else []))
      by b true two up e = tt
      by b false true true e = let q = then-parts (parts_of find level (listed_of b)) (ordered bid) entries e in parts-found level b q.x q.first
      by b false true false e = absurd (cc)
      by b false false up e = tt

  rows-found : {Y : Type 0} (f : ℕ → Entry → Result (List Y) TreeStop) (keys : Entry → List ℕ) → ((room : ℕ) (entry : Entry) (ys : List Y) → f room entry ≡ Ok ys → AllFound find (keys entry))
      → (room : ℕ) (entries : List Entry) (ys : List Y) → rows f room entries ≡ Ok ys → AllFound find (each_keys keys entries)
  rows-found f keys step room [] ys e = tt
  rows-found f keys step room (entry ∷ entries) ys e =
      let p = then-parts (f room entry) (λ here. and_then (rows f (room - length here) entries) (λ more. Ok (here ++ more))) ys e in
      let q = then-parts (rows f (room - length p.x) entries) (λ more. Ok (p.x ++ more)) ys p.later in
      found-join find (keys entry) (each_keys keys entries) (step room entry p.x p.first) (rows-found f keys step (room - length p.x) entries q.x q.first)

  subs-found : (eof deeper room : ℕ) (bid : Bid) (flats : List Flat) → subs_from find eof deeper room bid ≡ Ok flats → AllFound find (sub_keys_from find deeper bid)
  subs-found eof zero room bid flats e = by (eqb bid.bits 0) e
    where
      by : (none : Bool) → ◌≡◌ {A = Result (List Flat) TreeStop} (if none then Ok [] else and_then (level_of find 9 bid) (rows {Y = Flat} (λ left entry. Err Deep) room)) (Ok flats) → AllFound find (if none then [] else key_of bid.bits ∷ listed_in (find (key_of bid.bits)))
      by true e = tt
      by false e = let p = then-parts (level_of find 9 bid) (rows {Y = Flat} (λ left entry. Err Deep) room) flats e in level-found 9 bid p.x p.first
  subs-found eof (suc deeper) room bid flats e = by (subs-found eof deeper) (eqb bid.bits 0) e
    where
      keys : Entry → List ℕ
      keys entry = data_keys find entry.content ++ sub_keys_from find deeper entry.subnodes

      branch : ((room : ℕ) (bid : Bid) (flats : List Flat) → subs_from find eof deeper room bid ≡ Ok flats → AllFound find (sub_keys_from find deeper bid))
          → (room : ℕ) (entry : Entry) (ys : List Flat) → branch_with find eof (subs_from find eof deeper) room entry ≡ Ok ys → AllFound find (keys entry)
      branch rec room entry ys e = at (eqb room 0) e
        where
          at : (none : Bool) → (if none then Err Many else and_then (blocks_of find eof entry.content) (λ blocks. and_then (subs_from find eof deeper (room - 1) entry.subnodes) (λ inner. Ok (record { level = 0; nid = (entry.nid).bits; blocks = blocks } ∷ map one_deeper inner)))) ≡ Ok ys
              → AllFound find (data_keys find entry.content ++ sub_keys_from find deeper entry.subnodes)
          at true e = absurd (cc)
          at false e =
              let p = then-parts (blocks_of find eof entry.content) (λ blocks. and_then (subs_from find eof deeper (room - 1) entry.subnodes) (λ inner. Ok (record { level = 0; nid = (entry.nid).bits; blocks = blocks } ∷ map one_deeper inner))) ys e in
              let q = then-parts (subs_from find eof deeper (room - 1) entry.subnodes) (λ inner. Ok (record { level = 0; nid = (entry.nid).bits; blocks = p.x } ∷ map one_deeper inner)) ys p.later in
              found-join find (data_keys find entry.content) (sub_keys_from find deeper entry.subnodes) (data-found eof entry.content p.x p.first) (rec (room - 1) entry.subnodes q.x q.first)

      by : ((room : ℕ) (bid : Bid) (flats : List Flat) → subs_from find eof deeper room bid ≡ Ok flats → AllFound find (sub_keys_from find deeper bid))
          → (none : Bool) → (if none then Ok [] else and_then (level_of find (8 - deeper) bid) (rows (branch_with find eof (subs_from find eof deeper)) room)) ≡ Ok flats
          → AllFound find (if none then [] else key_of bid.bits ∷ (listed_in (find (key_of bid.bits)) ++ each_keys keys (ok_entries (level_of find (8 - deeper) bid))))
      by rec true e = tt
      by rec false e =
          let p = then-parts (level_of find (8 - deeper) bid) (rows (branch_with find eof (subs_from find eof deeper)) room) flats e in
          let here = level-found (8 - deeper) bid p.x p.first in
          let entries : AllFound find (each_keys keys (ok_entries (level_of find (8 - deeper) bid))) = subst (λ (r : Result (List Entry) TreeStop). AllFound find (each_keys keys (ok_entries r))) (sym p.first)
          (rows-found (branch_with find eof (subs_from find eof deeper)) keys (branch rec) room p.x flats p.later) in
          (here.0, found-join find (listed_in (find (key_of bid.bits))) (each_keys keys (ok_entries (level_of find (8 - deeper) bid))) here.1 entries)

  -- all that a node reaches is found, where the node is read
  pub node-found : (eof : ℕ) (e : NodeEntry) (n : Node) → node_at find eof e ≡ Ok n → AllFound find (node_keys find e)
  unfolding node_at node_keys subs_of sub_keys
  node-found eof e n is =
      let p = then-parts (blocks_of find eof e.content) (λ blocks. and_then (subs_of find eof e.subnodes) (λ subs. Ok (record { nid = (e.nid).bits; parent = (e.parent).bits; blocks = blocks; subs = subs }))) n is in
      let q = then-parts (subs_of find eof e.subnodes) (λ subs. Ok (record { nid = (e.nid).bits; parent = (e.parent).bits; blocks = p.x; subs = subs })) n p.later in
      found-join find (data_keys find e.content) (sub_keys_from find 8 e.subnodes) (data-found eof e.content p.x p.first) (subs-found eof 8 (eof / 24) e.subnodes q.x q.first)

-- finders agree on what one finds, where the other finds that too
pub still-agree : (find after : ℕ → Option (List ℕ)) (some : ℕ → Bool) → ((key : ℕ) (b : List ℕ) → some key ≡ true → find key ≡ Some b → after key ≡ Some b)
    → (keys : List ℕ) → AllIn some keys → AllFound find keys → AgreeOn find after keys
still-agree find after some still [] all found = tt
still-agree find after some still (k ∷ ks) all found = (still k found.0.0 all.0 found.0.1 ∙ sym found.0.1, still-agree find after some still ks all.1 found.1)
