-- A node reads the same where only the blocks that it reaches are found.
use Rattle.std.proofs.Common.{Bool, true, false, ◌≡◌, ◌∙◌, ℕ, zero, suc, ◌+◌, ◌-◌, ◌/◌, eqb, ltb, List, [], ◌∷◌, ◌++◌, length, map, Option, Some, None, Result, Ok, Err, refl, sym, ap, subst, if◌then◌else◌}
use Rattle.std.proofs.lemmas.List.{map-append}
use Rattle.pst_base.specs.declared.ids.Bid.{Bid}
use Rattle.pst_base.specs.Flat.{Flat}
use Rattle.pst_base.specs.Ids.{key_of}
use Rattle.pst_base.specs.Subs.{one_deeper}
use Rattle.btree_pages.specs.declared.entry.NodeEntry.{NodeEntry}
use Rattle.data_tree.specs.declared.source.TreeStop.{TreeStop}
use Rattle.data_tree.specs.declared.source.TreeStop.TheVariants.{Form, Long, Deep, Many}
use Rattle.data_tree.specs.Tree.{and_then, named, fetched, is_internal, is_listing, names_of, leaves, below, all_below, listed, bids_of, blocks_from, blocks_of, are_data}
use Rattle.subnode_tree.specs.Subnodes.{is_leaf, is_inner, entries_of, listed_ascend, listed_of, ordered, part_in, part_of, parts_of, level_in, level_of, rows, branch_with, subs_from, subs_of}
use Rattle.file_layout.specs.Nodes.{node_at}
use Rattle.lays_kept.specs.Grown.{restricted, NeedsOnly}
use Rattle.data_tree.specs.Keys.{keys_of, named_in, under, led_from, data_keys}
use Rattle.subnode_tree.specs.Keys.{Entry, listed_in, ok_entries, each_keys, sub_keys_from, sub_keys}
use Rattle.node_reach.specs.Reach.{node_keys, AgreeOn}
use Rattle.node_layout.specs.Lookups.{AllIn}

all-front : (find g : ℕ → Option (List ℕ)) (xs ys : List ℕ) → AgreeOn find g (xs ++ ys) → AgreeOn find g xs
all-front find g [] ys all = tt
all-front find g (x ∷ xs) ys all = (all.0, all-front find g xs ys all.1)

all-back : (find g : ℕ → Option (List ℕ)) (xs ys : List ℕ) → AgreeOn find g (xs ++ ys) → AgreeOn find g ys
all-back find g [] ys all = all
all-back find g (x ∷ xs) ys all = all-back find g xs ys all.1

all-join : (find g : ℕ → Option (List ℕ)) (xs ys : List ℕ) → AgreeOn find g xs → AgreeOn find g ys → AgreeOn find g (xs ++ ys)
all-join find g [] ys a b = b
all-join find g (x ∷ xs) ys a b = (a.0, all-join find g xs ys a.1 b)

then-same : {X Y : Type 0} (r : Result X TreeStop) (f g : X → Result Y TreeStop) → ((x : X) → r ≡ Ok x → f x ≡ g x) → and_then r f ≡ and_then r g
then-same (Ok x) f g same = same x refl
then-same (Err stop) f g same = refl

module _ (find g : ℕ → Option (List ℕ)) where
  fetched-same : (bid : Bid) → g (key_of bid.bits) ≡ find (key_of bid.bits) → fetched g bid ≡ fetched find bid
  fetched-same bid is = ap (named bid) is

  below-same : (parent bid : Bid) → g (key_of bid.bits) ≡ find (key_of bid.bits) → below g parent bid ≡ below find parent bid
  unfolding below
  below-same parent bid is = ap (λ (r : Result (List ℕ) TreeStop). if is_internal bid then and_then r (λ b. if is_listing 1 b then leaves bid b else Err (Form parent)) else Err (Form parent)) (fetched-same bid is)

  all_below-same : (parent : Bid) (bids : List Bid) → AgreeOn find g (under find bids) → all_below g parent bids ≡ all_below find parent bids
  all_below-same parent [] all = refl
  all_below-same parent (bid ∷ bids) all =
      let rest = all_below-same parent bids (all-back find g (named_in (find (key_of bid.bits))) (under find bids) all.1) in
      ap (λ (r : Result (List Bid) TreeStop). and_then r (λ here. and_then (all_below g parent bids) (λ more. Ok (here ++ more)))) (below-same parent bid all.0)
      ∙ ap (λ (r : Result (List Bid) TreeStop). and_then (below find parent bid) (λ here. and_then r (λ more. Ok (here ++ more)))) rest

  listed-same : (bid : Bid) (b : List ℕ) → AgreeOn find g (led_from find (Some b)) → listed g bid b ≡ listed find bid b
  unfolding listed
  listed-same bid b all = by (is_listing 1 b) (is_listing 2 b) all
    where
      by : (one two : Bool) → AgreeOn find g (if one then keys_of (names_of b) else (if two then under find (names_of b) else []))
          → (if one then leaves bid b else (if two then all_below g bid (names_of b) else Err (Form bid))) ≡ (if one then leaves bid b else (if two then all_below find bid (names_of b) else Err (Form bid)))
      by true two all = refl
      by false false all = refl
      by false true all = all_below-same bid (names_of b) all

  bids-same : (bid : Bid) → AgreeOn find g (data_keys find bid) → bids_of g bid ≡ bids_of find bid
  unfolding bids_of data_keys
  bids-same bid all = by (eqb bid.bits 0) (is_internal bid) all
    where
      inside : (o : Option (List ℕ)) → find (key_of bid.bits) ≡ o → g (key_of bid.bits) ≡ find (key_of bid.bits) → AgreeOn find g (led_from find o) → and_then (fetched g bid) (listed g bid) ≡ and_then (fetched find bid) (listed find bid)
      inside o is key all =
          ap (λ (r : Result (List ℕ) TreeStop). and_then r (listed g bid)) (fetched-same bid key)
          ∙ ap (λ (p : Option (List ℕ)). and_then (named bid p) (listed g bid)) is ∙ at o all
          ∙ sym (ap (λ (p : Option (List ℕ)). and_then (named bid p) (listed find bid)) is)
        where
          at : (o : Option (List ℕ)) → AgreeOn find g (led_from find o) → and_then (named bid o) (listed g bid) ≡ and_then (named bid o) (listed find bid)
          at None all = refl
          at (Some b) all = listed-same bid b all

      by : (none internal : Bool) → AgreeOn find g (if none then [] else key_of bid.bits ∷ (if internal then led_from find (find (key_of bid.bits)) else []))
          → (if none then Ok [] else (if internal then and_then (fetched g bid) (listed g bid) else Ok (bid ∷ []))) ≡ (if none then Ok [] else (if internal then and_then (fetched find bid) (listed find bid) else Ok (bid ∷ [])))
      by true internal all = refl
      by false false all = refl
      by false true all = inside (find (key_of bid.bits)) refl all.0 all.1

  -- ---- the ids that are listed are among the keys

  leaves-in : (bid : Bid) (b : List ℕ) (bids : List Bid) → AgreeOn find g (keys_of (names_of b)) → leaves bid b ≡ Ok bids → AgreeOn find g (keys_of bids)
  unfolding leaves
  leaves-in bid b bids all e = by (are_data (names_of b)) e
    where
      by : (plain : Bool) → (if plain then Ok (names_of b) else Err (Form bid)) ≡ Ok bids → AgreeOn find g (keys_of bids)
      by false e = absurd (cc)
      by true e = let same : names_of b ≡ bids = cc in subst (λ (l : List Bid). AgreeOn find g (keys_of l)) same all

  below-in : (parent bid : Bid) (bids : List Bid) → AgreeOn find g (named_in (find (key_of bid.bits))) → below find parent bid ≡ Ok bids → AgreeOn find g (keys_of bids)
  unfolding below
  below-in parent bid bids all e = by (is_internal bid) (find (key_of bid.bits)) all e
    where
      at : (b : List ℕ) (l : Bool) → AgreeOn find g (keys_of (names_of b)) → (if l then leaves bid b else Err (Form parent)) ≡ Ok bids → AgreeOn find g (keys_of bids)
      at b true all e = leaves-in bid b bids all e
      at b false all e = absurd (cc)

      by : (internal : Bool) (o : Option (List ℕ)) → AgreeOn find g (named_in o)
          → (if internal then and_then (named bid o) (λ b. if is_listing 1 b then leaves bid b else Err (Form parent)) else Err (Form parent)) ≡ Ok bids → AgreeOn find g (keys_of bids)
      by false o all e = absurd (cc)
      by true None all e = absurd (cc)
      by true (Some b) all e = at b (is_listing 1 b) all e

  all_below-in : (parent : Bid) (names bids : List Bid) → AgreeOn find g (under find names) → all_below find parent names ≡ Ok bids → AgreeOn find g (keys_of bids)
  all_below-in parent [] bids all e = let same : ◌≡◌ {A = List Bid} [] bids = cc in subst (λ (l : List Bid). AgreeOn find g (keys_of l)) same tt
  all_below-in parent (bid ∷ names) bids all e =
      by (below find parent bid) (all_below find parent names) (λ (here : List Bid). below-in parent bid here (all-front find g (named_in (find (key_of bid.bits))) (under find names) all.1))
      (λ (more : List Bid). all_below-in parent names more (all-back find g (named_in (find (key_of bid.bits))) (under find names) all.1)) e
    where
      by : (r s : Result (List Bid) TreeStop) → ((here : List Bid) → r ≡ Ok here → AgreeOn find g (keys_of here)) → ((more : List Bid) → s ≡ Ok more → AgreeOn find g (keys_of more))
          → and_then r (λ here. and_then s (λ more. Ok (here ++ more))) ≡ Ok bids → AgreeOn find g (keys_of bids)
      by (Err stop) s one two e = absurd (cc)
      by (Ok here) (Err stop) one two e = absurd (cc)
      by (Ok here) (Ok more) one two e =
          let same : here ++ more ≡ bids = cc in
          subst (λ (l : List Bid). AgreeOn find g (keys_of l)) same (subst (AgreeOn find g) (sym (map-append (λ (bid : Bid). key_of bid.bits) here more)) (all-join find g (keys_of here) (keys_of more) (one here refl) (two more refl)))

  bids-in : (bid : Bid) (bids : List Bid) → AgreeOn find g (data_keys find bid) → bids_of find bid ≡ Ok bids → AgreeOn find g (keys_of bids)
  unfolding bids_of data_keys listed
  bids-in bid bids all e = by (eqb bid.bits 0) (is_internal bid) (find (key_of bid.bits)) all e
    where
      at : (b : List ℕ) (one two : Bool) → AgreeOn find g (if one then keys_of (names_of b) else (if two then under find (names_of b) else []))
          → (if one then leaves bid b else (if two then all_below find bid (names_of b) else Err (Form bid))) ≡ Ok bids → AgreeOn find g (keys_of bids)
      at b true two all e = leaves-in bid b bids all e
      at b false true all e = all_below-in bid (names_of b) bids all e
      at b false false all e = absurd (cc)

      by : (none internal : Bool) (o : Option (List ℕ)) → AgreeOn find g (if none then [] else key_of bid.bits ∷ (if internal then led_from find o else []))
          → (if none then Ok [] else (if internal then and_then (named bid o) (listed find bid) else Ok (bid ∷ []))) ≡ Ok bids → AgreeOn find g (keys_of bids)
      by true internal o all e = let same : ◌≡◌ {A = List Bid} [] bids = cc in subst (λ (l : List Bid). AgreeOn find g (keys_of l)) same tt
      by false false o all e = let same : bid ∷ [] ≡ bids = cc in subst (λ (l : List Bid). AgreeOn find g (keys_of l)) same (all.0, tt)
      by false true None all e = absurd (cc)
      by false true (Some b) all e = at b (is_listing 1 b) (is_listing 2 b) all.1 e

  from-same : (eof before : ℕ) (bids : List Bid) → AgreeOn find g (keys_of bids) → blocks_from g eof before bids ≡ blocks_from find eof before bids
  from-same eof before [] all = refl
  from-same eof before (bid ∷ bids) all =
      ap (λ (r : Result (List ℕ) TreeStop). and_then r (λ b. if ltb eof (before + length b) then Err Long else and_then (blocks_from g eof (before + length b) bids) (λ more. Ok (b ∷ more)))) (fetched-same bid all.0)
      ∙ then-same (fetched find bid) _ _ (λ b is. ap (λ (r : Result (List (List ℕ)) TreeStop). if ltb eof (before + length b) then Err Long else and_then r (λ more. Ok (b ∷ more))) (from-same eof (before + length b) bids all.1))

  -- data reads the same
  pub blocks-same : (eof : ℕ) (bid : Bid) → AgreeOn find g (data_keys find bid) → blocks_of g eof bid ≡ blocks_of find eof bid
  unfolding blocks_of
  blocks-same eof bid all =
      ap (λ (r : Result (List Bid) TreeStop). and_then r (blocks_from g eof 0)) (bids-same bid all)
      ∙ then-same (bids_of find bid) (blocks_from g eof 0) (blocks_from find eof 0) (λ bids is. from-same eof 0 bids (bids-in bid bids all is))

  -- ---- subnodes

  list_rec : {A : Type 0} (P : List A → Type 0) → P [] → ((x : A) (xs : List A) → P xs → P (x ∷ xs)) → (xs : List A) → P xs
  list_rec P none more [] = none
  list_rec P none more (x ∷ xs) = more x xs (list_rec P none more xs)

  parts-same : (level : ℕ) (b : List ℕ) → AgreeOn find g (map (λ l. key_of (l.block).bits) (listed_of b)) → parts_of g level (listed_of b) ≡ parts_of find level (listed_of b)
  parts-same level b all = list_rec (λ ls. parts_of find level ls ≡ parts_of find level ls → AgreeOn find g (map (λ l. key_of (l.block).bits) ls) → parts_of g level ls ≡ parts_of find level ls)
      (λ is none. refl)
      (λ l ls rest is all.
      ap (λ (r : Result (List ℕ) TreeStop). and_then (and_then r (part_in level l)) (λ here. and_then (parts_of g level ls) (λ rest. Ok (here ++ rest)))) (fetched-same l.block all.0)
      ∙ ap (λ (r : Result (List Entry) TreeStop). and_then (part_of find level l) (λ here. and_then r (λ rest. Ok (here ++ rest)))) (rest refl all.1))
      (listed_of b) refl all

  level_in-same : (level : ℕ) (bid : Bid) (b : List ℕ) → AgreeOn find g (listed_in (Some b)) → level_in g level bid b ≡ level_in find level bid b
  unfolding level_in
  level_in-same level bid b all = by (is_leaf b) (is_inner b) (listed_ascend (listed_of b)) all
    where
      by : (one two up : Bool) → AgreeOn find g (if one then [] else (if two then map (λ l. key_of (l.block).bits) (listed_of b) else []))
          → (if one then ordered bid (entries_of level b) else (if two then (if up then and_then (parts_of g level (listed_of b)) (ordered bid) else Err (Form bid)) else Err (Form bid)))
          ≡ (if one then ordered bid (entries_of level b) else (if two then (if up then and_then (parts_of find level (listed_of b)) (ordered bid) else Err (Form bid)) else Err (Form bid)))
      by true two up all = refl
      by false true true all = ap (λ (r : Result (List Entry) TreeStop). and_then r (ordered bid)) (parts-same level b all)
      by false true false all = refl
      by false false up all = refl

  level-same : (level : ℕ) (bid : Bid) → g (key_of bid.bits) ≡ find (key_of bid.bits) → AgreeOn find g (listed_in (find (key_of bid.bits))) → level_of g level bid ≡ level_of find level bid
  level-same level bid key all =
      ap (λ (r : Result (List ℕ) TreeStop). and_then r (level_in g level bid)) (fetched-same bid key) ∙ at (find (key_of bid.bits)) all
    where
      at : (o : Option (List ℕ)) → AgreeOn find g (listed_in o) → and_then (named bid o) (level_in g level bid) ≡ and_then (named bid o) (level_in find level bid)
      at None all = refl
      at (Some b) all = level_in-same level bid b all

  rows-same : {Y : Type 0} (f h : ℕ → Entry → Result (List Y) TreeStop) (keys : Entry → List ℕ) → ((room : ℕ) (entry : Entry) → AgreeOn find g (keys entry) → f room entry ≡ h room entry)
      → (room : ℕ) (entries : List Entry) → AgreeOn find g (each_keys keys entries) → rows f room entries ≡ rows h room entries
  rows-same f h keys step room [] all = refl
  rows-same {Y} f h keys step room (entry ∷ entries) all =
      ap (λ (r : Result (List Y) TreeStop). and_then r (λ here. and_then (rows f (room - length here) entries) (λ more. Ok (here ++ more)))) (step room entry (all-front find g (keys entry) (each_keys keys entries) all))
      ∙ then-same (h room entry) _ _ (λ here is. ap (λ (r : Result (List Y) TreeStop). and_then r (λ more. Ok (here ++ more))) (rows-same f h keys step (room - length here) entries (all-back find g (keys entry) (each_keys keys entries) all)))

  subs_from-same : (eof deeper room : ℕ) (bid : Bid) → AgreeOn find g (sub_keys_from find deeper bid) → subs_from g eof deeper room bid ≡ subs_from find eof deeper room bid
  subs_from-same eof zero room bid all = by (eqb bid.bits 0) all
    where
      by : (none : Bool) → AgreeOn find g (if none then [] else key_of bid.bits ∷ listed_in (find (key_of bid.bits)))
          → ◌≡◌ {A = Result (List Flat) TreeStop} (if none then Ok [] else and_then (level_of g 9 bid) (rows {Y = Flat} (λ left entry. Err Deep) room)) (if none then Ok [] else and_then (level_of find 9 bid) (rows {Y = Flat} (λ left entry. Err Deep) room))
      by true all = refl
      by false all = ap (λ (r : Result (List Entry) TreeStop). and_then r (rows {Y = Flat} (λ left entry. Err Deep) room)) (level-same 9 bid all.0 all.1)
  subs_from-same eof (suc deeper) room bid all = by (subs_from-same eof deeper) (eqb bid.bits 0) all
    where
      keys : Entry → List ℕ
      keys entry = data_keys find entry.content ++ sub_keys_from find deeper entry.subnodes

      F : ℕ → Entry → Result (List Flat) TreeStop
      F = branch_with g eof (subs_from g eof deeper)

      H : ℕ → Entry → Result (List Flat) TreeStop
      H = branch_with find eof (subs_from find eof deeper)

      branch : ((room : ℕ) (bid : Bid) → AgreeOn find g (sub_keys_from find deeper bid) → subs_from g eof deeper room bid ≡ subs_from find eof deeper room bid)
          → (room : ℕ) (entry : Entry) → AgreeOn find g (keys entry) → F room entry ≡ H room entry
      branch rec room entry all =
          ap (λ (r : Result (List (List ℕ)) TreeStop). if eqb room 0 then Err Many else and_then r (λ blocks. and_then (subs_from g eof deeper (room - 1) entry.subnodes) (λ inner. Ok (record { level = 0; nid = (entry.nid).bits; blocks = blocks } ∷ map one_deeper inner))))
          (blocks-same eof entry.content (all-front find g (data_keys find entry.content) (sub_keys_from find deeper entry.subnodes) all))
          ∙ ap (λ (r : Result (List Flat) TreeStop). if eqb room 0 then Err Many else and_then (blocks_of find eof entry.content) (λ blocks. and_then r (λ inner. Ok (record { level = 0; nid = (entry.nid).bits; blocks = blocks } ∷ map one_deeper inner))))
          (rec (room - 1) entry.subnodes (all-back find g (data_keys find entry.content) (sub_keys_from find deeper entry.subnodes) all))

      at : ((room : ℕ) (bid : Bid) → AgreeOn find g (sub_keys_from find deeper bid) → subs_from g eof deeper room bid ≡ subs_from find eof deeper room bid)
          → (r : Result (List Entry) TreeStop) → AgreeOn find g (each_keys keys (ok_entries r)) → and_then r (rows F room) ≡ and_then r (rows H room)
      at rec (Err stop) all = refl
      at rec (Ok entries) all = rows-same F H keys (branch rec) room entries all

      by : ((room : ℕ) (bid : Bid) → AgreeOn find g (sub_keys_from find deeper bid) → subs_from g eof deeper room bid ≡ subs_from find eof deeper room bid)
          → (none : Bool) → AgreeOn find g (if none then [] else key_of bid.bits ∷ (listed_in (find (key_of bid.bits)) ++ each_keys keys (ok_entries (level_of find (8 - deeper) bid))))
          → (if none then Ok [] else and_then (level_of g (8 - deeper) bid) (rows F room)) ≡ (if none then Ok [] else and_then (level_of find (8 - deeper) bid) (rows H room))
      by rec true all = refl
      by rec false all =
          ap (λ (r : Result (List Entry) TreeStop). and_then r (rows F room)) (level-same (8 - deeper) bid all.0 (all-front find g (listed_in (find (key_of bid.bits))) (each_keys keys (ok_entries (level_of find (8 - deeper) bid))) all.1))
          ∙ at rec (level_of find (8 - deeper) bid) (all-back find g (listed_in (find (key_of bid.bits))) (each_keys keys (ok_entries (level_of find (8 - deeper) bid))) all.1)

  pub subs-same : (eof : ℕ) (bid : Bid) → AgreeOn find g (sub_keys_from find 8 bid) → subs_of g eof bid ≡ subs_of find eof bid
  unfolding subs_of
  subs-same eof bid all = subs_from-same eof 8 (eof / 24) bid all

  -- ---- a node

  node-same : (eof : ℕ) (e : NodeEntry) → AgreeOn find g (node_keys find e) → node_at g eof e ≡ node_at find eof e
  unfolding node_at node_keys sub_keys
  node-same eof e all =
      ap (λ (r : Result (List (List ℕ)) TreeStop). and_then r (λ blocks. and_then (subs_of g eof e.subnodes) (λ subs. Ok (record { nid = (e.nid).bits; parent = (e.parent).bits; blocks = blocks; subs = subs }))))
      (blocks-same eof e.content (all-front find g (data_keys find e.content) (sub_keys_from find 8 e.subnodes) all))
      ∙ ap (λ (r : Result (List Flat) TreeStop). and_then (blocks_of find eof e.content) (λ blocks. and_then r (λ subs. Ok (record { nid = (e.nid).bits; parent = (e.parent).bits; blocks = blocks; subs = subs }))))
      (subs-same eof e.subnodes (all-back find g (data_keys find e.content) (sub_keys_from find 8 e.subnodes) all))

  -- ---- what is reached

  under-same : (bids : List Bid) → AgreeOn find g (under find bids) → under g bids ≡ under find bids
  under-same [] all = refl
  under-same (bid ∷ bids) all =
      ap (λ (o : Option (List ℕ)). key_of bid.bits ∷ (named_in o ++ under g bids)) all.0
      ∙ ap (λ (l : List ℕ). key_of bid.bits ∷ (named_in (find (key_of bid.bits)) ++ l)) (under-same bids (all-back find g (named_in (find (key_of bid.bits))) (under find bids) all.1))

  led-same : (o : Option (List ℕ)) → AgreeOn find g (led_from find o) → led_from g o ≡ led_from find o
  led-same None all = refl
  led-same (Some b) all = by (is_listing 1 b) (is_listing 2 b) all
    where
      by : (one two : Bool) → AgreeOn find g (if one then keys_of (names_of b) else (if two then under find (names_of b) else []))
          → (if one then keys_of (names_of b) else (if two then under g (names_of b) else [])) ≡ (if one then keys_of (names_of b) else (if two then under find (names_of b) else []))
      by true two all = refl
      by false true all = under-same (names_of b) all
      by false false all = refl

  data-keys-same : (bid : Bid) → AgreeOn find g (data_keys find bid) → data_keys g bid ≡ data_keys find bid
  unfolding data_keys
  data-keys-same bid all = by (eqb bid.bits 0) (is_internal bid) all
    where
      by : (none internal : Bool) → AgreeOn find g (if none then [] else key_of bid.bits ∷ (if internal then led_from find (find (key_of bid.bits)) else []))
          → (if none then [] else key_of bid.bits ∷ (if internal then led_from g (g (key_of bid.bits)) else [])) ≡ (if none then [] else key_of bid.bits ∷ (if internal then led_from find (find (key_of bid.bits)) else []))
      by true internal all = refl
      by false false all = refl
      by false true all = ap (λ (o : Option (List ℕ)). key_of bid.bits ∷ led_from g o) all.0 ∙ ap (λ (l : List ℕ). key_of bid.bits ∷ l) (led-same (find (key_of bid.bits)) all.1)

  each-keys-same : (f h : Entry → List ℕ) → ((entry : Entry) → AgreeOn find g (h entry) → f entry ≡ h entry) → (entries : List Entry) → AgreeOn find g (each_keys h entries) → each_keys f entries ≡ each_keys h entries
  each-keys-same f h step [] all = refl
  each-keys-same f h step (entry ∷ entries) all =
      ap (λ (l : List ℕ). l ++ each_keys f entries) (step entry (all-front find g (h entry) (each_keys h entries) all))
      ∙ ap (λ (l : List ℕ). h entry ++ l) (each-keys-same f h step entries (all-back find g (h entry) (each_keys h entries) all))

  sub-keys-same : (deeper : ℕ) (bid : Bid) → AgreeOn find g (sub_keys_from find deeper bid) → sub_keys_from g deeper bid ≡ sub_keys_from find deeper bid
  sub-keys-same zero bid all = by (eqb bid.bits 0) all
    where
      by : (none : Bool) → AgreeOn find g (if none then [] else key_of bid.bits ∷ listed_in (find (key_of bid.bits)))
          → (if none then [] else key_of bid.bits ∷ listed_in (g (key_of bid.bits))) ≡ (if none then [] else key_of bid.bits ∷ listed_in (find (key_of bid.bits)))
      by true all = refl
      by false all = ap (λ (o : Option (List ℕ)). key_of bid.bits ∷ listed_in o) all.0
  sub-keys-same (suc deeper) bid all = by (sub-keys-same deeper) (eqb bid.bits 0) all
    where
      F : Entry → List ℕ
      F entry = data_keys g entry.content ++ sub_keys_from g deeper entry.subnodes

      H : Entry → List ℕ
      H entry = data_keys find entry.content ++ sub_keys_from find deeper entry.subnodes

      by : ((bid : Bid) → AgreeOn find g (sub_keys_from find deeper bid) → sub_keys_from g deeper bid ≡ sub_keys_from find deeper bid)
          → (none : Bool) → AgreeOn find g (if none then [] else key_of bid.bits ∷ (listed_in (find (key_of bid.bits)) ++ each_keys H (ok_entries (level_of find (8 - deeper) bid))))
          → (if none then [] else key_of bid.bits ∷ (listed_in (g (key_of bid.bits)) ++ each_keys F (ok_entries (level_of g (8 - deeper) bid))))
          ≡ (if none then [] else key_of bid.bits ∷ (listed_in (find (key_of bid.bits)) ++ each_keys H (ok_entries (level_of find (8 - deeper) bid))))
      by rec true all = refl
      by rec false all =
          let front = all-front find g (listed_in (find (key_of bid.bits))) (each_keys H (ok_entries (level_of find (8 - deeper) bid))) all.1 in
          let back = all-back find g (listed_in (find (key_of bid.bits))) (each_keys H (ok_entries (level_of find (8 - deeper) bid))) all.1 in
          ap (λ (o : Option (List ℕ)). key_of bid.bits ∷ (listed_in o ++ each_keys F (ok_entries (level_of g (8 - deeper) bid)))) all.0
          ∙ ap (λ (r : Result (List Entry) TreeStop). key_of bid.bits ∷ (listed_in (find (key_of bid.bits)) ++ each_keys F (ok_entries r))) (level-same (8 - deeper) bid all.0 front)
          ∙ ap (λ (l : List ℕ). key_of bid.bits ∷ (listed_in (find (key_of bid.bits)) ++ l))
          (each-keys-same F H (λ entry a.
          ap (λ (l : List ℕ). l ++ sub_keys_from g deeper entry.subnodes) (data-keys-same entry.content (all-front find g (data_keys find entry.content) (sub_keys_from find deeper entry.subnodes) a))
          ∙ ap (λ (l : List ℕ). data_keys find entry.content ++ l) (rec entry.subnodes (all-back find g (data_keys find entry.content) (sub_keys_from find deeper entry.subnodes) a)))
          (ok_entries (level_of find (8 - deeper) bid)) back)

  -- a node reaches the same blocks where the finders agree on them
  pub keys-same : (e : NodeEntry) → AgreeOn find g (node_keys find e) → node_keys g e ≡ node_keys find e
  unfolding node_keys sub_keys
  keys-same e all =
      ap (λ (l : List ℕ). l ++ sub_keys_from g 8 e.subnodes) (data-keys-same e.content (all-front find g (data_keys find e.content) (sub_keys_from find 8 e.subnodes) all))
      ∙ ap (λ (l : List ℕ). data_keys find e.content ++ l) (sub-keys-same 8 e.subnodes (all-back find g (data_keys find e.content) (sub_keys_from find 8 e.subnodes) all))

agree-some : (find : ℕ → Option (List ℕ)) (some : ℕ → Bool) (keys : List ℕ) → AllIn some keys → AgreeOn find (restricted some find) keys
agree-some find some [] all = tt
agree-some find some (k ∷ ks) all = (ap (λ (b : Bool). if b then find k else None) all.0, agree-some find some ks all.1)

-- a node needs only the blocks that it reaches
pub needs-reached : (find : ℕ → Option (List ℕ)) (some : ℕ → Bool) (eof : ℕ) (e : NodeEntry) → AllIn some (node_keys find e) → NeedsOnly find eof e some
needs-reached find some eof e all n is = node-same find (restricted some find) eof e (agree-some find some (node_keys find e) all) ∙ is
