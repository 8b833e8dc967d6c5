-- A node's keys are read, where its data and its subnodes are.
use Rattle.std.proofs.Common.{false, ◌≡◌, ◌∙◌, ℕ, zero, suc, ◌-◌, ◌/◌, eqb, List, [], ◌∷◌, ◌++◌, length, map, Option, Some, Result, Ok, Err, refl, sym, ap, subst, inl, inr, arith}
use Rattle.std.proofs.lemmas.List.{length-append, length-map}
use Rattle.std.proofs.lemmas.Bool.{cases_Bool, cases_eq, ne_eqb}
use Rattle.pst_base.specs.declared.ids.Bid.{Bid}
use Rattle.pst_base.specs.Flat.{Flat}
use Rattle.pst_base.specs.Subs.{one_deeper}
use Rattle.btree_pages.specs.declared.entry.NodeEntry.{NodeEntry}
use Rattle.data_tree.specs.declared.source.TreeStop.{TreeStop}
use Rattle.data_tree.specs.declared.source.TreeStop.TheVariants.{Deep}
use Rattle.data_tree.specs.Tree.{and_then, bids_of, blocks_from, blocks_of}
use Rattle.data_tree.specs.Keys.{data_keys, data_keys_read}
use Rattle.subnode_tree.specs.Bids.{entry_bids, bids_each, sub_bids_of}
use Rattle.subnode_tree.specs.Keys.{Entry, sub_keys}
use Rattle.subnode_tree.specs.KeyReads.{sub_keys_read}
use Rattle.subnode_tree.specs.Subnodes.{level_of, rows, branch, tree_from, tree_of, branch_with, subs_from, subs_of}
use Rattle.node_reach.specs.Reach.{node_keys, node_keys_read}

-- what a reading after another read first
record Both {X Y : Type 0} (r : Result X TreeStop) (f : X → Result Y TreeStop) (y : Y) : Type 0 where
  x : X
  first : r ≡ Ok x
  later : f x ≡ Ok y

then-parts : {X Y : Type 0} (r : Result X TreeStop) (f : X → Result Y TreeStop) (y : Y) → and_then r f ≡ Ok y → Both r f y
then-parts (Ok x) f y e = record { x = x; first = refl; later = e }
then-parts (Err stop) f y e = absurd cc

-- one reading after another that was read
after : {X Y : Type 0} (r : Result X TreeStop) (f : X → Result Y TreeStop) (x : X) → r ≡ Ok x → and_then r f ≡ f x
after r f x is = ap (λ (q : Result _ TreeStop). and_then q f) is

-- the ids of data that is read
pub ids-read : (find : ℕ → Option (List ℕ)) (eof : ℕ) (bid : Bid) (bs : List (List ℕ)) → blocks_of find eof bid ≡ Ok bs → (bids : List Bid) × (bids_of find bid ≡ Ok bids)
unfolding blocks_of
ids-read find eof bid bs e = let p = then-parts (bids_of find bid) (blocks_from find eof 0) bs e in (p.x, p.first)

module _ (find : ℕ → Option (List ℕ)) (eof : ℕ) where
  -- subnodes that are read, so many, without their data
  record Walked (r : Result (List Entry) TreeStop) (count : ℕ) : Type 0 where
    es : List Entry
    is : r ≡ Ok es
    keep : List (List (Option Bid))
    ids : bids_each find es ≡ Ok keep
    many : length es ≡ count

  none-walked : (r : Result (List Entry) TreeStop) (flats : List Flat) → r ≡ Ok [] → flats ≡ [] → Walked r (length flats)
  none-walked r flats is none = record { es = []; is = is; keep = []; ids = refl; many = sym (ap length none) }

  each-append : (xs ys : List Entry) (a b : List (List (Option Bid))) → bids_each find xs ≡ Ok a → bids_each find ys ≡ Ok b → bids_each find (xs ++ ys) ≡ Ok (a ++ b)
  each-append [] ys a b first second = let none : a ≡ [] = cc in subst (λ (l : List (List (Option Bid))). bids_each find ys ≡ Ok (l ++ b)) (sym none) second
  each-append (x ∷ xs) ys a b first second =
      let p = then-parts (entry_bids find x) (λ here. and_then (bids_each find xs) (λ more. Ok (here ∷ more))) a first in
      let q = then-parts (bids_each find xs) (λ more. Ok (p.x ∷ more)) a p.later in
      let rest = each-append xs ys q.x b q.first second in
      let whole : p.x ∷ q.x ≡ a = let last = q.later in cc in
      after (entry_bids find x) (λ here. and_then (bids_each find (xs ++ ys)) (λ more. Ok (here ∷ more))) p.x p.first
      ∙ after (bids_each find (xs ++ ys)) (λ more. Ok (p.x ∷ more)) (q.x ++ b) rest
      ∙ ap (λ (l : List (List (Option Bid))). Ok (l ++ b)) whole

  branch-walked : (deeper : ℕ) → ((room : ℕ) (bid : Bid) (flats : List Flat) → subs_from find eof deeper room bid ≡ Ok flats → Walked (tree_from find deeper room bid) (length flats))
      → (room : ℕ) (entry : Entry) (flats : List Flat) → branch_with find eof (subs_from find eof deeper) room entry ≡ Ok flats → Walked (branch (tree_from find deeper) room entry) (length flats)
  branch-walked deeper rec room entry flats e = elim (cases_Bool (eqb room 0)) [
    | inl none ↦ let stops = rw none at e in absurd cc
    | inr some ↦
        let goes = rw some at e in
        let p = then-parts (blocks_of find eof entry.content) (λ blocks. and_then (subs_from find eof deeper (room - 1) entry.subnodes) (λ inner. Ok (record { level = 0; nid = (entry.nid).bits; blocks = blocks } ∷ map one_deeper inner))) flats goes in
        let q = then-parts (subs_from find eof deeper (room - 1) entry.subnodes) (λ inner. Ok (record { level = 0; nid = (entry.nid).bits; blocks = p.x } ∷ map one_deeper inner)) flats p.later in
        let w = rec (room - 1) entry.subnodes q.x q.first in
        let ids = ids-read find eof entry.content p.x p.first in
        let flats_are : record { level = 0; nid = (entry.nid).bits; blocks = p.x } ∷ map one_deeper q.x ≡ flats = let last = q.later in cc in
        let long : length (map one_deeper q.x) ≡ length q.x = length-map q.x one_deeper in
        let longer : suc (length (map one_deeper q.x)) ≡ length flats = ap length flats_are in
        let count = w.many in
        record {
          es = entry ∷ w.es;
          is = rw some (after (tree_from find deeper (room - 1) entry.subnodes) (λ inner. Ok (entry ∷ inner)) w.es w.is);
          keep = map Some ids.0 ∷ w.keep;
          ids =
              after (entry_bids find entry) (λ here. and_then (bids_each find w.es) (λ more. Ok (here ∷ more))) (map Some ids.0) (after (bids_of find entry.content) (λ bids. Ok (map Some bids)) ids.0 ids.1)
              ∙ after (bids_each find w.es) (λ more. Ok (map Some ids.0 ∷ more)) w.keep w.ids;
          many = ap suc (count ∙ sym long) ∙ longer;
        }
  ]

  rows-walked : (deeper : ℕ) → ((room : ℕ) (bid : Bid) (flats : List Flat) → subs_from find eof deeper room bid ≡ Ok flats → Walked (tree_from find deeper room bid) (length flats))
      → (room : ℕ) (entries : List Entry) (flats : List Flat) → rows (branch_with find eof (subs_from find eof deeper)) room entries ≡ Ok flats → Walked (rows (branch (tree_from find deeper)) room entries) (length flats)
  rows-walked deeper rec room [] flats e = none-walked (Ok []) flats refl cc
  rows-walked deeper rec room (entry ∷ entries) flats e =
      let p = then-parts (branch_with find eof (subs_from find eof deeper) room entry) (λ here. and_then (rows (branch_with find eof (subs_from find eof deeper)) (room - length here) entries) (λ more. Ok (here ++ more))) flats e in
      let q = then-parts (rows (branch_with find eof (subs_from find eof deeper)) (room - length p.x) entries) (λ more. Ok (p.x ++ more)) flats p.later in
      let here = branch-walked deeper rec room entry p.x p.first in
      let rest = rows-walked deeper rec (room - length p.x) entries q.x q.first in
      let flats_are : p.x ++ q.x ≡ flats = let last = q.later in cc in
      let one = here.many in
      let more = rest.many in
      record {
        es = here.es ++ rest.es;
        is =
            after (branch (tree_from find deeper) room entry) (λ xs. and_then (rows (branch (tree_from find deeper)) (room - length xs) entries) (λ ys. Ok (xs ++ ys))) here.es here.is
            ∙ ap (λ (n : ℕ). and_then (rows (branch (tree_from find deeper)) (room - n) entries) (λ ys. Ok (here.es ++ ys))) one
            ∙ after (rows (branch (tree_from find deeper)) (room - length p.x) entries) (λ ys. Ok (here.es ++ ys)) rest.es rest.is;
        keep = here.keep ++ rest.keep;
        ids = each-append here.es rest.es here.keep rest.keep here.ids rest.ids;
        many = length-append here.es rest.es ∙ (let front = length-append p.x q.x in let all = ap length flats_are in omega (arith, one, more, front, all));
      }

  zero-rows : {Y Z : Type 0} (room : ℕ) (entries : List Entry) (ys : List Y) → rows {Y = Y} (λ left entry. Err Deep) room entries ≡ Ok ys → (ys ≡ []) × (rows {Y = Z} (λ left entry. Err Deep) room entries ≡ Ok [])
  zero-rows room [] ys e = (cc, refl)
  zero-rows room (entry ∷ entries) ys e = absurd cc

  tree-walked : (deeper room : ℕ) (bid : Bid) (flats : List Flat) → subs_from find eof deeper room bid ≡ Ok flats → Walked (tree_from find deeper room bid) (length flats)
  tree-walked zero room bid flats e = elim (cases_eq bid.bits 0) [
    | inl none ↦ let goes = rw none at e in none-walked (tree_from find zero room bid) flats (rw none refl) (let given = goes in cc)
    | inr some ↦
        let is_some : eqb bid.bits 0 ≡ false = ne_eqb bid.bits 0 some in
        let goes = rw is_some at e in
        let p = then-parts (level_of find 9 bid) (rows (λ left entry. Err Deep) room) flats goes in
        let r = zero-rows {Z = Entry} room p.x flats p.later in
        none-walked (tree_from find zero room bid) flats (rw is_some (after (level_of find 9 bid) (rows (λ left entry. Err Deep) room) p.x p.first ∙ r.1)) r.0
  ]
  tree-walked (suc deeper) room bid flats e = elim (cases_eq bid.bits 0) [
    | inl none ↦ let goes = rw none at e in none-walked (tree_from find (suc deeper) room bid) flats (rw none refl) (let given = goes in cc)
    | inr some ↦
        let is_some : eqb bid.bits 0 ≡ false = ne_eqb bid.bits 0 some in
        let goes = rw is_some at e in
        let p = then-parts (level_of find (8 - deeper) bid) (rows (branch_with find eof (subs_from find eof deeper)) room) flats goes in
        let w = rows-walked deeper (tree-walked deeper) room p.x flats p.later in
        record { es = w.es; is = rw is_some (after (level_of find (8 - deeper) bid) (rows (branch (tree_from find deeper)) room) p.x p.first ∙ w.is); keep = w.keep; ids = w.ids; many = w.many }
  ]

  -- the ids of subnodes that are read
  pub sub-ids-read : (bid : Bid) (flats : List Flat) → subs_of find eof bid ≡ Ok flats → (keep : List (List (Option Bid))) × (sub_bids_of find eof bid ≡ Ok keep)
  unfolding subs_of sub_bids_of tree_of
  sub-ids-read bid flats e =
      let w = tree-walked 8 (eof / 24) bid flats e in
      (w.keep, after (tree_from find 8 (eof / 24) bid) (bids_each find) w.es w.is ∙ w.ids)

  -- A node's keys are read, where its data and its subnodes are.
  pub keys-read : (e : NodeEntry) (bs : List (List ℕ)) (flats : List Flat) → blocks_of find eof e.content ≡ Ok bs → subs_of find eof e.subnodes ≡ Ok flats → node_keys_read find eof e ≡ Ok (node_keys find e)
  unfolding node_keys
  keys-read e bs flats data_read subs_read =
      let ids = ids-read find eof e.content bs data_read in
      let sub_ids = sub-ids-read e.subnodes flats subs_read in
      after (data_keys_read find e.content) (λ content. and_then (sub_keys_read find eof e.subnodes) (λ subs. Ok (content ++ subs))) (data_keys find e.content)
      (after (bids_of find e.content) (λ bids. Ok (data_keys find e.content)) ids.0 ids.1)
      ∙ after (sub_keys_read find eof e.subnodes) (λ subs. Ok (data_keys find e.content ++ subs)) (sub_keys find e.subnodes)
      (after (sub_bids_of find eof e.subnodes) (λ all. Ok (sub_keys find e.subnodes)) sub_ids.0 sub_ids.1)

  -- The keys that are read are those of the node.
  pub keys-are : (e : NodeEntry) (keys : List ℕ) → node_keys_read find eof e ≡ Ok keys → keys ≡ node_keys find e
  unfolding node_keys
  keys-are e keys is =
      let p = then-parts (data_keys_read find e.content) (λ content. and_then (sub_keys_read find eof e.subnodes) (λ subs. Ok (content ++ subs))) keys is in
      let q = then-parts (sub_keys_read find eof e.subnodes) (λ subs. Ok (p.x ++ subs)) keys p.later in
      let front = then-parts (bids_of find e.content) (λ bids. Ok (data_keys find e.content)) p.x p.first in
      let back = then-parts (sub_bids_of find eof e.subnodes) (λ all. Ok (sub_keys find e.subnodes)) q.x q.first in
      let a : data_keys find e.content ≡ p.x = let last = front.later in cc in
      let b : sub_keys find e.subnodes ≡ q.x = let last = back.later in cc in
      let whole : p.x ++ q.x ≡ keys = let last = q.later in cc in
      sym whole ∙ ap (λ (l : List ℕ). l ++ q.x) (sym a) ∙ ap (λ (l : List ℕ). data_keys find e.content ++ l) (sym b)
