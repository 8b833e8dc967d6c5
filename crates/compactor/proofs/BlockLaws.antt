-- The blocks of a copy have the data that they have in the file, and nodes read the same in both.
use Rattle.std.proofs.Common.{Bool, true, false, not, ◌≡◌, ◌∙◌, inl, inr, ℕ, zero, suc, ◌+◌, ◌≤◌, eqb, if◌then◌else◌, List, [], ◌∷◌, length, take, drop, map, Option, Some, refl, sym, ap, subst, arith}
use Rattle.std.proofs.lemmas.Bool.{cases_eq, eq-eqb, ne_eqb}
use Rattle.pst_base.specs.declared.ids.Bid.{Bid}
use Rattle.pst_base.specs.Ids.{key_of}
use Rattle.block_frame.specs.Size.{disk_size_of}
use Rattle.btree_pages.specs.declared.entry.BlockEntry.{BlockEntry}
use Rattle.btree_pages.specs.declared.entry.NodeEntry.{NodeEntry}
use Rattle.data_tree.specs.Keys.{count_of}
use Rattle.file_blocks.specs.Blocks.{AllStand, data_of, entry_key, entry_with, found_in}
use Rattle.file_layout.specs.Nodes.{AreNodes, Node, place_of}
use Rattle.file_layout.specs.Trees.{IsPlace}
use Rattle.lays_kept.specs.declared.Piece.{Piece}
use Rattle.lays_kept.specs.Kept.{Each}
use Rattle.lays_kept.proofs.Renewed.{node_kept}
use Rattle.node_layout.specs.Lookups.{AllIn}
use Rattle.node_layout.specs.Pieces.{EachStands, piece_place}
use Rattle.node_layout.proofs.ReachLaws.{needs-reached}
use Rattle.node_layout.proofs.SealedLaws.{sealed-data, sealed-stands}
use Rattle.node_needs.specs.Needs.{needs}
use Rattle.node_needs.proofs.FitLaws.{nodes-fit}
use Rattle.node_reach.specs.Reach.{node_keys, uses_of}
use Rattle.tree_edit.specs.Shapes.{RiseIn}
use Rattle.tree_edit.proofs.ShapeLaws.{rise-widen}
use Rattle.copy_pieces.specs.Moved.{AreMoved, reached}
use Rattle.copy_pieces.specs.Writes.{AreCopied}

-- ---- where they stand

pub copied-placed : (file : List ℕ) (olds news : List BlockEntry) (pieces : List Piece) → AreCopied file olds news pieces → map piece_place pieces ≡ map place_of news
copied-placed file [] news pieces are = ap (map piece_place) are.1 ∙ ap (map place_of) (sym are.0)
copied-placed file (o ∷ olds) [] pieces are = absurd are
copied-placed file (o ∷ olds) (n ∷ news) [] are = absurd are
copied-placed file (o ∷ olds) (n ∷ news) (p ∷ pieces) are =
    let is = are.0.sealed in
    let size : length p.bytes ≡ disk_size_of n.cb = is.sealed.0 ∙ ap disk_size_of (sym is.size) in
    let rest = copied-placed file olds news pieces are.1 in
    λ i. record { ib = is.place i; len = size i } ∷ rest i

pub copied-stand : (file copy : List ℕ) (eof : ℕ) (olds news : List BlockEntry) (pieces : List Piece) → AreCopied file olds news pieces → Each (IsPlace eof) (map place_of news) → EachStands copy pieces → AllStand copy eof news
copied-stand file copy eof [] news pieces are places stands = subst (AllStand copy eof) (sym are.0) tt
copied-stand file copy eof (o ∷ olds) [] pieces are places stands = absurd are
copied-stand file copy eof (o ∷ olds) (n ∷ news) [] are places stands = absurd are
copied-stand file copy eof (o ∷ olds) (n ∷ news) (p ∷ pieces) are places stands = (
  sealed-stands copy eof ((o.at).bid, are.0.content) n p are.0.sealed places.0 stands.0,
  copied-stand file copy eof olds news pieces are.1 places.1 stands.1,
)

-- ---- their data

-- each key finds the same among the copied blocks
pub copied-found : (uses : ℕ → ℕ) (file copy : List ℕ) (olds news : List BlockEntry) (pieces : List Piece) → AreMoved uses olds news → AreCopied file olds news pieces → EachStands copy pieces
    → (key : ℕ) → found_in copy news key ≡ found_in file olds key
copied-found uses file copy [] news pieces moved are stands key = ap (λ (l : List BlockEntry). found_in copy l key) moved
copied-found uses file copy (o ∷ olds) [] pieces moved are stands key = absurd are
copied-found uses file copy (o ∷ olds) (n ∷ news) [] moved are stands key = absurd are
copied-found uses file copy (o ∷ olds) (n ∷ news) (p ∷ pieces) moved are stands key =
    ap (λ (b : Bid). data_of copy (if eqb (key_of b.bits) key then Some n else entry_with key news)) moved.0.bid ∙ by (eqb (entry_key o) key) (copied-found uses file copy olds news pieces moved.1 are.1 stands.1 key)
  where
    here : take n.cb (drop n.at.ib copy) ≡ take o.cb (drop o.at.ib file)
    here =
        let is = are.0.sealed in
        ap (λ (k : ℕ). take k (drop n.at.ib copy)) is.size ∙ sealed-data copy ((o.at).bid, are.0.content) n p is stands.0 ∙ are.0.was

    by : (t : Bool) → found_in copy news key ≡ found_in file olds key → data_of copy (if t then Some n else entry_with key news) ≡ data_of file (if t then Some o else entry_with key olds)
    by true rest = ap Some here
    by false rest = rest

-- what a key finds where an entry comes first, which may have the key
abbrev found_first : List ℕ → BlockEntry → ℕ → List BlockEntry → Bool → Option (List ℕ)
found_first file e key rest t = data_of file (if t then Some e else entry_with key rest)

-- and the same among those that are reached
pub reached-found : (uses : ℕ → ℕ) (file : List ℕ) (es : List BlockEntry) (key : ℕ) → 1 ≤ uses key → found_in file (reached uses es) key ≡ found_in file es key
reached-found uses file [] key some = refl
reached-found uses file (e ∷ es) key some = elim (cases_eq (entry_key e) key) [ inl same ↦ hit same | inr other ↦ miss (ne_eqb (entry_key e) key other) (eqb (uses (entry_key e)) 0) (reached-found uses file es key some) ]
  where
    hit : entry_key e ≡ key → found_in file (if eqb (uses (entry_key e)) 0 then reached uses es else e ∷ reached uses es) key ≡ found_in file (e ∷ es) key
    hit same =
        let count = ap uses same in
        let kept : eqb (uses (entry_key e)) 0 ≡ false = ne_eqb (uses (entry_key e)) 0 (λ z. absurd (omega (arith, z, some, count))) in
        let is = eq-eqb (entry_key e) key same in
        ap (λ (t : Bool). found_in file (if t then reached uses es else e ∷ reached uses es) key) kept ∙ ap (found_first file e key (reached uses es)) is ∙ sym (ap (found_first file e key es) is)

    miss : eqb (entry_key e) key ≡ false → (t : Bool) → found_in file (reached uses es) key ≡ found_in file es key → found_in file (if t then reached uses es else e ∷ reached uses es) key ≡ found_in file (e ∷ es) key
    miss is true rest = rest ∙ sym (ap (found_first file e key es) is)
    miss is false rest = ap (found_first file e key (reached uses es)) is ∙ rest ∙ sym (ap (found_first file e key es) is)

-- ---- nodes

positive : (n : ℕ) → not (eqb n 0) ≡ true → 1 ≤ n
positive zero on = absurd (cc)
positive (suc n) on = omega arith

all-in : (uses : ℕ → ℕ) (keys : List ℕ) → ((key : ℕ) → count_of key keys ≤ uses key) → AllIn (λ key. not (eqb (uses key) 0)) keys
all-in uses [] counted = tt
all-in uses (k ∷ keys) counted =
    let one : ◌≡◌ {A = ℕ} (if eqb k k then 1 else 0) 1 = rw (eq-eqb k k refl) refl in
    let some = counted k in
    (ap not (ne_eqb (uses k) 0 (λ z. absurd (omega (arith, z, some, one)))), all-in uses keys (λ key. let c = counted key in omega (arith, c)))

nodes-kept : (find found : ℕ → Option (List ℕ)) (uses : ℕ → ℕ) (eof : ℕ) → ((key : ℕ) (b : List ℕ) → 1 ≤ uses key → find key ≡ Some b → found key ≡ Some b)
    → (es : List NodeEntry) (nodes : List Node) → ((key : ℕ) → uses_of find key es ≤ uses key) → AreNodes find eof es nodes → AreNodes found eof es nodes
nodes-kept find found uses eof still [] nodes counted are = are
nodes-kept find found uses eof still (e ∷ es) nodes counted are =
    let some : ℕ → Bool = λ key. not (eqb (uses key) 0) in
    let needs = needs-reached find some eof e (all-in uses (node_keys find e) (λ key. let c = counted key in omega (arith, c))) in (
      are.0,
      are.1,
      are.2,
      node_kept find found eof eof e some are.0 needs (λ key b on h. still key b (positive (uses key) on) h) (omega arith) are.3,
      nodes-kept find found uses eof still es are.1 (λ key. let c = counted key in omega (arith, c)) are.4,
    )

-- nodes read the same in a copy of the blocks that they reach, which is as long as they need
pub nodes-copied : (find found : ℕ → Option (List ℕ)) (eof more : ℕ) (es : List NodeEntry) (nodes : List Node) → ((key : ℕ) → 1 ≤ uses_of find key es → found key ≡ find key) → needs nodes ≤ more → AreNodes find eof es nodes → AreNodes found more es nodes
nodes-copied find found eof more es nodes same fits are =
    nodes-fit found eof more es nodes (nodes-kept find found (λ key. uses_of find key es) eof (λ key b some h. same key some ∙ h) es nodes (λ key. omega arith) are) fits

-- ---- their keys

pub reached-rise : (uses : ℕ → ℕ) (low high : ℕ) (es : List BlockEntry) → RiseIn low high (map entry_key es) → RiseIn low high (map entry_key (reached uses es))
reached-rise uses low high [] rise = tt
reached-rise uses low high (e ∷ es) rise = by (eqb (uses (entry_key e)) 0) (reached-rise uses (entry_key e + 1) high es rise.2)
  where
    by : (t : Bool) → RiseIn (entry_key e + 1) high (map entry_key (reached uses es)) → RiseIn low high (map entry_key (if t then reached uses es else e ∷ reached uses es))
    by true rest = let a = rise.0 in rise-widen (entry_key e + 1) high low high (map entry_key (reached uses es)) rest (omega (arith, a)) (omega arith)
    by false rest = (rise.0, rise.1, rest)

pub moved-keys : (uses : ℕ → ℕ) (olds news : List BlockEntry) → AreMoved uses olds news → map entry_key news ≡ map entry_key olds
moved-keys uses [] news moved = ap (map entry_key) moved
moved-keys uses (o ∷ olds) [] moved = absurd moved
moved-keys uses (o ∷ olds) (n ∷ news) moved =
    let rest = moved-keys uses olds news moved.1 in
    ap (λ (b : Bid). key_of b.bits ∷ map entry_key news) moved.0.bid ∙ ap (λ (l : List ℕ). entry_key o ∷ l) rest
