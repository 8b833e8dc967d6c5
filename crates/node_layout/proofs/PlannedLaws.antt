-- A plan can be committed.
use Rattle.std.proofs.Common.{◌≡◌, ◌∙◌, inl, ℕ, zero, suc, ◌+◌, ◌-◌, ◌≤◌, List, [], ◌∷◌, ◌++◌, length, take, drop, map, Option, ap, arith, length-append, length-drop, true}
use Rattle.std.proofs.lemmas.List.{take_at}
use Rattle.pst_base.specs.declared.ids.Nid.{Nid}
use Rattle.pst_base.specs.declared.places.Place.{Place}
use Rattle.pst_header.specs.declared.header.Header.{Header}
use Rattle.pst_header.specs.Format.{reading}
use Rattle.alloc_map.specs.Standing.{amap_place, amap_places, standing}
use Rattle.btree_pages.specs.declared.entry.BlockEntry.{BlockEntry}
use Rattle.btree_pages.specs.declared.entry.NodeEntry.{NodeEntry}
use Rattle.file_layout.specs.Trees.{IsPlace}
use Rattle.file_layout.specs.Nodes.{Lays, NodeMap, places_of, regions_to}
use Rattle.lays_kept.specs.declared.Piece.{Piece}
use Rattle.lays_kept.specs.Kept.{Each, SameAt, IsClear, HoldsEach, Scattered}
use Rattle.alloc_map.specs.Covered.{Once}
use Rattle.alloc_map.specs.Tally.{one_at, tally}
use Rattle.lays_kept.proofs.Beside.{IsWhole}
use Rattle.lays_kept.proofs.Kept.{each_front}
use Rattle.lays_kept.proofs.Places.{each_append, lays_places, lays_wholes, scattered_same}
use Rattle.lays_kept.proofs.Renewed.{behind}
use Rattle.alloc_map.proofs.TallyLaws.{tally_append}
use Rattle.lays_kept.proofs.Tally.{once_reordered}
use Rattle.node_port.specs.declared.node.NodeRec.{NodeRec}
use Rattle.node_port.specs.Nodes as port
use Rattle.lays_kept.specs.Stands.{FileStands, IsPlan}
use Rattle.lays_kept.proofs.Renewing.{renewed}
use Rattle.node_layout.specs.Joined.{TreePlan, places_in, IsPlanned, HasPlanned}
use Rattle.node_layout.specs.Pieces.{piece_place, EachStands}
use Rattle.node_layout.specs.Commit.{IsNext, HasRoom, Shows}
use Rattle.node_layout.proofs.JoinLaws.{joined}
use Rattle.node_layout.proofs.PieceLaws.{pieces-apart, pieces-beside, pieces-stand, stand-behind}

-- ---- AMap pages

amaps-fewer : (slot m k : ℕ) → tally slot (amap_places m) ≤ tally slot (amap_places (m + k))
unfolding amap_places
amaps-fewer slot m zero = let e : m + 0 ≡ m = omega arith in let a = ap (λ (n : ℕ). tally slot (amap_places n)) e in omega (arith, a)
amaps-fewer slot m (suc k) =
    let e : m + suc k ≡ suc (m + k) = omega arith in
    let a : tally slot (amap_places (m + suc k)) ≡ one_at slot (amap_place (m + k)) + tally slot (amap_places (m + k)) = ap (λ (n : ℕ). tally slot (amap_places n)) e in
    let rest = amaps-fewer slot m k in
    omega (arith, a, rest)

pub amaps-whole : (n : ℕ) → Each IsWhole (amap_places n)
unfolding amap_places
amaps-whole zero = tt
amaps-whole (suc r) = (record { above = omega arith; start = omega arith; whole = omega arith; some = omega arith }, amaps-whole r)

-- ---- pieces

clear-append : (xs ys : List Piece) (at n : ℕ) → IsClear xs at n → IsClear ys at n → IsClear (xs ++ ys) at n
clear-append [] ys at n a b = b
clear-append (x ∷ xs) ys at n a b = (a.0, clear-append xs ys at n a.1 b)

clear-all : (xs ys : List Piece) (ps : List Place) → Each (λ p. IsClear xs p.ib p.len) ps → Each (λ p. IsClear ys p.ib p.len) ps → Each (λ p. IsClear (xs ++ ys) p.ib p.len) ps
clear-all xs ys [] a b = tt
clear-all xs ys (p ∷ ps) a b = (clear-append xs ys p.ib p.len a.0 b.0, clear-all xs ys ps a.1 b.1)

-- pieces in whole places are behind the header
clear-front : (pieces : List Piece) → Each IsWhole (map piece_place pieces) → IsClear pieces 0 564
clear-front [] all = tt
clear-front (p ∷ ps) all = (inl (let a = (all.0).above in omega (arith, a)), clear-front ps all.1)

same-behind : (header file new : List ℕ) (eof : ℕ) → length header ≡ 564 → (ps : List Place) → Each (IsPlace eof) ps → Each (SameAt file new) ps → Each (SameAt file (header ++ drop 564 new)) ps
same-behind header file new eof size [] places same = tt
same-behind header file new eof size (p ∷ ps) places same =
    (behind header new p.ib p.len size (let a = (places.0).above in omega (arith, a)) ∙ same.0, same-behind header file new eof size ps places.1 same.1)

regions-grow : (a b : ℕ) → a ≤ b → regions_to a ≤ regions_to b
regions-grow a b le = omega (arith, le)

-- ---- the whole

-- the pieces of a plan meet nothing that stands
pub planned-beside : {header : Header} {file : List ℕ} {m : NodeMap} (is : Lays header file m) (new : Header) (growth planned : List Piece) (places : List Place) → header.eof ≤ new.eof → HasRoom is new growth planned places
    → Each (λ p. IsClear (growth ++ planned) p.ib p.len) (standing (places_of is.blocks is.nodes) (regions_to header.eof))
planned-beside {header} {file} {m} is new growth planned places longer room =
    let old : List Place = places_of is.blocks is.nodes in
    let few : regions_to header.eof ≤ regions_to new.eof = regions-grow header.eof new.eof longer in
    let k : ℕ = regions_to new.eof - regions_to header.eof in
    let sum : regions_to header.eof + k ≡ regions_to new.eof = omega (arith, few) in
    let fewer : Once (map piece_place planned ++ standing old (regions_to header.eof)) = once_reordered (map piece_place planned ++ standing old (regions_to new.eof)) (map piece_place planned ++ standing old (regions_to header.eof))
    (λ slot.
    let a = tally_append slot (map piece_place planned) (standing old (regions_to new.eof)) in
    let b = tally_append slot (map piece_place planned) (standing old (regions_to header.eof)) in
    let c = tally_append slot old (amap_places (regions_to new.eof)) in
    let d = tally_append slot old (amap_places (regions_to header.eof)) in
    let e = amaps-fewer slot (regions_to header.eof) k in
    let f = ap (λ (n : ℕ). tally slot (amap_places n)) sum in
    omega (arith, a, b, c, d, e, f)) room.once in
    let wholes : Each IsWhole (standing old (regions_to header.eof)) = each_append IsWhole old (amap_places (regions_to header.eof)) (lays_wholes header file m is) (amaps-whole (regions_to header.eof)) in
    clear-all growth planned (standing old (regions_to header.eof)) room.beside (pieces-beside planned (standing old (regions_to header.eof)) room.wholes wholes fewer)

-- A file in which the pieces stand, behind the new header, has what was planned.
pub planned-has : {header : Header} {file : List ℕ} {m : NodeMap} (is : Lays header file m) (new : Header) (sealed : List ℕ) (growth planned : List Piece) (blocks : TreePlan BlockEntry) (nodes : TreePlan NodeEntry) (block_places : List Place) (cs : List (Nid × Option NodeRec))
    → 564 ≤ length file → IsNext header new sealed blocks nodes → HasRoom is new growth planned (places_in blocks ++ (places_in nodes ++ block_places))
    → ((bytes : List ℕ) → new.eof ≤ length bytes → Each (SameAt file bytes) (places_of is.blocks is.nodes) → EachStands bytes planned → Shows is new blocks nodes cs bytes)
    → (mid : List ℕ) → Scattered (growth ++ planned) file mid → HoldsEach mid (growth ++ planned) → HasPlanned is blocks nodes new (sealed ++ drop 564 mid) block_places cs
planned-has {header} {file} {m} is new sealed growth planned blocks nodes block_places cs long next room shows mid writes holds =
    let old : List Place = places_of is.blocks is.nodes in
    let C : Place → Type 0 = λ p. IsClear (growth ++ planned) p.ib p.len in
    let beside : Each C (standing old (regions_to header.eof)) = planned-beside is new growth planned (places_in blocks ++ (places_in nodes ++ block_places)) next.longer room in
    let apart = pieces-apart planned (standing old (regions_to new.eof)) room.wholes room.once in
    let bytes : List ℕ = sealed ++ drop 564 mid in
    let size = next.size in
    let longer = writes.longer in
    let grown = room.grows mid writes holds in
    let len : length bytes ≡ length mid = omega (arith, length-append sealed (drop 564 mid), length-drop 564 mid, size, long, longer) in
    let head : take 564 bytes ≡ sealed = take_at sealed (drop 564 mid) 564 size in
    let kept : Each (SameAt file bytes) old = same-behind sealed file mid header.eof size old (lays_places header file m is)
    (scattered_same (growth ++ planned) file mid header.eof writes is.long_enough old (lays_places header file m is) (each_front C old (amap_places (regions_to header.eof)) beside)) in
    let stood : EachStands bytes planned = stand-behind sealed mid planned size room.wholes (pieces-stand mid growth planned apart holds) in
    let here = shows bytes (omega (arith, grown, len)) kept stood in
    record {
      long = omega (arith, len, long, longer);
      read = ap reading head ∙ next.read;
      unmapped = next.unmapped;
      long_enough = omega (arith, grown, len);
      small_enough = next.small_enough;
      longer = next.longer;
      bbt = next.bbt;
      nbt = next.nbt;
      kept = kept;
      block_pages = here.block_pages;
      node_pages = here.node_pages;
      stand = here.stand;
      changes = here.changes;
      once = once_reordered (map piece_place planned ++ standing old (regions_to new.eof)) ((places_in blocks ++ (places_in nodes ++ block_places)) ++ standing old (regions_to new.eof))
          (λ slot.
          let a = tally_append slot (map piece_place planned) (standing old (regions_to new.eof)) in
          let b = tally_append slot (places_in blocks ++ (places_in nodes ++ block_places)) (standing old (regions_to new.eof)) in
          let c = room.same slot in
          omega (arith, a, b, c)) room.once;
    }

-- What a planner gives makes a plan that can be committed, and that comes to the changed nodes.
pub planned-commits : (found file : List ℕ) (N : port.Nodes) (last : List ℕ) (stands : FileStands found file N last) (new : Header) (sealed : List ℕ) (growth planned : List Piece) (blocks : TreePlan BlockEntry) (nodes : TreePlan NodeEntry) (cs : List (Nid × Option NodeRec))
    → port.ascend 0 cs ≡ true → (plan : IsPlanned stands.lays blocks nodes) → IsNext stands.header new sealed blocks nodes
    → HasRoom stands.lays new growth planned (places_in blocks ++ (places_in nodes ++ plan.block_places))
    → ((bytes : List ℕ) → new.eof ≤ length bytes → Each (SameAt file bytes) (places_of (stands.lays).blocks (stands.lays).nodes) → EachStands bytes planned → Shows stands.lays new blocks nodes cs bytes)
    → IsPlan found file (growth ++ planned) sealed N last (port.changed N cs) new.indexes
planned-commits found file N last stands new sealed growth planned blocks nodes cs up plan next room shows = record {
  stands = stands;
  front = clear-append growth planned 0 564 room.front (clear-front planned room.wholes);
  beside = planned-beside stands.lays new growth planned (places_in blocks ++ (places_in nodes ++ plan.block_places)) next.longer room;
  makes = λ mid writes holds.
      renewed found (joined stands.header new file (sealed ++ drop 564 mid) stands.m N stands.lays blocks nodes cs stands.those up plan
      (planned-has stands.lays new sealed growth planned blocks nodes plan.block_places cs stands.long next room shows mid writes holds));
}
