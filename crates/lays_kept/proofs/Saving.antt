-- A save keeps the nodes: first under a header that vouches for no maps and ends with a region, and then over the map pages.
use Rattle.std.proofs.Common.{Bool, true, false, not, ◌≡◌, ◌∙◌, ◌⊎◌, inl, inr, ℕ, ◌+◌, ◌-◌, ◌*◌, ◌/◌, ◌≤◌, ◌<◌, zero, suc, ltb, if◌then◌else◌, List, [], ◌∷◌, ◌++◌, length, take, drop, Ok, refl, sym, ap, subst, arith, length-append}
use Rattle.std.specs.Prelude.{count_by}
use Rattle.std.proofs.lemmas.Bool.{ltb-true, ltb-false}
use Rattle.std.proofs.lemmas.List.{length-take-le, take_at, take-take}
use Rattle.pst_base.specs.declared.places.Place.{Place}
use Rattle.pst_header.specs.declared.header.Header.{Header}
use Rattle.pst_header.specs.Format.{reading}
use Rattle.alloc_map.specs.Slots.{start_of}
use Rattle.alloc_map.specs.Standing.{standing, occupied, IsCovered, IsMeeting, amap_places}
use Rattle.alloc_map.specs.Maps.{IsMapPage}
use Rattle.node_port.specs.Nodes.{Nodes}
use Rattle.file_layout.specs.Trees.{IsPlace}
use Rattle.file_layout.specs.Nodes.{Lays, places_of, regions_to, LARGEST}
use Rattle.lays_kept.specs.Kept.{Each, SameAt, IsClear, HoldsEach, Scattered}
use Rattle.lays_kept.specs.Saved.{region_end, SameTrees, map_pieces, HoldsMaps, last_byte, LaysSame, HasMaps}
use Rattle.lays_kept.specs.Stands.{last_map, Maps, FileStands, Commits}
use Rattle.lays_kept.proofs.Kept.{each_front, lays_kept}
use Rattle.lays_kept.proofs.Places.{each_append, lays_places, lays_wholes, scattered_same}
use Rattle.lays_kept.proofs.Once.{apart_once}
use Rattle.lays_kept.proofs.Plans.{file_kept}
use Rattle.lays_kept.proofs.Renewed.{lays_under, behind}
use Rattle.lays_kept.proofs.MapPages.{covered_front, page_front, beside_maps, before_maps}

-- the bytes of a header that is to take the place of another and names the same trees
pub record Follows (old new : Header) (sealed : List ℕ) : Type 0 where
  pub size : length sealed ≡ 564
  pub read : reading sealed ≡ Ok new
  pub trees : SameTrees old new

-- a file under such a header reads as that header
pub reads_as : {old new : Header} {sealed : List ℕ} (file : List ℕ) → Follows old new sealed → reading (take 564 (sealed ++ drop 564 file)) ≡ Ok new
reads_as {old} {new} {sealed} file is = ap reading (take_at sealed (drop 564 file) 564 is.size) ∙ is.read

-- and is as long
pub long_under : {old new : Header} {sealed : List ℕ} (file : List ℕ) → Follows old new sealed → 564 ≤ length (sealed ++ drop 564 file)
long_under {old} {new} {sealed} file is = omega (arith, is.size, length-append sealed (drop 564 file))

-- the bytes of places stay while others are written, and under another header
same_through : (old file sealed : List ℕ) (eof : ℕ) → length sealed ≡ 564 → (ps : List Place) → Each (IsPlace eof) ps → Each (SameAt old file) ps → Each (SameAt old (sealed ++ drop 564 file)) ps
same_through old file sealed eof size [] places same = tt
same_through old file sealed eof size (p ∷ ps) places same =
    let above = (places.0).above in
    (behind sealed file p.ib p.len size (omega (arith, above)) ∙ same.0, same_through old file sealed eof size ps places.1 same.1)

-- ---- the end of the last region

-- what lies before the last byte, or after it, is clear of it
clear_byte : (eof end at m : ℕ) → (eof < end → (at + m ≤ end - 1) ⊎ (end - 1 + 1 ≤ at)) → IsClear (last_byte eof end) at m
clear_byte eof end at m side = by (ltb eof end) refl
  where
    by : (b : Bool) → ltb eof end ≡ b → IsClear (if b then record { at = end - 1; bytes = 0 ∷ [] } ∷ [] else []) at m
    by true e = (side (ltb-true eof end e), tt)
    by false e = tt

-- with it the file reaches to the end
pub byte_reaches : (eof end : ℕ) (file : List ℕ) → eof ≤ length file → HoldsEach file (last_byte eof end) → end ≤ length file
byte_reaches eof end file long = by (ltb eof end) refl
  where
    by : (b : Bool) → ltb eof end ≡ b → HoldsEach file (if b then record { at = end - 1; bytes = 0 ∷ [] } ∷ [] else []) → end ≤ length file
    by true e holds = let reach = holds.0 in omega (arith, reach)
    by false e holds = let low = ltb-false eof end e in omega (arith, low, long)

module _ (eof n : ℕ) (regions : n ≡ regions_to eof) where
  pub not_before : eof ≤ region_end n
  not_before = omega (arith, regions)

  pub same_regions : regions_to (region_end n) ≡ regions_to eof
  same_regions = omega (arith, regions)

  pub still_small : eof ≤ LARGEST → region_end n ≤ LARGEST
  still_small small = omega (arith, regions, small)

  clear_amaps : (k : ℕ) → k ≤ n → Each (λ p. IsClear (last_byte eof (region_end n)) p.ib p.len) (amap_places k)
  unfolding amap_places
  clear_amaps zero le = tt
  clear_amaps (suc r) le = (clear_byte eof (region_end n) (start_of (3968 * r)) 512 (λ lt. inl (omega (arith, le))), clear_amaps r (omega (arith, le)))

  pub clear_places : (ps : List Place) → Each (IsPlace eof) ps → Each (λ p. IsClear (last_byte eof (region_end n)) p.ib p.len) ps
  clear_places [] places = tt
  clear_places (p ∷ ps) places = (clear_byte eof (region_end n) p.ib p.len (λ lt. inl (let before = (places.0).before in omega (arith, before, lt))), clear_places ps places.1)

  clear_front : IsClear (last_byte eof (region_end n)) 0 564
  clear_front = clear_byte eof (region_end n) 0 564 (λ lt. inl (omega (arith, regions)))

-- ---- without maps

module _ {found bytes : List ℕ} {N : Nodes} {last : List ℕ} (is : FileStands found bytes N last) (new : Header) (sealed : List ℕ) (n : ℕ) (follows : Follows is.header new sealed) (unmapped : new.maps ≡ 0) (end : new.eof ≡ region_end n) (regions : n ≡ regions_to is.header.eof) where
  abbrev pub Lengthened : List ℕ → Type 0
  Lengthened file = Scattered (last_byte is.header.eof (region_end n)) bytes file

  pub beside_byte : Each (λ p. IsClear (last_byte is.header.eof (region_end n)) p.ib p.len) (standing (places_of is.lays.blocks is.lays.nodes) (regions_to is.header.eof))
  beside_byte =
      let places : List Place = places_of is.lays.blocks is.lays.nodes in
      each_append (λ p. IsClear (last_byte is.header.eof (region_end n)) p.ib p.len) places (amap_places (regions_to is.header.eof))
      (clear_places is.header.eof n regions places (lays_places is.header bytes is.m is.lays))
      (clear_amaps is.header.eof n regions (regions_to is.header.eof) (omega (arith, regions)))

  pub byte_keeps : (file : List ℕ) → Lengthened file → FileStands found file N last
  byte_keeps file writes = file_kept found bytes file (last_byte is.header.eof (region_end n)) N last is (clear_front is.header.eof n regions) beside_byte writes

  abbrev pub lengthened_lays : (file : List ℕ) → Lengthened file → Lays is.header file is.m
  lengthened_lays file writes =
      let places : List Place = places_of is.lays.blocks is.lays.nodes in
      lays_kept is.header bytes file is.m is.lays (omega (arith, is.lays.long_enough, writes.longer))
      (scattered_same (last_byte is.header.eof (region_end n)) bytes file is.header.eof writes is.lays.long_enough places (lays_places is.header bytes is.m is.lays)
      (each_front (λ p. IsClear (last_byte is.header.eof (region_end n)) p.ib p.len) places (amap_places (regions_to is.header.eof)) beside_byte))

  pub unmapped_same : (file : List ℕ) → Lengthened file → Each (SameAt bytes (sealed ++ drop 564 file)) (places_of is.lays.blocks is.lays.nodes)
  unmapped_same file writes =
      let places : List Place = places_of is.lays.blocks is.lays.nodes in
      same_through bytes file sealed is.header.eof follows.size places (lays_places is.header bytes is.m is.lays)
      (scattered_same (last_byte is.header.eof (region_end n)) bytes file is.header.eof writes is.lays.long_enough places (lays_places is.header bytes is.m is.lays)
      (each_front (λ p. IsClear (last_byte is.header.eof (region_end n)) p.ib p.len) places (amap_places (regions_to is.header.eof)) beside_byte))

  -- the file stands for the same nodes under a header that vouches for no maps and ends with the region
  abbrev pub unmapped_stands : (file : List ℕ) → Lengthened file → HoldsEach file (last_byte is.header.eof (region_end n)) → FileStands found (sealed ++ drop 564 file) N new.indexes
  unmapped_stands file writes holds =
      let long : is.header.eof ≤ length file = omega (arith, is.lays.long_enough, writes.longer) in
      let reach : region_end n ≤ length file = byte_reaches is.header.eof (region_end n) file long holds in
      let low : is.header.eof ≤ region_end n = not_before is.header.eof n regions in
      let small : region_end n ≤ LARGEST = still_small is.header.eof n regions is.lays.small_enough in
      record {
        header = new;
        long = long_under file follows;
        read = reads_as file follows;
        m = is.m;
        lays = lays_under is.header new sealed file is.m (lengthened_lays file writes) follows.trees (omega (arith, end, low)) (omega (arith, end, reach)) (omega (arith, end, small))
            (ap regions_to end ∙ same_regions is.header.eof n regions) follows.size (omega (arith, is.long, writes.longer));
        those = is.those;
        counters = refl;
        maps = inl unmapped;
      }

  -- by the same trees
  pub unmapped_lays : (file : List ℕ) → Lengthened file → HoldsEach file (last_byte is.header.eof (region_end n)) → LaysSame is.header new bytes (sealed ++ drop 564 file)
  unmapped_lays file writes holds = record {
    m = is.m;
    was = is.lays;
    is = (unmapped_stands file writes holds).lays;
    blocks = refl;
    nodes = refl;
    trees = follows.trees;
    bytes = unmapped_same file writes;
  }

  pub unmapped_commits : Commits found Lengthened (λ file. HoldsEach file (last_byte is.header.eof (region_end n))) sealed N last N new.indexes
  unmapped_commits = record { keeps = byte_keeps; makes = unmapped_stands }

-- ---- with maps

-- The maps of a file can be written: its header vouches for none, it ends with its last region, and just the slots of all that stands in it are used.
pub record IsUnmapped {found bytes : List ℕ} {N : Nodes} {last : List ℕ} (is : FileStands found bytes N last) (used : List Bool) (n : ℕ) : Type 0 where
  pub unmapped : is.header.maps ≡ 0
  pub end : is.header.eof ≡ region_end n
  pub regions : n ≡ regions_to is.header.eof
  pub size : length used ≡ 3968 * 8192
  pub covered : IsCovered (occupied (places_of is.lays.blocks is.lays.nodes) 8192) used

module _ {found bytes : List ℕ} {N : Nodes} {last : List ℕ} (is : FileStands found bytes N last) (new : Header) (sealed : List ℕ) (used : List Bool) (n : ℕ) (ready : IsUnmapped is used n) (follows : Follows is.header new sealed) (valid : new.maps ≡ 2) (end : new.eof ≡ is.header.eof)
    (free : new.amap_free ≡ 64 * count_by not (take (3968 * n) used)) (ends : new.amap_last ≡ last_map new.eof) where
  abbrev pub Mapping : List ℕ → Type 0
  Mapping file = Scattered (map_pieces n) bytes file

  pub clear_of_maps : Each (λ p. IsClear (map_pieces n) p.ib p.len) (places_of is.lays.blocks is.lays.nodes)
  clear_of_maps = beside_maps (places_of is.lays.blocks is.lays.nodes) n (lays_wholes is.header bytes is.m is.lays)
      (apart_once (standing (places_of is.lays.blocks is.lays.nodes) n) (subst (λ k. (slot : ℕ) → IsMeeting (standing (places_of is.lays.blocks is.lays.nodes) k) slot → ⊥) (sym ready.regions) is.lays.apart))

  abbrev pub mapping_lays : (file : List ℕ) → Mapping file → Lays is.header file is.m
  mapping_lays file writes =
      let places : List Place = places_of is.lays.blocks is.lays.nodes in
      lays_kept is.header bytes file is.m is.lays (omega (arith, is.lays.long_enough, writes.longer))
      (scattered_same (map_pieces n) bytes file is.header.eof writes is.lays.long_enough places (lays_places is.header bytes is.m is.lays) clear_of_maps)

  pub mapping_keeps : (file : List ℕ) → Mapping file → FileStands found file N last
  mapping_keeps file writes = record {
    header = is.header;
    long = omega (arith, is.long, writes.longer);
    read = ap reading (writes.same 0 564 is.long (before_maps n)) ∙ is.read;
    m = is.m;
    lays = mapping_lays file writes;
    those = is.those;
    counters = is.counters;
    maps = inl ready.unmapped;
  }

  few : n ≤ 8192
  few = let a = ready.regions in let b = is.lays.small_enough in omega (arith, a, b)

  slots_to_end : (new.eof - 0x4400) / 64 ≡ 3968 * n
  slots_to_end = let a = ready.end in omega (arith, end, a)

  same_end : n ≡ regions_to new.eof
  same_end = ready.regions ∙ sym (ap regions_to end)

  -- the maps of the file under the new header
  pub mapped : (file : List ℕ) → HoldsMaps used n file → Maps new (sealed ++ drop 564 file) (places_of is.lays.blocks is.lays.nodes)
  mapped file holds =
      let front : List Bool = take (3968 * n) used in
      let counted : length front ≡ 3968 * n = let a = ready.size in let b = few in length-take-le (3968 * n) used (omega (arith, a, b)) in
      let whole : take ((new.eof - 0x4400) / 64) front ≡ front = ap (λ k. take k front) slots_to_end ∙ take-take (3968 * n) (3968 * n) used (omega arith) in
      record {
        used = front;
        size = counted ∙ ap (λ k. 3968 * k) same_end;
        exact = subst (λ k. IsCovered (occupied (places_of is.lays.blocks is.lays.nodes) k) front) same_end
            (let a = ready.size in let b = few in covered_front (places_of is.lays.blocks is.lays.nodes) 8192 n used b (omega (arith, a, b)) ready.covered);
        pages = λ r lt. let low : r < n = let a = same_end in omega (arith, lt, a) in
            page_front used n r (take 512 (drop (start_of (3968 * r)) (sealed ++ drop 564 file))) low
            (subst (IsMapPage used r) (sym (behind sealed file (start_of (3968 * r)) 512 follows.size (omega arith))) (holds r low));
        free = free ∙ ap (λ l. 64 * count_by not l) (sym whole);
        last = ends;
      }

  pub mapped_same : (file : List ℕ) → Mapping file → Each (SameAt bytes (sealed ++ drop 564 file)) (places_of is.lays.blocks is.lays.nodes)
  mapped_same file writes =
      let places : List Place = places_of is.lays.blocks is.lays.nodes in
      same_through bytes file sealed is.header.eof follows.size places (lays_places is.header bytes is.m is.lays)
      (scattered_same (map_pieces n) bytes file is.header.eof writes is.lays.long_enough places (lays_places is.header bytes is.m is.lays) clear_of_maps)

  -- the file stands for the same nodes under a header that vouches for the maps
  abbrev pub mapped_stands : (file : List ℕ) → Mapping file → HoldsMaps used n file → FileStands found (sealed ++ drop 564 file) N new.indexes
  mapped_stands file writes holds = record {
    header = new;
    long = long_under file follows;
    read = reads_as file follows;
    m = is.m;
    lays = lays_under is.header new sealed file is.m (mapping_lays file writes) follows.trees (omega (arith, end)) (omega (arith, end, is.lays.long_enough, writes.longer)) (omega (arith, end, is.lays.small_enough))
        (ap regions_to end) follows.size (omega (arith, is.long, writes.longer));
    those = is.those;
    counters = refl;
    maps = inr (inl (valid, mapped file holds));
  }

  -- by the same trees
  pub mapped_lays : (file : List ℕ) → Mapping file → HoldsMaps used n file → LaysSame is.header new bytes (sealed ++ drop 564 file)
  mapped_lays file writes holds = record {
    m = is.m;
    was = is.lays;
    is = (mapped_stands file writes holds).lays;
    blocks = refl;
    nodes = refl;
    trees = follows.trees;
    bytes = mapped_same file writes;
  }

  -- and with right maps
  pub mapped_maps : (file : List ℕ) → Mapping file → HoldsMaps used n file → HasMaps new (sealed ++ drop 564 file)
  mapped_maps file writes holds = record { valid = valid; m = is.m; lays = (mapped_stands file writes holds).lays; maps = mapped file holds }

  pub mapped_commits : Commits found Mapping (HoldsMaps used n) sealed N last N new.indexes
  mapped_commits = record { keeps = mapping_keeps; makes = mapped_stands }
