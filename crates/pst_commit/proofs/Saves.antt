-- The two commits of a save.
use Rattle.std.proofs.Common.{Bool, not, ◌≡◌, ◌∙◌, ◌⊎◌, inl, inr, ℕ, ◌+◌, ◌-◌, ◌*◌, ◌<◌, ◌≤◌, if◌then◌else◌, List, [], ◌∷◌, ◌++◌, length, take, drop, Ok, refl, sym, ap, subst, arith}
use Rattle.std.specs.Prelude.{count_by}
use Rattle.std.proofs.lemmas.Bool.{lt-ltb}
use Rattle.std.proofs.lemmas.List.{take_at}
use Rattle.pst_outside.specs.World.{Image, World, TornAt}
use Rattle.pst_outside.specs.declared.outside.Part.TheVariants.{Main}
use Rattle.pst_outside.specs.Calls.{Settled}
use Rattle.pst_outside.proofs.Bytes.{torn_span}
use Rattle.pst_outside.proofs.Moments.{started, tells_now}
use Rattle.pst_base.specs.declared.places.Place.{Place}
use Rattle.alloc_map.specs.Standing.{occupied, IsCovered}
use Rattle.pst_header.specs.declared.header.Header.{Header}
use Rattle.pst_header.specs.Format.{reading}
use Rattle.gate_file.specs.Effective.{effective}
use Rattle.file_blocks.specs.Blocks.{file_of}
use Rattle.file_layout.specs.Nodes.{places_of, regions_to}
use Rattle.node_port.specs.Nodes.{Nodes}
use Rattle.lays_kept.specs.Kept.{Each, SameAt, HoldsEach, Scattered}
use Rattle.lays_kept.specs.Saved.{region_end, SameTrees, map_pieces, HoldsMaps, last_byte, LaysSame, UsesJust, HasMaps}
use Rattle.lays_kept.specs.Stands.{FileStands, Stands, Commits, last_map}
use Rattle.lays_kept.proofs.Gates.{shut_file}
use Rattle.lays_kept.proofs.Saving.{Follows, IsUnmapped, same_regions, unmapped_commits, unmapped_lays, mapped_commits, mapped_lays, mapped_maps}
use Rattle.pst_commit.specs.Commit.{IsApplied, LeavesNodes, Writes}
use Rattle.pst_commit.specs.Held.{LeavesTrees}
use Rattle.pst_commit.specs.Keeping.{Rests}
use Rattle.pst_commit.proofs.HeldLaws.{mapped_trees, unmapped_trees}
use Rattle.pst_commit.proofs.Outcomes.{shut_stands, main_stands}
use Rattle.pst_commit.proofs.Holding.{same_header}

-- ---- a last byte

-- the write of a last byte
pub byte_writes : (eof end at n : ℕ) {old new : Image} → eof < end → at ≡ end - 1 → n ≡ 1 → TornAt Main at n old new → Writes (Scattered (last_byte eof end) old.main) old new
byte_writes eof end at n {old} {new} lt place one torn =
    let pieces : last_byte eof end ≡ record { at = end - 1; bytes = 0 ∷ [] } ∷ [] = ap (λ b. if b then record { at = end - 1; bytes = 0 ∷ [] } ∷ [] else []) (lt-ltb eof end lt) in
    subst (λ ps. Writes (Scattered ps old.main) old new) (sym pieces) (record {
      file = record {
        longer = torn.torn.no_shorter;
        same = λ from m within clear. torn_span torn.torn from m within (beside from m clear.0);
      };
      others = torn.others;
    })
  where
    beside : (from m : ℕ) → (from + m ≤ end - 1) ⊎ (end - 1 + 1 ≤ from) → (from + m ≤ at) ⊎ (at + n ≤ from)
    beside from m (inl before) = inl (omega (arith, before, place))
    beside from m (inr behind) = inr (omega (arith, behind, place, one))

-- ---- one commit

-- A header takes the place of another over the same trees, where Main was written so.
pub record Replaces (found : List ℕ) (header next : Header) (sealed : List ℕ) (old : Image) (has after : List ℕ → Type 0) (N : Nodes) : Type 0 where
  pub commits : Commits found has after sealed N header.indexes N next.indexes
  pub lays : (mid : List ℕ) → has mid → after mid → LaysSame header next old.main (sealed ++ drop 564 mid)
  pub trees : (mid : List ℕ) → has mid → after mid → LeavesTrees header next old.main (sealed ++ drop 564 mid)

-- the header that counts, of a file whose gate is shut
own_main : {found : List ℕ} {header : Header} {old : Image} {N : Nodes} (rests : Rests found header old N) → (main_stands rests.shut rests.stands).header ≡ header
own_main {found} {header} {old} {N} rests =
    let is : FileStands found old.main N header.indexes = main_stands rests.shut rests.stands in
    let was : FileStands found (effective old.main old.side) N header.indexes = rests.stands.file in
    same_header is.header was.header (reading (take 564 old.main)) is.read (ap (λ f. reading (take 564 f)) (sym (shut_file old.main old.side rests.shut)) ∙ was.read) ∙ rests.own

-- after it the next header counts, and the trees are the same
pub rests_next : {found : List ℕ} {header next : Header} {sealed : List ℕ} {old new : Image} {has after : List ℕ → Type 0} {N : Nodes} → Rests found header old N → Replaces found header next sealed old has after N → length sealed ≡ 564 → reading sealed ≡ Ok next
    → IsApplied (λ file. has file × after file) sealed old new → Rests found next new N
rests_next {found} {header} {next} {sealed} {old} {new} {has} {after} {N} rests replaces size read is =
    let file : effective new.main new.side ≡ sealed ++ drop 564 is.mid = shut_file new.main new.side is.shut ∙ is.main in
    let now : Stands found new N next.indexes = shut_stands is.shut (subst (λ f. FileStands found f N next.indexes) (sym is.main) (replaces.commits.makes is.mid is.file.0 is.file.1)) in
    record {
      shut = is.shut;
      stands = now;
      own = same_header (now.file).header next (reading (take 564 (effective new.main new.side))) (now.file).read (ap (λ f. reading (take 564 f)) file ∙ ap reading (take_at sealed (drop 564 is.mid) 564 size) ∙ read);
    }

-- what is so of the file under the header is so of the two files
pub now_so : {sealed : List ℕ} {old new : Image} {has : List ℕ → Type 0} (P : List ℕ → Type 0) (is : IsApplied has sealed old new) → P (sealed ++ drop 564 is.mid) → P (file_of new)
now_so {sealed} {old} {new} {has} P is so = subst P (sym (shut_file new.main new.side is.shut ∙ is.main)) so

pub lays_next : {found : List ℕ} {header next : Header} {sealed : List ℕ} {old new : Image} {has after : List ℕ → Type 0} {N : Nodes} → Rests found header old N → Replaces found header next sealed old has after N
    → IsApplied (λ file. has file × after file) sealed old new → LaysSame header next (file_of old) (file_of new)
lays_next {found} {header} {next} {sealed} {old} {new} {has} {after} {N} rests replaces is =
    subst (λ f. LaysSame header next f (file_of new)) (sym (shut_file old.main old.side rests.shut))
    (now_so (λ f. LaysSame header next old.main f) is (replaces.lays is.mid is.file.0 is.file.1))

pub trees_next : {found : List ℕ} {header next : Header} {sealed : List ℕ} {old new : Image} {has after : List ℕ → Type 0} {N : Nodes} → Rests found header old N → Replaces found header next sealed old has after N
    → IsApplied (λ file. has file × after file) sealed old new → LeavesTrees header next (file_of old) (file_of new)
trees_next {found} {header} {next} {sealed} {old} {new} {has} {after} {N} rests replaces is =
    subst (λ f. LeavesTrees header next f (file_of new)) (sym (shut_file old.main old.side rests.shut))
    (now_so (λ f. LeavesTrees header next old.main f) is (replaces.trees is.mid is.file.0 is.file.1))

-- the end of the last region stays
pub end_stays : (eof end later : ℕ) → end ≡ region_end (regions_to eof) → later ≡ end → end ≡ region_end (regions_to later)
end_stays eof end later regions same =
    regions ∙ ap region_end (sym (ap regions_to (same ∙ regions) ∙ same_regions eof (regions_to eof) refl))

-- ---- the first

module _ {found : List ℕ} {header next : Header} {sealed : List ℕ} {end : ℕ} {old : Image} {N : Nodes} (rests : Rests found header old N) (regions : end ≡ region_end (regions_to header.eof))
    (size : length sealed ≡ 564) (read : reading sealed ≡ Ok next) (trees : SameTrees header next) (unmapped : next.maps ≡ 0) (eof : next.eof ≡ end) where
  pub unmap_replaces : Replaces found header next sealed old (Scattered (last_byte header.eof end) old.main) (λ file. HoldsEach file (last_byte header.eof end)) N
  unmap_replaces =
      let is : FileStands found old.main N header.indexes = main_stands rests.shut rests.stands in
      let own : is.header ≡ header = own_main rests in
      let n : ℕ = regions_to header.eof in
      let follows : Follows is.header next sealed = subst (λ h. Follows h next sealed) (sym own) (record { size = size; read = read; trees = trees }) in
      let same : n ≡ regions_to is.header.eof = ap (λ (h : Header). regions_to h.eof) (sym own) in
      let commits : Commits found (Scattered (last_byte is.header.eof (region_end n)) old.main) (λ file. HoldsEach file (last_byte is.header.eof (region_end n))) sealed N header.indexes N next.indexes
      = unmapped_commits is next sealed n follows unmapped (eof ∙ regions) same in
      let laid : (mid : List ℕ) → Scattered (last_byte is.header.eof (region_end n)) old.main mid → HoldsEach mid (last_byte is.header.eof (region_end n)) → LaysSame is.header next old.main (sealed ++ drop 564 mid)
      = unmapped_lays is next sealed n follows unmapped (eof ∙ regions) same in
      subst (λ e. Replaces found header next sealed old (Scattered (last_byte header.eof e) old.main) (λ file. HoldsEach file (last_byte header.eof e)) N) (sym regions)
      (record {
        commits = subst (λ (h : Header). Commits found (Scattered (last_byte h.eof (region_end n)) old.main) (λ file. HoldsEach file (last_byte h.eof (region_end n))) sealed N header.indexes N next.indexes) own commits;
        lays = subst (λ (h : Header). (mid : List ℕ) → Scattered (last_byte h.eof (region_end n)) old.main mid → HoldsEach mid (last_byte h.eof (region_end n)) → LaysSame h next old.main (sealed ++ drop 564 mid)) own laid;
        trees = λ mid writes holds. unmapped_trees header next sealed old.main mid n refl size (eof ∙ regions) writes holds;
      })

-- ---- the second

same_count : (a b : ℕ) → region_end a ≡ region_end b → a ≡ b
same_count a b e = omega (arith, e)

module _ (found : List ℕ) (header next : Header) (sealed : List ℕ) (n : ℕ) (old : Image) (N : Nodes) (used : List Bool) (rests : Rests found header old N) (regions : region_end n ≡ region_end (regions_to header.eof)) (none : header.maps ≡ 0) (end : header.eof ≡ region_end n)
    (uses : UsesJust header (file_of old) used) (size : length sealed ≡ 564) (read : reading sealed ≡ Ok next) (trees : SameTrees header next) (valid : next.maps ≡ 2) (eof : next.eof ≡ header.eof) (free : next.amap_free ≡ 64 * count_by not (take (3968 * n) used)) (ends : next.amap_last ≡ last_map next.eof) where
  abbrev main_is : FileStands found old.main N header.indexes
  main_is = main_stands rests.shut rests.stands

  own : main_is.header ≡ header
  own = own_main rests

  ready : IsUnmapped main_is used n
  ready =
      let just : (length used ≡ 3968 * 8192) × IsCovered (occupied (places_of main_is.lays.blocks main_is.lays.nodes) 8192) used
      = subst (λ h. UsesJust h old.main used) (sym own) (subst (λ f. UsesJust header f used) (shut_file old.main old.side rests.shut) uses) main_is.m main_is.lays in
      record {
        unmapped = ap (λ (h : Header). h.maps) own ∙ none;
        end = ap (λ (h : Header). h.eof) own ∙ end;
        regions = same_count n (regions_to header.eof) regions ∙ ap (λ (h : Header). regions_to h.eof) (sym own);
        size = just.0;
        covered = just.1;
      }

  follows : Follows main_is.header next sealed
  follows = subst (λ h. Follows h next sealed) (sym own) (record { size = size; read = read; trees = trees })

  same_eof : next.eof ≡ main_is.header.eof
  same_eof = eof ∙ ap (λ (h : Header). h.eof) (sym own)

  pub maps_replace : Replaces found header next sealed old (Scattered (map_pieces n) old.main) (HoldsMaps used n) N
  maps_replace = record {
    commits = mapped_commits main_is next sealed used n ready follows valid same_eof free ends;
    lays = subst (λ (h : Header). (mid : List ℕ) → Scattered (map_pieces n) old.main mid → HoldsMaps used n mid → LaysSame h next old.main (sealed ++ drop 564 mid)) own
        (mapped_lays main_is next sealed used n ready follows valid same_eof free ends);
    trees = λ mid writes holds. mapped_trees header next sealed old.main mid n (same_count n (regions_to header.eof) regions) size end eof writes;
  }

  pub maps_hold : (mid : List ℕ) → Scattered (map_pieces n) old.main mid → HoldsMaps used n mid → HasMaps next (sealed ++ drop 564 mid)
  maps_hold = mapped_maps main_is next sealed used n ready follows valid same_eof free ends

-- ---- no commit

-- a file lays what it lays
each_same : (file : List ℕ) (ps : List Place) → Each (SameAt file file) ps
each_same file [] = tt
each_same file (p ∷ ps) = (refl, each_same file ps)

pub lays_itself : {found : List ℕ} {header : Header} {old : Image} {N : Nodes} → Rests found header old N → LaysSame header header (file_of old) (file_of old)
lays_itself {found} {header} {old} {N} rests =
    let is = (rests.stands).file in
    subst (λ h. LaysSame h h (file_of old) (file_of old)) rests.own (record {
      m = is.m;
      was = is.lays;
      is = is.lays;
      blocks = refl;
      nodes = refl;
      trees = record { nbt = refl; bbt = refl; next_block = refl; next_page = refl; indexes = refl };
      bytes = each_same (file_of old) (places_of is.lays.blocks is.lays.nodes);
    })

-- and a crash leaves it
pub leaves_now : {found : List ℕ} {header : Header} {world : World} {N : Nodes} → Settled world → (world.tells → Rests found header world.here N) → LeavesNodes world world found N header.indexes
leaves_now {found} {header} {world} {N} settled rests =
    let P : Image → Type 0 = λ c. (c.said ≡ world.here.said) × Stands found c N header.indexes in
    let here : world.tells → P world.here = λ t. (refl, (rests t).stands) in
    started world P here (λ c left. subst P (sym (settled c left)) (here (tells_now world c left)))
