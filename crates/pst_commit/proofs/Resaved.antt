-- A keeper of a file before and after a save.
use Rattle.std.proofs.Common.{Bool, ◌≡◌, ◌∙◌, ℕ, ◌+◌, ◌*◌, ◌≤◌, min, List, length, Ok, sym, ap, subst, arith}
use Rattle.pst_outside.specs.World.{Image, World}
use Rattle.pst_outside.proofs.Moments.{continues}
use Rattle.pst_header.specs.declared.header.Header.{Header}
use Rattle.gate_file.specs.Gate.{IsShut}
use Rattle.file_blocks.specs.Blocks.{file_of}
use Rattle.file_layout.specs.Nodes.{regions_to, LARGEST}
use Rattle.node_port.specs.Nodes.{Nodes}
use Rattle.lays_kept.specs.Saved.{region_end, SameTrees, UsesJust, HasMaps}
use Rattle.lays_kept.specs.Stands.{Stands}
use Rattle.pst_commit.specs.Commit.{LeavesNodes}
use Rattle.pst_commit.specs.Keeping.{CanSave, Holds, IsKnowledge, IsSaved, Keeps, Rests}

-- what is known tells the used slots
pub uses_just : {knows : Header → List ℕ → Type 0} {used : List Bool} {opened : List (ℕ × List Bool)} {cells : ℕ × ℕ × Bool} → IsKnowledge knows used opened cells → (header : Header) (file : List ℕ) → knows header file → UsesJust header file used
uses_just right header file known m is = let all = right.measured header file m is known in (all.size, all.covered)

-- of a file that isn't too large all regions are counted
all_regions : (eof most regions len : ℕ) → regions ≡ min most (regions_to eof) → len ≡ 3968 * most → len ≡ 3968 * 8192 → eof ≤ LARGEST → regions ≡ regions_to eof
all_regions eof most regions len is size whole small = omega (arith, is, size, whole, small)

-- from what is held behind a shut gate a save can go on
pub can_save : {knows : Header → List ℕ → Type 0} {used : List Bool} {opened : List (ℕ × List Bool)} {cells : ℕ × ℕ × Bool} {found : List ℕ} {header : Header} {world : World} {N : Nodes} → IsKnowledge knows used opened cells → Holds knows found header world N → (world.tells → IsShut world.here.side)
    → (slots : List Bool) (most regions end : ℕ) → slots ≡ used → length slots ≡ 3968 * most → regions ≡ min most (regions_to header.eof) → end ≡ region_end regions → CanSave found header end world N
can_save {knows} {used} {opened} {cells} {found} {header} {world} {N} right held shut slots most regions end are size count reach =
    let file = held.1.stands.file in
    let just = uses_just right file.header (file_of world.here) (subst (λ h. knows h (file_of world.here)) (sym held.1.own) held.1.known) file.m file.lays in
    let small : header.eof ≤ LARGEST = subst (λ (h : Header). h.eof ≤ LARGEST) held.1.own file.lays.small_enough in
    let all : regions ≡ regions_to header.eof = all_regions header.eof most regions (length slots) count size (ap length are ∙ just.0) small in
    record {
      rests = λ t. record { shut = shut t; stands = held.1.stands; own = held.1.own };
      regions = reach ∙ ap region_end all;
    }

-- what stands behind a shut gate is held
pub rests_keeps : {found : List ℕ} {header : Header} {image : Image} {N : Nodes} (knows : Header → List ℕ → Type 0) → Rests found header image N → knows header (file_of image) → Keeps knows found header image N
rests_keeps knows rests known = record { stands = rests.stands; own = rests.own; known = known }

-- one run and then the other
pub nodes_then : {old mid new : World} (found : List ℕ) (N : Nodes) {last next : List ℕ} → next ≡ last → (new.tells → mid.tells) → LeavesNodes old mid found N last → LeavesNodes mid new found N next → LeavesNodes old new found N last
nodes_then {old} {mid} {new} found N {last} {next} same told first second =
    continues first second (λ c t both. (both.0 ∙ (first.here (told t)).0, subst (λ l. Stands found c N l) same both.1))

trees_then : {a b c : Header} → SameTrees a b → SameTrees b c → SameTrees a c
trees_then one two = record {
  nbt = two.nbt ∙ one.nbt;
  bbt = two.bbt ∙ one.bbt;
  next_block = two.next_block ∙ one.next_block;
  next_page = two.next_page ∙ one.next_page;
  indexes = two.indexes ∙ one.indexes;
}

-- both headers name the same trees, and the second vouches for the maps
pub is_saved : {knows : Header → List ℕ → Type 0} {found : List ℕ} {header mid next : Header} {old new : Image} {N : Nodes} → Keeps knows found header old N → SameTrees header mid → SameTrees mid next → mid.kept ≡ header.kept → next.kept ≡ mid.kept → Rests found next new N → HasMaps next (file_of new) → IsSaved (512 * regions_to header.eof + 4096) old new
is_saved {knows} {found} {header} {mid} {next} {old} {new} {N} held one two kept_one kept_two rests maps = record {
  before = header;
  was = (held.stands).file.read ∙ ap Ok held.own;
  after = next;
  is = (rests.stands).file.read ∙ ap Ok rests.own;
  trees = trees_then one two;
  kept = kept_two ∙ kept_one;
  maps = maps;
  few = omega arith;
}
