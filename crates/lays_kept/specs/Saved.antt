-- What a save leaves of a file: its trees, and map pages that show which slots are used.
use Rattle.std.specs.Prelude.{◌≡◌, ◌<◌, ℕ, zero, suc, ◌+◌, ◌-◌, ◌*◌, nat_lt, if◌then◌else◌, Bool, List, [], ◌∷◌, length, take, drop, replicate}
use Rattle.pst_header.specs.declared.header.Header.{Header}
use Rattle.alloc_map.specs.Slots.{start_of}
use Rattle.alloc_map.specs.Standing.{occupied, IsCovered}
use Rattle.alloc_map.specs.Maps.{IsMapPage}
use Rattle.file_layout.specs.Nodes.{NodeMap, Lays, places_of}
use Rattle.lays_kept.specs.declared.Piece.{Piece}
use Rattle.lays_kept.specs.Kept.{Each, SameAt}
use Rattle.lays_kept.specs.Stands.{Maps}

-- where so many regions end
abbrev pub region_end : ℕ → ℕ
region_end n = 0x4400 + 253952 * n

-- both headers name the same trees, next numbers and counters
pub record SameTrees (old new : Header) : Type 0 where
  pub nbt : new.nbt ≡ old.nbt
  pub bbt : new.bbt ≡ old.bbt
  pub next_block : new.next_block ≡ old.next_block
  pub next_page : new.next_page ≡ old.next_page
  pub indexes : new.indexes ≡ old.indexes

-- where the map pages of the first regions stand, as pieces of zeros
abbrev pub map_pieces : ℕ → List Piece
map_pieces zero = []
map_pieces (suc r) = record { at = start_of (3968 * r); bytes = replicate 512 0 } ∷ map_pieces r

-- the first regions have the map pages of these used slots
abbrev pub HoldsMaps : List Bool → ℕ → List ℕ → Type 0
HoldsMaps used n file = (r : ℕ) → r < n → IsMapPage used r (take 512 (drop (start_of (3968 * r)) file))

-- the last byte of a file that is to end there, where it ends before
abbrev pub last_byte : ℕ → ℕ → List Piece
last_byte eof end = if nat_lt eof end then record { at = end - 1; bytes = 0 ∷ [] } ∷ [] else []

-- Both files lay the same nodes by the same trees, whose pages and blocks have the same bytes in both.
pub record LaysSame (old new : Header) (file other : List ℕ) : Type 0 where
  pub m : NodeMap
  pub was : Lays old file m
  pub is : Lays new other m
  pub blocks : is.blocks ≡ was.blocks
  pub nodes : is.nodes ≡ was.nodes
  pub trees : SameTrees old new
  pub bytes : Each (SameAt file other) (places_of was.blocks was.nodes)

-- Of a file that lays nodes just the slots of its pages and blocks and of all fixed pages are used, among those of the most regions that a file may have.
abbrev pub UsesJust : Header → List ℕ → List Bool → Type 0
UsesJust header file used = (m : NodeMap) (is : Lays header file m) → (length used ≡ 3968 * 8192) × IsCovered (occupied (places_of is.blocks is.nodes) 8192) used

-- the header vouches for the maps of the file, which are right
pub record HasMaps (header : Header) (file : List ℕ) : Type 0 where
  pub valid : header.maps ≡ 2
  pub m : NodeMap
  pub lays : Lays header file m
  pub maps : Maps header file (places_of lays.blocks lays.nodes)
