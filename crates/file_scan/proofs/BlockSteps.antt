-- Blocks, one by one.
use Rattle.std.proofs.Common.{◌≡◌, ℕ, ◌≤◌, ◌<◌, ◌+◌, ◌%◌, List, [], ◌∷◌, length, drop, get_or, sym, subst, arith, inr, zero, suc, map, ◌++◌, ◌*◌, All}
use Rattle.data_tree.proofs.ListingLaws.{drop-here}
use Rattle.pst_outside.specs.World.{Image, World}
use Rattle.pst_outside.specs.Calls.{Untouched}
use Rattle.btree_pages.specs.declared.entry.BlockEntry.{BlockEntry}
use Rattle.file_blocks.specs.declared.check.BlockRefusal.{BlockRefusal}
use Rattle.file_blocks.specs.Blocks.{Stands, AllStand}
use Rattle.file_blocks.specs.Stops.{Tells, IsPlaced}
use Rattle.block_frame.specs.Size.{disk_size_of}
use Rattle.pst_base.specs.declared.ids.Bref.{Bref}
use Rattle.pst_base.specs.declared.places.Place.{Place}
use Rattle.alloc_map.specs.Slots.{IsLaid}
use Rattle.file_layout.specs.Nodes.{place_of, LARGEST, regions_to}
use Rattle.file_layout.specs.Trees.{IsPlace, AllPages, page_place}
use Rattle.file_scan.specs.Parts.{AllPlaced, AllShort}
use Rattle.file_scan.specs.Scan.{IsFirstBad}

-- a world that tells after calls that change nothing
pub tells-here : {first now : World} {eof : ℕ} → Untouched first now → (first.tells → eof ≤ length first.here.main) → now.tells → Tells now eof
tells-here {first} {now} {eof} same whole told =
    record { tells = told; whole = subst (λ (i : Image). eof ≤ length i.main) (sym (same.stays.here told)) (whole (same.stays.told told)) }

-- of these entries i name whole blocks: if the others do, all do, and the first of the others that doesn't is that of all
pub record Checking (file : List ℕ) (eof : ℕ) (blocks : List BlockEntry) (i : ℕ) : Type 0 where
  pub stand : AllStand file eof (drop i blocks) → AllStand file eof blocks
  pub bad : (ib : ℕ) (fault : BlockRefusal) → IsFirstBad file eof (drop i blocks) ib fault → IsFirstBad file eof blocks ib fault

pub checking-next : (file : List ℕ) (eof : ℕ) (blocks : List BlockEntry) (i : ℕ) (d : BlockEntry) → i < length blocks → Checking file eof blocks i → Stands file eof (get_or blocks i d) → Checking file eof blocks (i + 1)
checking-next file eof blocks i d within checking stands =
    let here = sym (drop-here blocks i d within) in
    record {
      stand = λ h. checking.stand (subst (AllStand file eof) here (stands, h));
      bad = λ ib fault h. checking.bad ib fault (subst (λ (es : List BlockEntry). IsFirstBad file eof es ib fault) here (inr (stands, h)));
    }

-- ---- places

placed-place : (eof : ℕ) (e : BlockEntry) → IsPlaced eof e → IsPlace eof (place_of e)
placed-place eof e placed = record { above = placed.above; start = placed.start; whole = slots e.cb; before = placed.before }
  where
    slots : (cb : ℕ) → disk_size_of cb % 64 ≡ 0
    slots cb = omega arith

pub placing-next : (eof : ℕ) (blocks : List BlockEntry) (i : ℕ) (d : BlockEntry) → i < length blocks → (AllPlaced eof (drop i blocks) → AllPlaced eof blocks) → IsPlaced eof (get_or blocks i d)
    → AllPlaced eof (drop (i + 1) blocks) → AllPlaced eof blocks
placing-next eof blocks i d within so_far placed rest = so_far (subst (AllPlaced eof) (sym (drop-here blocks i d within)) (placed, rest))

pub all-short : (eof : ℕ) (blocks : List BlockEntry) → AllPlaced eof blocks → AllShort blocks
all-short eof [] placed = tt
all-short eof (e ∷ es) placed = (placed.0.short, all-short eof es placed.1)

pub short-at : (blocks : List BlockEntry) (i : ℕ) (d : BlockEntry) → AllShort blocks → i < length blocks → (get_or blocks i d).cb ≤ 8176
short-at [] i d short within = absurd (not-below i within)
  where
    not-below : (n : ℕ) → n < 0 → ⊥
    not-below n h = omega (arith, h)
short-at (e ∷ es) zero d short within = short.0
short-at (e ∷ es) (suc i) d short within = short-at es i d short.1 (omega (arith, within))

laid : (eof : ℕ) (p : Place) → eof ≤ LARGEST → IsPlace eof p → IsLaid (regions_to eof) p
laid eof p small place = record { above = place.above; start = place.start; whole = place.whole; within = let b = place.before in fits eof (p.ib + p.len) b }
  where
    fits : (eof end : ℕ) → end ≤ eof → end ≤ 0x4400 + 253952 * regions_to eof
    fits eof end h = omega (arith, h)

all-none : {X : Type 0} (P : X → Type 0) → All P []
all-none P k d within = absurd (not-below k within)
  where
    not-below : (n : ℕ) → n < 0 → ⊥
    not-below n h = omega (arith, h)

all-more : {X : Type 0} (P : X → Type 0) (x : X) (xs : List X) → P x → All P xs → All P (x ∷ xs)
all-more P x xs here rest zero d within = here
all-more P x xs here rest (suc k) d within = rest k d (omega (arith, within))

blocks-laid : (eof : ℕ) (blocks : List BlockEntry) → eof ≤ LARGEST → AllPlaced eof blocks → All (IsLaid (regions_to eof)) (map place_of blocks)
blocks-laid eof [] small placed = all-none (IsLaid (regions_to eof))
blocks-laid eof (e ∷ es) small placed =
    all-more (IsLaid (regions_to eof)) (place_of e) (map place_of es) (laid eof (place_of e) small (placed-place eof e placed.0)) (blocks-laid eof es small placed.1)

all-laid : (eof : ℕ) (pages : List Bref) (blocks : List BlockEntry) → eof ≤ LARGEST → AllPages eof pages → AllPlaced eof blocks → All (IsLaid (regions_to eof)) (map page_place pages ++ map place_of blocks)
all-laid eof [] blocks small pages placed = blocks-laid eof blocks small placed
all-laid eof (p ∷ ps) blocks small pages placed =
    all-more (IsLaid (regions_to eof)) (page_place p) (map page_place ps ++ map place_of blocks) (laid eof (page_place p) small pages.0) (all-laid eof ps blocks small pages.1 placed)

-- the same of the list that they were put into
pub laid-in : (eof regions : ℕ) (pages : List Bref) (blocks : List BlockEntry) (all : List Place) → eof ≤ LARGEST → AllPages eof pages → AllPlaced eof blocks
    → all ≡ map page_place pages ++ map place_of blocks → regions ≡ regions_to eof → All (IsLaid regions) all
laid-in eof regions pages blocks all small whole placed is count =
    let one : All (IsLaid (regions_to eof)) all = subst (All (IsLaid (regions_to eof))) (sym is) (all-laid eof pages blocks small whole placed) in
    subst (λ (n : ℕ). All (IsLaid n) all) (sym count) one
