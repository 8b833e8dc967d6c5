-- What a world tells of a file's pages, and why a look into one of its trees stops.
use Rattle.std.specs.Prelude.{◌≡◌, ◌⊎◌, ◌≤◌, ◌+◌, ◌*◌, ℕ, List, length, replicate, Option, None, Some}
use Rattle.pst_base.specs.declared.ids.Bref.{Bref}
use Rattle.pst_base.specs.declared.stops.MemOr.{MemOr}
use Rattle.pst_base.specs.declared.stops.MemOr.TheVariants.{Memory, Refused}
use Rattle.pst_base.specs.declared.stops.SourceStop.{SourceStop}
use Rattle.pst_base.specs.declared.stops.SourceStop.TheVariants.{Failed, Changed}
use Rattle.pst_outside.specs.World.{World}
use Rattle.pst_outside.specs.Calls.{Rose, Untouched}
use Rattle.file_blocks.specs.Blocks.{file_of}
use Rattle.file_blocks.specs.Stops.{Tells}
use Rattle.page_cache.specs.declared.cache.Cached.{Cached}
use Rattle.page_cache.specs.Cache.{Holds}
use Rattle.tree_edit.specs.Shapes.{IsWhole}
use Rattle.tree_edit.specs.Pages.{shapes}
use Rattle.tree_edit.specs.declared.plan.Child.{Child}
use Rattle.tree_edit.specs.declared.plan.PlanPage.{PlanPage}
use Rattle.tree_edit.specs.Edits.{edited, puts}
use Rattle.tree_edit.specs.Plans.{IsPlan}
use Rattle.tree_edit.specs.Steps.{IsAnew}
use Rattle.file_pages.specs.InFile.{bodies}

-- a content that is no page of a tree
abbrev pub no_page : List ℕ
no_page = replicate 496 255

-- a page's content, or for a page that isn't there one that is no page
abbrev pub or_no_page : Option (List ℕ) → List ℕ
or_no_page None = no_page
or_no_page (Some body) = body

-- The world tells a file that ends at eof or later, and the cache has no other pages of a kind than the file's.
pub record Caches (world : World) (eof kind : ℕ) (cached : List (ℕ × Cached)) : Type 0 where
  pub told : Tells world eof
  pub kept : Holds (bodies (file_of world.here) eof kind) cached

-- the same, and find gives the content of each page
pub record Gives (world : World) (eof kind : ℕ) (cached : List (ℕ × Cached)) (find : Bref → Option (List ℕ)) : Type 0 where
  pub caches : Caches world eof kind cached
  pub found : (at : Bref) → find at ≡ Some (or_no_page (bodies (file_of world.here) eof kind at))

-- the pages of a kind below a root in a file are a tree of these entries
abbrev pub HasTree : {E : Type 0} → (ℕ → ℕ) → ℕ → (List ℕ → E) → (E → ℕ) → List ℕ → ℕ → ℕ → Bref → List E → Type 0
HasTree rule size entry_of key file eof kind root es = (ps : List Bref) × IsWhole (shapes rule size entry_of (bodies file eof kind)) key root es ps

-- What edits come to is right for the tree of a root in a file, and has few pages: at most nine for each entry that is put under a new key, beside as many as are freed; and, unless the tree is written anew, at most two for each edit at each level and two more levels.
pub record PlansIn {E : Type 0} (rule : ℕ → ℕ) (size : ℕ) (entry_of : List ℕ → E) (key : E → ℕ) (file : List ℕ) (eof kind : ℕ) (root : Bref) (ds : List (ℕ × Option E)) (pages : List (PlanPage E)) (freed : List Bref) (top : Child) : Type 0 where
  pub plan : (es : List E) (ps : List Bref) → IsWhole (shapes rule size entry_of (bodies file eof kind)) key root es ps
      → IsPlan (shapes rule size entry_of (bodies file eof kind)) key pages freed top (edited key es ds) ps
  pub spare : (es : List E) (ps : List Bref) → IsWhole (shapes rule size entry_of (bodies file eof kind)) key root es ps → length pages ≤ length freed + 9 * puts key es ds
  pub bound : (es : List E) (ps : List Bref) → (whole : IsWhole (shapes rule size entry_of (bodies file eof kind)) key root es ps) → (length pages ≤ (2 * (whole.level + 2)) * length ds) ⊎ IsAnew whole.level (length ds) freed ps

-- a fault shows in the disk's count, and what was found changed never comes where this is so
abbrev pub StopsUnless : World → World → Type 0 → MemOr SourceStop → Type 0
StopsUnless old new Whole Memory = Unit {0}
StopsUnless old new Whole (Refused Failed) = Rose old.disk_faults new.disk_faults
StopsUnless old new Whole (Refused (Changed ib stored computed)) = Whole → ⊥

-- a call read pages of a file: it left the world as it was, and the cache has no other pages than the file's still
pub record Asks (old new : World) (eof kind : ℕ) (cached now : List (ℕ × Cached)) : Type 0 where
  pub same : Untouched old new
  pub caches : Caches old eof kind cached → Caches new eof kind now
