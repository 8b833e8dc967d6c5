-- A file as a source of pages.
use Rattle.std.proofs.Common.{◌≡◌, ◌⊎◌, ◌≤◌, ◌+◌, ◌-◌, ◌*◌, ℕ, List, length, Option, Some, None, Result, Ok, Err, IfOk, IfErr, refl, sym, ap, subst, ◌∙◌, arith, inl}
use Rattle.std.proofs.Math.Nat.{mul-le-mul_right}
use Rattle.pst_base.specs.declared.ids.Bref.{Bref}
use Rattle.pst_base.specs.declared.stops.PageFault.TheVariants.{Count}
use Rattle.pst_base.specs.declared.stops.MemOr.{MemOr}
use Rattle.pst_base.specs.declared.stops.MemOr.TheVariants.{Memory, Refused}
use Rattle.pst_base.specs.declared.stops.SourceStop.{SourceStop}
use Rattle.pst_base.specs.declared.stops.SourceStop.TheVariants.{Failed, Changed}
use Rattle.pst_base.specs.Fields.{number_at}
use Rattle.pst_outside.specs.World.{Image, World}
use Rattle.pst_outside.specs.Calls.{Untouched}
use Rattle.file_blocks.specs.Blocks.{file_of}
use Rattle.file_blocks.proofs.StandLaws.{tells-still}
use Rattle.btree_pages.specs.Pages.{page_of, page_with, is_counted}
use Rattle.page_cache.specs.declared.cache.Cached.{Cached}
use Rattle.page_cache.specs.Cache.{Holds}
use Rattle.tree_edit.specs.Shapes.{Shape, IsWhole}
use Rattle.tree_edit.specs.Pages.{seen, shown, shapes}
use Rattle.tree_edit.specs.declared.plan.Child.{Child}
use Rattle.tree_edit.specs.declared.plan.PlanPage.{PlanPage}
use Rattle.tree_edit.specs.Edits.{edited, puts}
use Rattle.tree_edit.specs.Plans.{IsPlan}
use Rattle.tree_edit.specs.Steps.{IsAnew}
use Rattle.tree_edit.specs.Source.{Source, StopsOn}
use Rattle.tree_search.specs.Search.{StopsIn}
use Rattle.file_pages.specs.InFile.{bodies}
use Rattle.file_pages.specs.Told.{no_page, or_no_page, Caches, Gives, HasTree, PlansIn, StopsUnless}

-- ---- what is no page shows nothing

no-page-fails : (rule : ℕ → ℕ) (size : ℕ) → page_of rule size no_page ≡ Err Count
unfolding page_of page_with is_counted number_at
no-page-fails rule size = refl

shown-total : {E : Type 0} (rule : ℕ → ℕ) (size : ℕ) (entry_of : List ℕ → E) (found : Option (List ℕ)) → shown rule size entry_of (Some (or_no_page found)) ≡ shown rule size entry_of found
shown-total rule size entry_of None = ap (seen rule entry_of) (no-page-fails rule size)
shown-total rule size entry_of (Some body) = refl

shapes-total : {E : Type 0} (rule : ℕ → ℕ) (size : ℕ) (entry_of : List ℕ → E) (find part : Bref → Option (List ℕ)) → ((at : Bref) → find at ≡ Some (or_no_page (part at))) → shapes rule size entry_of find ≡ shapes rule size entry_of part
shapes-total rule size entry_of find part same = λ i at. (ap (shown rule size entry_of) (same at) ∙ shown-total rule size entry_of (part at)) i

-- ---- what a source gives

-- the contents that a file gives
abbrev pub given : List ℕ → ℕ → ℕ → Bref → Option (List ℕ)
given file eof kind at = Some (or_no_page (bodies file eof kind at))

pub gives : {world : World} {eof kind : ℕ} {cached : List (ℕ × Cached)} → Caches world eof kind cached → Gives world eof kind cached (given (file_of world.here) eof kind)
gives caches = record { caches = caches; found = λ at. refl }

-- a tree of the file is one of what it gives
pub tree-given : {E : Type 0} (rule : ℕ → ℕ) (size : ℕ) (entry_of : List ℕ → E) (key : E → ℕ) (file : List ℕ) (eof kind : ℕ) (root : Bref) (es : List E) (find : Bref → Option (List ℕ)) → ((at : Bref) → find at ≡ Some (or_no_page (bodies file eof kind at)))
    → (t : HasTree rule size entry_of key file eof kind root es) → IsWhole (shapes rule size entry_of find) key root es t.0
tree-given {E} rule size entry_of key file eof kind root es find same t =
    subst (λ (f : Bref → Option (Shape E)). IsWhole f key root es t.0) (sym (shapes-total rule size entry_of find (bodies file eof kind) same)) t.1

-- ---- plans

-- two clauses of one answer
pub ok-both : {X T : Type 0} (r : Result X T) (P Q : X → Type 0) → IfOk r P → IfOk r Q → IfOk r (λ x. P x × Q x)
ok-both (Ok x) P Q p q = (p, q)
ok-both (Err e) P Q p q = tt

-- what is planned for the tree of a root, of which each page shows this
abbrev pub PlansOver : {E : Type 0} → (Bref → Option (Shape E)) → (E → ℕ) → Bref → List (ℕ × Option E) → List (PlanPage E) → List Bref → Child → Type 0
PlansOver {E} find key root ds pages freed top = (es : List E) (ps : List Bref) → IsWhole find key root es ps → IsPlan find key pages freed top (edited key es ds) ps

abbrev pub SparesOver : {E : Type 0} → (Bref → Option (Shape E)) → (E → ℕ) → Bref → List (ℕ × Option E) → List (PlanPage E) → List Bref → Type 0
SparesOver {E} find key root ds pages freed = (es : List E) (ps : List Bref) → (whole : IsWhole find key root es ps) → length pages ≤ length freed + (whole.level - 1 + 3) * puts key es ds

abbrev pub BoundsOver : {E : Type 0} → (Bref → Option (Shape E)) → (E → ℕ) → Bref → List (ℕ × Option E) → List (PlanPage E) → List Bref → Type 0
BoundsOver {E} find key root ds pages freed = (es : List E) (ps : List Bref) → (whole : IsWhole find key root es ps) → (length pages ≤ (2 * (whole.level + 2)) * length ds) ⊎ IsAnew whole.level (length ds) freed ps

spare-most : (level few pages freed : ℕ) → level ≤ 7 → pages ≤ freed + (level - 1 + 3) * few → pages ≤ freed + 9 * few
spare-most level few pages freed low spare =
    let nine : level - 1 + 3 ≤ 9 = omega arith in
    let most : (level - 1 + 3) * few ≤ 9 * few = mul-le-mul_right few nine in
    omega (arith, spare, most)

-- of what a file gives it is planned for the file
pub plans-in : {E : Type 0} (rule : ℕ → ℕ) (size : ℕ) (entry_of : List ℕ → E) (key : E → ℕ) (file : List ℕ) (eof kind : ℕ) (root : Bref) (ds : List (ℕ × Option E)) (pages : List (PlanPage E)) (freed : List Bref) (top : Child)
    → PlansOver (shapes rule size entry_of (given file eof kind)) key root ds pages freed top → SparesOver (shapes rule size entry_of (given file eof kind)) key root ds pages freed
    → BoundsOver (shapes rule size entry_of (given file eof kind)) key root ds pages freed
    → PlansIn rule size entry_of key file eof kind root ds pages freed top
plans-in {E} rule size entry_of key file eof kind root ds pages freed top plans spares bounds =
    let same : shapes rule size entry_of (given file eof kind) ≡ shapes rule size entry_of (bodies file eof kind) = shapes-total rule size entry_of (given file eof kind) (bodies file eof kind) (λ at. refl) in
    let over : PlansOver (shapes rule size entry_of (bodies file eof kind)) key root ds pages freed top = subst (λ (f : Bref → Option (Shape E)). PlansOver f key root ds pages freed top) same plans in
    let spare : SparesOver (shapes rule size entry_of (bodies file eof kind)) key root ds pages freed = subst (λ (f : Bref → Option (Shape E)). SparesOver f key root ds pages freed) same spares in
    record {
      plan = over;
      spare = λ es ps whole. spare-most whole.level (puts key es ds) (length pages) (length freed) whole.low_enough (spare es ps whole);
      bound = subst (λ (f : Bref → Option (Shape E)). BoundsOver f key root ds pages freed) same bounds;
    }

-- what a world tells of its pages it tells on
pub caches-still : {old new : World} {eof kind : ℕ} {cached : List (ℕ × Cached)} → Untouched old new → Caches old eof kind cached → Caches new eof kind cached
caches-still {old} {new} {eof} {kind} {cached} same c =
    let told = tells-still same c.told in
    record { told = told; kept = subst (λ (i : Image). Holds (bodies (file_of i) eof kind) cached) (sym (same.stays.here told.tells)) c.kept }

-- a page of the file was put into the cache
pub caches-put : {old new : World} {eof kind : ℕ} {cached now : List (ℕ × Cached)} {body : List ℕ} (at : Bref) → Untouched old new → bodies (file_of old.here) eof kind at ≡ Some body
    → ((find : Bref → Option (List ℕ)) → Holds find cached → find at ≡ Some body → Holds find now) → Caches old eof kind cached → Caches new eof kind now
caches-put {old} {new} {eof} {kind} {cached} {now} {body} at same is put c =
    let told = tells-still same c.told in
    record { told = told; kept = subst (λ (i : Image). Holds (bodies (file_of i) eof kind) now) (sym (same.stays.here told.tells)) (put (bodies (file_of old.here) eof kind) c.kept is) }

pub gives-on : {old new : World} {eof kind : ℕ} {cached now : List (ℕ × Cached)} → Untouched old new → (Caches old eof kind cached → Caches new eof kind now) → (find : Bref → Option (List ℕ)) → Gives old eof kind cached find → Gives new eof kind now find
gives-on {old} {new} {eof} {kind} {cached} {now} same on find g =
    let caches = on g.caches in
    record { caches = caches; found = λ at. g.found at ∙ ap (λ (i : Image). Some (or_no_page (bodies (file_of i) eof kind at))) (sym (same.stays.here caches.told.tells)) }

pub caches-of : {world : World} {eof kind eof' kind' : ℕ} {cached : List (ℕ × Cached)} {find : Bref → Option (List ℕ)} → eof' ≡ eof → kind' ≡ kind → Gives world eof' kind' cached find → Caches world eof kind cached
caches-of {world} {eof} {kind} {eof'} {kind'} {cached} a b g = subst (λ (k : ℕ). Caches world eof k cached) b (subst (λ (e : ℕ). Caches world e kind' cached) a g.caches)

-- ---- stops

stop-on : {A : Type 0} (old new : Source A) (Tells : (Bref → Option (List ℕ)) → Type 0) (first last : World) (Whole : Type 0) → old.fails ≡ first.disk_faults → new.fails ≡ last.disk_faults
    → (Whole → (find : Bref → Option (List ℕ)) × old.holds find × Tells find) → (stop : MemOr SourceStop) → StopsOn Tells old new stop → StopsUnless first last Whole stop
stop-on old new Tells first last Whole a b told Memory stops = tt
stop-on old new Tells first last Whole a b told (Refused Failed) stops = omega (arith, a, b, stops)
stop-on old new Tells first last Whole a b told (Refused (Changed ib stored computed)) stops = λ is. let t = told is in stops.1 t.0 t.1 t.2

stop-in : {A : Type 0} (old new : Source A) (Tells : (Bref → Option (List ℕ)) → Type 0) (first last : World) (Whole : Type 0) → old.fails ≡ first.disk_faults → new.fails ≡ last.disk_faults
    → (Whole → (find : Bref → Option (List ℕ)) × old.holds find × Tells find) → (stop : MemOr SourceStop) → StopsIn old new Tells stop → StopsUnless first last Whole stop
stop-in old new Tells first last Whole a b told Memory stops = tt
stop-in old new Tells first last Whole a b told (Refused Failed) stops = omega (arith, a, b, stops)
stop-in old new Tells first last Whole a b told (Refused (Changed ib stored computed)) stops = λ is. let t = told is in stops t.0 t.1 t.2

-- the same, of a whole answer
pub stops-on : {A X : Type 0} (old new : Source A) (Tells : (Bref → Option (List ℕ)) → Type 0) (first last : World) (Whole : Type 0) (answer : Result X (MemOr SourceStop)) → old.fails ≡ first.disk_faults → new.fails ≡ last.disk_faults
    → (Whole → (find : Bref → Option (List ℕ)) × old.holds find × Tells find) → IfErr answer (StopsOn Tells old new) → IfErr answer (StopsUnless first last Whole)
stops-on old new Tells first last Whole (Ok x) a b told stops = tt
stops-on old new Tells first last Whole (Err stop) a b told stops = stop-on old new Tells first last Whole a b told stop stops

pub stops-in : {A X : Type 0} (old new : Source A) (Tells : (Bref → Option (List ℕ)) → Type 0) (first last : World) (Whole : Type 0) (answer : Result X (MemOr SourceStop)) → old.fails ≡ first.disk_faults → new.fails ≡ last.disk_faults
    → (Whole → (find : Bref → Option (List ℕ)) × old.holds find × Tells find) → IfErr answer (StopsIn old new Tells) → IfErr answer (StopsUnless first last Whole)
stops-in old new Tells first last Whole (Ok x) a b told stops = tt
stops-in old new Tells first last Whole (Err stop) a b told stops = stop-in old new Tells first last Whole a b told stop stops

-- ---- worlds

pub untouched-same : (w : World) → Untouched w w
untouched-same w = record {
  counts = record { in_faults = omega arith; out_faults = omega arith; disk_faults = omega arith };
  stays = record { written = refl; told = λ told. told; here = λ told. refl; input = λ told. refl };
  keeps_told = λ told. told;
  crash = λ i left. left;
  time = record { later = omega arith; nothing_else = λ t i le left. inl left; keeps = λ t i le left. left };
}
