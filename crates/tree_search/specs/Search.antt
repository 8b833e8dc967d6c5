-- The first entry from a key on.
use Rattle.std.specs.Prelude.{◌≡◌, ◌≤◌, ◌<◌, ◌⊎◌, ℕ, zero, suc, nat_le, if◌then◌else◌, List, [], ◌∷◌, length, slice_index, Option, Some, None}
use Rattle.pst_base.specs.declared.ids.Bref.{Bref}
use Rattle.pst_base.specs.declared.stops.MemOr.{MemOr}
use Rattle.pst_base.specs.declared.stops.MemOr.TheVariants.{Memory, Refused}
use Rattle.pst_base.specs.declared.stops.SourceStop.TheVariants.{Failed, Changed}
use Rattle.pst_base.specs.declared.stops.SourceStop.{SourceStop}
use Rattle.tree_edit.specs.Shapes.{Shape, HasLeaf, HasInner, IsTree}
use Rattle.tree_edit.specs.Source.{Source, Rose}

-- the first entry whose key isn't below a number
abbrev pub first_from : {E : Type 0} → (E → ℕ) → ℕ → List E → Option E
first_from key low [] = None
first_from key low (e ∷ es) = if nat_le low (key e) then Some e else first_from key low es

-- a tree of a level, whose top page has at least so many entries
abbrev pub IsAny : {E : Type 0} → (Bref → Option (Shape E)) → (E → ℕ) → ℕ → ℕ → ℕ → ℕ → Bref → List E → List Bref → Type 0
IsAny find key zero least low high at es ps = HasLeaf find key least low high at es ps
IsAny find key (suc n) least low high at es ps = HasInner find (IsTree find key n) (suc n) least low high at es ps

-- a page is the top of a tree of these entries, of a level up to this one
pub record IsTop {E : Type 0} (find : Bref → Option (Shape E)) (key : E → ℕ) (most : ℕ) (at : Bref) (es : List E) : Type 0 where
  pub level : ℕ
  pub low_enough : level ≤ most
  pub least : ℕ
  pub low : ℕ
  pub high : ℕ
  pub pages : List Bref
  pub tree : IsAny find key level least low high at es pages

-- a stop by the source shows in its count of failures, and no other comes where the pages that it tells are a tree
abbrev pub StopsIn : {A : Type 0} → Source A → Source A → ((Bref → Option (List ℕ)) → Type 0) → MemOr SourceStop → Type 0
StopsIn old new Whole Memory = Unit {0}
StopsIn old new Whole (Refused Failed) = Rose old.fails new.fails
StopsIn old new Whole (Refused (Changed ib stored computed)) = (find : Bref → Option (List ℕ)) → old.holds find → Whole find → ⊥

-- of ascending keys all before this place are below a number
abbrev pub IsStart : List ℕ → ℕ → ℕ → Type 0
IsStart keys low start = (start ≡ 0) ⊎ ((start < length keys) × (slice_index keys start ≤ low))
