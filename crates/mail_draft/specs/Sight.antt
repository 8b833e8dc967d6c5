-- What a desk is to contracts, and what calls on it say.
use Rattle.std.specs.Prelude.{◌≡◌, ◌≤◌, ℕ, Bool, Option, Some, Result, IfErr}
use Rattle.mapi_values.specs.Messages.{Mes}
use Rattle.mail_objects.specs.declared.object.Object.{Object}
use Rattle.mail_objects.specs.declared.object.Object.TheVariants.{Message}
use Rattle.mail_tree.specs.Tree.{Tree, object_at}
use Rattle.mail_tree.specs.Changing.{Answer, Changed, with_object}
use Rattle.mail_draft.specs.declared.stop.Stop.{Stop}
use Rattle.mail_draft.specs.Answers.{IsCaused, Says}

-- a desk, of type A
pub record Sight (A : Type 0) : Type 1 where
  -- the trees that it shows: one that tells nothing shows none
  pub shows : Tree → Type 0
  -- what the line has changed so far
  pub changed : Changed
  -- whether it has a disk, and how often that has failed
  pub disk : Bool
  pub faults : ℕ
  -- whether it comes of an earlier one by calls alone, which leave what stands around it
  pub since : A → Type 0

-- A call that only looks: each tree that was shown is shown still, nothing has changed, and a fault comes of the disk alone.
pub record Reads {A R : Type 0} (old new : Sight A) (result : Result R Stop) : Type 0 where
  pub shows : (T : Tree) → old.shows T → new.shows T
  pub changed : new.changed ≡ old.changed
  pub disk : new.disk ≡ old.disk
  pub faults : old.faults ≤ new.faults
  pub since : (first : A) → old.since first → new.since first
  pub cause : IfErr result (IsCaused old.disk old.faults new.faults)

-- A call that changes the draft, and else only looks.
pub record Drafts {A R : Type 0} (old new : Sight A) (result : Result R Stop) : Type 0 where
  pub shows : (T : Tree) → old.shows T → new.shows T
  pub disk : new.disk ≡ old.disk
  pub faults : old.faults ≤ new.faults
  pub since : (first : A) → old.since first → new.since first
  pub cause : IfErr result (IsCaused old.disk old.faults new.faults)

-- so it is of each tree that the desk shows
abbrev pub IsAbout : {A : Type 0} → Sight A → (Tree → Type 0) → Type 0
IsAbout desk P = (T : Tree) → desk.shows T → P T

-- The result, seen by view, is what the step makes of each tree that is shown and of the changes so far.
pub record Answers {A X Y : Type 0} (desk : Sight A) (view : Y → X) (step : Tree → Changed → Answer X) (result : Result Y Stop) : Type 0 where
  pub says : (T : Tree) → desk.shows T → Says view (step T desk.changed) result

-- The changes are what the step makes of each tree that is shown and of the changes so far.
pub record Changes {A Y : Type 0} (old new : Sight A) (step : Tree → Changed → Answer Changed) (result : Result Y Stop) : Type 0 where
  pub says : (T : Tree) → old.shows T → Says (λ y. new.changed) (step T old.changed) result

-- the changes are the same once something is put at this id
abbrev pub SameBeside : ℕ → Changed → Changed → Type 0
SameBeside q old new = (object : Option Object) → with_object q object new ≡ with_object q object old

-- each message of the tree stands at its own id
abbrev pub AreOwn : Tree → Type 0
AreOwn T = (q : ℕ) (m : Mes) → object_at T q ≡ Some (Message m) → m.nid ≡ q
