-- A commit of a header, in six steps. W stands for the new bytes outside of the header, h for the new header.
--
--   1. The new bytes W are planned in memory, in places that the old header doesn't use. On disk: the old file.
--   2. W is written to Main and Main is synced. On disk: the old file, under the old header (the crate that plans).
--   3. arm: 15 zeros and h are written at Side 1 and Side is synced. On disk: the old file, and after it h behind a
--      closed gate (`arm`: same, shut_at_any_moment, armed).
--   4. fire: 1 is written at Side 0 and Side is synced. On disk: the old file, or the old file under h, and after it the
--      latter (`fire`: either, fired, open_in_images). This is the commit.
--   5. settle: h is written at Main 0 and Main is synced. On disk: the new file, whatever a crash leaves of Main's own
--      header, since the gate is open (`settle`: same, stays_open, main).
--   6. disarm: 0 is written at Side 0 and Side is synced. On disk: the new file, whatever the gate's byte is, since Main
--      has the header that Side has (`disarm`: same, closed). Nothing else of Side is pending (`disarm`: any_moment).
--
-- `commit_header` is steps 3 to 6 in one call: at each of its moments the old file or the new one stands (`UnderEither`).
--
-- `recover_gate` ends a commit that a crash has cut short: `settle` and `disarm` where the gate is open, and where it is
-- closed by another byte than 0, a new `arm` and `disarm`, so that no torn byte can bring back an old plan.
use Rattle.std.specs.Prelude.{◌≡◌, ◌≢◌, ◌⊎◌, ◌≤◌, ℕ, List, ◌++◌, length, take, drop, replicate, slice_index}
use Rattle.pst_outside.specs.World.{Image, World}
use Rattle.pst_outside.specs.Calls.{NeverFall, LeavesOnly, Settled}
use Rattle.gate_file.specs.Effective.{effective}

-- the gate is closed: the header in Side doesn't count
pub record IsClosed (side : List ℕ) : Type 0 where
  pub size : length side ≡ 580
  pub shut : slice_index side 0 ≢ 1

-- the gate is closed by a whole byte
pub record IsShut (side : List ℕ) : Type 0 where
  pub size : length side ≡ 580
  pub gate : slice_index side 0 ≡ 0

-- the gate is closed, and the whole header stands behind it, after 15 zeros
pub record IsArmed (header side : List ℕ) : Type 0 where
  pub size : length side ≡ 580
  pub shut : slice_index side 0 ≢ 1
  pub zeros : take 15 (drop 1 side) ≡ replicate 15 0
  pub behind : drop 16 side ≡ header

-- the gate is open, and the whole header stands behind it
pub record IsOpen (header side : List ℕ) : Type 0 where
  pub size : length side ≡ 580
  pub gate : slice_index side 0 ≡ 1
  pub behind : drop 16 side ≡ header

-- the gate is open, with any header behind it
pub record HasOpenGate (side : List ℕ) : Type 0 where
  pub size : length side ≡ 580
  pub gate : slice_index side 0 ≡ 1

-- what stands behind the gate's byte
abbrev pub behind_gate : List ℕ → List ℕ
behind_gate header = replicate 15 0 ++ header

-- The store's bytes are those of old, and so is all that isn't of the store. Main is as long as it was, and Side isn't longer than a gate, unless it was.
pub record SameStore (old new : Image) : Type 0 where
  pub store : effective new.main new.side ≡ effective old.main old.side
  pub main : length new.main ≡ length old.main
  pub side : length old.side ≤ 580 → length new.side ≤ 580
  pub copy : new.copy ≡ old.copy
  pub said : new.said ≡ old.said

-- The store's bytes are those of old, or those under the header in Side; all else is as it was.
pub record EitherStore (old new : Image) : Type 0 where
  pub store : (effective new.main new.side ≡ old.main) ⊎ (effective new.main new.side ≡ drop 16 old.side ++ drop 564 old.main)
  pub copy : new.copy ≡ old.copy
  pub said : new.said ≡ old.said

-- The store's bytes are Main as it was, or that under another header; Side has a gate's length, and all else is as it was.
pub record UnderEither (header : List ℕ) (old new : Image) : Type 0 where
  pub file : (effective new.main new.side ≡ old.main) ⊎ (effective new.main new.side ≡ header ++ drop 564 old.main)
  pub main : length new.main ≡ length old.main
  pub side : length new.side ≡ 580
  pub copy : new.copy ≡ old.copy
  pub said : new.said ≡ old.said

-- The header stands in Main over the bytes that were there, and the gate is shut; all else is as it was.
pub record IsCommitted (header : List ℕ) (old new : Image) : Type 0 where
  pub main : new.main ≡ header ++ drop 564 old.main
  pub shut : IsShut new.side
  pub copy : new.copy ≡ old.copy
  pub said : new.said ≡ old.said

-- The store stays at every moment; it is the parts that may change.
pub record KeepsStore (old new : World) : Type 0 where
  pub counts : NeverFall old new
  pub told : new.tells → old.tells
  pub input : new.tells → new.input ≡ old.input
  pub store : new.tells → SameStore old.here new.here
  pub any_moment : Settled old → LeavesOnly old new (SameStore old.here)
