-- What `info` says and how it ends.
use Rattle.std.specs.Prelude.{◌≡◌, ◌⊎◌, ℕ, Bool, List, ◌++◌, take, Result, Ok, Err}
use Rattle.pst_outside.specs.World.{World}
use Rattle.pst_outside.specs.Calls.{Rose}
use Rattle.pst_header.specs.declared.header.Header.{Header}
use Rattle.gate_file.specs.Effective.{is_open}
use Rattle.file_layout.specs.declared.stops.OpenRefusal.{OpenRefusal}
use Rattle.file_layout.specs.Opening.{opening}
use Rattle.mail_session.specs.Texts.{info_text, refusal_line}
use Rattle.mail_session.specs.Worlds.{KeepsDisk}
use Rattle.mail_session.specs.declared.exit.Status.{Status}
use Rattle.mail_session.specs.declared.exit.Status.TheVariants.{Done, Refused, Disk, Output, Memory}

-- the status and the text of an opening: the seven lines, or the line of the refusal
abbrev pub outcome_of : Result Header OpenRefusal → Bool → Status × List ℕ
outcome_of (Ok h) gate_open = (Done, info_text h gate_open)
outcome_of (Err refusal) gate_open = (Refused, refusal_line refusal)

-- the same of the bytes of the two files
abbrev pub info_outcome : List ℕ → List ℕ → Status × List ℕ
info_outcome main side = outcome_of (opening main side) (is_open side)

-- a text was said, whole for the status that was meant
pub record Says (text : List ℕ) (meant : Status) (old new : World) (status : Status) : Type 0 where
  pub keeps : KeepsDisk old new
  pub input : new.tells → new.input ≡ old.input
  pub failed : (status ≡ meant) ⊎ ((status ≡ Output) × Rose old.out_faults new.out_faults)
  pub front : new.tells → (k : ℕ) × (new.here.said ≡ old.here.said ++ take k text)
  pub whole : (status ≡ Output → ⊥) → new.tells → new.here.said ≡ old.here.said ++ text

-- How a call of `info` ends, over any world. What it says is a front of the text of the files' bytes, and all of it where the
-- status is 0 or 3, which is then the status of those bytes.
pub record InfoEnds (old new : World) (status : Status) : Type 0 where
  pub keeps : KeepsDisk old new
  pub input : new.tells → new.input ≡ old.input
  pub disk_failed : status ≡ Disk → Rose old.disk_faults new.disk_faults
  pub output_failed : status ≡ Output → Rose old.out_faults new.out_faults
  pub statuses : (status ≡ Done) ⊎ (status ≡ Refused) ⊎ (status ≡ Disk) ⊎ (status ≡ Output) ⊎ (status ≡ Memory)
  pub front : new.tells → (k : ℕ) × (new.here.said ≡ old.here.said ++ take k (info_outcome old.here.main old.here.side).1)
  pub whole : (status ≡ Done) ⊎ (status ≡ Refused) → new.tells
      → (status ≡ (info_outcome old.here.main old.here.side).0) × (new.here.said ≡ old.here.said ++ (info_outcome old.here.main old.here.side).1)
