-- How a session in memory ends.
use Rattle.std.specs.Prelude.{◌≡◌, ◌⊎◌, ℕ, ◌<◌, ◌≤◌, Bool, true, false, List, [], ◌++◌, length, take}
use Rattle.std.specs.List.{concat, list_any}
use Rattle.pst_outside.specs.World.{World}
use Rattle.pst_outside.specs.Calls.{Rose}
use Rattle.line_server.specs.declared.end.ServerEnd.{ServerEnd}
use Rattle.line_server.specs.declared.end.ServerEnd.TheVariants as server_ends
use Rattle.line_server.specs.Lines.{Piece, is_quit, lines}
use Rattle.line_server.specs.Server.{LINES}
use Rattle.mail_session.specs.declared.mailbox.NoStop.{NoStop}
use Rattle.mail_session.specs.declared.exit.Status.{Status}
use Rattle.mail_session.specs.declared.exit.Status.TheVariants.{Done, Input, Output, Memory, Lines}
use Rattle.mail_session.specs.Boxes.{IsSession}
use Rattle.mail_session.specs.Worlds.{KeepsDisk}

-- the status of a session whose server of lines ended so
abbrev pub status_of : ServerEnd NoStop → Status
status_of server_ends.Done = Done
status_of server_ends.Input = Input
status_of server_ends.Output = Output
status_of server_ends.Lines = Lines
status_of (server_ends.Stopped never) = elim never [ ]

-- How a session in memory ends, over any world: its replies are those of a run from a new store, whose searches are always fresh, over lines that are the first
-- of those that it has taken.
pub record ScratchEnds (first now : World) (status : Status) : Type 0 where
  -- no disk is touched
  pub keeps : KeepsDisk first now
  -- what was taken of the input, and whether it was all
  pub taken : List ℕ
  pub input : now.tells → first.input ≡ taken ++ now.input
  pub all : Bool
  pub end : all ≡ true → now.tells → now.input ≡ []
  -- its lines, those that were answered first
  pub done : List Piece
  pub left : List Piece
  pub cuts : lines all taken ≡ done ++ left
  -- the replies to them are those of a run, whose running searches list what filtering lists
  pub replies : List (List ℕ)
  pub run : IsSession done replies
  -- a front of the replies was said, and all of them unless the output failed
  pub front : now.tells → (k : ℕ) × (now.here.said ≡ first.here.said ++ take k (concat replies))
  pub whole : (status ≡ Output → ⊥) → now.tells → now.here.said ≡ first.here.said ++ concat replies
  -- the statuses and their causes
  pub statuses : (status ≡ Done) ⊎ (status ≡ Input) ⊎ (status ≡ Output) ⊎ (status ≡ Memory) ⊎ (status ≡ Lines)
  pub finished : status ≡ Done → (left ≡ []) × ((all ≡ true) ⊎ (list_any is_quit done ≡ true))
  pub input_failed : status ≡ Input → Rose first.in_faults now.in_faults × (left ≡ []) × (all ≡ false) × (length done < LINES)
  pub output_failed : status ≡ Output → Rose first.out_faults now.out_faults
  pub no_memory : status ≡ Memory → (taken ≡ []) × (done ≡ [])
  pub spent : status ≡ Lines → (length done ≡ LINES) × (list_any is_quit done ≡ false)
  pub few : length done ≤ LINES
