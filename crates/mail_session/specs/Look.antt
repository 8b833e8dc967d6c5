-- How `look` over a file ends.
use Rattle.std.specs.Prelude.{◌≡◌, ◌⊎◌, ℕ, ◌<◌, ◌≤◌, Bool, true, false, List, [], ◌++◌, length, take}
use Rattle.std.specs.List.{concat, list_any}
use Rattle.pst_outside.specs.World.{World}
use Rattle.pst_outside.specs.Calls.{Rose}
use Rattle.line_server.specs.declared.end.ServerEnd.{ServerEnd}
use Rattle.line_server.specs.declared.end.ServerEnd.TheVariants as server_ends
use Rattle.line_server.specs.Lines.{Piece, is_quit, lines}
use Rattle.line_server.specs.Server.{LINES}
use Rattle.mail_searches.specs.Searching.{Searching}
use Rattle.file_mending.specs.file_open.Opening.{ReadsTree}
use Rattle.file_filling.specs.store_session.declared.carrying.StoreStop.{StoreStop}
use Rattle.file_filling.specs.store_session.declared.carrying.StoreStop.TheVariants as stops
use Rattle.mail_session.specs.Files.{EndsRefused, NoneFailed}
use Rattle.mail_session.specs.Looking.{LookRun}
use Rattle.mail_session.specs.Worlds.{KeepsDisk}
use Rattle.mail_session.specs.declared.exit.ChangedAt.{ChangedAt}
use Rattle.mail_session.specs.declared.exit.Status.{Status}
use Rattle.mail_session.specs.declared.exit.Status.TheVariants.{Done, Disk, Input, Output, Memory, Lines, Changed}

-- the status of a session whose server of lines ended so
abbrev pub status_of_look : ServerEnd StoreStop → Status
status_of_look server_ends.Done = Done
status_of_look server_ends.Input = Input
status_of_look server_ends.Output = Output
status_of_look server_ends.Lines = Lines
status_of_look (server_ends.Stopped stops.Disk) = Disk
status_of_look (server_ends.Stopped (stops.Changed ib stored computed)) = Changed (record { ib = ib; stored = stored; computed = computed })

-- What a session that only reads leaves of any world: nothing is written, and at each moment the disk is one that was there before. The count of the device that failed rose.
pub record KeepsReading (first now : World) (status : Status) : Type 0 where
  pub keeps : KeepsDisk first now
  pub statuses : (status ≡ Done) ⊎ (status ≡ Disk) ⊎ (status ≡ Input) ⊎ (status ≡ Output) ⊎ (status ≡ Memory) ⊎ (status ≡ Lines) ⊎ ((at : ChangedAt) × (status ≡ Changed at))
  pub disk_failed : status ≡ Disk → Rose first.disk_faults now.disk_faults
  pub input_failed : status ≡ Input → Rose first.in_faults now.in_faults
  pub output_failed : status ≡ Output → Rose first.out_faults now.out_faults

-- How a session over a tree with its searches goes that only reads, in a world that tells: its replies are those of the tree, to lines that are the first of those that it has taken.
pub record LookRuns (X : Searching) (first now : World) (status : Status) : Type 0 where
  -- what was taken of the input, and whether it was all
  pub taken : List ℕ
  pub input : first.input ≡ taken ++ now.input
  pub all : Bool
  pub end : all ≡ true → now.input ≡ []
  -- its lines, those that were answered first
  pub done : List Piece
  pub left : List Piece
  pub cuts : lines all taken ≡ done ++ left
  -- the replies to them are those of the tree
  pub replies : List (List ℕ)
  pub run : LookRun X done replies
  -- a front of the replies was said, and all of them unless the output failed
  pub front : (k : ℕ) × (now.here.said ≡ first.here.said ++ take k (concat replies))
  pub whole : (status ≡ Output → ⊥) → now.here.said ≡ first.here.said ++ concat replies
  -- the ends
  pub finished : status ≡ Done → (left ≡ []) × ((all ≡ true) ⊎ (list_any is_quit done ≡ true))
  pub input_failed : status ≡ Input → (left ≡ []) × (all ≡ false) × (length done < LINES)
  pub no_memory : status ≡ Memory → (taken ≡ []) × (done ≡ [])
  pub spent : status ≡ Lines → (length done ≡ LINES) × (list_any is_quit done ≡ false)
  pub few : length done ≤ LINES
  pub not_changed : (at : ChangedAt) → status ≡ Changed at → ⊥

-- the files weren't read, as the disk failed or there was no memory: no line was taken and nothing was said
abbrev pub LookUnread : World → World → Status → Type 0
LookUnread first now status = ((status ≡ Disk) ⊎ (status ≡ Memory)) × (now.input ≡ first.input) × (now.here.said ≡ first.here.said)

-- The files weren't refused: the disk is kept, and where the world tells they were read as a tree with its searches, whatever these list, and the replies are those of that tree.
pub record LookServes (first now : World) (status : Status) : Type 0 where
  pub keeps : KeepsReading first now status
  pub told : now.tells → LookUnread first now status ⊎ ((X : Searching) × ReadsTree first.here X × LookRuns X first now status)

-- the files were refused, for what is at fault with them: no tree can be read from them, whatever its searches list and its numbers are
abbrev pub LookRefused : World → World → Status → Type 0
LookRefused first now status = EndsRefused first now status × (now.tells → (X : Searching) → ReadsTree first.here X → ⊥)

-- How a call of `look FILE` ends, over any world. The disk is as it was at every moment, whether the files were refused or not.
abbrev pub LookEnds : World → World → Status → Type 0
LookEnds first now status = LookRefused first now status ⊎ LookServes first now status

-- Over files that are read as a tree with its searches, while no device fails, a call of `look FILE` is done, or has answered as many lines as a session takes, or found no memory before it took one.
abbrev pub LookEndsWell : World → World → Status → Type 0
LookEndsWell first now status = now.tells → (X : Searching) → ReadsTree first.here X → NoneFailed first now → (status ≡ Done) ⊎ ((status ≡ Lines) ⊎ (status ≡ Memory))
