-- How a session ends.
use Rattle.std.specs.Prelude.{◌≡◌, ◌⊎◌, ℕ, ◌<◌, ◌≤◌, Bool, true, false, List, [], ◌++◌, length}
use Rattle.std.specs.List.{list_any}
use Rattle.pst_outside.specs.World.{Image, SameDisk, World}
use Rattle.pst_outside.specs.Calls.{LeavesOnly, Settled}
use Rattle.node_port.specs.Pins.{Pins}
use Rattle.mail_transactions.specs.Run.{Run}
use Rattle.mail_transactions.specs.State.{AfterEach, State}
use Rattle.line_server.specs.Lines.{Piece, is_quit, lines}
use Rattle.line_server.specs.Server.{LINES}
use Rattle.staged_store.specs.pinned_session.store_session.Disks.{Effects, Medium}
use Rattle.staged_store.specs.pinned_session.store_session.Turns.{IsReached, SaysTurns, StandThrough, StoreTurn, disk_after, texts, tree_after}
use Rattle.staged_store.specs.pinned_session.store_session.declared.session.SessionEnd.{SessionEnd}
use Rattle.staged_store.specs.pinned_session.store_session.declared.session.SessionEnd.TheVariants.{Done, Input, Output, Lines, Disk, Changed, Memory}

-- How a session ends that stood in a state at its start. Its replies are those of a run from that state over the first of the lines
-- that it has taken. Where the output failed, the last of the answered lines is the one in hand. `effects` says what room a disk has beside pins and
-- what is made of it, `stands` for which states it stands, `ordered` how states are, and `rests` how the disk is between two commits. `opened` is the disk that the first
-- line finds, with the bytes that were written before.
pub record SessionEnds (effects : Pins → Effects) (stands : Image → State → Type 0) (ordered : State → Type 0) (rests : Image → Type 0) (opened : Medium) (first now : World) (start : State) (end : SessionEnd) : Type 0 where
  -- what was taken of the input, and whether it was all
  pub taken : List ℕ
  pub input : now.tells → first.input ≡ taken ++ now.input
  pub all : Bool
  pub all_of_it : all ≡ true → now.tells → now.input ≡ []
  -- its lines: those that were answered first, and one in hand where the disk failed
  pub answered : List Piece
  pub hand : List Piece
  pub left : List Piece
  pub one : length hand ≤ 1
  pub cuts : lines all taken ≡ answered ++ (hand ++ left)
  pub none_in_hand : (end ≡ Disk → ⊥) → hand ≡ []
  -- the replies to them are those of a run from disk to disk, which goes on with the line in hand, of whose disk nothing is told
  pub turns : List (StoreTurn State)
  pub last : List (StoreTurn State)
  pub run : Run effects now.tells start opened answered turns
  pub in_hand : Run effects ⊥ (tree_after start turns) (disk_after opened turns) hand last
  -- each state of the run is so
  pub in_order : AfterEach ordered turns
  -- each disk of the run stands for the state of its place, and the last of them is the disk at the end
  pub stand : StandThrough stands start opened turns
  pub disk_is : (end ≡ Disk → ⊥) → now.tells → SameDisk (disk_after opened turns).image now.here
  pub written : (end ≡ Disk → ⊥) → now.written ≡ (disk_after opened turns).written
  -- All replies were said, without that in hand, unless the output failed; then of the last a front was.
  pub front : now.tells → SaysTurns first.here.said turns now.here.said
  pub whole : (end ≡ Output → ⊥) → now.tells → now.here.said ≡ first.here.said ++ texts turns
  -- A stop at any moment since the start leaves a disk that stands for the state after some of the turns, among them each whose reply had begun, and at most one whose reply wasn't said whole.
  pub images : LeavesOnly first now (IsReached stands first.here.said start (turns ++ last))
  -- at the end the disk stands for the last state and nothing is pending, unless it failed
  pub ends_as : (end ≡ Disk → ⊥) → stands now.here (tree_after start turns)
  pub settled : (end ≡ Disk → ⊥) → Settled now
  pub at_rest : (end ≡ Disk → ⊥) → now.tells → rests now.here
  -- the ends and their causes
  pub finished : end ≡ Done → (left ≡ []) × ((all ≡ true) ⊎ (list_any is_quit answered ≡ true))
  pub input_failed : end ≡ Input → (left ≡ []) × (all ≡ false) × (length answered < LINES)
  pub spent : end ≡ Lines → (length answered ≡ LINES) × (list_any is_quit answered ≡ false)
  pub no_memory : end ≡ Memory → (taken ≡ []) × (answered ≡ [])
  pub not_changed : (ib stored computed : ℕ) → end ≡ Changed ib stored computed → ⊥
  pub few : length answered ≤ LINES
