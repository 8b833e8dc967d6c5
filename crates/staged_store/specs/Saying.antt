-- What is said to a line within a transaction, and what becomes of the tree, the views and the changes that aren't committed.
use Rattle.std.specs.Prelude.{◌≡◌, ◌⊎◌, ◌<◌, ◌≤◌, ℕ, List, Option, Result, Ok, Err}
use Rattle.std.specs.FinMap as map
use Rattle.std.specs.List.{AllZip}
use Rattle.pst_base.specs.declared.ids.Nid.{Nid}
use Rattle.command_text.specs.declared.command.Command.{Command}
use Rattle.command_text.specs.declared.command.Command.TheVariants.{Save}
use Rattle.command_text.specs.declared.reply.CommandRefusal.TheVariants.{Line}
use Rattle.command_text.specs.declared.reply.LastLine.TheVariants.{NoMemory}
use Rattle.command_text.specs.Replies.{text}
use Rattle.node_port.specs.Stops.{Room}
use Rattle.node_port.specs.declared.node.NodeRec.{NodeRec}
use Rattle.mail_tree.specs.Changing.{Answer}
use Rattle.mail_tree.specs.Folders.{replied}
use Rattle.mail_searches.specs.Criteria.{Coming}
use Rattle.mail_searches.specs.Searching.{Searching}
use Rattle.mail_searches.specs.Step.{outcome}
use Rattle.session_lines.specs.Texts.{transaction_text}
use Rattle.session_lines.specs.declared.line.SessionLine.{SessionLine}
use Rattle.session_lines.specs.declared.line.SessionLine.TheVariants.{Pin, At, Unpin, OpenView, ShowView, CloseView, Embedded, Command as StoreCommand}
use Rattle.session_lines.specs.declared.line.TransactionReply.TheVariants.{Full}
use Rattle.pinned_session.specs.Showing.{AnswersView}
use Rattle.pinned_session.specs.Viewing.{Viewing, standing}
use Rattle.pinned_session.specs.mail_embedding.Meant.{Means}
use Rattle.pinned_session.specs.mail_embedding.declared.meaning.Meaning.{Meaning}
use Rattle.pinned_session.specs.mail_embedding.declared.meaning.Meaning.TheVariants.{Replies, Becomes}
use Rattle.pinned_session.specs.store_session.Run.{Hinders, Steps, Suffices, refused}
use Rattle.pinned_session.specs.store_session.mail_draft.Written.{Writes}
use Rattle.pinned_session.specs.store_session.mail_draft.declared.stop.Stop.{Stop}
use Rattle.pinned_session.specs.store_session.mail_draft.declared.stop.Stop.TheVariants.{Refused}
use Rattle.pinned_session.specs.store_session.mail_store.Space.{WritesNodes}
use Rattle.staged_nodes.specs.Room.{room_beside}
use Rattle.staged_nodes.specs.Sizes.{MOST_STAGED}
use Rattle.staged_nodes.specs.Staged.{Staged, staged_size, with_changes}

-- A transaction that is open: the tree with its searches as its lines left it, the views, and the changes of nodes so far.
pub record Underway : Type 0 where
  pub now : Searching
  pub views : Viewing
  pub nodes : Staged

-- the changes that a command makes of nodes are those of the objects that it puts or removes
abbrev pub AreOf : Coming → List (Nid × Option NodeRec) → Type 0
AreOf o cs = AllZip Writes (map.entries o.outcome.changed.objects) cs

-- what a command adds to the changes: those of its nodes; a refused one nothing
abbrev pub Adds : Answer Coming → Staged → Staged → Type 0
Adds (Ok o) F G = (WritesNodes o.outcome.changed → (cs : List (Nid × Option NodeRec)) × AreOf o cs × (G ≡ with_changes F cs)) × (o.outcome.changed.objects ≡ map.empty → G ≡ F)
Adds (Err refusal) F G = G ≡ F

-- with the changes of a command the transaction would put too much
abbrev pub IsTooMuch : Answer Coming → Staged → Type 0
IsTooMuch (Ok o) F = WritesNodes o.outcome.changed × (cs : List (Nid × Option NodeRec)) × AreOf o cs × (MOST_STAGED < staged_size (with_changes F cs))
IsTooMuch (Err refusal) F = ⊥

-- the views behind a command: those of folders that are there then; a refused one leaves them
abbrev pub views_after : Answer Coming → Searching → Viewing → Viewing
views_after (Ok o) X V = standing X.tree.places V
views_after (Err refusal) X V = V

-- Beside a keeper with this room: what is said to a line, and what is underway after it.
module _ (room : Room) (before : Underway) where
  -- the room that is left for a command
  abbrev pub left : Room
  left = room_beside (staged_size before.nodes) room

  -- a command of the store was carried out, for which there was room
  pub record StepsOn (c : Command) (said : List ℕ) (after : Underway) : Type 0 where
    pub steps : Steps before.now c said after.now
    pub suffices : Suffices left before.now c
    pub adds : Adds (outcome before.now c) before.nodes after.nodes
    pub few : staged_size after.nodes ≤ MOST_STAGED
    pub views : after.views ≡ views_after (outcome before.now c) after.now before.views

  -- the same, or it has no room in the file or in the transaction, and changes nothing
  abbrev pub StagesCommand : Command → List ℕ → Underway → Type 0
  StagesCommand c said after =
      StepsOn c said after
      ⊎ ((Hinders left before.now c said after.now × (after ≡ before))
      ⊎ ((said ≡ transaction_text Full) × IsTooMuch (outcome before.now c) before.nodes × (after ≡ before)))

  -- a line on views was answered
  abbrev pub ShowsOn : SessionLine → List ℕ → Underway → Type 0
  ShowsOn asked said after = (V : Viewing) × AnswersView before.now before.views asked said V × (after ≡ record before { views = V })

  -- what a line on the message in an attachment comes to was done: a reply, a command of the store, or a refusal
  abbrev pub MeansOn : Result Meaning Stop → List ℕ → Underway → Type 0
  MeansOn (Ok (Replies reply)) said after = (said ≡ text reply) × (after ≡ before)
  MeansOn (Ok (Becomes c)) said after = StagesCommand c said after
  MeansOn (Err (Refused refusal)) said after = (said ≡ refused refusal) × (after ≡ before)
  MeansOn (Err lost) said after = ⊥

  -- the line is none within a transaction
  abbrev pub RefusesOn : List ℕ → Underway → Type 0
  RefusesOn said after = (said ≡ refused Line) × (after ≡ before)

  -- what a line asks for was done; `save` and lines on pins are none here
  abbrev pub SaysOn : SessionLine → List ℕ → Underway → Type 0
  SaysOn (StoreCommand Save) said after = RefusesOn said after
  SaysOn (StoreCommand c) said after = StagesCommand c said after
  SaysOn (OpenView folder tag direction) said after = ShowsOn (OpenView folder tag direction) said after
  SaysOn (ShowView view grouped) said after = ShowsOn (ShowView view grouped) said after
  SaysOn (CloseView view) said after = ShowsOn (CloseView view) said after
  SaysOn (Embedded asked) said after = (meant : Result Meaning Stop) × Means before.now.tree asked meant × MeansOn meant said after
  SaysOn Pin said after = RefusesOn said after
  SaysOn (At pin c) said after = RefusesOn said after
  SaysOn (Unpin pin) said after = RefusesOn said after

  -- want of memory: the line changes nothing
  abbrev pub LacksOn : List ℕ → Underway → Type 0
  LacksOn said after = (said ≡ text (replied NoMemory)) × (after ≡ before)
