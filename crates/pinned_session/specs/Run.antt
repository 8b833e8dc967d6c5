-- What is said to a line of a session, and the state and the disk after it.
use Rattle.std.specs.Prelude.{◌≡◌, ◌⊎◌, ◌<◌, ◌≤◌, ◌+◌, ◌-◌, ◌^◌, ℕ, Bool, List, [], ◌∷◌, ◌++◌, length, Option, None, Some, Result, Ok, Err}
use Rattle.command_text.specs.declared.command.Command.{Command}
use Rattle.command_text.specs.declared.reply.LastLine.TheVariants.{NoMemory}
use Rattle.command_text.specs.Replies.{text}
use Rattle.mail_embedding.specs.Meant.{Means}
use Rattle.mail_embedding.specs.declared.meaning.Meaning.{Meaning}
use Rattle.mail_embedding.specs.declared.meaning.Meaning.TheVariants.{Replies, Becomes}
use Rattle.mail_tree.specs.Folders.{replied}
use Rattle.mail_searches.specs.Searching.{Searching}
use Rattle.node_port.specs.Pins.{Pins}
use Rattle.node_port.specs.Stops.{Room}
use Rattle.session_lines.specs.Texts.{pin_text}
use Rattle.session_lines.specs.declared.line.PinReply.TheVariants.{Pinned, Unpinned, NoPin, PinsFull}
use Rattle.session_lines.specs.declared.line.SessionLine.{SessionLine}
use Rattle.session_lines.specs.declared.line.SessionLine.TheVariants.{Pin, At, Unpin, OpenView, ShowView, CloseView, Embedded, Command as StoreCommand}
use Rattle.store_session.specs.Disks.{Effects, Medium, SameMedium}
use Rattle.store_session.specs.Run.{CommandAnswers, Steps, refused}
use Rattle.store_session.specs.mail_draft.declared.stop.Stop.{Stop}
use Rattle.store_session.specs.mail_draft.declared.stop.Stop.TheVariants.{Refused}
use Rattle.pinned_session.specs.Sitting.{Sitting, pins_of, tree_at, with_tree, without_pin}
use Rattle.pinned_session.specs.Showing.{AnswersView}
use Rattle.pinned_session.specs.Viewing.{Viewing}

-- a pin of the present tree was made, with the next number, where fewer than 16 were open and a number was left
pub record MakesPin (before after : Sitting) : Type 0 where
  pub few : length before.pins < 16
  pub left : before.given < 2 ^ 32 - 1
  pub used : List Bool
  pub is : after ≡ record before { given = before.given + 1; pins = before.pins ++ record { number = before.given + 1; used = used; tree = before.now } ∷ [] }

-- no pin can be made: 16 are open, or all numbers of 32 bits were given
abbrev pub IsFull : Sitting → Type 0
IsFull S = (16 ≤ length S.pins) ⊎ (2 ^ 32 - 1 ≤ S.given)

-- what is said to a command that only asks: its step on the tree of the pin, which leaves that tree, or that there is no such pin
abbrev pub AsksPin : Option Searching → Command → List ℕ → Type 0
AsksPin (Some X) c said = Steps X c said X
AsksPin None c said = said ≡ pin_text NoPin

-- what is said where a pin is given up, or is none
abbrev pub unpinned_text : Option Searching → List ℕ
unpinned_text (Some X) = pin_text Unpinned
unpinned_text None = pin_text NoPin

-- From the state `before` and the disk `old` on, over which a keeper has this room: what is said, and the state and the disk after it. `effects`
-- says what room a disk has beside pins and what is made of it; what becomes of the disk is said where `told`.
module _ (effects : Pins → Effects) (room : Room) (before : Sitting) (old : Medium) (told : Type 0) where
  -- nothing changed
  abbrev pub Stays : Sitting → Medium → Type 0
  Stays after new = (after ≡ before) × (told → SameMedium old new)

  -- what is said to a command of the store, and the tree after it; the pins stay, and so do the views of folders that are there
  abbrev pub CarriesCommand : Command → List ℕ → Sitting → Medium → Type 0
  CarriesCommand c said after new = (Y : Searching) × CommandAnswers (effects (pins_of before)) room before.now old told c said Y new × (after ≡ with_tree Y before)

  -- a pin was made, or can't be
  abbrev pub CarriesPin : List ℕ → Sitting → Medium → Type 0
  CarriesPin said after new =
      (MakesPin before after × (said ≡ pin_text (Pinned after.given)) × (told → SameMedium old new))
      ⊎ (IsFull before × (said ≡ pin_text PinsFull) × Stays after new)

  -- a line on views was answered: the tree and the pins stay
  abbrev pub CarriesView : SessionLine → List ℕ → Sitting → Medium → Type 0
  CarriesView asked said after new = (V : Viewing) × AnswersView before.now before.views asked said V × (after ≡ record before { views = V }) × (told → SameMedium old new)

  -- what a line on the message in an attachment comes to: a reply, a command of the store, or a refusal
  abbrev pub CarriesMeant : Result Meaning Stop → List ℕ → Sitting → Medium → Type 0
  CarriesMeant (Ok (Replies reply)) said after new = (said ≡ text reply) × Stays after new
  CarriesMeant (Ok (Becomes c)) said after new = CarriesCommand c said after new
  CarriesMeant (Err (Refused refusal)) said after new = (said ≡ refused refusal) × Stays after new
  CarriesMeant (Err lost) said after new = ⊥

  -- what a line asks for
  abbrev pub Carries : SessionLine → List ℕ → Sitting → Medium → Type 0
  Carries (StoreCommand c) said after new = CarriesCommand c said after new
  Carries Pin said after new = CarriesPin said after new
  Carries (At pin c) said after new = AsksPin (tree_at pin before) c said × Stays after new
  Carries (Unpin pin) said after new = (said ≡ unpinned_text (tree_at pin before)) × (after ≡ without_pin pin before) × (told → SameMedium old new)
  Carries (OpenView folder tag direction) said after new = CarriesView (OpenView folder tag direction) said after new
  Carries (ShowView view grouped) said after new = CarriesView (ShowView view grouped) said after new
  Carries (CloseView view) said after new = CarriesView (CloseView view) said after new
  Carries (Embedded asked) said after new = (meant : Result Meaning Stop) × Means before.now.tree asked meant × CarriesMeant meant said after new

  -- want of memory: the line changes nothing
  abbrev pub LacksMemory : List ℕ → Sitting → Medium → Type 0
  LacksMemory said after new = (said ≡ text (replied NoMemory)) × Stays after new

-- What is said to what a line asks for, or that there was no memory for it.
abbrev pub SaysTo : (Pins → Effects) → Room → Sitting → Medium → SessionLine → Type 0 → List ℕ → Sitting → Medium → Type 0
SaysTo effects room before old asked told said after new = Carries effects room before old told asked said after new ⊎ LacksMemory effects room before old told said after new
