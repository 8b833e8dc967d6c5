-- What a command comes to that is carried out over a store: what is said, and the tree with its searches and the disk after it.
use Rattle.std.specs.Prelude.{◌≡◌, ◌⊎◌, ℕ, List, Some, Ok}
use Rattle.command_text.specs.declared.command.Command.{Command}
use Rattle.command_text.specs.declared.reply.CommandRefusal.{CommandRefusal}
use Rattle.command_text.specs.declared.reply.LastLine.TheVariants.{NoMemory, Refused}
use Rattle.command_text.specs.declared.reply.Reply.{Reply}
use Rattle.command_text.specs.Replies.{text}
use Rattle.node_port.specs.Stops.{Room}
use Rattle.search_store.specs.mail_draft.declared.stop.Stop.TheVariants as stops
use Rattle.search_store.specs.mail_store.Planning.{IsHindered}
use Rattle.search_store.specs.mail_store.Space.{HasRoom}
use Rattle.mail_tree.specs.Folders.{replied}
use Rattle.mail_searches.specs.Criteria.{Coming}
use Rattle.mail_searches.specs.Searching.{Searching}
use Rattle.mail_searches.specs.Step.{outcome, step}
use Rattle.store_session.specs.Disks.{Effects, Medium, Moves, SameMedium, is_save}

-- the text of a refusal
abbrev pub refused : CommandRefusal → List ℕ
refused refusal = text (replied (Refused refusal))

-- the tree with its searches after a command is that of its step, and the text is that of its reply
abbrev pub Steps : Searching → Command → List ℕ → Searching → Type 0
Steps before c said after = (reply : Reply) × (step before c ≡ Some (after, reply)) × (said ≡ text reply)

-- there was room for what the command writes
abbrev pub Suffices : Room → Searching → Command → Type 0
Suffices room before c = (o : Coming) → outcome before c ≡ Ok o → HasRoom room o.outcome.changed

-- A command that writes and isn't refused has no room in the file, or no number is left: it says so, and changes nothing.
abbrev pub Hinders : Room → Searching → Command → List ℕ → Searching → Type 0
Hinders room before c said after = (o : Coming) × (outcome before c ≡ Ok o) × ((refusal : CommandRefusal) × IsHindered room o.outcome.changed (stops.Refused refusal) × (said ≡ refused refusal)) × (after ≡ before)

-- From the tree with searches `before` and the disk `old` on, over which a keeper has this room: what is said, and the tree and the disk after it. What
-- becomes of the disk is said where `told`.
module _ (effects : Effects) (room : Room) (before : Searching) (old : Medium) (told : Type 0) where
  -- nothing changed
  abbrev pub Stays : Searching → Medium → Type 0
  Stays after new = (after ≡ before) × (told → SameMedium old new)

  -- a command was carried out, for which there was room, or hindered
  abbrev pub CarriesCommand : Command → List ℕ → Searching → Medium → Type 0
  CarriesCommand c said after new =
      (Steps before c said after × Suffices room before c × (told → Moves effects (is_save c) (outcome before c) old new))
      ⊎ (Hinders room before c said after × (told → SameMedium old new))

  -- what is said to a command: its step, or that the file has no room for it, or that there was no memory
  abbrev pub CommandAnswers : Command → List ℕ → Searching → Medium → Type 0
  CommandAnswers c said after new = CarriesCommand c said after new ⊎ ((said ≡ text (replied NoMemory)) × Stays after new)
