-- What is counted of a large input.
use Rattle.std.specs.Prelude.{◌≡◌, ◌⊎◌, ℕ, ◌+◌, ◌-◌, ◌^◌, min, List, [], ◌∷◌, Some, Result, Ok, Err}
use Rattle.pst_base.specs.declared.ids.Nid.{Nid}
use Rattle.command_text.specs.declared.command.Command.TheVariants.{ListFolder}
use Rattle.command_text.specs.declared.reply.DataLine.{DataLine}
use Rattle.command_text.specs.declared.reply.DataLine.TheVariants as lines
use Rattle.mail_reading.specs.mail_draft.declared.stop.Stop.{Stop}
use Rattle.mail_reading.specs.mail_draft.declared.stop.Stop.TheVariants as stops
use Rattle.mail_searches.specs.Criteria.{Coming}
use Rattle.mail_searches.specs.Searching.{Searching}
use Rattle.mail_searches.specs.Step.{outcome}
use Rattle.store_filling.specs.declared.commands.Made.{Made}
use Rattle.store_filling.specs.declared.counting.FillCounts.{FillCounts}

-- 1 for the line of a message
abbrev pub message_in : DataLine → ℕ
message_in (lines.Message id size subject) = 1
message_in other = 0

-- how many of these lines are of a message
abbrev pub messages_in : List DataLine → ℕ
messages_in [] = 0
messages_in (line ∷ rest) = message_in line + messages_in rest

-- the size that the line of a message tells
abbrev pub size_in : DataLine → ℕ
size_in (lines.Message id size subject) = size
size_in other = 0

-- the sizes that these lines tell, in one sum
abbrev pub sizes_in : List DataLine → ℕ
sizes_in [] = 0
sizes_in (line ∷ rest) = size_in line + sizes_in rest

-- `ls` of this folder answered these lines, or why it didn't
abbrev pub ListsSo : Searching → Nid → Result (List DataLine) Stop → Type 0
ListsSo X folder (Ok lines) = (o : Coming) × (outcome X (ListFolder folder) ≡ Ok o) × (lines ≡ o.outcome.reply.lines)
ListsSo X folder (Err (stops.Refused refusal)) = outcome X (ListFolder folder) ≡ Err (Some refusal)
ListsSo X folder (Err stops.Fault) = Unit {0}
ListsSo X folder (Err (stops.Changed ib stored computed)) = ⊥
ListsSo X folder (Err stops.Memory) = Unit {0}

-- Counted are the messages that `ls` lists of the search, and the sizes of those that it lists of the folder, in a sum of 64 bits that stays at its greatest once it is there.
pub record AreCounted (X : Searching) (made : Made) (counts : FillCounts) : Type 0 where
  pub of_search : Coming
  pub listed_so : outcome X (ListFolder made.search) ≡ Ok of_search
  pub listed : counts.listed ≡ messages_in of_search.outcome.reply.lines
  pub of_folder : Coming
  pub sized_so : outcome X (ListFolder made.folder) ≡ Ok of_folder
  pub bytes : counts.bytes ≡ min (sizes_in of_folder.outcome.reply.lines) (2 ^ 64 - 1)

-- both were counted, or why not
abbrev pub CountsSo : Searching → Made → Result FillCounts Stop → Type 0
CountsSo X made (Ok counts) = AreCounted X made counts
CountsSo X made (Err (stops.Refused refusal)) = (outcome X (ListFolder made.search) ≡ Err (Some refusal)) ⊎ (outcome X (ListFolder made.folder) ≡ Err (Some refusal))
CountsSo X made (Err stops.Fault) = Unit {0}
CountsSo X made (Err (stops.Changed ib stored computed)) = ⊥
CountsSo X made (Err stops.Memory) = Unit {0}
