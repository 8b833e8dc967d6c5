-- The commands that make a large input.
use Rattle.std.specs.Prelude.{ℕ, ◌+◌, ◌*◌, ◌%◌, ◌==◌, List, [], ◌∷◌, ◌++◌, Some, codes, replicate, if◌then◌else◌}
use Rattle.std.specs.Fmt.{decimal}
use Rattle.pst_base.specs.declared.ids.Nid.{Nid}
use Rattle.mapi_values.specs.Values.{Val}
use Rattle.value_text.specs.UnitBytes.{units_bytes}
use Rattle.command_text.specs.declared.command.Command.{Command}
use Rattle.command_text.specs.declared.command.Command.TheVariants.{MakeFolder, MakeSearch, NewMessage, SetCriteria}

-- a word, and a number in decimal behind it; the units of ASCII characters are their codes
abbrev pub numbered : List ℕ → ℕ → List ℕ
numbered word n = word ++ codes " " ++ decimal n

-- the folder `Fill SEED`
abbrev pub folder_command : Nid → ℕ → Command
folder_command parent seed = MakeFolder parent (numbered (codes "Fill") seed)

-- the search `Find SEED`
abbrev pub search_command : Nid → ℕ → Command
search_command parent seed = MakeSearch parent (numbered (codes "Find") seed)

-- the subject has the word `invoice`, which a unit 0 ends, whatever its case
abbrev pub restriction : List ℕ
restriction = 0x03 ∷ 0x01 ∷ 0x00 ∷ 0x01 ∷ 0x00 ∷ 0x1F ∷ 0x00 ∷ 0x37 ∷ 0x00 ∷ 0x1F ∷ 0x00 ∷ 0x37 ∷ 0x00 ∷ units_bytes (codes "invoice" ++ 0 ∷ [])

-- the search looks in that folder alone
abbrev pub criteria_command : Nid → Nid → Command
criteria_command search folder = SetCriteria search 0x2 (Some (folder.bits ∷ [])) (Some restriction)

-- the subject of a message: each third is an invoice
abbrev pub subject : ℕ → ℕ → List ℕ
subject seed i = numbered (if (seed + i) % 3 == 0 then codes "invoice" else codes "letter") i

-- the body of a message: letters `a`, 250 more for each message up to the fortieth, and then anew
abbrev pub body : ℕ → List ℕ
body i = replicate (i % 40 * 250) 97

-- a text as the value of this id
abbrev pub text : ℕ → List ℕ → Val
text id units = record { id = id; kind = 0x001F; bytes = units_bytes units }

-- the values that a message gets beside those of every new message
abbrev pub message_values : ℕ → ℕ → List Val
message_values seed i = text 0x0037 (subject seed i) ∷ text 0x1000 (body i) ∷ []

-- the message of this place in their row
abbrev pub message_command : Nid → ℕ → ℕ → Command
message_command folder seed i = NewMessage folder (codes "IPM.Note") i (message_values seed i)
