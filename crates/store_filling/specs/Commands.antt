-- The commands of a large input, one after another.
use Rattle.std.specs.Prelude.{ℕ, ◌-◌, ◌==◌, if◌then◌else◌}
use Rattle.pst_base.specs.declared.ids.Nid.{Nid}
use Rattle.command_text.specs.declared.command.Command.{Command}
use Rattle.command_text.specs.declared.reply.LastLine.{LastLine}
use Rattle.command_text.specs.declared.reply.LastLine.TheVariants as last
use Rattle.command_text.specs.declared.reply.Reply.{Reply}
use Rattle.bulk_maker.specs.Bulk.{criteria_command, folder_command, message_command, search_command}
use Rattle.store_filling.specs.declared.commands.Made.{Made}
use Rattle.store_filling.specs.declared.places.FillPlaces.{FillPlaces}

-- the id that a reply tells of what was made, and 0 where it tells none
abbrev pub id_of : LastLine → Nid
id_of (last.Made id) = id
id_of other = record { bits = 0 }

-- nothing was made yet
abbrev pub nothing_made : Made
nothing_made = record { folder = record { bits = 0 }; search = record { bits = 0 } }

-- the first reply tells the folder, the second the search
abbrev pub made_after : ℕ → Reply → Made → Made
made_after n reply made = if n == 0 then record made { folder = id_of reply.last } else if n == 1 then record made { search = id_of reply.last } else made

-- the command at this place, counted from 0: the first makes the folder, the second the search, the third has the search look in the folder, and each further one makes a message
abbrev pub fill_command : FillPlaces → ℕ → ℕ → Made → Command
fill_command places seed n made =
    if n == 0 then folder_command places.folder seed else if n == 1 then search_command places.search seed else if n == 2 then criteria_command made.search made.folder else message_command made.folder seed (n - 3)
