-- A draft as contracts see it.
use Rattle.std.specs.Prelude.{Bool}
use Rattle.std.specs.List.{list_all}
use Rattle.std.specs.FinMap as map
use Rattle.mail_tree.specs.Changing.{Changed, entry_fits}
use Rattle.mail_draft.specs.declared.draft.Draft.{Draft}

-- what the draft changes
abbrev pub changed_of : Draft → Changed
changed_of d = record { objects = map.from_entries d.objects.entries }

-- all objects are small enough to be written, or are to go
abbrev pub all_fit : Changed → Bool
all_fit D = list_all entry_fits (map.entries D.objects)
