-- What a command comes to, as contracts see it.
use Rattle.std.specs.Prelude.{ℕ, List, Option, None, Some}
use Rattle.node_port.specs.declared.node.Counts.{Counts}
use Rattle.mail_tree.specs.declared.places.FolderPlace.{FolderPlace}
use Rattle.mail_tree.specs.Tree.{Tree}
use Rattle.mail_tree.specs.Folders as tree
use Rattle.mail_draft.specs.declared.outcome.Outcome.{Outcome}
use Rattle.mail_draft.specs.Drafts.{changed_of}

-- the places after a command, where they changed
abbrev pub places_after : List FolderPlace → Option (List FolderPlace) → List FolderPlace
places_after old None = old
places_after old (Some new) = new

-- the counters after a command, where they changed
abbrev pub last_after : List ℕ → Option Counts → List ℕ
last_after old None = old
last_after old (Some new) = new.last

-- what it comes to on a tree
abbrev pub outcome_of : Tree → Outcome → tree.Outcome
outcome_of T o = record { changed = changed_of o.draft; places = places_after T.places o.places; last = last_after T.last o.last; reply = o.reply }
