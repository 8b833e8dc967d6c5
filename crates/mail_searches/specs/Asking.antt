-- What becomes of a message in the lists of searches, and what it takes to see it.
use Rattle.std.specs.Prelude.{ℕ, ◌+◌, List, [], ◌∷◌, Option, None, Some, if◌then◌else◌}
use Rattle.mapi_values.specs.Messages.{Mes}
use Rattle.live_search.specs.Touching.{delta, reached_for, work_for}
use Rattle.live_search.specs.declared.touching.Delta.{Delta}
use Rattle.mail_tree.specs.declared.places.FolderPlace.{FolderPlace}
use Rattle.mail_searches.specs.Searches.{Search, in_scope, is_listed, runs}
use Rattle.mail_searches.specs.Relisting.{Around, Touch}

-- the message, if there is one and the search looks in its folder
abbrev pub looked_at : List FolderPlace → Search → Option Mes → Option Mes
looked_at places s None = None
looked_at places s (Some m) = if in_scope places s m.folder then Some m else None

-- what becomes of a message in the list of a search
abbrev pub delta_in : Around → Search → Option Mes → Option Mes → Delta
delta_in d s old new = delta (is_listed d.before s old) (is_listed d.after s new)

-- how many restrictions are reached to see that: none for a message in whose folder the search doesn't look
abbrev pub steps_in : Around → Search → Option Mes → Option Mes → ℕ
steps_in d s old new = reached_for s.restriction (looked_at d.before s old) + reached_for s.restriction (looked_at d.after s new)

-- how many that are at most
abbrev pub work_in : Around → Search → Option Mes → Option Mes → ℕ
work_in d s old new = work_for s.restriction (looked_at d.before s old) + work_for s.restriction (looked_at d.after s new)

-- how many restrictions are reached at most to see what becomes of a message in the list of each running search
abbrev pub work_among : Around → Option Mes → Option Mes → List Search → ℕ
work_among d old new [] = 0
work_among d old new (s ∷ ss) = if runs s then work_in d s old new + work_among d old new ss else work_among d old new ss

-- how many are reached at most to see what becomes of all these messages in the lists of all running searches
abbrev pub work_of : Around → List Touch → List Search → ℕ
work_of d [] ss = 0
work_of d (t ∷ ts) ss = work_among d t.old t.new ss + work_of d ts ss

-- the same folders' places before and after
abbrev pub places_around : List FolderPlace → List FolderPlace → Around
places_around before after = record { before = before; after = after }
