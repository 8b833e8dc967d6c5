-- Stops of an opening, for those of its parts.
use Rattle.std.specs.Prelude.{◌≡◌, ℕ, Bool, true}
use Rattle.pst_outside.specs.Calls.{Rose}
use Rattle.node_port.specs.declared.keeper.KeepStop.TheVariants as keep
use Rattle.tree_look.specs.mail_draft.declared.stop.Stop.{Stop}
use Rattle.tree_look.specs.mail_draft.declared.stop.Stop.TheVariants as draft
use Rattle.tree_look.specs.declared.stops.LookStop.{LookStop}
use Rattle.tree_look.specs.declared.stops.LookStop.TheVariants as looks
use Rattle.search_look.specs.declared.stops.SearchStop.{SearchStop}
use Rattle.search_look.specs.declared.stops.SearchStop.TheVariants as searches
use Rattle.store_open.specs.declared.stops.TreeRefusal.TheVariants.{Folders, Searches}
use Rattle.store_open.specs.declared.stops.TreeStop.{TreeStop}
use Rattle.store_open.specs.declared.stops.TreeStop.TheVariants.{Refused, Kept}

-- the stop for one of the look at folders
abbrev pub of_look : LookStop → TreeStop
of_look (looks.Refused refusal) = Refused (Folders refusal)
of_look looks.Fault = Kept keep.Fault
of_look (looks.Changed ib stored computed) = Kept (keep.Changed ib stored computed)
of_look looks.Memory = Kept keep.Memory

-- the stop for one of the look at searches
abbrev pub of_searches : SearchStop → TreeStop
of_searches (searches.Refused refusal) = Refused (Searches refusal)
of_searches (searches.Kept stop) = Kept stop

-- the stop for one of the check of lists, which refuses nothing
abbrev pub of_check : Stop → TreeStop
of_check (draft.Refused refusal) = Kept keep.Memory
of_check draft.Fault = Kept keep.Fault
of_check (draft.Changed ib stored computed) = Kept (keep.Changed ib stored computed)
of_check draft.Memory = Kept keep.Memory

-- a fault comes only from a disk, whose count of faults rose
abbrev pub IsCaused : Bool → ℕ → ℕ → TreeStop → Type 0
IsCaused disk before after (Kept keep.Fault) = Rose before after × (disk ≡ true)
IsCaused disk before after other = Unit {0}
