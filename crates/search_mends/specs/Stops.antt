-- Why mending stops.
use Rattle.std.specs.Prelude.{◌≡◌, ℕ, Bool, true, Some, Ok, Err}
use Rattle.pst_base.specs.declared.ids.Nid.{Nid}
use Rattle.pst_outside.specs.Calls.{Rose}
use Rattle.command_text.specs.declared.reply.CommandRefusal.{CommandRefusal}
use Rattle.command_text.specs.declared.reply.CommandRefusal.TheVariants as refusals
use Rattle.node_port.specs.Stops.{Room}
use Rattle.store_session.specs.mail_draft.declared.stop.Stop.{Stop}
use Rattle.store_session.specs.mail_draft.declared.stop.Stop.TheVariants as stops
use Rattle.store_session.specs.mail_store.Planning.{IsHindered}
use Rattle.mail_searches.specs.Searching.{Searching}
use Rattle.search_mending.specs.Mending.{Mending, mended_search}
use Rattle.search_mends.specs.declared.stop.MendStop.{MendStop}
use Rattle.search_mends.specs.declared.stop.MendStop.TheVariants.{Rows, Full, Ids, Fault, Changed, Memory}

-- why what mending the search of this folder comes to can't be told
abbrev pub of_refusal : Nid → Stop → MendStop
of_refusal n (stops.Refused refusal) = Rows n
of_refusal n stops.Fault = Fault
of_refusal n (stops.Changed ib stored computed) = Changed ib stored computed
of_refusal n stops.Memory = Memory

-- why it can't be planned
abbrev pub of_hindrance : Nid → Stop → MendStop
of_hindrance n (stops.Refused (refusals.Full free need)) = Full free need
of_hindrance n (stops.Refused refusals.Ids) = Ids
of_hindrance n other = of_refusal n other

-- what is to be written for the search of this folder isn't refused, and the file has no room or no number left for it
abbrev pub Hinders : Room → Searching → ℕ → CommandRefusal → Type 0
Hinders room X f refusal = (m : Mending) × (mended_search X f ≡ Ok m) × IsHindered room m.coming.outcome.changed (stops.Refused refusal)

-- Why the search of this folder isn't mended, over a keeper with this room. That something changed never comes.
abbrev pub StopsMending : Room → Searching → ℕ → MendStop → Type 0
StopsMending room X f (Rows n) = (n.bits ≡ f) × ((refusal : CommandRefusal) × (mended_search X f ≡ Err (Some refusal)))
StopsMending room X f (Full free need) = Hinders room X f (refusals.Full free need)
StopsMending room X f Ids = Hinders room X f refusals.Ids
StopsMending room X f Fault = Unit {0}
StopsMending room X f (Changed ib stored computed) = ⊥
StopsMending room X f Memory = Unit {0}

-- it is so after each stop but a fault of the disk
abbrev pub UnlessFault : Type 0 → MendStop → Type 0
UnlessFault P (Rows n) = P
UnlessFault P (Full free need) = P
UnlessFault P Ids = P
UnlessFault P Fault = Unit {0}
UnlessFault P (Changed ib stored computed) = P
UnlessFault P Memory = P

-- a fault comes only from a disk, whose count of faults rose
abbrev pub IsCaused : Bool → ℕ → ℕ → MendStop → Type 0
IsCaused disk before after (Rows n) = Unit {0}
IsCaused disk before after (Full free need) = Unit {0}
IsCaused disk before after Ids = Unit {0}
IsCaused disk before after Fault = Rose before after × (disk ≡ true)
IsCaused disk before after (Changed ib stored computed) = Unit {0}
IsCaused disk before after Memory = Unit {0}
