-- What a call on a store answers, beside what the definitions of the tree say.
use Rattle.std.specs.Prelude.{◌≡◌, ℕ, Bool, true, List, None, Some, Result, Ok, Err}
use Rattle.command_text.specs.declared.reply.CommandRefusal.{CommandRefusal}
use Rattle.node_port.specs.Nodes.{Nodes}
use Rattle.node_port.specs.Stops.{Room}
use Rattle.pst_outside.specs.World.{World}
use Rattle.pst_outside.specs.Calls.{Rose, Untouched}
use Rattle.mail_tree.specs.Changing.{Answer}
use Rattle.mail_draft.specs.declared.stop.Stop.{Stop}
use Rattle.mail_draft.specs.declared.stop.Stop.TheVariants.{Refused, Fault, Changed, Memory}

-- a fault of the disk or want of memory: no matter of the tree
abbrev pub IsNoMatter : Stop → Type 0
IsNoMatter (Refused refusal) = ⊥
IsNoMatter Fault = Unit {0}
IsNoMatter (Changed ib stored computed) = ⊥
IsNoMatter Memory = Unit {0}

-- this refusal, or no matter of the tree
abbrev pub IsRefusal : CommandRefusal → Stop → Type 0
IsRefusal refusal (Refused given) = given ≡ refusal
IsRefusal refusal Fault = Unit {0}
IsRefusal refusal (Changed ib stored computed) = ⊥
IsRefusal refusal Memory = Unit {0}

-- the command is refused: neither did the disk fail, nor did memory run out
abbrev pub IsRefused : Stop → Type 0
IsRefused (Refused refusal) = Unit {0}
IsRefused Fault = ⊥
IsRefused (Changed ib stored computed) = ⊥
IsRefused Memory = ⊥

-- the disk didn't fail
abbrev pub IsCalm : Stop → Type 0
IsCalm (Refused refusal) = Unit {0}
IsCalm Fault = ⊥
IsCalm (Changed ib stored computed) = Unit {0}
IsCalm Memory = Unit {0}

-- The result, seen by view, is the answer, unless the disk failed or memory ran out. Where something isn't of its form, nothing is said.
abbrev pub Says : {A B : Type 0} → (B → A) → Answer A → Result B Stop → Type 0
Says view (Ok x) (Ok y) = view y ≡ x
Says view (Ok x) (Err stop) = IsNoMatter stop
Says view (Err (Some refusal)) (Ok y) = ⊥
Says view (Err (Some refusal)) (Err stop) = IsRefusal refusal stop
Says view (Err None) result = Unit {0}

-- a fault comes only from a disk, whose count of faults rose
abbrev pub IsCaused : Bool → ℕ → ℕ → Stop → Type 0
IsCaused disk before after (Refused refusal) = Unit {0}
IsCaused disk before after Fault = Rose before after × (disk ≡ true)
IsCaused disk before after (Changed ib stored computed) = Unit {0}
IsCaused disk before after Memory = Unit {0}

-- A call that only looks: each tree that was shown is shown still, the room is the same, and the world is untouched.
pub record Looks (holds holds' : Nodes → Type 0) (last last' : List ℕ) (room room' : Room) (old new : World) : Type 0 where
  pub stays : (N : Nodes) → holds N → holds' N
  pub counters : last' ≡ last
  pub space : room' ≡ room
  pub world : Untouched old new
