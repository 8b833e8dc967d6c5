-- What a store stands for, and what it plans.
use Rattle.std.specs.Prelude.{◌≡◌, ℕ, true, List, Option, None, Some, Result, Ok, Err}
use Rattle.std.specs.FinMap as map
use Rattle.std.specs.List.{AllZip}
use Rattle.pst_base.specs.declared.ids.Nid.{Nid}
use Rattle.pst_outside.specs.World.{Image}
use Rattle.command_text.specs.declared.reply.CommandRefusal.TheVariants as refusals
use Rattle.command_text.specs.declared.reply.Reply.{Reply}
use Rattle.node_port.specs.Nodes.{Nodes, changed, node_at}
use Rattle.node_port.specs.Stops.{Room}
use Rattle.node_port.specs.declared.node.NodeRec.{NodeRec}
use Rattle.mail_tree.specs.declared.known.Known.{Known}
use Rattle.mail_tree.specs.declared.note.Note.{Note}
use Rattle.mail_tree.specs.declared.places.FolderPlace.{FolderPlace}
use Rattle.mail_tree.specs.Changing.{Answer, Changed as Changes}
use Rattle.mail_tree.specs.Flags.{SameFlags}
use Rattle.mail_tree.specs.Folders.{Outcome}
use Rattle.mail_tree.specs.Knowing.{Knows}
use Rattle.mail_tree.specs.Step.{after}
use Rattle.mail_tree.specs.Tree.{Shown, StandsAt, Tree, object_at}
use Rattle.mail_draft.specs.Answers.{IsRefusal}
use Rattle.mail_draft.specs.Outcomes.{places_after}
use Rattle.mail_draft.specs.Unread.{flag_changes}
use Rattle.mail_draft.specs.Written.{Writes}
use Rattle.mail_draft.specs.declared.stop.Stop.{Stop}
use Rattle.mail_draft.specs.declared.stop.Stop.TheVariants.{Refused, Fault, Changed, Memory}
use Rattle.mail_store.specs.Space.{HasRoom, IsFull, WritesNodes}

-- a store over these nodes and counters, which knows this beside them, has the tree
pub record Stores (holds : Nodes → Type 0) (last : List ℕ) (known : Known) (T : Tree) : Type 0 where
  pub shown : Shown holds last T
  pub knows : Knows T known

-- the same places, and the same is known of each object
abbrev pub SameKnown : Known → Known → Type 0
SameKnown old new = (new.places ≡ old.places) × SameFlags old.flags new.flags

-- an image that stands for nodes and counters stands for the tree that they show
abbrev pub StandsFor : (Nodes → List ℕ → Type 0) → Tree → Type 0
StandsFor stands T = Shown (λ N. stands N T.last) T.last T

-- nodes show a tree
abbrev pub ShowsTree : Nodes → Tree → Type 0
ShowsTree N T = (q : ℕ) → StandsAt q (node_at N q) (object_at T q) (node_at T.others q)

-- changes of nodes that a keeper has planned make of a tree what the command comes to, and are those of the objects that it puts or removes; without them the tree stays
abbrev pub Carries : {R : Type 0} → (R → List ℕ → List (Nid × Option NodeRec) → Type 0) → Tree → Outcome → Option R → Type 0
Carries fits T o None = after T o ≡ T
Carries fits T o (Some ready) = (cs : List (Nid × Option NodeRec)) × fits ready o.last cs × ((N : Nodes) → ShowsTree N T → ShowsTree (changed N cs) (after T o)) × AllZip Writes (map.entries o.changed.objects) cs

-- if it writes no node, the tree stays
abbrev pub StaysUnwritten : Tree → Outcome → Type 0
StaysUnwritten T o = o.changed.objects ≡ map.empty → after T o ≡ T

-- what carrying out a plan does to the disk: what its keeper does, for whatever changes it has planned, or nothing where there is nothing to change
abbrev pub Alters : {R : Type 0} → (R → List ℕ → List (Nid × Option NodeRec) → Type 0) → (List (Nid × Option NodeRec) → ℕ → Image → Image → Type 0) → (R → ℕ) → Option R → Image → Image → Type 0
Alters fits applied cost None old new = new ≡ old
Alters fits applied cost (Some ready) old new = (last : List ℕ) (cs : List (Nid × Option NodeRec)) → fits ready last cs → applied cs (cost ready) old new

-- nodes are changed just where the command puts or removes an object
abbrev pub ChangesNodes : {R : Type 0} → Changes → Option R → Type 0
ChangesNodes D None = D.objects ≡ map.empty
ChangesNodes D (Some ready) = WritesNodes D

-- how many bytes carrying out a plan writes at most
abbrev pub cost_of : {R : Type 0} → (R → ℕ) → Option R → ℕ
cost_of cost None = 0
cost_of cost (Some ready) = cost ready

-- what was planned comes to this: the reply, the places, what is to be known of objects, and the changes
pub record PlansTo {R : Type 0} (fits : R → List ℕ → List (Nid × Option NodeRec) → Type 0) (T : Tree) (o : Outcome) (change : Option R) (places : Option (List FolderPlace)) (flags : List (ℕ × Option Note)) (reply : Reply) : Type 0 where
  pub reply_is : reply ≡ o.reply
  pub places_are : o.places ≡ places_after T.places places
  pub flags_are : flags ≡ flag_changes o.changed
  pub carries : Carries fits T o change
  pub changes : ChangesNodes o.changed change

-- A stop that is no matter of the tree: the disk failed, memory ran out, or the changes are to be written and the file has no room or no numbers left for them.
abbrev pub IsHindered : Room → Changes → Stop → Type 0
IsHindered room D (Refused (refusals.Full free need)) = IsFull room D free need
IsHindered room D (Refused refusals.Ids) = WritesNodes D × (room.spent ≡ true)
IsHindered room D (Refused other) = ⊥
IsHindered room D Fault = Unit {0}
IsHindered room D (Changed ib stored computed) = ⊥
IsHindered room D Memory = Unit {0}

-- The answer of a command was planned as the definition says, and there is room for what it writes. Where something isn't of its form, nothing is said.
abbrev pub Plans : {P : Type 0} → Room → (Outcome → P → Type 0) → Answer Outcome → Result P Stop → Type 0
Plans room plans (Ok o) (Ok planned) = plans o planned × HasRoom room o.changed
Plans room plans (Ok o) (Err stop) = IsHindered room o.changed stop
Plans room plans (Err (Some refusal)) (Ok planned) = ⊥
Plans room plans (Err (Some refusal)) (Err stop) = IsRefusal refusal stop
Plans room plans (Err None) result = Unit {0}
