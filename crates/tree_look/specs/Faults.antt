-- Why nodes have no tree.
use Rattle.std.specs.Prelude.{◌≡◌, ◌⊎◌, ℕ, List, zero, suc, ◌%◌, None, Some, Result, Ok, Err}
use Rattle.mail_objects.specs.declared.message.fault.MessageFault.{MessageFault}
use Rattle.mail_tree.specs.Changing.{associated, contents, hierarchy}
use Rattle.mail_tree.specs.Names.{AreNames}
use Rattle.mail_tree.specs.Places.{ROOT}
use Rattle.mapi_values.specs.Values.{Val}
use Rattle.mail_tree.specs.declared.places.Sort.{Sort}
use Rattle.node_port.specs.Nodes.{Nodes, node_at}
use Rattle.node_port.specs.declared.node.NodeRec.{NodeRec}
use Rattle.tree_look.specs.Forms.{IsNoContext, IsNoMail, IsNoTable}
use Rattle.mail_objects.specs.Forms.{Ctx}
use Rattle.mail_tree.specs.Standing.{HasContext, ListsFolder, ListsMessage, names_sort}
use Rattle.named_props.specs.Holding.{names_of}
use Rattle.tree_look.specs.declared.stops.LookRefusal.{LookRefusal}
use Rattle.tree_look.specs.declared.stops.LookRefusal.TheVariants as refusals
use Rattle.tree_look.specs.declared.stops.LookStop.{LookStop}
use Rattle.tree_look.specs.declared.stops.LookStop.TheVariants as stops
use Rattle.tree_look.specs.declared.stops.TreeFault.{TreeFault}
use Rattle.tree_look.specs.declared.stops.TreeFault.TheVariants.{Missing, Table, Parent, Depth, Cycle}

-- a folder that rows lead to, so many folders below the root
abbrev pub IsReached : Nodes → ℕ → ℕ → Type 0
IsReached N zero f = f ≡ ROOT
IsReached N (suc n) f = (p : ℕ) × IsReached N n p × (p % 32 ≡ 2) × ListsFolder N p f × ((s : Sort) × (names_sort N f ≡ Some s))

-- a plain folder that rows lead to
abbrev pub IsOpened : Nodes → ℕ → Type 0
IsOpened N p = (n : ℕ) × IsReached N n p × (p % 32 ≡ 2)

-- a plain folder that is reached lists this folder, or this message
abbrev pub IsNamed : Nodes → ℕ → ℕ → Type 0
IsNamed N p q = (ListsFolder N p q × ((s : Sort) × (names_sort N q ≡ Some s))) ⊎ ListsMessage N p q

-- the store's values, or the names
abbrev pub IsFixed : ℕ → Type 0
IsFixed q = (q ≡ 0x21) ⊎ (q ≡ 0x61)

-- folders and tables don't fit together: what the fault says of the node or the folder
abbrev pub IsTreeFault : Nodes → ℕ → TreeFault → Type 0
IsTreeFault N q Missing = (node_at N q ≡ None) × (IsFixed q ⊎ (q ≡ ROOT) ⊎ ((p : ℕ) × IsOpened N p × IsNamed N p q))
IsTreeFault N q Table = IsOpened N q × ((node_at N (hierarchy q) ≡ None) ⊎ (node_at N (contents q) ≡ None))
IsTreeFault N q Parent = (node : NodeRec) × (node_at N q ≡ Some node) × ((p : ℕ) × IsOpened N p × IsNamed N p q × (node.parent.bits ≡ p → ⊥))
IsTreeFault N q Depth = IsReached N 65 q
IsTreeFault N q Cycle = (q ≡ ROOT) × ((p : ℕ) × IsOpened N p × ListsFolder N p q)

-- the node should be of a form that it isn't of, for this reason
abbrev pub IsFormless : Nodes → ℕ → NodeRec → MessageFault → Type 0
IsFormless N q node fault =
    ((IsFixed q ⊎ ((n : ℕ) × IsReached N n q)) × IsNoContext node fault)
    ⊎ (((p : ℕ) × IsOpened N p × ((q ≡ hierarchy p) ⊎ (q ≡ contents p) ⊎ (q ≡ associated p))) × IsNoTable node fault)
    ⊎ (((p : ℕ) × IsOpened N p × ListsMessage N p q) × IsNoMail q node fault)

-- what a refusal says of the nodes
abbrev pub HasFault : Nodes → LookRefusal → Type 0
HasFault N (refusals.Node q fault) = (node : NodeRec) × (node_at N q.bits ≡ Some node) × IsFormless N q.bits node fault
HasFault N (refusals.Tree q fault) = IsTreeFault N q.bits fault
HasFault N refusals.Names = (c : Ctx) × HasContext N 0x61 c × (names_of c.props ≡ None)

-- the refusal holds; a fault of the disk and want of memory are no matter of the nodes
abbrev pub Stops : Nodes → LookStop → Type 0
Stops N (stops.Refused refusal) = HasFault N refusal
Stops N stops.Fault = Unit {0}
Stops N (stops.Changed ib stored computed) = ⊥
Stops N stops.Memory = Unit {0}

-- the values hold names, or don't, or there was no memory
abbrev pub HoldNames : List Val → Result (Unit {0}) LookStop → Type 0
HoldNames props (Ok u) = AreNames props
HoldNames props (Err (stops.Refused refusals.Names)) = names_of props ≡ None
HoldNames props (Err stops.Memory) = Unit {0}
HoldNames props other = ⊥

-- what is found is so, or the stop says why nothing is
abbrev pub Finds : {A : Type 0} → Nodes → (A → Type 0) → Result A LookStop → Type 0
Finds N P (Ok a) = P a
Finds N P (Err stop) = Stops N stop
