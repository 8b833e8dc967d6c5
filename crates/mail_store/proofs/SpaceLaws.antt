-- Whether there is room for what a command writes.
use Rattle.std.proofs.Common.{◌≡◌, ◌∙◌, ℕ, Bool, List, Option, Err, Ok, arith}
use Rattle.std.specs.FinMap as map
use Rattle.std.specs.List.{AllZip}
use Rattle.pst_base.specs.declared.ids.Nid.{Nid}
use Rattle.node_port.specs.Nodes.{Nodes}
use Rattle.node_port.specs.Stops.{PrepareStops, Room, RoomDecides, need}
use Rattle.node_port.specs.declared.keeper.PrepareStop.{PrepareStop}
use Rattle.node_port.specs.declared.keeper.PrepareStop.TheVariants as prepare
use Rattle.node_port.specs.declared.node.NodeRec.{NodeRec}
use Rattle.mail_tree.specs.Changing.{Changed as Changes}
use Rattle.mail_draft.proofs.WrittenLaws.{written-size}
use Rattle.mail_draft.specs.Space.{space_bound, space_needed}
use Rattle.mail_draft.specs.Written.{Writes}
use Rattle.mail_draft.specs.Kept.{plan_stop_of}
use Rattle.mail_store.specs.Planning.{IsHindered}
use Rattle.mail_store.specs.Space.{HasCells, WritesNodes}

-- the cells that a keeper keeps for nodes are the bound of the changes, since the nodes take no more than is asked for them
pub is_need : (room : Room) (D : Changes) (cs : List (Nid × Option NodeRec)) (asked : ℕ) → AllZip Writes (map.entries D.objects) cs → asked ≡ space_needed D → need room.pages asked cs ≡ space_bound room.pages D
is_need room D cs asked written same = omega (arith, written-size (map.entries D.objects) cs written, same)

-- a keeper that has planned the nodes has the cells
pub has_cells : {R : Type 0} (room : Room) (D : Changes) (cs : List (Nid × Option NodeRec)) (asked : ℕ) (ready : R) → AllZip Writes (map.entries D.objects) cs → asked ≡ space_needed D → RoomDecides {R = R} room asked cs (Ok ready) → HasCells room D
has_cells room D cs asked ready written same decides = record { numbers = decides.0; free = omega (arith, is_need room D cs asked written same, decides.1) }

-- why a keeper plans no nodes is no matter of the tree
pub hindered : (R : Type 0) (room : Room) (D : Changes) (cs : List (Nid × Option NodeRec)) (asked before after : ℕ) (disk : Bool) (held : Nodes → Type 0) (N : Nodes) (stop : PrepareStop) → AllZip Writes (map.entries D.objects) cs
    → asked ≡ space_needed D → WritesNodes D → held N → RoomDecides {R = R} room asked cs (Err stop) → PrepareStops disk before after held stop → IsHindered room D (plan_stop_of stop)
hindered R room D cs asked before after disk held N prepare.Fault written same writes holds decides stops = tt
hindered R room D cs asked before after disk held N (prepare.Changed ib stored computed) written same writes holds decides stops = absurd (stops N holds)
hindered R room D cs asked before after disk held N prepare.Memory written same writes holds decides stops = tt
hindered R room D cs asked before after disk held N (prepare.Full free cells) written same writes holds decides stops = record {
  writes = writes;
  numbers = decides.0;
  free_is = decides.2;
  needed = decides.3 ∙ is_need room D cs asked written same;
  few = omega (arith, decides.1, decides.2, decides.3);
}
hindered R room D cs asked before after disk held N prepare.IdsSpent written same writes holds decides stops = (writes, decides)
