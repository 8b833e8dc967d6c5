-- What the files of a new store stand for, and what a stop before that says.
use Rattle.std.proofs.Common.{◌≡◌, ◌∙◌, ℕ, true, List, [], Option, inr, refl, sym, subst}
use Rattle.pst_outside.specs.World.{Image}
use Rattle.pst_base.specs.declared.ids.Nid.{Nid}
use Rattle.node_port.specs.Nodes.{Nodes, node_at}
use Rattle.node_port.specs.declared.node.NodeRec.{NodeRec}
use Rattle.node_port.specs.declared.keeper.PrepareStop.{PrepareStop}
use Rattle.node_port.specs.declared.keeper.PrepareStop.TheVariants as prepare
use Rattle.file_laying.specs.Laying.{StopsPlan}
use Rattle.file_laying.specs.declared.lay.LayingStop.{LayingStop}
use Rattle.file_laying.specs.declared.lay.LayingStop.TheVariants as laying
use Rattle.lays_kept.specs.Stands.{Stands}
use Rattle.mail_searches.specs.Searching.{Searching, StartsSearching}
use Rattle.mail_transactions.proofs.pinned_session_laws.store_session_laws.search_laws.Setting.{starts_in_order}
use Rattle.mail_tree.specs.Start.{IsStart, start_last}
use Rattle.mail_tree.specs.Tree.{StandsAt, Tree, object_at}
use Rattle.file_session.specs.FileRun.{ReadsAs, front_of}
use Rattle.file_session.specs.Stops.{LacksRoom, of_laying, of_plan}
use Rattle.file_session.specs.declared.make.FileMade.{FileMade}

-- what stands under a header stands under it as the one that is found next
pub own_front : (bytes : List ℕ) (image : Image) (N : Nodes) (last next : List ℕ) → last ≡ next → Stands bytes image N last → Stands (front_of image) image N next
own_front bytes image N last next same s = record {
  main = s.main;
  side = s.side;
  file = record {
    header = (s.file).header;
    long = (s.file).long;
    read = (s.file).read;
    m = (s.file).m;
    lays = (s.file).lays;
    those = (s.file).those;
    counters = (s.file).counters ∙ same;
    maps = inr (inr refl);
  };
}

-- the nodes of a new store are read as its tree
pub made_reads : (name : List ℕ) (image : Image) (N : Nodes) (last : List ℕ) (T : Tree) → IsStart name T → ((q : ℕ) → StandsAt q (node_at N q) (object_at T q) (node_at T.others q)) → last ≡ start_last
    → Stands (front_of image) image N last → (X : Searching) × StartsSearching name X × ReadsAs true (front_of image) image X
made_reads name image N last T start at same stands =
    let X : Searching = record { tree = T; own = []; searches = [] } in
    let starts : StartsSearching name X = record { tree = start; none_own = refl; none = refl } in (
      X,
      starts,
      (record { nodes = N; held = subst (λ l. Stands (front_of image) image N l) (same ∙ sym start.counters) stands; at = at; counters = refl }, starts_in_order name X starts),
    )

-- ---- stops

lacks_plan : (image : Image) (room : ℕ) (cs : List (Nid × Option NodeRec)) (stop : PrepareStop) → StopsPlan image room cs (laying.Unplanned stop) → LacksRoom image (of_plan stop)
lacks_plan image room cs prepare.Fault is = tt
lacks_plan image room cs (prepare.Changed ib stored computed) is = tt
lacks_plan image room cs prepare.Memory is = tt
lacks_plan image room cs (prepare.Full free need) is = (is.0, is.1, is.2, is.4)
lacks_plan image room cs prepare.IdsSpent is = is

-- what a stop of the laying of a file says of the one that was laid
pub lacks_laying : (image : Image) (room : ℕ) (cs : List (Nid × Option NodeRec)) (stop : LayingStop) (end : FileMade) → end ≡ of_laying stop → StopsPlan image room cs stop → LacksRoom image end
lacks_laying image room cs stop end same is = subst (LacksRoom image) (sym same) (by stop is)
  where
    by : (s : LayingStop) → StopsPlan image room cs s → LacksRoom image (of_laying s)
    by laying.NotEmpty h = tt
    by laying.Fault h = tt
    by laying.Memory h = tt
    by (laying.Unplanned plan) h = lacks_plan image room cs plan h
