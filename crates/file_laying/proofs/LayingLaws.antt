-- A keeper of a file without nodes, and why no nodes were put there.
use Rattle.std.proofs.Common.{◌≡◌, ◌∙◌, ℕ, Bool, List, length, ◌≤◌, arith, inl, inr, Option, Result, Ok, Err, refl, sym, ap, subst}
use Rattle.std.specs.Prelude.{OnOk}
use Rattle.std.specs.FinMap as map
use Rattle.std.specs.Ordering.{nat_cmp}
use Rattle.pst_base.specs.declared.ids.Nid.{Nid}
use Rattle.pst_outside.specs.World.{Image, World}
use Rattle.pst_outside.specs.Calls.{Rose}
use Rattle.pst_header.specs.declared.header.Header.{Header}
use Rattle.file_blocks.specs.Blocks.{file_of}
use Rattle.file_blocks.proofs.FileLaws.{no_shorter}
use Rattle.file_scan.specs.Found.{IsFound}
use Rattle.file_scan.specs.declared.scan.FoundFile.{FoundFile}
use Rattle.node_port.specs.declared.node.NodeRec.{NodeRec}
use Rattle.node_port.specs.Nodes.{Nodes, no_nodes}
use Rattle.node_port.specs.Stops.{PrepareStops, Room, RoomDecides}
use Rattle.node_port.specs.declared.keeper.PrepareStop.{PrepareStop}
use Rattle.node_port.specs.declared.keeper.PrepareStop.TheVariants as prepare
use Rattle.pst_commit.specs.lays_kept.Stands.{Stands, node_with}
use Rattle.pst_commit.proofs.lays_kept_laws.Opened.{opens_parts}
use Rattle.pst_commit.specs.Keeping.{HasRoom, Holds}
use Rattle.empty_file.specs.Empty.{HasBytes, IsFirst, IsVacant}
use Rattle.empty_file.specs.Known.{IsFoundEmpty}
use Rattle.file_laying.specs.Laying.{StopsPlan}
use Rattle.file_laying.specs.declared.lay.LayingStop.{LayingStop}
use Rattle.file_laying.specs.declared.lay.LayingStop.TheVariants as stops

-- ---- a file without nodes

-- its header vouches for no maps
abbrev pub laid_first : (image : Image) (found : FoundFile) (bytes : List ℕ) → IsFoundEmpty image found → IsFirst found.header → Stands bytes image no_nodes found.header.indexes
laid_first image found bytes empty first =
    let parts = opens_parts image.main image.side found.header (empty.is).opened in
    record {
      main = parts.0;
      side = parts.1;
      file = record {
        header = found.header;
        long = omega (arith, parts.0, no_shorter image.main image.side);
        read = parts.2;
        m = (empty.is).nodes;
        lays = (empty.is).lays;
        those = λ q. map.get-empty nat_cmp q ∙ sym (ap (λ ns. node_with q ns) empty.none);
        counters = refl;
        maps = inl first.maps;
      };
    }

-- a keeper of it holds no nodes
pub holds_none : (knows : Header → List ℕ → Type 0) (bytes : List ℕ) (world : World) (found : FoundFile) → IsFirst found.header → IsFoundEmpty world.here found → world.tells
    → ((image : Image) → IsFound image found → knows found.header (file_of image)) → Holds knows bytes found.header world no_nodes
holds_none knows bytes world found first empty told knowing = (told, record { stands = laid_first world.here found bytes empty first; own = refl; known = knowing world.here empty.is })

-- ---- stops

-- why a plan over it wasn't made
plan_stopped : (R : Type 0) (image : Image) (has : Room) (disk : Bool) (before after room : ℕ) (cs : List (Nid × Option NodeRec)) (held : Nodes → Type 0) (N : Nodes) (stop : PrepareStop)
    → held N → HasRoom image has → RoomDecides {R = R} has room cs (Err stop) → PrepareStops disk before after held stop → StopsPlan image room cs (stops.Unplanned stop)
plan_stopped R image has disk before after room cs held N prepare.Fault h is decides why = tt
plan_stopped R image has disk before after room cs held N (prepare.Changed ib stored computed) h is decides why = why N h
plan_stopped R image has disk before after room cs held N prepare.Memory h is decides why = tt
plan_stopped R image has disk before after room cs held N (prepare.Full free needed) h is decides why = (has, is, decides.2, decides.3, let low = decides.1 in omega (arith, low, decides.2, decides.3))
plan_stopped R image has disk before after room cs held N prepare.IdsSpent h is decides why = (has, is, decides)

pub plan_stops : {R : Type 0} (r : Result R PrepareStop) (image : Image) (has : Room) (disk : Bool) (before after room : ℕ) (cs : List (Nid × Option NodeRec)) (held : Nodes → Type 0) (N : Nodes) (stop : PrepareStop)
    → r ≡ Err stop → held N → HasRoom image has → RoomDecides has room cs r → PrepareStops disk before after held stop → StopsPlan image room cs (stops.Unplanned stop)
plan_stops {R} r image has disk before after room cs held N stop is h measured decides why =
    plan_stopped R image has disk before after room cs held N stop h measured (subst (λ x. RoomDecides {R = R} has room cs x) is decides) why

-- a fault of the disk shows in its count
pub plan_fault : (K : Type 0) (disk : Bool) (before after : ℕ) (held : Nodes → Type 0) (stop : PrepareStop) → ◌≡◌ {A = Result K LayingStop} (Err (stops.Unplanned stop)) (Err (stops.Unplanned prepare.Fault)) → PrepareStops disk before after held stop → Rose before after
plan_fault K disk before after held stop same why = let is : stop ≡ prepare.Fault = cc in (subst (PrepareStops disk before after held) is why).0

pub rose_since : (a b n : ℕ) → a ≤ b → Rose b n → Rose a n
rose_since a b n less rose = omega (arith, less, rose)

-- files that are vacant have no bytes
pub none_there : (image : Image) → IsVacant image → HasBytes image → ⊥
none_there image v (inl main) = omega (arith, main, ap length v.main)
none_there image v (inr side) = omega (arith, side, ap length v.side)

-- ---- answers

pub ok_so : {A E : Type 0} (r : Result A E) (P : Type 0) → P → OnOk r P
ok_so (Ok x) P is = is
ok_so (Err e) P is = tt

pub ok_then : {A E : Type 0} (r : Result A E) (P Q : Type 0) → (P → Q) → OnOk r P → OnOk r Q
ok_then (Ok x) P Q f is = f is
ok_then (Err e) P Q f is = tt
