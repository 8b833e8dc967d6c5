-- Why a need isn't read: where a node is told, only by the source or for memory.
use Rattle.std.proofs.Common.{◌≡◌, ◌∙◌, ℕ, List, Option, Result, Ok, Err, sym, ap, arith}
use Rattle.pst_base.specs.declared.ids.Bid.{Bid}
use Rattle.pst_base.specs.declared.stops.MemOr.{MemOr}
use Rattle.pst_base.specs.declared.stops.MemOr.TheVariants.{Memory, Refused}
use Rattle.pst_base.specs.declared.stops.SourceStop.{SourceStop}
use Rattle.pst_base.specs.declared.stops.SourceStop.TheVariants.{Changed, Failed}
use Rattle.btree_pages.specs.declared.entry.NodeEntry.{NodeEntry}
use Rattle.data_tree.specs.declared.source.TreeStop.{TreeStop}
use Rattle.data_tree.specs.declared.source.TreeStop.TheVariants.{Deep, Form, Long, Many, Missing, Source as BySource}
use Rattle.data_tree.specs.Measure.{bytes_in, measured}
use Rattle.data_tree.specs.Source.{Later, Source, StoppedBy}
use Rattle.data_tree.specs.Stops.{TreeStops}
use Rattle.data_tree.specs.Tree.{and_then, blocks_of}
use Rattle.data_tree.proofs.NamedLaws.{then-ok}
use Rattle.subnode_tree.specs.Bids.{sub_bids_of}
use Rattle.subnode_tree.specs.Subnodes.{subs_of}
use Rattle.file_layout.specs.Nodes.{Node, node_at}
use Rattle.node_needs.specs.Needs.{StopsNeed, StopsSubs}
use Rattle.node_needs.proofs.NamedLaws.{subs-named}

never : {Y : Type 0} {r : Result Y TreeStop} {y : Y} {stop : TreeStop} → r ≡ Ok y → r ≡ Err stop → ⊥
never {Y} {r} {y} {stop} e f = let both : ◌≡◌ {A = Result Y TreeStop} (Ok y) (Err stop) = sym e ∙ f in absurd cc

pub bids-stop : {A : Type 0} (stop : MemOr TreeStop) (old new : Source A) (bid : Bid) → TreeStops old new (λ find. sub_bids_of find old.eof bid) stop → StopsSubs stop old new bid
bids-stop Memory old new bid h = tt
bids-stop (Refused (BySource stop)) old new bid h = h
bids-stop (Refused (Missing b)) old new bid h = λ find fs holds reads. never (subs-named find old.eof bid fs reads).are (h find holds)
bids-stop (Refused (Form b)) old new bid h = λ find fs holds reads. never (subs-named find old.eof bid fs reads).are (h find holds)
bids-stop (Refused Long) old new bid h = λ find fs holds reads. never (subs-named find old.eof bid fs reads).are (h find holds)
bids-stop (Refused Deep) old new bid h = λ find fs holds reads. never (subs-named find old.eof bid fs reads).are (h find holds)
bids-stop (Refused Many) old new bid h = λ find fs holds reads. never (subs-named find old.eof bid fs reads).are (h find holds)

-- the parts of a node that is read
pub record Parts (find : ℕ → Option (List ℕ)) (eof : ℕ) (e : NodeEntry) (n : Node) : Type 0 where
  pub own : measured (blocks_of find eof e.content) ≡ Ok (bytes_in n.blocks)
  pub subs : subs_of find eof e.subnodes ≡ Ok n.subs

pub node-parts : (find : ℕ → Option (List ℕ)) (eof : ℕ) (e : NodeEntry) (n : Node) → node_at find eof e ≡ Ok n → Parts find eof e n
unfolding node_at
node-parts find eof e n is =
    let first = then-ok (blocks_of find eof e.content) (λ blocks. and_then (subs_of find eof e.subnodes) (λ subs. Ok (record { nid = (e.nid).bits; parent = (e.parent).bits; blocks = blocks; subs = subs }))) n is in
    let next = then-ok (subs_of find eof e.subnodes) (λ subs. Ok (record { nid = (e.nid).bits; parent = (e.parent).bits; blocks = first.0; subs = subs })) n first.2 in
    let whole : record { nid = (e.nid).bits; parent = (e.parent).bits; blocks = first.0; subs = next.0 } ≡ n = let last = next.2 in cc in
    record {
      own = ap measured first.1 ∙ ap (λ (m : Node). Ok (bytes_in m.blocks)) whole;
      subs = next.1 ∙ ap (λ (m : Node). Ok m.subs) whole;
    }

pub same-len : {r : Result ℕ TreeStop} {m n : ℕ} → r ≡ Ok m → r ≡ Ok n → n ≡ m
same-len {r} {m} {n} e f = let both : ◌≡◌ {A = Result ℕ TreeStop} (Ok m) (Ok n) = sym e ∙ f in cc

pub data-stop : {A : Type 0} (stop : MemOr TreeStop) (old new : Source A) (e : NodeEntry) → TreeStops old new (λ find. measured (blocks_of find old.eof e.content)) stop → StopsNeed stop old new e
data-stop Memory old new e h = tt
data-stop (Refused (BySource stop)) old new e h = h
data-stop (Refused (Missing b)) old new e h = λ find n holds is. never (node-parts find old.eof e n is).own (h find holds)
data-stop (Refused (Form b)) old new e h = λ find n holds is. never (node-parts find old.eof e n is).own (h find holds)
data-stop (Refused Long) old new e h = λ find n holds is. never (node-parts find old.eof e n is).own (h find holds)
data-stop (Refused Deep) old new e h = λ find n holds is. never (node-parts find old.eof e n is).own (h find holds)
data-stop (Refused Many) old new e h = λ find n holds is. never (node-parts find old.eof e n is).own (h find holds)

-- a stop of the second reading is one of both
by-source : {A : Type 0} (old mid new : Source A) (stop : SourceStop) → Later old mid → StoppedBy mid new stop → StoppedBy old new stop
by-source old mid new Failed later h = let a = later.fails in omega (arith, a, h)
by-source old mid new (Changed ib stored computed) later h = (let a = later.changes in let b = h.0 in omega (arith, a, b), λ find holds. h.1 find (later.told find holds))

pub subs-stop : {A : Type 0} (stop : MemOr TreeStop) (old mid new : Source A) (e : NodeEntry) → Later old mid → StopsSubs stop mid new e.subnodes → StopsNeed stop old new e
subs-stop Memory old mid new e later h = tt
subs-stop (Refused (BySource stop)) old mid new e later h = by-source old mid new stop later h
subs-stop (Refused (Missing b)) old mid new e later h = λ find n holds is. h find n.subs (later.told find holds) (ap (λ (k : ℕ). subs_of find k e.subnodes) later.eof ∙ (node-parts find old.eof e n is).subs)
subs-stop (Refused (Form b)) old mid new e later h = λ find n holds is. h find n.subs (later.told find holds) (ap (λ (k : ℕ). subs_of find k e.subnodes) later.eof ∙ (node-parts find old.eof e n is).subs)
subs-stop (Refused Long) old mid new e later h = λ find n holds is. h find n.subs (later.told find holds) (ap (λ (k : ℕ). subs_of find k e.subnodes) later.eof ∙ (node-parts find old.eof e n is).subs)
subs-stop (Refused Deep) old mid new e later h = λ find n holds is. h find n.subs (later.told find holds) (ap (λ (k : ℕ). subs_of find k e.subnodes) later.eof ∙ (node-parts find old.eof e n is).subs)
subs-stop (Refused Many) old mid new e later h = λ find n holds is. h find n.subs (later.told find holds) (ap (λ (k : ℕ). subs_of find k e.subnodes) later.eof ∙ (node-parts find old.eof e n is).subs)
