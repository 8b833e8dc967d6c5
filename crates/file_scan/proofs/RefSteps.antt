-- How the references of a file are counted, node by node.
use Rattle.std.proofs.Common.{◌≡◌, ◌∙◌, ℕ, zero, suc, ◌+◌, ◌<◌, List, [], ◌∷◌, ◌++◌, length, take, get_or, Option, Result, Ok, Err, refl, sym, ap, subst, arith}
use Rattle.std.proofs.lemmas.List.{take_more}
use Rattle.pst_base.specs.declared.stops.MemOr.{MemOr}
use Rattle.pst_base.specs.declared.stops.MemOr.TheVariants as or_memory
use Rattle.pst_base.specs.declared.stops.SourceStop.TheVariants as sources
use Rattle.pst_base.specs.declared.ids.Nid.{Nid}
use Rattle.pst_base.specs.Flat.{Flat}
use Rattle.pst_outside.specs.World.{World}
use Rattle.pst_outside.specs.Calls.{Untouched}
use Rattle.btree_pages.specs.declared.entry.BlockEntry.{BlockEntry}
use Rattle.btree_pages.specs.declared.entry.NodeEntry.{NodeEntry}
use Rattle.data_tree.specs.declared.source.TreeStop.{TreeStop}
use Rattle.data_tree.specs.declared.source.TreeStop.TheVariants as tree_stops
use Rattle.data_tree.specs.Keys.{count_of}
use Rattle.data_tree.specs.Tree.{and_then, blocks_of}
use Rattle.data_tree.proofs.KeyLaws.{count-append}
use Rattle.subnode_tree.specs.Subnodes.{subs_of}
use Rattle.file_blocks.specs.Stops.{Holds}
use Rattle.file_layout.specs.Nodes.{Node, node_at, AreNodes}
use Rattle.node_reach.specs.Reach.{node_keys, node_keys_read, uses_of}
use Rattle.node_reach.proofs.ReadLaws.{keys-read, keys-are}
use Rattle.file_layout.specs.declared.stops.OpenStop.{OpenStop}
use Rattle.file_layout.specs.declared.stops.OpenStop.TheVariants.{Memory, Fault, Refused, Changed}
use Rattle.file_scan.specs.Parts.{StopsReading, NeverStops, stop_at}
use Rattle.file_scan.specs.declared.scan.FoundFile.{FoundFile}
use Rattle.file_scan.specs.Found.{IsFound}
use Rattle.file_scan.specs.Scan.{StopsScan}
use Rattle.pst_outside.specs.World.{Image}
use Rattle.file_scan.proofs.NodeSteps.{holds-still}

-- the references of one list behind another
uses-append : (find : ℕ → Option (List ℕ)) (key : ℕ) (xs ys : List NodeEntry) → uses_of find key (xs ++ ys) ≡ uses_of find key xs + uses_of find key ys
uses-append find key [] ys = omega arith
uses-append find key (x ∷ xs) ys = let rest = uses-append find key xs ys in omega (arith, rest)

-- one more node
pub uses-more : (find : ℕ → Option (List ℕ)) (eof key : ℕ) (nodes : List NodeEntry) (i : ℕ) (d : NodeEntry) (all more : List ℕ) → i < length nodes
    → count_of key all ≡ uses_of find key (take i nodes) → node_keys_read find eof (get_or nodes i d) ≡ Ok more → count_of key (all ++ more) ≡ uses_of find key (take (i + 1) nodes)
uses-more find eof key nodes i d all more within before read =
    let is : count_of key more ≡ count_of key (node_keys find (get_or nodes i d)) = ap (λ (ks : List ℕ). count_of key ks) (keys-are find eof (get_or nodes i d) more read) in
    let joined = count-append key all more in
    let whole : uses_of find key (take (i + 1) nodes) ≡ uses_of find key (take i nodes) + uses_of find key (get_or nodes i d ∷ []) =
    ap (λ (es : List NodeEntry). uses_of find key es) (take_more nodes i d within) ∙ uses-append find key (take i nodes) (get_or nodes i d ∷ []) in
    omega (arith, before, is, joined, whole)

-- a node that is read has its keys
node-read : (find : ℕ → Option (List ℕ)) (eof : ℕ) (e : NodeEntry) (n : Node) → node_at find eof e ≡ Ok n → node_keys_read find eof e ≡ Ok (node_keys find e)
unfolding node_at
node-read find eof e n is = by (blocks_of find eof e.content) (subs_of find eof e.subnodes) refl refl is
  where
    by : (b : Result (List (List ℕ)) TreeStop) (s : Result (List Flat) TreeStop) → blocks_of find eof e.content ≡ b → subs_of find eof e.subnodes ≡ s
        → and_then b (λ blocks. and_then s (λ subs. Ok (record { nid = (e.nid).bits; parent = (e.parent).bits; blocks = blocks; subs = subs }))) ≡ Ok n → node_keys_read find eof e ≡ Ok (node_keys find e)
    by (Ok bs) (Ok flats) one two is = keys-read find eof e bs flats one two
    by (Ok bs) (Err stop) one two is = absurd cc
    by (Err stop) s one two is = absurd cc

-- the node at a place is read
at-place : (find : ℕ → Option (List ℕ)) (eof : ℕ) (nodes : List NodeEntry) (are : List Node) (i : ℕ) (d : NodeEntry) → i < length nodes → AreNodes find eof nodes are → (n : Node) × (node_at find eof (get_or nodes i d) ≡ Ok n)
at-place find eof [] are i d within all = absurd (omega (arith, within))
at-place find eof (e ∷ es) are zero d within all = (all.0, all.3)
at-place find eof (e ∷ es) are (suc i) d within all = at-place find eof es all.1 i d (omega (arith, within)) all.4

-- no fault where it is read
no-fault : (find : ℕ → Option (List ℕ)) (eof : ℕ) (nodes : List NodeEntry) (are : List Node) (i : ℕ) (d : NodeEntry) (fault : TreeStop) → i < length nodes → AreNodes find eof nodes are
    → node_keys_read find eof (get_or nodes i d) ≡ Err fault → ⊥
no-fault find eof nodes are i d fault within all stops =
    let here = at-place find eof nodes are i d within all in
    never (node_keys find (get_or nodes i d)) (sym (node-read find eof (get_or nodes i d) here.0 here.1) ∙ stops)
  where
    never : (ks : List ℕ) → ◌≡◌ {A = Result (List ℕ) TreeStop} (Ok ks) (Err fault) → ⊥
    never ks h = cc

-- a stop at a node's keys
pub keys-stop : (old mid : World) (eof : ℕ) (blocks : List BlockEntry) (nodes : List NodeEntry) (i : ℕ) (d : NodeEntry) (ib : ℕ) (nid : Nid) → i < length nodes → Untouched old mid
    → (stop : MemOr TreeStop) → StopsReading stop mid eof blocks (λ find. node_keys_read find eof (get_or nodes i d)) → NeverStops (stop_at ib nid stop) old eof blocks nodes
keys-stop old mid eof blocks nodes i d ib nid within same or_memory.Memory stops = tt
keys-stop old mid eof blocks nodes i d ib nid within same (or_memory.Refused (tree_stops.Source sources.Failed)) stops = tt
keys-stop old mid eof blocks nodes i d ib nid within same (or_memory.Refused (tree_stops.Source (sources.Changed at stored computed))) stops = λ find are h all. stops find (holds-still same h)
keys-stop old mid eof blocks nodes i d ib nid within same (or_memory.Refused (tree_stops.Missing bid)) stops = λ find are h all. no-fault find eof nodes are i d (tree_stops.Missing bid) within all (stops find (holds-still same h))
keys-stop old mid eof blocks nodes i d ib nid within same (or_memory.Refused (tree_stops.Form bid)) stops = λ find are h all. no-fault find eof nodes are i d (tree_stops.Form bid) within all (stops find (holds-still same h))
keys-stop old mid eof blocks nodes i d ib nid within same (or_memory.Refused tree_stops.Long) stops = λ find are h all. no-fault find eof nodes are i d tree_stops.Long within all (stops find (holds-still same h))
keys-stop old mid eof blocks nodes i d ib nid within same (or_memory.Refused tree_stops.Deep) stops = λ find are h all. no-fault find eof nodes are i d tree_stops.Deep within all (stops find (holds-still same h))
keys-stop old mid eof blocks nodes i d ib nid within same (or_memory.Refused tree_stops.Many) stops = λ find are h all. no-fault find eof nodes are i d tree_stops.Many within all (stops find (holds-still same h))

-- as a stop of a scan of files that are read
pub never-scan : (stop : OpenStop) (old : World) (eof : ℕ) (blocks : List BlockEntry) (nodes : List NodeEntry) (image : Image) → NeverStops stop old eof blocks nodes
    → (find : ℕ → Option (List ℕ)) (are : List Node) → Holds old eof blocks find → AreNodes find eof nodes are → StopsScan stop image
never-scan Memory old eof blocks nodes image never find are h all = tt
never-scan Fault old eof blocks nodes image never find are h all = tt
never-scan (Changed ib stored computed) old eof blocks nodes image never find are h all = never find are h all
never-scan (Refused refusal) old eof blocks nodes image never find are h all = absurd (never find are h all)

-- what was found of an image was found of an equal one
pub still-found : (a b : Image) (found : FoundFile) → b ≡ a → IsFound a found → IsFound b found
still-found a b found same is = subst (λ (i : Image). IsFound i found) (sym same) is
