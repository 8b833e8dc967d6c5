-- A keeper of a file before and after a call.
use Rattle.std.proofs.Common.{◌≡◌, ◌∙◌, ℕ, Bool, List, ◌++◌, length, take, drop, Result, Ok, refl, sym, ap, subst, Option}
use Rattle.std.proofs.lemmas.List.{take_at}
use Rattle.pst_base.specs.declared.ids.Nid.{Nid}
use Rattle.pst_outside.specs.World.{Image, World}
use Rattle.pst_header.specs.declared.header.Header.{Header}
use Rattle.pst_header.specs.declared.header.HeaderRefusal.{HeaderRefusal}
use Rattle.pst_header.specs.Format.{reading}
use Rattle.gate_file.specs.Effective.{effective}
use Rattle.gate_file.specs.Gate.{IsShut}
use Rattle.file_blocks.specs.Blocks.{file_of}
use Rattle.file_layout.specs.Nodes.{Lays, NodeMap}
use Rattle.node_port.specs.declared.node.NodeRec.{NodeRec}
use Rattle.node_port.specs.Nodes.{Nodes, changed}
use Rattle.lays_kept.specs.declared.Piece.{Piece}
use Rattle.lays_kept.specs.Kept.{HoldsEach, Scattered}
use Rattle.lays_kept.specs.Stands.{FileStands, Stands}
use Rattle.lays_kept.proofs.Gates.{shut_file}
use Rattle.pst_commit.specs.Commit.{IsApplied, bytes_in}
use Rattle.pst_commit.specs.declared.store.Pin.{Pin}
use Rattle.pst_commit.specs.Keeping.{Keeps, Holds, Comes, LooksOn, ReadsAs}
use Rattle.pst_commit.proofs.Outcomes.{shut_stands}

-- what is held reads under its header
pub held_reads : {knows : Header → List ℕ → Type 0} {header : Header} {v : World} (found : List ℕ) (N : Nodes) → Holds knows found header v N → ReadsAs knows header v N
held_reads {knows} {header} {v} found N held =
    let is = held.1.stands.file in
    record {
      told = held.0;
      present = header;
      known = held.1.known;
      end = refl;
      m = is.m;
      lays = subst (λ (h : Header). Lays h (file_of v.here) is.m) held.1.own is.lays;
      those = is.those;
    }

-- after a call that only looks, under this header or under another that ends the file at the same byte, the same is held
pub held_after : {knows knows' : Header → List ℕ → Type 0} {header rooted : Header} {used used' : List Bool} {held held' : List (Pin × List Bool)} {cells cells' : ℕ × ℕ × Bool} {v w : World} (found : List ℕ) (N : Nodes) (m : NodeMap)
    → LooksOn knows knows' rooted used used' held held' cells cells' v w → Lays rooted (file_of v.here) m → rooted.eof ≡ header.eof → Holds knows found header v N → Holds knows' found header w N
held_after {knows} {knows'} {header} {rooted} {used} {used'} {held} {held'} {cells} {cells'} {v} {w} found N m looks lays end holds =
    let told : w.tells = looks.world.keeps_told holds.0 in (
      told,
      subst (λ c. Keeps knows' found header c N) (sym (looks.world.stays.here told)) (record {
        stands = holds.1.stands;
        own = holds.1.own;
        known = looks.known m holds.0 lays header end holds.1.known;
      }),
    )

pub still_held : {knows knows' : Header → List ℕ → Type 0} {header : Header} {used used' : List Bool} {held held' : List (Pin × List Bool)} {cells cells' : ℕ × ℕ × Bool} {v w : World} (found : List ℕ) (N : Nodes)
    → LooksOn knows knows' header used used' held held' cells cells' v w → Holds knows found header v N → Holds knows' found header w N
still_held {knows} {knows'} {header} {used} {used'} {held} {held'} {cells} {cells'} {v} {w} found N looks holds =
    let reads : ReadsAs knows header v N = held_reads found N holds in
    held_after found N reads.m looks reads.lays refl holds

-- bytes read as one header
pub same_header : (x y : Header) (r : Result Header HeaderRefusal) → r ≡ Ok x → r ≡ Ok y → x ≡ y
same_header x y r one two = ok_same x y (sym one ∙ two)
  where
    ok_same : (g h : Header) → ◌≡◌ {A = Result Header HeaderRefusal} (Ok g) (Ok h) → g ≡ h
    ok_same g h e = cc

-- a header was put before bytes, and the gate is shut
pub keeps_now : (knows : Header → List ℕ → Type 0) (found sealed rest : List ℕ) (header : Header) (new : Image) (N : Nodes) → IsShut new.side → new.main ≡ sealed ++ rest → length sealed ≡ 564 → reading sealed ≡ Ok header
    → FileStands found (sealed ++ rest) N header.indexes → knows header (sealed ++ rest) → Keeps knows found header new N
keeps_now knows found sealed rest header new N shut main size read stands known =
    let file : effective new.main new.side ≡ sealed ++ rest = shut_file new.main new.side shut ∙ main in
    let now : Stands found new N header.indexes = shut_stands shut (subst (λ f. FileStands found f N header.indexes) (sym main) stands) in
    record {
      stands = now;
      own = same_header (now.file).header header (reading (take 564 (effective new.main new.side))) (now.file).read (ap (λ f. reading (take 564 f)) file ∙ ap reading (take_at sealed rest 564 size) ∙ read);
      known = subst (knows header) (sym file) known;
    }

-- after a commit the keeper has the nodes after
pub next_keeps : {after : Header → List ℕ → Type 0} {becomes : List ℕ → List ℕ → Type 0} {costs : List ℕ → List ℕ → List (Nid × Option NodeRec) → ℕ → Type 0} {held : List (Pin × List Bool)} {found sealed : List ℕ} {before header : Header} {pieces : List Piece} {cs : List (Nid × Option NodeRec)} {old new : Image} {N : Nodes} (knows : Header → List ℕ → Type 0)
    → Comes after becomes costs held found before old.main pieces sealed header cs N → length sealed ≡ 564 → ((file : List ℕ) → after header file → knows header file)
    → IsApplied (λ mid. Scattered pieces old.main mid × HoldsEach mid pieces) sealed old new → Keeps knows found header new (changed N cs)
next_keeps {after} {becomes} {costs} {held} {found} {sealed} {before} {header} {pieces} {cs} {old} {new} {N} knows comes size adopts is =
    keeps_now knows found sealed (drop 564 is.mid) header new (changed N cs) is.shut is.main size comes.read (comes.plan.makes is.mid is.file.0 is.file.1)
    (adopts (sealed ++ drop 564 is.mid) (comes.known is.mid is.file.0 is.file.1))

-- and its file is what the plan makes of the one before
pub next_becomes : {after : Header → List ℕ → Type 0} {becomes : List ℕ → List ℕ → Type 0} {costs : List ℕ → List ℕ → List (Nid × Option NodeRec) → ℕ → Type 0} {held : List (Pin × List Bool)} {found sealed : List ℕ} {before header : Header} {pieces : List Piece} {cs : List (Nid × Option NodeRec)} {old new : Image} {N : Nodes}
    → IsShut old.side → Comes after becomes costs held found before old.main pieces sealed header cs N → IsApplied (λ mid. Scattered pieces old.main mid × HoldsEach mid pieces) sealed old new → becomes (file_of old) (file_of new)
next_becomes {after} {becomes} {costs} {held} {found} {sealed} {before} {header} {pieces} {cs} {old} {new} {N} shut comes is =
    subst (λ f. becomes f (file_of new)) (sym (shut_file old.main old.side shut))
    (subst (becomes old.main) (sym (shut_file new.main new.side is.shut ∙ is.main)) (comes.made is.mid is.file.0 is.file.1))

-- and its pieces have as many bytes as is said of both files
pub next_costs : {after : Header → List ℕ → Type 0} {becomes : List ℕ → List ℕ → Type 0} {costs : List ℕ → List ℕ → List (Nid × Option NodeRec) → ℕ → Type 0} {held : List (Pin × List Bool)} {found sealed : List ℕ} {before header : Header} {pieces : List Piece} {cs : List (Nid × Option NodeRec)} {old new : Image} {N : Nodes}
    → IsShut old.side → Comes after becomes costs held found before old.main pieces sealed header cs N → IsApplied (λ mid. Scattered pieces old.main mid × HoldsEach mid pieces) sealed old new → costs (file_of old) (file_of new) cs (bytes_in pieces)
next_costs {after} {becomes} {costs} {held} {found} {sealed} {before} {header} {pieces} {cs} {old} {new} {N} shut comes is =
    subst (λ f. costs f (file_of new) cs (bytes_in pieces)) (sym (shut_file old.main old.side shut))
    (subst (λ f. costs old.main f cs (bytes_in pieces)) (sym (shut_file new.main new.side is.shut ∙ is.main)) (comes.cost is.mid is.file.0 is.file.1))
