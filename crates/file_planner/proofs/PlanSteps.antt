-- A plan of what was read before, over a file that is as it was.
use Rattle.std.proofs.Common.{Bool, ◌≡◌, ◌∙◌, ℕ, ◌+◌, ◌*◌, ◌/◌, ◌^◌, ◌<◌, ◌≤◌, min, List, length, Option, sym, subst, arith}
use Rattle.std.specs.List.{range_with_len}
use Rattle.std.proofs.lemmas.List.FromFn.{length-range_with_len}
use Rattle.std.proofs.lemmas.List.Sums.{count_by-le-length}
use Rattle.pst_base.specs.declared.ids.Nid.{Nid}
use Rattle.pst_outside.specs.World.{Image, World}
use Rattle.pst_outside.specs.Calls.{Untouched}
use Rattle.pst_header.specs.declared.header.Header.{Header}
use Rattle.alloc_map.specs.Cells.{are_free, cell_slot, free_cells_of}
use Rattle.btree_pages.specs.declared.entry.BlockEntry.{BlockEntry}
use Rattle.content_plan.specs.Plan.{puts_in}
use Rattle.file_blocks.specs.Blocks.{file_of}
use Rattle.file_layout.specs.Nodes.{Lays, NodeMap}
use Rattle.lays_kept.specs.declared.Piece.{Piece}
use Rattle.node_port.specs.declared.node.NodeRec.{NodeRec}
use Rattle.node_store.specs.declared.node.PageCaches.{PageCaches}
use Rattle.node_store.specs.Told.{TellsNodes}
use Rattle.plan_drawing.specs.declared.draw.Numbers.{Numbers}
use Rattle.plan_drawing.specs.declared.draw.Sketch.{Sketch}
use Rattle.plan_drawing.specs.declared.effects.PlanEffects.{PlanEffects}
use Rattle.plan_drawing.specs.Drawn.{IsDrawn}
use Rattle.plan_placing.specs.Draws.{CanDraw, IsSketched}
use Rattle.plan_placing.specs.Known.{IsKnown}

-- what is drawn of any reading of a file
abbrev pub DrawsAll : Header → List Bool → (ℕ → ℕ) → Numbers → List (Nid × Option NodeRec) → Sketch → List (ℕ × Option BlockEntry) → List Piece → List ℕ → Header → PlanEffects → List ℕ → Type 0
DrawsAll header slots counts numbers cs sketch edits pieces sealed next e file = (m : NodeMap) (is : Lays header file m) → IsSketched is counts numbers.block cs sketch edits → IsDrawn is slots counts numbers.pages numbers.block numbers.page cs pieces sealed next e

-- a plan that was drawn after a reading is one for the file before it
pub draw-before : {old mid : World} {header : Header} {caches now : PageCaches} {m : NodeMap} (slots : List Bool) (counts : ℕ → ℕ) (numbers : Numbers) (cs : List (Nid × Option NodeRec)) (sketch : Sketch) (edits : List (ℕ × Option BlockEntry)) (pieces : List Piece) (sealed : List ℕ) (next : Header) (e : PlanEffects)
    → Untouched old mid → (tells : TellsNodes old header caches m) → TellsNodes mid header now m
    → ((n : NodeMap) (after : TellsNodes mid header now n) (numbers_of : ℕ → ℕ) (ds : List (Nid × Option NodeRec)) → IsSketched after.lays numbers_of numbers.block ds sketch edits → IsDrawn after.lays slots numbers_of numbers.pages numbers.block numbers.page ds pieces sealed next e)
    → IsSketched tells.lays counts numbers.block cs sketch edits → IsDrawn tells.lays slots counts numbers.pages numbers.block numbers.page cs pieces sealed next e
draw-before {old} {mid} {header} {caches} {now} {m} slots counts numbers cs sketch edits pieces sealed next e same tells after drawn sketched =
    let there : DrawsAll header slots counts numbers cs sketch edits pieces sealed next e (file_of mid.here) = λ n is here. drawn n (record { cached = after.cached; lays = is }) counts cs here in
    let all : DrawsAll header slots counts numbers cs sketch edits pieces sealed next e (file_of old.here) = subst (λ (i : Image). DrawsAll header slots counts numbers cs sketch edits pieces sealed next e (file_of i)) (same.stays.here after.cached.blocks.told.tells) there in
    all m tells.lays sketched

-- what is told of a file for a plan
abbrev pub ToldAll : Header → List Bool → (ℕ → ℕ) → Numbers → List (Nid × Option NodeRec) → Sketch → List (ℕ × Option BlockEntry) → List ℕ → Type 0
ToldAll header used counts numbers cs sketch edits file = (m : NodeMap) × (is : Lays header file m) × IsKnown is used counts numbers.pages numbers.block numbers.page × IsSketched is counts numbers.block cs sketch edits

cells-few : (used : List Bool) → length used ≡ 3968 * 8192 → free_cells_of used ≤ 2 ^ 18
unfolding free_cells_of
cells-few used size =
    let n : ℕ = 30 * (length used / 3968) in
    let a = count_by-le-length (λ cell. are_free used (cell_slot cell) 128) (range_with_len 0 n) in
    let b = length-range_with_len 0 n in
    omega (arith, a, b, size)

-- a plan can be drawn after a reading, where all was told before it
pub can-after : {old mid : World} {header : Header} {caches now : PageCaches} {m : NodeMap} (used all : List Bool) (counts : ℕ → ℕ) (numbers : Numbers) (cs : List (Nid × Option NodeRec)) (sketch : Sketch) (edits : List (ℕ × Option BlockEntry)) (size : ℕ)
    → Untouched old mid → (tells : TellsNodes old header caches m) → TellsNodes mid header now m → length all ≡ length used → IsKnown tells.lays used counts numbers.pages numbers.block numbers.page → IsSketched tells.lays counts numbers.block cs sketch edits
    → numbers.block < 2 ^ 61 → 2 * (length sketch.blocks.items + puts_in sketch.nodes.items) ≤ 3 * size → numbers.pages / 16 + 3 * min size (2 ^ 60) + 16 ≤ free_cells_of all
    → CanDraw mid header now numbers sketch edits (free_cells_of all)
can-after {old} {mid} {header} {caches} {now} {m} used all counts numbers cs sketch edits size same tells after whole known sketched low few enough =
    let here : ToldAll header used counts numbers cs sketch edits (file_of old.here) = (m, tells.lays, known, sketched) in
    let there : ToldAll header used counts numbers cs sketch edits (file_of mid.here) = subst (λ (i : Image). ToldAll header used counts numbers cs sketch edits (file_of i)) (sym (same.stays.here after.cached.blocks.told.tells)) here in
    let most = cells-few all (whole ∙ known.size) in
    record {
      m = there.0;
      tells = record { cached = after.cached; lays = there.1 };
      used = used;
      counts = counts;
      known = there.2;
      low = low;
      cs = cs;
      sketched = there.3;
      size = size;
      few = few;
      enough = omega (arith, enough, most);
      bound = omega (arith, few, enough, most);
    }
