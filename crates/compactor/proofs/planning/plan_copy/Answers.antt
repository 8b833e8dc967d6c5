use Rattle.std.proofs.Common.{◌∙◌, ℕ, List, sym, ap, subst, arith}
use Rattle.std.proofs.lemmas.Result.{err_from_is_err_and}
use Rattle.btree_pages.specs.declared.entry.BlockEntry.{BlockEntry}
use Rattle.copy_layout.specs.Order.{IsEnd}
use Rattle.copy_pieces.specs.Moved.{AreMoved, reached}
use Rattle.copy_trees.specs.Levels.{IsPlanned}
use Rattle.file_scan.specs.Parts.{AllShort}
use Rattle.ref_counts.specs.Tables.{refs_in}
use Rattle.compactor.proofs.StepLaws.{planned-fits, reached-short}
use Rattle.compactor.proofs.planning.plan_copy.Goals as goal

pub returns-in_err-placed-clause-stops : goal.returns-in_err-placed-clause-stops
returns-in_err-placed-clause-stops c =
    let p = err_from_is_err_and c.from_residual-in_err-placed.result c.from_residual-in_err-placed.ensures.1 in
    let uses = refs_in c.args.found.now.refs in
    let chosen = c.as_slice-2.ensures.value ∙ c.in_ok-chosen.ensures in
    rw (p.1, p.2) (λ all. c.in_err-placed.ensures.stops (subst AllShort (sym chosen) (reached-short uses c.as_slice.result.now (subst AllShort (sym c.as_slice.ensures.value) all))))

pub plan_tree-requires-2-clause-low : goal.plan_tree-requires-2-clause-low
plan_tree-requires-2-clause-low c =
    let nodes = c.in_ok-nodes.nodes in
    let fits = planned-fits 15 c.len.result c.in_ok-placed.placed.end c.args.first nodes.levels.items nodes.root nodes.end nodes.next_page c.in_ok-nodes.ensures.planned in
    let low = c.in_ok-placed.ensures.low in
    let more = fits.low in
    omega (arith, low, more)

pub plan_tree-requires-2-clause-numbers : goal.plan_tree-requires-2-clause-numbers
plan_tree-requires-2-clause-numbers c =
    let nodes = c.in_ok-nodes.nodes in
    let fits = planned-fits 15 c.len.result c.in_ok-placed.placed.end c.args.first nodes.levels.items nodes.root nodes.end nodes.next_page c.in_ok-nodes.ensures.planned in
    let few = fits.few in
    let first = c.requires.numbers in
    omega (arith, few, first)

pub returns-clause-planned : goal.returns-clause-planned
returns-clause-planned c =
    let uses = refs_in c.args.found.now.refs in
    let nodes = c.in_ok-nodes.nodes in
    let tree = c.in_ok-tree.tree in
    let placed = c.in_ok-placed.placed in
    let chosen = c.in_ok-chosen.ensures ∙ ap (reached uses) c.as_slice.ensures.value in
    let one = planned-fits 15 c.len.result placed.end c.args.first nodes.levels.items nodes.root nodes.end nodes.next_page c.in_ok-nodes.ensures.planned in
    let two = planned-fits 20 c.len-2.result nodes.end nodes.next_page tree.levels.items tree.root tree.end tree.next_page c.in_ok-tree.ensures.planned in
    let few = one.few in
    let fewer = two.few in
    let first = c.requires.numbers in
    record {
      chosen = chosen;
      layout = record {
        moved = subst (λ (es : List BlockEntry). AreMoved uses es placed.entries.items) (c.as_slice-2.ensures.value ∙ chosen) c.in_ok-placed.ensures.moved;
        blocks_end = placed.end;
        blocks_stand = c.in_ok-placed.ensures.order;
        node_pages = subst (λ (n : ℕ). IsPlanned 15 n placed.end c.args.first nodes.levels.items nodes.root nodes.end nodes.next_page) (c.len.ensures ∙ c.args.found.now.entries.nodes.ok.0) c.in_ok-nodes.ensures.planned;
        block_pages = subst (λ (n : ℕ). IsPlanned 20 n nodes.end nodes.next_page tree.levels.items tree.root tree.end tree.next_page) (c.len-2.ensures ∙ placed.entries.ok.0) c.in_ok-tree.ensures.planned;
        ends = subst (λ (n : ℕ). IsEnd n c.in_ok-eof.eof) c.max.ensures c.in_ok-eof.ensures.end;
      };
      few = omega (arith, few, fewer, first);
    }
