use Rattle.std.proofs.Common.{◌^◌, List, map, sym, subst}
use Rattle.std.proofs.lemmas.Result.{err_from_is_err_and}
use Rattle.pst_outside.specs.World.{Image}
use Rattle.btree_pages.specs.declared.entry.NodeEntry.{NodeEntry}
use Rattle.copy_part.proofs.Keeping.{keeps_along, keeps_untouched}
use Rattle.file_blocks.specs.Blocks.{file_of}
use Rattle.ref_counts.specs.Tables.{refs_in}
use Rattle.copy_pieces.specs.declared.stops.CompactStop.{CompactStop}
use Rattle.compactor.specs.Compacted.{IsCompacted, StopsCompact}
use Rattle.compactor.specs.Layout.{IsTooLarge}
use Rattle.compactor.specs.Steps.{IsPlan, WritesCopy}
use Rattle.node_layout.specs.Joined.{node_id}
use Rattle.tree_edit.specs.Shapes.{RiseIn}
use Rattle.compactor.proofs.CompactLaws.{block-keys, chosen-stand, copy-stops, found-short, node-keys, plan-stops, too-large, whole}
use Rattle.compactor.proofs.StepLaws.{source-whole}
use Rattle.compactor.proofs.compacting.compact.Goals as goal

pub returns-in_err-found-clause-stops : goal.returns-in_err-found-clause-stops
returns-in_err-found-clause-stops g c =
    let p = err_from_is_err_and c.from_residual.result c.from_residual.ensures.1 in
    rw (p.1, p.2) (copy-stops c.args.source.now c.in_err-found.field-0.0 (g.W.Outside.view c.args.w.now) (g.W.Outside.view c.find.new.w) c.in_err-found.ensures.stops)

pub returns-in_err-plan-clause-stops : goal.returns-in_err-plan-clause-stops
returns-in_err-plan-clause-stops g c =
    let p = err_from_is_err_and c.from_residual-in_err-plan.result c.from_residual-in_err-plan.ensures.1 in
    let found = c.in_ok-found.found in
    let mid = g.W.Outside.view c.find.new.w in
    rw (p.1, p.2) (plan-stops c.args.source.now c.in_err-plan.field-0.0 (g.W.Outside.view c.args.w.now) mid found.entries.blocks.items c.in_ok-found.ensures.same c.in_err-plan.ensures.stops
    (λ told. found-short mid.here c.args.source.now found (c.in_ok-found.ensures.found told)))

pub returns-in_err-write_copy-clause-stops : goal.returns-in_err-write_copy-clause-stops
returns-in_err-write_copy-clause-stops g c =
    let p = err_from_is_err_and c.from_residual-in_err-write_copy.result c.from_residual-in_err-write_copy.ensures.1 in
    rw (p.1, p.2) (copy-stops c.args.source.now c.in_err-write_copy.field-0.0 (g.W.Outside.view c.args.w.now) (g.W.Outside.view c.write_copy.new.w) c.in_err-write_copy.ensures.stops)

pub write_copy-requires-clause-ready : goal.write_copy-requires-clause-ready
write_copy-requires-clause-ready g c =
    let found = c.in_ok-found.found in
    let plan = c.in_ok-plan.plan in
    let source = c.args.source.now in
    let mid = g.W.Outside.view c.find.new.w in
    let nodes = c.as_slice.ensures.value in
    record {
      whole = λ told. source-whole mid.here source (c.in_ok-found.ensures.found told).source_is;
      stand = λ told. chosen-stand mid.here source found plan (c.in_ok-found.ensures.found told) c.in_ok-plan.ensures.planned;
      short = c.in_ok-plan.ensures.short;
      uses = refs_in found.refs;
      blocks = found.entries.blocks.items;
      need = found.need;
      first = source.next_page;
      planned = subst (λ (es : List NodeEntry). IsPlan (refs_in found.refs) found.entries.blocks.items es found.need source.next_page plan) (sym nodes) c.in_ok-plan.ensures.planned;
      block_keys = c.in_ok-check_order.ensures.blocks;
      node_keys = subst (λ (es : List NodeEntry). RiseIn 0 (2 ^ 64) (map node_id es)) (sym nodes) c.in_ok-check_order.ensures.nodes;
    }

pub returns-clause-keeps : goal.returns-clause-keeps
returns-clause-keeps g c = keeps_along (keeps_untouched c.in_ok-found.ensures.same) c.in_ok-write_copy.ensures.keeps

pub returns-clause-compacted : goal.returns-clause-compacted
returns-clause-compacted g c = λ told.
    let there = c.in_ok-write_copy.ensures.keeps.told told in
    let found = c.in_ok-found.found in
    let plan = c.in_ok-plan.plan in
    let source = c.args.source.now in
    let mid = g.W.Outside.view c.find.new.w in
    let copy = (g.W.Outside.view c.write_copy.new.w).here.copy in
    let writes = subst (λ (es : List NodeEntry). WritesCopy (file_of mid.here) source es plan copy) c.as_slice.ensures.value (c.in_ok-write_copy.ensures.copy told) in
    subst (λ (i : Image). IsCompacted i source plan.eof copy) (c.in_ok-found.ensures.same.stays.here there)
    (whole mid.here source found plan (c.in_ok-found.ensures.found there) c.in_ok-plan.ensures.planned copy writes)

pub returns-then-plan-gt-LARGEST-clause-stops : goal.returns-then-plan-gt-LARGEST-clause-stops
returns-then-plan-gt-LARGEST-clause-stops g c =
    let mid = g.W.Outside.view c.find.new.w in
    let same = c.in_ok-found.ensures.same in
    let plan = c.in_ok-plan.plan in
    (same, λ told. subst (λ (i : Image). IsTooLarge i c.args.source.now plan.eof) (same.stays.here told) (too-large mid.here c.args.source.now c.in_ok-found.found plan (c.in_ok-found.ensures.found told) c.in_ok-plan.ensures.planned c.if-plan-gt-LARGEST.true))

pub returns-in_err-check_order-clause-stops : goal.returns-in_err-check_order-clause-stops
returns-in_err-check_order-clause-stops g c =
    let p = err_from_is_err_and c.from_residual-in_err-check_order.result c.from_residual-in_err-check_order.ensures.1 in
    let mid = g.W.Outside.view c.find.new.w in
    let stops = c.in_err-check_order.ensures.stops in
    rw (p.1, p.2) (subst (λ (s : CompactStop). StopsCompact c.args.source.now s (g.W.Outside.view c.args.w.now) mid) (sym stops.0) (λ told.
    let is = c.in_ok-found.ensures.found told in
    stops.1 (block-keys mid.here c.args.source.now c.in_ok-found.found c.in_ok-plan.plan is c.in_ok-plan.ensures.planned) (node-keys mid.here c.args.source.now c.in_ok-found.found c.in_ok-plan.plan is c.in_ok-plan.ensures.planned)))

pub returns-in_err-write_copy-clause-keeps : goal.returns-in_err-write_copy-clause-keeps
returns-in_err-write_copy-clause-keeps g c = keeps_along (keeps_untouched c.in_ok-found.ensures.same) c.in_err-write_copy.ensures.keeps
