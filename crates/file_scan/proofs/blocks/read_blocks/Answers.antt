use Rattle.std.proofs.Common.{sym, subst}
use Rattle.std.proofs.lemmas.Result.{err_from_is_err_and}
use Rattle.pst_outside.specs.World.{Image}
use Rattle.btree_pages.specs.Entries.{block_of}
use Rattle.file_blocks.specs.Blocks.{file_of}
use Rattle.file_layout.specs.Nodes.{block_tree}
use Rattle.file_layout.specs.Trees.{root_seat}
use Rattle.file_layout.specs.Walk.{AddsBefore, AddsReached}
use Rattle.file_layout.specs.declared.stops.OpenStop.{OpenStop}
use Rattle.file_scan.proofs.ScanLaws.{block-stops}
use Rattle.file_scan.proofs.blocks.read_blocks.Goals as goal

pub returns-in_err-check_blocks-in-Err-Refused-clause-refused : goal.returns-in_err-check_blocks-in-Err-Refused-clause-refused
returns-in_err-check_blocks-in-Err-Refused-clause-refused g c =
    let p = err_from_is_err_and c.from_residual.result c.from_residual.ensures.1 in
    let old = c.new-blocks.result.items in
    let blocks = c.read_tree.new.entries.items in
    let stop = c.in_err-check_blocks-in-Err-Refused.field-0.0 in
    rw (p.1, p.2) (λ told.
    let same = c.in_err-check_blocks-in-Err-Refused.ensures.same.stays in
    let file = file_of (g.W.Outside.view c.check_blocks.new.w).here in
    let adds = subst (λ (i : Image). AddsReached block_of (block_tree (file_of i) c.args.eof) (root_seat c.args.root) old blocks) (sym (same.here told))
    (subst (λ (s : OpenStop). AddsBefore s block_of (block_tree (file_of (g.W.Outside.view c.read_tree.new.w).here) c.args.eof) (root_seat c.args.root) old blocks) c.in-Err-Refused.field-0-is (c.in-Err-Refused.ensures.before (same.told told))) in
    block-stops file c.args.eof c.args.root old blocks c.as_slice.result.now stop c.new-blocks.ensures.items adds c.as_slice.ensures.value (c.in_err-check_blocks-in-Err-Refused.ensures.refused told))

pub returns-in_err-check_blocks-clause-refused : goal.returns-in_err-check_blocks-clause-refused
returns-in_err-check_blocks-clause-refused g c =
    let p = err_from_is_err_and c.from_residual-in_err-check_blocks.result c.from_residual-in_err-check_blocks.ensures.1 in
    let old = c.new-blocks.result.items in
    let blocks = c.read_tree.new.entries.items in
    let stop = c.in_err-check_blocks.field-0.0 in
    rw (p.1, p.2) (λ told.
    let same = c.in_err-check_blocks.ensures.same.stays in
    let file = file_of (g.W.Outside.view c.check_blocks-2.new.w).here in
    let adds = subst (λ (i : Image). AddsReached block_of (block_tree (file_of i) c.args.eof) (root_seat c.args.root) old blocks) (sym (same.here told)) (c.in-Ok.ensures.reached (same.told told)) in
    block-stops file c.args.eof c.args.root old blocks c.as_slice-2.result.now stop c.new-blocks.ensures.items adds c.as_slice-2.ensures.value (c.in_err-check_blocks.ensures.refused told))
