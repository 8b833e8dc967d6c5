use Rattle.std.proofs.Common.{sym, subst}
use Rattle.std.proofs.lemmas.Result.{err_from_is_err_and}
use Rattle.pst_outside.specs.World.{Image}
use Rattle.file_blocks.specs.Blocks.{file_of}
use Rattle.file_layout.proofs.Underway.{untouched_then}
use Rattle.file_scan.specs.Parts.{StopsTrees, LaysThese}
use Rattle.file_scan.proofs.BlockSteps.{tells-here}
use Rattle.file_scan.proofs.ScanLaws.{blocks-stops, nodes-stops, gathered, lines-stopped, places-stopped, lines-laid}
use Rattle.file_scan.proofs.scan.scan_trees.Goals as goal

pub returns-in_err-blocks-clause-refused : goal.returns-in_err-blocks-clause-refused
returns-in_err-blocks-clause-refused g c =
    let p = err_from_is_err_and c.from_residual.result c.from_residual.ensures.1 in
    rw (p.1, p.2) (λ told. blocks-stops c.args.header.now (file_of (g.W.Outside.view c.read_blocks.new.w).here) c.in_err-blocks.field-0.0 (c.in_err-blocks.ensures.refused told))

pub returns-in_err-read_tree-clause-refused : goal.returns-in_err-read_tree-clause-refused
returns-in_err-read_tree-clause-refused g c =
    let p = err_from_is_err_and c.from_residual-in_err-read_tree.result c.from_residual-in_err-read_tree.ensures.1 in
    rw (p.1, p.2) (λ told. nodes-stops c.args.header.now (file_of (g.W.Outside.view c.read_tree.new.w).here) c.in_err-read_tree.field-0.0 (c.in_err-read_tree.ensures.refused told))

pub returns-in_err-lines-clause-refused : goal.returns-in_err-lines-clause-refused
returns-in_err-lines-clause-refused g c =
    let p = err_from_is_err_and c.from_residual-in_err-lines.result c.from_residual-in_err-lines.ensures.1 in
    let header = c.args.header.now in
    let mid = g.W.Outside.view c.read_tree.new.w in
    rw (p.1, p.2) (λ told.
    let there = c.in_err-lines.ensures.same.stays.told told in
    let tree = c.in_ok-read_tree.ensures.tree there in
    let has = c.in_ok-blocks.ensures.blocks (c.in_ok-read_tree.ensures.same.stays.told there) in
    let all = gathered header (g.W.Outside.view c.read_blocks.new.w).here mid.here c.in_ok-blocks.blocks.items c.new-nodes.result.items c.read_tree.new.entries.items c.in_ok-blocks.pages.items c.read_tree.new.pages.items
    (c.in_ok-read_tree.ensures.same.stays.here there) c.new-nodes.ensures.items has tree.0 tree.1 tree.2 in
    let tells = tells-here (untouched_then c.in_ok-blocks.ensures.same c.in_ok-read_tree.ensures.same) c.requires.whole there in
    subst (λ (i : Image). StopsTrees c.in_err-lines.field-0.0 header (file_of i)) (sym (c.in_err-lines.ensures.same.stays.here told))
    (lines-stopped header mid c.in_ok-blocks.blocks.items c.as_slice.result.now c.read_tree.new.entries.items c.as_slice-2.result.now c.read_tree.new.pages.items tells all c.as_slice.ensures.value c.as_slice-2.ensures.value
    c.in_err-lines.field-0.0 c.in_err-lines.ensures.stops))

pub returns-in_err-slots-clause-refused : goal.returns-in_err-slots-clause-refused
returns-in_err-slots-clause-refused g c =
    let p = err_from_is_err_and c.from_residual-in_err-slots.result c.from_residual-in_err-slots.ensures.1 in
    let header = c.args.header.now in
    let mid = g.W.Outside.view c.read_tree.new.w in
    rw (p.1, p.2) (λ told.
    let there = c.in_ok-lines.ensures.same.stays.told told in
    let tree = c.in_ok-read_tree.ensures.tree there in
    let has = c.in_ok-blocks.ensures.blocks (c.in_ok-read_tree.ensures.same.stays.told there) in
    let all = gathered header (g.W.Outside.view c.read_blocks.new.w).here mid.here c.in_ok-blocks.blocks.items c.new-nodes.result.items c.read_tree.new.entries.items c.in_ok-blocks.pages.items c.read_tree.new.pages.items
    (c.in_ok-read_tree.ensures.same.stays.here there) c.new-nodes.ensures.items has tree.0 tree.1 tree.2 in
    subst (λ (i : Image). StopsTrees c.in_err-slots.field-0.0 header (file_of i)) (sym (c.in_ok-lines.ensures.same.stays.here told))
    (places-stopped header (file_of mid.here) c.in_ok-blocks.blocks.items c.as_slice-4.result.now c.read_tree.new.entries.items c.read_tree.new.pages.items c.as_slice-3.result.now all c.as_slice-4.ensures.value c.as_slice-3.ensures.value
    c.in_err-slots.field-0.0 c.in_err-slots.ensures.overlap))

pub returns-clause-lays : goal.returns-clause-lays
returns-clause-lays g c = λ told.
    let header = c.args.header.now in
    let mid = g.W.Outside.view c.read_tree.new.w in
    let there = c.in_ok-lines.ensures.same.stays.told told in
    let tree = c.in_ok-read_tree.ensures.tree there in
    let has = c.in_ok-blocks.ensures.blocks (c.in_ok-read_tree.ensures.same.stays.told there) in
    let all = gathered header (g.W.Outside.view c.read_blocks.new.w).here mid.here c.in_ok-blocks.blocks.items c.new-nodes.result.items c.read_tree.new.entries.items c.in_ok-blocks.pages.items c.read_tree.new.pages.items
    (c.in_ok-read_tree.ensures.same.stays.here there) c.new-nodes.ensures.items has tree.0 tree.1 tree.2 in
    let tells = tells-here (untouched_then c.in_ok-blocks.ensures.same c.in_ok-read_tree.ensures.same) c.requires.whole there in
    subst (λ (i : Image). LaysThese header (file_of i) c.in_ok-blocks.blocks.items c.read_tree.new.entries.items c.read_tree.new.pages.items c.in_ok-lines.lines.items c.in_ok-slots.slots) (sym (c.in_ok-lines.ensures.same.stays.here told))
    (lines-laid header mid c.in_ok-blocks.blocks.items c.as_slice.result.now c.as_slice-4.result.now c.read_tree.new.entries.items c.as_slice-2.result.now c.read_tree.new.pages.items c.as_slice-3.result.now c.in_ok-lines.lines.items c.in_ok-slots.slots
    tells all c.as_slice.ensures.value c.as_slice-4.ensures.value c.as_slice-2.ensures.value c.as_slice-3.ensures.value c.requires.small c.in_ok-lines.ensures.lines c.in_ok-slots.ensures.apart c.in_ok-slots.ensures.used)

pub returns-clause-same : goal.returns-clause-same
returns-clause-same g c = untouched_then (untouched_then c.in_ok-blocks.ensures.same c.in_ok-read_tree.ensures.same) c.in_ok-lines.ensures.same
