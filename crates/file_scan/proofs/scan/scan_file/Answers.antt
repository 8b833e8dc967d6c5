use Rattle.std.proofs.Common.{◌∙◌, ℕ, List, Option, ap, sym, subst, length}
use Rattle.std.proofs.lemmas.Result.{err_from_is_err_and}
use Rattle.btree_pages.specs.declared.entry.BlockEntry.{BlockEntry}
use Rattle.btree_pages.specs.declared.entry.NodeEntry.{NodeEntry}
use Rattle.file_blocks.specs.Blocks.{file_of, found_in}
use Rattle.file_blocks.specs.Stops.{Holds}
use Rattle.file_layout.specs.Nodes.{AreNodes, blocks_in}
use Rattle.file_layout.specs.Numbers.{next_block, next_page}
use Rattle.node_reach.specs.Reach.{uses_of}
use Rattle.file_scan.proofs.RefSteps.{never-scan, still-found}
use Rattle.file_scan.proofs.ScanLaws.{holds-found}
use Rattle.file_scan.proofs.scan.scan_file.Goals as goal

pub returns-in_err-refs-clause-refused : goal.returns-in_err-refs-clause-refused
returns-in_err-refs-clause-refused g c =
    let p = err_from_is_err_and c.from_residual-in_err-refs.result c.from_residual-in_err-refs.ensures.1 in
    let header = c.in_ok-scanned.scanned.header in
    let mid = g.W.Outside.view c.scan.new.w in
    rw (p.1, p.2) (λ told.
    let there = c.in_err-refs.ensures.same.stays.told told in
    let laid = c.in_ok-scanned.ensures.lays there in
    let lays = laid.lays in
    let find : ℕ → Option (List ℕ) = found_in (file_of mid.here) (blocks_in lays.blocks) in
    never-scan c.in_err-refs.field-0.0 mid header.eof c.as_slice.result.now c.as_slice-2.result.now (g.W.Outside.view c.count_refs.new.w).here c.in_err-refs.ensures.stops find laid.nodes.nodes
    (subst (λ (es : List BlockEntry). Holds mid header.eof es find) (sym (c.as_slice.ensures.value ∙ laid.blocks_are)) (holds-found mid header.eof header.bbt lays.blocks (record { tells = there; whole = c.in_ok-scanned.ensures.whole there }) lays.block_pages lays.stand))
    (subst (λ (es : List NodeEntry). AreNodes find header.eof es laid.nodes.nodes) (sym (c.as_slice-2.ensures.value ∙ laid.entries_are)) lays.are))

pub returns-clause-found : goal.returns-clause-found
returns-clause-found g c = λ told.
    let header = c.in_ok-scanned.scanned.header in
    let mid = g.W.Outside.view c.scan.new.w in
    let same = c.in_ok-refs.ensures.same.stays in
    let there = same.told told in
    let laid = c.in_ok-scanned.ensures.lays there in
    let lays = laid.lays in
    let find : ℕ → Option (List ℕ) = found_in (file_of mid.here) (blocks_in lays.blocks) in
    let holds : Holds mid header.eof c.as_slice.result.now find =
    subst (λ (es : List BlockEntry). Holds mid header.eof es find) (sym (c.as_slice.ensures.value ∙ laid.blocks_are)) (holds-found mid header.eof header.bbt lays.blocks (record { tells = there; whole = c.in_ok-scanned.ensures.whole there }) lays.block_pages lays.stand) in
    still-found mid.here (g.W.Outside.view c.count_refs.new.w).here _ (same.here told) (record {
      opened = c.in_ok-scanned.ensures.opened there;
      nodes = laid.nodes;
      lays = lays;
      size = c.in_ok-scanned.ensures.size;
      used = laid.used;
      pages = c.len.ensures ∙ c.in_ok-scanned.scanned.pages.ok.0 ∙ ap length laid.pages_are;
      next_block = c.next_block.ensures ∙ ap (next_block header) (c.as_slice-3.ensures.value ∙ laid.blocks_are);
      next_page = c.next_page.ensures ∙ ap (next_page header) (c.as_slice-4.ensures.value ∙ laid.pages_are);
      refs = λ key. c.in_ok-refs.ensures.refs find holds key ∙ ap (λ (es : List NodeEntry). uses_of find key es) (c.as_slice-2.ensures.value ∙ laid.entries_are);
    })
