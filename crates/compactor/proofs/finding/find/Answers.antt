use Rattle.std.proofs.Common.{◌∙◌, refl, sym, subst}
use Rattle.std.proofs.lemmas.Result.{err_from_is_err_and}
use Rattle.pst_outside.specs.World.{Image}
use Rattle.file_layout.proofs.Underway.{untouched_then}
use Rattle.copy_pieces.specs.declared.stops.CompactStop.{CompactStop}
use Rattle.copy_pieces.specs.Stops.{StopsCopy}
use Rattle.compactor.specs.Steps.{IsFound}
use Rattle.compactor.specs.declared.finding.Found.{Found}
use Rattle.compactor.proofs.FindLaws.{all-found, entries-told, source-after, told-still, trees-after}
use Rattle.compactor.proofs.StepLaws.{need-stop, refs-stop}
use Rattle.compactor.proofs.finding.find.Goals as goal

pub read_entries-requires : goal.read_entries-requires
read_entries-requires g c = trees-after (g.W.Outside.view c.args.w.now) (g.W.Outside.view c.check_header.new.w) c.args.source.now c.in_ok-check_header.ensures.same c.requires.source

pub returns-in-Err-clause-stops : goal.returns-in-Err-clause-stops
returns-in-Err-clause-stops g c =
    let old = g.W.Outside.view c.args.w.now in
    let mid = g.W.Outside.view c.read_entries.new.w in
    let new = g.W.Outside.view c.count_refs.new.w in
    let source = c.args.source.now in
    let is = source-after old mid source (untouched_then c.in_ok-check_header.ensures.same c.in_ok-entries.ensures.same) c.requires.source in
    let are = entries-told mid source c.in_ok-entries.entries c.as_slice-blocks.result.now c.as_slice-nodes.result.now is c.in_ok-entries.ensures.entries c.as_slice-blocks.ensures.value c.as_slice-nodes.ensures.value in
    subst (λ (s : CompactStop). StopsCopy s new) (sym c.refs_stop.ensures) (refs-stop c.in-Err.stop mid new source.header.eof c.as_slice-blocks.result.now c.as_slice-nodes.result.now c.in-Err.ensures.stops (λ told. are (c.in-Err.ensures.same.stays.told told)))

pub returns-in_err-need-clause-stops : goal.returns-in_err-need-clause-stops
returns-in_err-need-clause-stops g c =
    let p = err_from_is_err_and c.from_residual-in_err-need.result c.from_residual-in_err-need.ensures.1 in
    let old = g.W.Outside.view c.args.w.now in
    let mid = g.W.Outside.view c.read_entries.new.w in
    let later = g.W.Outside.view c.count_refs.new.w in
    let new = g.W.Outside.view c.most_need.new.w in
    let source = c.args.source.now in
    let is = source-after old mid source (untouched_then c.in_ok-check_header.ensures.same c.in_ok-entries.ensures.same) c.requires.source in
    let are = entries-told mid source c.in_ok-entries.entries c.as_slice-blocks.result.now c.as_slice-nodes.result.now is c.in_ok-entries.ensures.entries c.as_slice-blocks.ensures.value c.as_slice-nodes.ensures.value in
    rw (p.1, p.2) (need-stop c.in_err-need.field-0.0 later new source.header.eof c.as_slice-blocks.result.now c.as_slice-nodes.result.now c.in_err-need.ensures.stops (λ told.
    let there = c.in_err-need.ensures.same.stays.told told in
    told-still mid later source.header.eof c.as_slice-blocks.result.now c.as_slice-nodes.result.now c.in-Ok.ensures.same (are (c.in-Ok.ensures.same.stays.told there))))

pub returns-clause-found : goal.returns-clause-found
returns-clause-found g c = λ told.
    let there = c.in_ok-need.ensures.same.stays.told told in
    let here = c.in-Ok.ensures.same.stays.told there in
    let old = g.W.Outside.view c.args.w.now in
    let mid = g.W.Outside.view c.read_entries.new.w in
    let later = g.W.Outside.view c.count_refs.new.w in
    let source = c.args.source.now in
    let found : Found = record { entries = c.in_ok-entries.entries; refs = c.in-Ok.refs; need = c.in_ok-need.need } in
    let is = source-after old mid source (untouched_then c.in_ok-check_header.ensures.same c.in_ok-entries.ensures.same) c.requires.source in
    subst (λ (i : Image). IsFound i source found) (sym (c.in_ok-need.ensures.same.stays.here told ∙ c.in-Ok.ensures.same.stays.here there))
    (all-found mid source c.in_ok-entries.entries c.as_slice-blocks.result.now c.as_slice-nodes.result.now is c.in_ok-entries.ensures.entries c.as_slice-blocks.ensures.value c.as_slice-nodes.ensures.value later found c.in-Ok.ensures.same refl c.in-Ok.ensures.refs c.in_ok-need.ensures.need here)
