use Rattle.std.proofs.Common.{◌-◌, ◌≤◌, List, arith, drop, length, length-drop, subst, sym, take}
use Rattle.std.proofs.lemmas.List.{take_rest}
use Rattle.std.proofs.lemmas.Result.{err_from_is_err_and}
use Rattle.pst_outside.specs.World.{Image}
use Rattle.btree_pages.specs.declared.entry.BlockEntry.{BlockEntry}
use Rattle.file_blocks.specs.Blocks.{AllStand, file_of}
use Rattle.file_scan.specs.Parts.{AllPlaced, StopsAtBlock}
use Rattle.file_scan.proofs.BlockSteps.{tells-here}
use Rattle.file_scan.proofs.RunSteps.{checking-end, checking-run, placing-end, placing-run, stop-behind}
use Rattle.file_layout.proofs.Underway.{untouched_then}
use Rattle.file_scan.proofs.blocks.check_blocks.Goals as goal

pub check_run-requires-clause-whole : goal.check_run-requires-clause-whole
check_run-requires-clause-whole g c = λ told. (tells-here c.loop-done.invariant.same c.requires told).whole

pub returns-in_err-done-clause-refused : goal.returns-in_err-done-clause-refused
returns-in_err-done-clause-refused g c =
    let p = err_from_is_err_and c.from_residual.result c.from_residual.ensures.1 in
    let blocks = c.args.blocks.now in
    let i = c.loop-done.done in
    let stop = c.in_err-done.field-0.0 in
    rw (p.1, p.2) (λ told.
    let now = (g.W.Outside.view c.check_run.new.w).here in
    let so_far = c.loop-done.invariant in
    let there = c.in_err-done.ensures.same.stays.told told in
    let same = untouched_then so_far.same c.in_err-done.ensures.same in
    let stops : StopsAtBlock stop (file_of now) c.args.eof (drop i blocks) = subst (StopsAtBlock stop (file_of now) c.args.eof) (take_rest blocks i) (c.in_err-done.ensures.refused told) in
    let first : StopsAtBlock stop (file_of (g.W.Outside.view c.args.w.now).here) c.args.eof (drop i blocks) = subst (λ (m : Image). StopsAtBlock stop (file_of m) c.args.eof (drop i blocks)) (same.stays.here told) stops in
    subst (λ (m : Image). StopsAtBlock stop (file_of m) c.args.eof blocks) (sym (same.stays.here told))
    (stop-behind (file_of (g.W.Outside.view c.args.w.now).here) c.args.eof i blocks stop (so_far.told there) first))

pub loop-done-preserved : goal.loop-done-preserved
loop-done-preserved g c =
    let first = g.W.Outside.view c.args.w.now in
    let blocks = c.args.blocks.now in
    let so_far = c.loop-done.invariant in
    let i = c.loop-done.done in
    let n = c.in_ok-done.field-0 in
    let run = c.in_ok-done.ensures in
    let test = c.loop-done-test.true in
    let same = untouched_then so_far.same run.same in
    let rest = take_rest blocks i in
    let bound : n ≤ length (drop i blocks) = subst (λ (es : List BlockEntry). n ≤ length es) rest run.within in
    record {
      same = same;
      within = omega (arith, bound, length-drop i blocks, test);
      placed = placing-run c.args.eof blocks i n so_far.placed (subst (λ (es : List BlockEntry). AllPlaced c.args.eof (take n es)) rest run.placed);
      told = λ told.
          let stand : AllStand (file_of first.here) c.args.eof (take n (drop i blocks)) =
          subst (λ (es : List BlockEntry). AllStand (file_of first.here) c.args.eof (take n es)) rest
          (subst (λ (m : Image). AllStand (file_of m) c.args.eof (take n (take (length blocks - i) (drop i blocks)))) (same.stays.here told) (run.stand told)) in
          checking-run (file_of first.here) c.args.eof blocks i n (so_far.told (run.same.stays.told told)) stand;
    }

pub returns-clause-stand : goal.returns-clause-stand
returns-clause-stand g c = λ told.
    let first = g.W.Outside.view c.args.w.now in
    let test = c.loop-done-test.false in
    let so_far = c.loop-done.invariant in
    subst (λ (m : Image). AllStand (file_of m) c.args.eof c.args.blocks.now) (sym (so_far.same.stays.here told))
    (checking-end (file_of first.here) c.args.eof c.args.blocks.now c.loop-done.done (omega (arith, test)) (so_far.told told))

pub returns-clause-placed : goal.returns-clause-placed
returns-clause-placed g c =
    let test = c.loop-done-test.false in
    placing-end c.args.eof c.args.blocks.now c.loop-done.done (omega (arith, test)) c.loop-done.invariant.placed
