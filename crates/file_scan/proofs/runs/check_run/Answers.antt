use Rattle.std.proofs.Common.{◌≡◌, arith, length}
use Rattle.std.proofs.lemmas.Result.{err_from_is_err_and}
use Rattle.btree_pages.specs.declared.entry.BlockEntry.{BlockEntry}
use Rattle.file_blocks.specs.Blocks.{file_of}
use Rattle.file_blocks.specs.Runs.{IsOf}
use Rattle.file_scan.proofs.BlockSteps.{tells-here}
use Rattle.file_scan.proofs.RunSteps.{bad-first, run-placed, run-read, run-within, stop-front}
use Rattle.file_scan.proofs.runs.check_run.Goals as goal

abbrev no_block : BlockEntry
no_block = record { at = record { bid = record { bits = 0 }; ib = 0 }; cb = 0; refs = 0 }

pub returns-in-Err-clause-refused : goal.returns-in-Err-clause-refused
returns-in-Err-clause-refused g c =
    rw c.at_block.ensures (λ told. bad-first (file_of (g.W.Outside.view c.args.w.now).here) c.args.eof c.args.blocks.now no_block c.in-Err.fault c.requires.any (c.in-Err.ensures.refused (file_of (g.W.Outside.view c.args.w.now).here) no_block))

pub check_in-requires-clause-within : goal.check_in-requires-clause-within
check_in-requires-clause-within g c = run-within c.args.eof c.args.blocks.now c.in-Ok.run' c.in-Ok.ensures.run

pub returns-in_err-check_in-clause-refused : goal.returns-in_err-check_in-clause-refused
returns-in_err-check_in-clause-refused g c =
    let p = err_from_is_err_and c.from_residual-in_err-check_in.result c.from_residual-in_err-check_in.ensures.1 in
    let now = (g.W.Outside.view c.read_part.new.w).here in
    let run = c.in-Ok.run' in
    let is = c.in-Ok.ensures.run in
    rw (p.1, p.2) (λ told.
    let room = (tells-here c.in_ok-read_part.ensures.same c.requires.whole told).whole in
    let before = is.before in
    let size : length c.split_at_mut-bytes.result.0.now ≡ run.len = omega (arith, c.split_at_mut-bytes.ensures) in
    let of : IsOf (file_of now) run c.read_part.new.buf = run-read now.main now.side c.read_part.new.buf run _ size is.above (c.in_ok-read_part.ensures.whole told (omega (arith, room, before, size))) in
    stop-front (file_of now) c.args.eof run.count c.args.blocks.now c.in_err-check_in.field-0.0 (c.in_err-check_in.ensures.refused (file_of now) c.args.eof (run-placed c.args.eof c.args.blocks.now run is) of))

pub returns-clause-stand : goal.returns-clause-stand
returns-clause-stand g c = λ told.
    let now = (g.W.Outside.view c.read_part.new.w).here in
    let run = c.in-Ok.run' in
    let is = c.in-Ok.ensures.run in
    let room = (tells-here c.in_ok-read_part.ensures.same c.requires.whole told).whole in
    let before = is.before in
    let size : length c.split_at_mut-bytes.result.0.now ≡ run.len = omega (arith, c.split_at_mut-bytes.ensures) in
    let of : IsOf (file_of now) run c.read_part.new.buf = run-read now.main now.side c.read_part.new.buf run _ size is.above (c.in_ok-read_part.ensures.whole told (omega (arith, room, before, size))) in
    c.in_ok-check_in.ensures.stand (file_of now) c.args.eof (run-placed c.args.eof c.args.blocks.now run is) of

pub returns-clause-placed : goal.returns-clause-placed
returns-clause-placed g c = run-placed c.args.eof c.args.blocks.now c.in-Ok.run' c.in-Ok.ensures.run
