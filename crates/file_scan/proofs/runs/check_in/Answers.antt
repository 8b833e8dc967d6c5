use Rattle.std.proofs.Common.{arith}
use Rattle.btree_pages.specs.declared.entry.BlockEntry.{BlockEntry}
use Rattle.file_scan.proofs.BlockSteps.{checking-next}
use Rattle.file_scan.proofs.RunSteps.{placed-at, bad-next, checking-end}
use Rattle.file_scan.proofs.runs.check_in.Goals as goal

abbrev no_block : BlockEntry
no_block = record { at = record { bid = record { bits = 0 }; ib = 0 }; cb = 0; refs = 0 }

pub loop-entry-preserved : goal.loop-entry-preserved
loop-entry-preserved c = λ file eof placed of.
    let blocks = c.args.blocks.now in
    let i = c.loop-entry.entry-index in
    let test = c.loop-entry-test.true in
    checking-next file eof blocks i no_block (omega (arith, test)) (c.loop-entry.invariant file eof placed of) (c.in-Ok.ensures.stands file eof (placed-at eof blocks i no_block placed (omega (arith, test))) of)

pub returns-in-Err-clause-refused : goal.returns-in-Err-clause-refused
returns-in-Err-clause-refused c = λ file eof placed of.
    let blocks = c.args.blocks.now in
    let i = c.loop-entry.entry-index in
    let test = c.loop-entry-test.true in
    rw c.at_block.ensures
    (bad-next file eof blocks i no_block c.in-Err.fault (omega (arith, test)) (c.loop-entry.invariant file eof placed of) (c.in-Err.ensures.refused file eof (placed-at eof blocks i no_block placed (omega (arith, test))) of))

pub returns-clause-stand : goal.returns-clause-stand
returns-clause-stand c = λ file eof placed of.
    let test = c.loop-entry-test.false in
    checking-end file eof c.args.blocks.now c.loop-entry.entry-index (omega (arith, test)) (c.loop-entry.invariant file eof placed of)
