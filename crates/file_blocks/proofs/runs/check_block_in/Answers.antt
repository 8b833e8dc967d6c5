use Rattle.std.proofs.Common.{Err, Ok, arith}
use Rattle.file_blocks.proofs.RunLaws.{read-in}
use Rattle.file_blocks.proofs.runs.check_block_in.Goals as goal

pub returns-in-Ok-clause-stands : goal.returns-in-Ok-clause-stands
returns-in-Ok-clause-stands c = λ file eof placed of.
    (c.in-Ok.field-0, read-in file c.args.bytes.now eof c.args.run c.args.entry _ (Ok c.in-Ok.field-0) c.requires.within placed of (let size = c.disk_size.ensures in omega (arith, size)) c.in-Ok.ensures)

pub returns-in-Err-clause-refused : goal.returns-in-Err-clause-refused
returns-in-Err-clause-refused c = λ file eof placed of.
    read-in file c.args.bytes.now eof c.args.run c.args.entry _ (Err c.in-Err.refusal) c.requires.within placed of (let size = c.disk_size.ensures in omega (arith, size)) c.in-Err.ensures
