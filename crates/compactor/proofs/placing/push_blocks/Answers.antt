use Rattle.std.proofs.Common.{arith}
use Rattle.btree_pages.specs.declared.entry.BlockEntry.{BlockEntry}
use Rattle.file_scan.proofs.BlockSteps.{short-at}
use Rattle.compactor.proofs.placing.push_blocks.Goals as goal

abbrev no_block : BlockEntry
no_block = record { at = record { bid = record { bits = 0 }; ib = 0 }; cb = 0; refs = 0 }

pub disk_size-requires : goal.disk_size-requires
disk_size-requires c = let test = c.loop-entry-test.true in short-at c.args.blocks.now c.loop-entry.entry-index no_block c.requires (omega (arith, test))
