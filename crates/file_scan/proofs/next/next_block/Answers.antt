use Rattle.std.proofs.Common.{◌≡◌, ◌∙◌, ◌+◌, max, drop, get_or, ap, arith}
use Rattle.btree_pages.specs.declared.entry.BlockEntry.{BlockEntry}
use Rattle.file_layout.specs.Numbers.{past_blocks, counted_to}
use Rattle.file_scan.proofs.NextLaws.{blocks-next}
use Rattle.file_scan.proofs.next.next_block.Goals as goal

abbrev no_block : BlockEntry
no_block = record { at = record { bid = record { bits = 0 }; ib = 0 }; cb = 0; refs = 0 }

pub loop-entry-preserved : goal.loop-entry-preserved
loop-entry-preserved c =
    let blocks = c.args.blocks.now in
    let i = c.loop-entry.entry-index in
    let test = c.loop-entry-test.true in
    let past : c.saturating_add.result ≡ counted_to ((get_or blocks i no_block).at.bid.bits + 4) = c.saturating_add.ensures in
    let next : c.max-next-in-loop-entry.result ≡ max c.loop-entry.next c.saturating_add.result = c.max-next-in-loop-entry.ensures in
    ap (λ n. counted_to (past_blocks n (drop (i + 1) blocks))) next
    ∙ blocks-next blocks i no_block c.loop-entry.next c.saturating_add.result _ (omega (arith, test)) c.loop-entry.invariant past
