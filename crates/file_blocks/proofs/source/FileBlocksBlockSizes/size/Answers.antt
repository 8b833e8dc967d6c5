use Rattle.std.proofs.Common.{◌≡◌, Some, sym, ap, ◌∙◌, arith}
use Rattle.pst_base.specs.Ids.{key_of}
use Rattle.data_tree.specs.Source.{length_if}
use Rattle.file_blocks.specs.Blocks.{file_of, data_of, entry_with}
use Rattle.file_blocks.proofs.EntryLaws.{stands-with}
use Rattle.file_blocks.proofs.FileLaws.{no_shorter}
use Rattle.file_blocks.proofs.StandLaws.{stands-size}
use Rattle.file_blocks.proofs.source.FileBlocksBlockSizes.size.Goals as goal

pub returns : goal.returns
returns g c = λ find holds.
    let old = g.W.Outside.view c.args.self.now.world.now in
    let file = file_of old.here in
    let key = key_of c.args.bid.bits in
    let entry = c.in_ok-entry.entry in
    let entries = c.args.self.now.entries.now in
    let here : entry_with key entries ≡ Some entry = sym (c.find_entry.ensures holds.ascend) ∙ c.in_ok-entry.was in
    let stands = stands-with file c.args.self.now.eof key entries entry holds.stand here in
    let long = no_shorter old.here.main old.here.side in
    let room = holds.told.whole in
    let size = stands-size file c.args.self.now.eof entry stands (omega (arith, long, room)) in
    sym (ap length_if (holds.found key ∙ ap (data_of file) here) ∙ ap Some (size ∙ sym c.from.ensures))
