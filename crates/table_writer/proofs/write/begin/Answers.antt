use Rattle.std.proofs.Common.{◌≡◌, replicate, rules}
use Rattle.heap_on_node.specs.Packing.{item_in}
use Rattle.table_writer.proofs.SinglesLaws.{singles-none}
use Rattle.table_writer.proofs.write.begin.Goals as goal

pub returns-clause-made : goal.returns-clause-made
returns-clause-made c =
    let zeros : c.resize.new.self.items ≡ replicate 256 0 = search rules in
    record { packed = search rules; singles = singles-none (item_in c.new.result) c.resize.new.self.items zeros; woven = c.new-2.ensures.woven }
