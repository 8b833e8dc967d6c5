use Rattle.std.proofs.Common.{◌^◌, map}
use Rattle.pst_base.specs.Ids.{key_of}
use Rattle.page_shelf.proofs.ShelfLaws.{rise-ascends}
use Rattle.page_shelf.proofs.pages.leaf_content.Goals as goal

pub write_leaf-requires-clause-ascend : goal.write_leaf-requires-clause-ascend
write_leaf-requires-clause-ascend c = rise-ascends 0 (2 ^ 64) (map (λ e. key_of e.at.bid.bits) c.args.entries.now) c.requires.rises
