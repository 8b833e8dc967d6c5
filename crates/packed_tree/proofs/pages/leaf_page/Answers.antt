use Rattle.std.proofs.Common.{◌^◌, map}
use Rattle.plan_pieces.proofs.PageLaws.{leaf-body, rise-ascends}
use Rattle.packed_tree.proofs.pages.leaf_page.Goals as goal

pub write_leaf-requires-clause-ascend : goal.write_leaf-requires-clause-ascend
write_leaf-requires-clause-ascend g c = rise-ascends 0 (2 ^ 64) (map g.E.Entry.key c.args.entries.now) c.requires.rises

pub returns : goal.returns
returns g c = record {
  body = c.write_leaf.result;
  sealed = c.seal.ensures.page;
  shows = leaf-body g.E.Entry.rule g.E.Entry.size g.E.Entry.bytes g.E.Entry.entry_of g.E.Entry.fits g.met.E.Entry.reads_back c.write_leaf.result c.args.entries.now c.write_leaf.ensures.fits c.write_leaf.ensures.reads_back;
}
