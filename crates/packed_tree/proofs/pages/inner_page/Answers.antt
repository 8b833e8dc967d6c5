use Rattle.std.proofs.Common.{◌∙◌, ◌^◌, ap}
use Rattle.btree_pages.specs.Pages.{ascend}
use Rattle.plan_pieces.proofs.PageLaws.{rise-ascends}
use Rattle.packed_tree.specs.Shown.{keys}
use Rattle.packed_tree.proofs.ShownLaws.{inner-body, rule-keys}
use Rattle.packed_tree.proofs.pages.inner_page.Goals as goal

pub write_inner-requires-clause-ascend : goal.write_inner-requires-clause-ascend
write_inner-requires-clause-ascend g c = ap ascend (rule-keys g.E.Entry.rule c.args.children.now c.requires.keys) ∙ rise-ascends 0 (2 ^ 64) (keys c.args.children.now) c.requires.rises

pub returns : goal.returns
returns g c = record {
  body = c.write_inner.result;
  sealed = c.seal.ensures.page;
  shows = inner-body g.E.Entry.rule g.E.Entry.size g.E.Entry.entry_of c.write_inner.result c.args.level c.args.children.now c.requires.low c.requires.keys c.write_inner.ensures.fits c.write_inner.ensures.reads_back;
}
