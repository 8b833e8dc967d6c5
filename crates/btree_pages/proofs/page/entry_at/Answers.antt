use Rattle.std.proofs.Common.{Some, sym, ap, ◌∙◌}
use Rattle.btree_pages.proofs.PageLaws.{slice_get-pieces}
use Rattle.btree_pages.proofs.page.entry_at.Goals as goal

pub returns-clause-value : goal.returns-clause-value
returns-clause-value c = slice_get-pieces c.args.size c.args.count c.args.body.now c.args.i c.requires.within ∙ ap Some (sym c.part.ensures)
