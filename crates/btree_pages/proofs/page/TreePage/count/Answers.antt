use Rattle.std.proofs.Common.{length, sym, ap, ◌∙◌}
use Rattle.btree_pages.specs.Pages.{Page}
use Rattle.btree_pages.proofs.PageLaws.{length-pieces}
use Rattle.btree_pages.proofs.page.TreePage.count.Goals as goal

pub returns : goal.returns
returns g c = sym (length-pieces c.self.inside.size c.self.inside.count c.self.inside.body.now) ∙ ap (λ (p : Page). length p.entries) c.self.view_is
