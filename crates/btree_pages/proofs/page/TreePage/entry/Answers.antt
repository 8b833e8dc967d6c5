use Rattle.std.proofs.Common.{◌≡◌, length, ap, ◌∙◌, sym, arith}
use Rattle.btree_pages.specs.Pages.{Page}
use Rattle.btree_pages.proofs.PageLaws.{length-pieces}
use Rattle.btree_pages.proofs.page.TreePage.entry.Goals as goal

pub entry_at-requires-clause-within : goal.entry_at-requires-clause-within
entry_at-requires-clause-within g c =
    let less = c.requires in
    let count : c.self.inside.count ≡ length c.args.self.now.entries =
    sym (length-pieces c.self.inside.size c.self.inside.count c.self.inside.body.now) ∙ ap (λ (p : Page). length p.entries) c.self.view_is in
    omega (arith, less, count)
