use Rattle.std.proofs.Common.{◌≡◌, true, false, rules, sym, ap, ◌∙◌, arith}
use Rattle.std.proofs.lemmas.Bool.{false≢true}
use Rattle.btree_pages.specs.Pages.{Page, keys}
use Rattle.tree_edit.specs.Pages.{in_span}
use Rattle.tree_edit.proofs.SpanLaws.{page-ascends, rises-in, spans-in}
use Rattle.tree_edit.proofs.CountLaws.{page-fits}
use Rattle.tree_edit.proofs.StepLaws.{same_page}
use Rattle.tree_edit.proofs.page.page_within.Goals as goal

pub returns-then-not-in_span-clause-none : goal.returns-then-not-in_span-clause-none
returns-then-not-in_span-clause-none g c = λ page reads rises.
    let same : page ≡ c.in-Ok.page = same_page _ page c.in-Ok.page reads (sym c.read.ensures ∙ c.in-Ok.is) in
    let yes : in_span c.args.low c.args.high (keys g.E.Entry.rule page.entries) ≡ true = spans-in c.args.low c.args.low c.args.high (keys g.E.Entry.rule page.entries) (omega arith) rises in
    let no : in_span c.args.low c.args.high (keys g.E.Entry.rule c.in-Ok.page.entries) ≡ false = search rules in
    false≢true (sym no ∙ ap (λ (q : Page). in_span c.args.low c.args.high (keys g.E.Entry.rule q.entries)) (sym same) ∙ yes)

pub returns-clause-rises : goal.returns-clause-rises
returns-clause-rises g c =
    rises-in c.args.low c.args.high (keys g.E.Entry.rule c.in-Ok.page.entries) (page-ascends g.E.Entry.rule g.E.Entry.size c.args.body.now c.in-Ok.page (sym c.read.ensures ∙ c.in-Ok.is)) (search rules)

pub returns-clause-few : goal.returns-clause-few
returns-clause-few g c = page-fits g.E.Entry.rule g.E.Entry.size c.args.body.now c.in-Ok.page (sym c.read.ensures ∙ c.in-Ok.is)
