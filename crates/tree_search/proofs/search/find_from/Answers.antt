use Rattle.std.proofs.Common.{◌≡◌, ℕ, List, Option}
use Rattle.std.proofs.lemmas.Result.{IfOk-weaker, IfErr-weaker}
use Rattle.pst_base.specs.declared.ids.Bref.{Bref}
use Rattle.tree_edit.specs.Pages.{shapes}
use Rattle.tree_edit.specs.Shapes.{IsWhole}
use Rattle.tree_edit.proofs.LoopLaws.{later-same}
use Rattle.tree_search.specs.Search.{first_from, IsTop, StopsIn}
use Rattle.tree_search.proofs.SearchLaws.{root-top, below-stops}
use Rattle.tree_search.proofs.search.find_from.Goals as goal

pub returns-clause-found : goal.returns-clause-found
returns-clause-found g c = IfOk-weaker c.find_below.result (λ found. (find : Bref → Option (List ℕ)) → (g.S.PageSource.view c.args.s.now).holds find → (es : List g.row.E.Denot) → IsTop (shapes g.E.Entry.rule g.E.Entry.size g.E.Entry.entry_of find) g.E.Entry.key 7 c.args.root es → found ≡ first_from g.E.Entry.key c.args.low es)
    (λ found. (find : Bref → Option (List ℕ)) → (g.S.PageSource.view c.args.s.now).holds find → (es : List g.row.E.Denot) (ps : List Bref) → IsWhole (shapes g.E.Entry.rule g.E.Entry.size g.E.Entry.entry_of find) g.E.Entry.key c.args.root es ps → found ≡ first_from g.E.Entry.key c.args.low es)
    (λ found is find told es ps whole. is find told es (root-top (shapes g.E.Entry.rule g.E.Entry.size g.E.Entry.entry_of find) g.E.Entry.key c.args.root es ps whole)) c.find_below.ensures.found

pub returns-clause-stops : goal.returns-clause-stops
returns-clause-stops g c =
    let old = g.S.PageSource.view c.args.s.now in
    let new = g.S.PageSource.view c.find_below.new.s in
    let Part : (Bref → Option (List ℕ)) → Type 0 = λ find. (es : List g.row.E.Denot) × IsTop (shapes g.E.Entry.rule g.E.Entry.size g.E.Entry.entry_of find) g.E.Entry.key 7 c.args.root es in
    let Whole : (Bref → Option (List ℕ)) → Type 0 = λ find. (es : List g.row.E.Denot) × (ps : List Bref) × IsWhole (shapes g.E.Entry.rule g.E.Entry.size g.E.Entry.entry_of find) g.E.Entry.key c.args.root es ps in
    IfErr-weaker c.find_below.result (StopsIn old new Part) (StopsIn old new Whole)
    (λ stop stops. below-stops old old new Whole Part (later-same old) (λ find told w. (w.0, root-top (shapes g.E.Entry.rule g.E.Entry.size g.E.Entry.entry_of find) g.E.Entry.key c.args.root w.0 w.1 w.2)) stop stops) c.find_below.ensures.stops
