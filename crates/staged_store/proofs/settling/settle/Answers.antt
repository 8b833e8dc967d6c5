use Rattle.staged_store.proofs.MakeLaws.{some_counters, sure}
use Rattle.staged_store.proofs.settling.settle.Goals as goal

pub commit-done-requires : goal.commit-done-requires
commit-done-requires c = some_counters c.args.planned.tree.change

pub returns : goal.returns
returns c = record {
  knows = λ X o stores plans own searches.
      let made = sure _ c.commit-done.result c.commit-done.ensures.made c.commit-done.ensures.cause in
      let is = made X o stores plans own searches (λ t. tt) (λ e. absurd (cc)) in
      (is.tree.knows, is.searches);
}
