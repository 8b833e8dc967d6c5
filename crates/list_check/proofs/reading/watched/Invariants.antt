use Rattle.std.proofs.Common.{[], Result, drop}
use Rattle.std.specs.Global.{Vec}
use Rattle.mail_tree.specs.Tree.{Shown, Tree}
use Rattle.mail_draft.specs.Answers.{Looks, Says}
use Rattle.mail_draft.specs.declared.stop.Stop.{Stop}
use Rattle.list_check.specs.Watching.{watched, watches_of}
use Rattle.list_check.specs.declared.watching.Watched.{Watched}
use Rattle.list_check.proofs.reading.watched.Given as goal

-- what is said of the searches so far, with those of the rest, is said of all
abbrev pub invariant-loop-search : goal.invariant-loop-search
invariant-loop-search g l = record {
  looks : Looks (g.K.NodeReader.holds l.initial.keeper (g.W.Outside.view l.initial.w)) (g.K.NodeReader.holds l.keeper (g.W.Outside.view l.w)) (g.K.NodeReader.last l.initial.keeper)
      (g.K.NodeReader.last l.keeper) (g.K.NodeReader.room l.initial.keeper) (g.K.NodeReader.room l.keeper) (g.W.Outside.view l.initial.w) (g.W.Outside.view l.w);
  rest : (T : Tree) → Shown (g.K.NodeReader.holds l.initial.keeper (g.W.Outside.view l.initial.w)) (g.K.NodeReader.last l.initial.keeper) T → (result : Result (Vec Watched) Stop)
      → Says (λ ws. watches_of ws.items) (watched T (watches_of l.watched.items) (drop l.search-index l.searches)) result → Says (λ ws. watches_of ws.items) (watched T [] l.searches) result;
}
