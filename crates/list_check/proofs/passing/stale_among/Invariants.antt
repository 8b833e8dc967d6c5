use Rattle.std.proofs.Common.{◌≡◌, drop}
use Rattle.mail_tree.specs.Tree.{Shown, Tree}
use Rattle.mail_draft.specs.Answers.{Looks, Says}
use Rattle.list_check.specs.Watching.{bits_of, stale_among, watches_of}
use Rattle.list_check.proofs.Steps.{Told}
use Rattle.list_check.proofs.passing.stale_among.Given as goal

-- what is said of the messages that are left is said of all
abbrev pub invariant-loop-message : goal.invariant-loop-message
invariant-loop-message g l = record {
  looks : Looks (g.K.NodeReader.holds l.initial.keeper (g.W.Outside.view l.initial.w)) (g.K.NodeReader.holds l.keeper (g.W.Outside.view l.w)) (g.K.NodeReader.last l.initial.keeper)
      (g.K.NodeReader.last l.keeper) (g.K.NodeReader.room l.initial.keeper) (g.K.NodeReader.room l.keeper) (g.W.Outside.view l.initial.w) (g.W.Outside.view l.w);
  rest : (T : Tree) → Shown (g.K.NodeReader.holds l.initial.keeper (g.W.Outside.view l.initial.w)) (g.K.NodeReader.last l.initial.keeper) T → T.places ≡ l.places → (result : Told)
      → Says bits_of (stale_among T (watches_of l.watched) (drop l.message-index l.messages)) result → Says bits_of (stale_among T (watches_of l.watched) l.messages) result;
}
