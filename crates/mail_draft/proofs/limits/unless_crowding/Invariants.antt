use Rattle.std.proofs.Common.{Result}
use Rattle.mail_tree.specs.Changing.{unless_crowding}
use Rattle.mail_tree.specs.Tree.{Shown, Tree}
use Rattle.mail_draft.specs.declared.stop.Stop.{Stop}
use Rattle.mail_draft.specs.Answers.{Looks, Says}
use Rattle.mail_draft.proofs.limits.unless_crowding.Given as goal

-- what is said of the entries that are left is said of all
abbrev pub invariant-loop-nid : goal.invariant-loop-nid
invariant-loop-nid g l = record {
  looks : Looks (g.K.NodeReader.holds l.fn.keeper (g.W.Outside.view l.fn.w)) (g.K.NodeReader.holds l.keeper (g.W.Outside.view l.w)) (g.K.NodeReader.last l.fn.keeper) (g.K.NodeReader.last l.keeper) (g.K.NodeReader.room l.fn.keeper) (g.K.NodeReader.room l.keeper) (g.W.Outside.view l.fn.w) (g.W.Outside.view l.w);
  goes_on : (T : Tree) → Shown (g.K.NodeReader.holds l.fn.keeper (g.W.Outside.view l.fn.w)) (g.K.NodeReader.last l.fn.keeper) T → (r : Result (Unit {0}) Stop)
      → Says (λ (u : Unit {0}). u) (unless_crowding T l.new l.nid-iterator) r → Says (λ (u : Unit {0}). u) (unless_crowding T l.new l.draft.objects.entries) r;
}
