use Rattle.std.proofs.Common.{◌≤◌, ◌+◌, Ok, Result, drop}
use Rattle.mail_tree.specs.Changing.{Changed}
use Rattle.mail_tree.specs.Tree.{Tree}
use Rattle.mail_draft.specs.Answers.{Says}
use Rattle.mail_draft.specs.Sight.{Drafts}
use Rattle.mail_draft.specs.declared.stop.Stop.{Stop}
use Rattle.mail_searches.specs.Asking.{work_of}
use Rattle.mail_searches.specs.Relisting.{settled_searches}
use Rattle.search_results.specs.Following.{around_move}
use Rattle.search_results.proofs.settling.settled_searches.Given as goal

-- what is said of the searches left is said of all, and the steps left are within those of all
abbrev pub invariant-loop-search : goal.invariant-loop-search
invariant-loop-search g l = record {
  drafts : Drafts {R = Unit {0}} (g.D.Desk.view l.fn.desk) (g.D.Desk.view l.desk) (Ok tt);
  rest : (T : Tree) → (g.D.Desk.view l.fn.desk).shows T → (D : Changed) (result : Result (Unit {0}) Stop)
      → Says (λ u. D) (settled_searches T (around_move T l.new) l.touches (drop l.search-index l.searches) (g.D.Desk.view l.desk).changed) result
      → Says (λ u. D) (settled_searches T (around_move T l.new) l.touches l.searches (g.D.Desk.view l.fn.desk).changed) result;
  most : (T : Tree) → (g.D.Desk.view l.fn.desk).shows T
      → l.steps + work_of (around_move T l.new) l.touches (drop l.search-index l.searches)
      ≤ l.fn.steps + work_of (around_move T l.new) l.touches l.searches;
}
