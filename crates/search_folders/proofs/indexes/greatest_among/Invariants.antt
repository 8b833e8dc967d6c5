use Rattle.std.proofs.Common.{ℕ, Result, Ok, drop, max}
use Rattle.mail_tree.specs.Tree.{Tree}
use Rattle.mail_tree.specs.Changing.{◌>>=◌}
use Rattle.mail_draft.specs.Answers.{Says}
use Rattle.mail_draft.specs.Sight.{Reads}
use Rattle.mail_draft.specs.declared.stop.Stop.{Stop}
use Rattle.search_folders.specs.Pieces.{greatest_among}
use Rattle.search_folders.proofs.indexes.greatest_among.Given as goal

-- what is said of the greatest so far and that of the rest is said of all
abbrev pub invariant-loop-place : goal.invariant-loop-place
invariant-loop-place g l = record {
  reads : Reads {R = Unit {0}} (g.D.Desk.view l.fn.desk) (g.D.Desk.view l.desk) (Ok tt);
  rest : (T : Tree) → (g.D.Desk.view l.fn.desk).shows T → (result : Result ℕ Stop)
      → Says (λ n. n) (greatest_among T (drop l.place-index l.places) >>= λ m. Ok (max l.greatest m)) result → Says (λ n. n) (greatest_among T l.places) result;
}
