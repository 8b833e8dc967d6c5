use Rattle.std.proofs.Common.{Result, Ok, ◌++◌, drop}
use Rattle.std.specs.Global.{Vec}
use Rattle.mail_tree.specs.Tree.{Tree}
use Rattle.mail_tree.specs.Changing.{◌>>=◌}
use Rattle.mail_draft.specs.Answers.{Says}
use Rattle.mail_draft.specs.Sight.{Reads}
use Rattle.mail_draft.specs.declared.stop.Stop.{Stop}
use Rattle.mail_searches.specs.Relisting.{Touch}
use Rattle.search_results.specs.Moving.{joined}
use Rattle.search_results.proofs.JoinLaws.{single}
use Rattle.search_results.proofs.moving.carried.Given as goal

-- what is said of the messages so far, with the others, is said of all
abbrev pub invariant-loop-id : goal.invariant-loop-id
invariant-loop-id g l = record {
  reads : Reads {R = Unit {0}} (g.D.Desk.view l.fn.desk) (g.D.Desk.view l.desk) (Ok tt);
  rest : (T : Tree) → (g.D.Desk.view l.fn.desk).shows T → (result : Result (Vec Touch) Stop)
      → Says (λ ts. ts.items) (joined (single T) (drop l.id-index l.ids) >>= λ more. Ok (l.touches.items ++ more)) result → Says (λ ts. ts.items) (joined (single T) l.ids) result;
}
