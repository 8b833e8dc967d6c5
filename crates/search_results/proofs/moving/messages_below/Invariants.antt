use Rattle.std.proofs.Common.{Result, Ok, ◌++◌, drop}
use Rattle.std.specs.Global.{Vec}
use Rattle.mail_tree.specs.Tree.{Tree}
use Rattle.mail_tree.specs.Changing.{◌>>=◌}
use Rattle.mail_draft.specs.Answers.{Says}
use Rattle.mail_draft.specs.Sight.{Reads}
use Rattle.mail_draft.specs.declared.stop.Stop.{Stop}
use Rattle.mail_searches.specs.Relisting.{Touch}
use Rattle.search_results.specs.Moving.{carried_in, joined}
use Rattle.search_results.proofs.moving.messages_below.Given as goal

-- what is said of the messages so far, with those of the other folders, is said of all
abbrev pub invariant-loop-place : goal.invariant-loop-place
invariant-loop-place g l = record {
  reads : Reads {R = Unit {0}} (g.D.Desk.view l.fn.desk) (g.D.Desk.view l.desk) (Ok tt);
  rest : (T : Tree) → (g.D.Desk.view l.fn.desk).shows T → (result : Result (Vec Touch) Stop)
      → Says (λ ts. ts.items) (joined (carried_in T l.fn.folder.bits) (drop l.place-index l.place-items) >>= λ more. Ok (l.touches.items ++ more)) result
      → Says (λ ts. ts.items) (joined (carried_in T l.fn.folder.bits) l.place-items) result;
}
