use Rattle.std.proofs.Common.{[], arith, sym, ◌∙◌}
use Rattle.search_results.specs.Following.{around_move}
use Rattle.search_results.proofs.FollowLaws.{work_none, work_running}
use Rattle.search_results.proofs.settling.settled_search.Goals as goal

pub returns-clause-most : goal.returns-clause-most
returns-clause-most g c = λ T s.
    let d = around_move T c.args.new.now in let ts = c.args.touches.now in
    omega (arith, c.settled_running.ensures.most T s, work_running d ts c.args.search.now [] (sym c.runs.ensures ∙ c.if-not-runs.false), work_none d ts)
