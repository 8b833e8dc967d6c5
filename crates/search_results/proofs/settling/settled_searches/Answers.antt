use Rattle.std.proofs.Common.{arith}
use Rattle.mail_draft.proofs.DeskCalls.{drafts_exit, drafts_then}
use Rattle.search_results.specs.Following.{around_move}
use Rattle.search_results.proofs.FollowLaws.{work_from}
use Rattle.search_results.proofs.JoinLaws.{stopped}
use Rattle.search_results.proofs.RelistLaws.{settled_all, settled_goes, settled_stops}
use Rattle.search_results.proofs.Steps.{drafts_none, drafts_ok}
use Rattle.search_results.proofs.settling.settled_searches.Goals as goal

pub returns-in_err-settled_search-clause-drafts : goal.returns-in_err-settled_search-clause-drafts
returns-in_err-settled_search-clause-drafts g c = drafts_exit _ (drafts_then c.loop-search.invariant.drafts c.in_err-settled_search.ensures.drafts) c.from_residual.ensures.1

pub returns-in_err-settled_search-clause-answer : goal.returns-in_err-settled_search-clause-answer
returns-in_err-settled_search-clause-answer g c =
    let I = c.loop-search.invariant in let stop = c.in_err-settled_search.field-0.0 in
    record {
      says = λ T s.
          let d = around_move T c.args.new.now in
          I.rest T s _ _ (stopped _ _ stop _ c.from_residual.ensures.1
          (settled_stops T d c.args.touches.now c.args.searches.now c.loop-search.search-index c.search-item.result _ _ _ stop c.loop-search-test.true c.search-item.is (c.in_err-settled_search.ensures.answer.says T (I.drafts.shows T s))));
    }

pub returns-in_err-settled_search-clause-most : goal.returns-in_err-settled_search-clause-most
returns-in_err-settled_search-clause-most g c = λ T s.
    let I = c.loop-search.invariant in
    let d = around_move T c.args.new.now in
    omega (arith, I.most T s, work_from d c.args.touches.now c.args.searches.now c.loop-search.search-index c.search-item.result c.loop-search-test.true c.search-item.is, c.in_err-settled_search.ensures.most T (I.drafts.shows T s))

pub loop-search-init : goal.loop-search-init
loop-search-init g c = record { drafts = drafts_none _; rest = λ T s D result says. says; most = λ T s. omega arith }

pub loop-search-preserved : goal.loop-search-preserved
loop-search-preserved g c =
    let I = c.loop-search.invariant in
    record {
      drafts = drafts_ok tt (drafts_then I.drafts c.in_ok-settled_search.ensures.drafts);
      rest = λ T s D result says.
          let d = around_move T c.args.new.now in
          I.rest T s D result
          (settled_goes T d c.args.touches.now c.args.searches.now c.loop-search.search-index c.search-item.result _ _ _ tt result c.loop-search-test.true c.search-item.is (c.in_ok-settled_search.ensures.answer.says T (I.drafts.shows T s)) says);
      most = λ T s.
          let d = around_move T c.args.new.now in
          omega (arith, I.most T s, work_from d c.args.touches.now c.args.searches.now c.loop-search.search-index c.search-item.result c.loop-search-test.true c.search-item.is, c.in_ok-settled_search.ensures.most T (I.drafts.shows T s));
    }

pub returns-clause-drafts : goal.returns-clause-drafts
returns-clause-drafts g c = drafts_ok _ c.loop-search.invariant.drafts

pub returns-clause-answer : goal.returns-clause-answer
returns-clause-answer g c = record {
  says = λ T s.
      c.loop-search.invariant.rest T s _ _ (settled_all T (around_move T c.args.new.now) c.args.touches.now c.args.searches.now c.loop-search.search-index _ tt (omega arith));
}
