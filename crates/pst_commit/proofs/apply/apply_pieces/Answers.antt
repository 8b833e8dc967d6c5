use Rattle.std.proofs.Common.{ℕ, List}
use Rattle.lays_kept.specs.Kept.{HoldsEach, Scattered}
use Rattle.pst_commit.proofs.Outcomes.{applied_now, closed_still, while_writing, while_committing, still_long}
use Rattle.pst_commit.proofs.apply.apply_pieces.Goals as goal

pub returns-in_err-write_pieces-clause-any_moment : goal.returns-in_err-write_pieces-clause-any_moment
returns-in_err-write_pieces-clause-any_moment g c = λ settled shut found N last M next commits.
    while_writing (Scattered c.args.pieces.now (g.W.Outside.view c.args.w.now).here.main) (λ mid. HoldsEach mid c.args.pieces.now) c.args.header.now found N last M next shut commits c.write_pieces.ensures.told (c.write_pieces.ensures.any_moment settled)

pub returns-in_err-commit_header-clause-any_moment : goal.returns-in_err-commit_header-clause-any_moment
returns-in_err-commit_header-clause-any_moment g c = λ settled shut found N last M next commits.
    let has = Scattered c.args.pieces.now (g.W.Outside.view c.args.w.now).here.main in
    let after : List ℕ → Type 0 = λ mid. HoldsEach mid c.args.pieces.now in
    let told = c.write_pieces.ensures.told in
    let run = c.write_pieces.ensures.any_moment settled in
    let content = c.write_pieces.ensures.content in
    let h = c.args.header.now in
    while_committing has after h found N last M next shut commits told run content c.in_ok-write_pieces.ensures.holds c.commit_header.ensures.told
    (c.commit_header.ensures.any_moment (c.in_ok-write_pieces.ensures.settled settled) (closed_still (g.W.Outside.view c.args.w.now) (g.W.Outside.view c.write_pieces.new.w) shut told content) (still_long has after h found N last M next shut commits told run content))

pub returns-clause-any_moment : goal.returns-clause-any_moment
returns-clause-any_moment g c = λ settled shut found N last M next commits.
    let has = Scattered c.args.pieces.now (g.W.Outside.view c.args.w.now).here.main in
    let after : List ℕ → Type 0 = λ mid. HoldsEach mid c.args.pieces.now in
    let told = c.write_pieces.ensures.told in
    let run = c.write_pieces.ensures.any_moment settled in
    let content = c.write_pieces.ensures.content in
    let h = c.args.header.now in
    while_committing has after h found N last M next shut commits told run content c.in_ok-write_pieces.ensures.holds c.commit_header.ensures.told
    (c.commit_header.ensures.any_moment (c.in_ok-write_pieces.ensures.settled settled) (closed_still (g.W.Outside.view c.args.w.now) (g.W.Outside.view c.write_pieces.new.w) shut told content) (still_long has after h found N last M next shut commits told run content))

pub returns-clause-applied : goal.returns-clause-applied
returns-clause-applied g c = λ shut t.
    let old = g.W.Outside.view c.args.w.now in
    let u = c.commit_header.ensures.told t in
    applied_now (Scattered c.args.pieces.now old.here.main) (λ mid. HoldsEach mid c.args.pieces.now) (c.write_pieces.ensures.content u) (c.in_ok-write_pieces.ensures.holds u)
    (c.in_ok-commit_header.ensures.committed (closed_still old (g.W.Outside.view c.write_pieces.new.w) shut c.write_pieces.ensures.told c.write_pieces.ensures.content) t)
