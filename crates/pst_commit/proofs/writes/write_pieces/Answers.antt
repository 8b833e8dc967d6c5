use Rattle.std.proofs.Common.{◌≡◌, ◌∙◌, ◌+◌, length, take, ap, subst, sym, rules}
use Rattle.pst_outside.specs.World.{Image, TornAt, after_write}
use Rattle.pst_outside.specs.declared.outside.Part.TheVariants.{Main}
use Rattle.pst_outside.specs.Calls.{LeavesOnly, Settled}
use Rattle.pst_outside.proofs.Moments.{goes_on, at_end}
use Rattle.lays_kept.specs.Kept.{HoldsEach, Scattered}
use Rattle.pst_commit.specs.Commit.{Writes}
use Rattle.pst_commit.proofs.Scatter.{asked_all, asked_more, writes_more, holds_more}
use Rattle.pst_commit.proofs.writes.write_pieces.Goals as goal

pub returns-in_err-write_at-clause-content : goal.returns-in_err-write_at-clause-content
returns-in_err-write_at-clause-content g c =
    let old = g.W.Outside.view c.args.w.now in
    let mid = g.W.Outside.view c.loop-piece.w in
    let new = g.W.Outside.view c.write_at.new.self in
    let ps = c.args.pieces.now in
    let p = c.piece-item.result in
    let has = Scattered ps old.here.main in
    let size : length c.as_slice.result.now ≡ length p.bytes = ap length c.as_slice.ensures.value in
    let step : (a d e : Image) → Writes has a d → TornAt Main p.at (length c.as_slice.result.now) d e → Writes has a e
    = λ a d e so_far torn. writes_more ps c.loop-piece.piece-index p old.here.main a d e c.loop-piece-test.true c.piece-item.is so_far (subst (λ n. TornAt Main p.at n d e) size torn) in
    let content : new.tells → Writes has old.here new.here = λ told.
    step old.here mid.here new.here (c.loop-piece.invariant.content (c.write_at.ensures.content.told told)) (c.write_at.ensures.content.here told) in
    content

pub returns-in_err-write_at-clause-any_moment : goal.returns-in_err-write_at-clause-any_moment
returns-in_err-write_at-clause-any_moment g c =
    let old = g.W.Outside.view c.args.w.now in
    let mid = g.W.Outside.view c.loop-piece.w in
    let new = g.W.Outside.view c.write_at.new.self in
    let ps = c.args.pieces.now in
    let p = c.piece-item.result in
    let has = Scattered ps old.here.main in
    let size : length c.as_slice.result.now ≡ length p.bytes = ap length c.as_slice.ensures.value in
    let step : (a d e : Image) → Writes has a d → TornAt Main p.at (length c.as_slice.result.now) d e → Writes has a e
    = λ a d e so_far torn. writes_more ps c.loop-piece.piece-index p old.here.main a d e c.loop-piece-test.true c.piece-item.is so_far (subst (λ n. TornAt Main p.at n d e) size torn) in
    let content : new.tells → Writes has old.here new.here = λ told.
    step old.here mid.here new.here (c.loop-piece.invariant.content (c.write_at.ensures.content.told told)) (c.write_at.ensures.content.here told) in
    let run : Settled old → LeavesOnly old new (Writes has old.here) = λ settled.
    let so_far = c.loop-piece.invariant.run settled in
    goes_on so_far c.write_at.ensures.time content (λ i left.
    let before : (d : Image) × mid.may_leave d × TornAt Main p.at (length c.as_slice.result.now) d i = c.write_at.ensures.crash i left in
    step old.here before.0 i (at_end so_far before.0 before.1) before.2) in
    run

pub returns-in_err-write_at-clause-written : goal.returns-in_err-write_at-clause-written
returns-in_err-write_at-clause-written g c =
    asked_all c.args.pieces.now (c.loop-piece.piece-index + 1) (g.W.Outside.view c.args.w.now).written
    (asked_more c.args.pieces.now c.loop-piece.piece-index (length c.as_slice.result.now) c.piece-item.result (g.W.Outside.view c.args.w.now).written c.loop-piece-test.true c.piece-item.is (ap length c.as_slice.ensures.value) c.loop-piece.invariant.written c.write_at.ensures.content.written)

pub loop-piece-preserved : goal.loop-piece-preserved
loop-piece-preserved g c =
    let old = g.W.Outside.view c.args.w.now in
    let mid = g.W.Outside.view c.loop-piece.w in
    let new = g.W.Outside.view c.write_at.new.self in
    let ps = c.args.pieces.now in
    let p = c.piece-item.result in
    let has = Scattered ps old.here.main in
    let size : length c.as_slice.result.now ≡ length p.bytes = ap length c.as_slice.ensures.value in
    let step : (a d e : Image) → Writes has a d → TornAt Main p.at (length c.as_slice.result.now) d e → Writes has a e
    = λ a d e so_far torn. writes_more ps c.loop-piece.piece-index p old.here.main a d e c.loop-piece-test.true c.piece-item.is so_far (subst (λ n. TornAt Main p.at n d e) size torn) in
    let content : new.tells → Writes has old.here new.here = λ told.
    step old.here mid.here new.here (c.loop-piece.invariant.content (c.write_at.ensures.content.told told)) (c.write_at.ensures.content.here told) in
    let run : Settled old → LeavesOnly old new (Writes has old.here) = λ settled.
    let so_far = c.loop-piece.invariant.run settled in
    goes_on so_far c.write_at.ensures.time content (λ i left.
    let before : (d : Image) × mid.may_leave d × TornAt Main p.at (length c.as_slice.result.now) d i = c.write_at.ensures.crash i left in
    step old.here before.0 i (at_end so_far before.0 before.1) before.2) in
    record {
      counts = search rules;
      told = λ told. c.loop-piece.invariant.told (c.write_at.ensures.content.told told);
      input = λ told. c.write_at.ensures.content.input told ∙ c.loop-piece.invariant.input (c.write_at.ensures.content.told told);
      written = asked_more c.args.pieces.now c.loop-piece.piece-index (length c.as_slice.result.now) c.piece-item.result (g.W.Outside.view c.args.w.now).written c.loop-piece-test.true c.piece-item.is (ap length c.as_slice.ensures.value) c.loop-piece.invariant.written c.write_at.ensures.content.written;
      content = content;
      holds = λ told.
          let now : new.here.main ≡ after_write mid.here.main p.at p.bytes = c.in_ok-write_at.ensures.after told ∙ ap (λ b. after_write mid.here.main p.at b) c.as_slice.ensures.value in
          subst (λ f. HoldsEach f (take (c.loop-piece.piece-index + 1) ps)) (sym now)
          (holds_more ps c.loop-piece.piece-index p mid.here.main c.loop-piece-test.true c.piece-item.is (c.loop-piece.invariant.holds (c.write_at.ensures.content.told told)));
      run = run;
    }
