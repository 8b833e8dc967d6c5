use Rattle.std.specs.Prelude.{◌≡◌, ◌≤◌, ◌+◌, take}
use Rattle.pst_outside.specs.Calls.{NeverFall, LeavesOnly, Settled}
use Rattle.lays_kept.specs.Kept.{HoldsEach, Scattered}
use Rattle.pst_commit.specs.Commit.{Writes, bytes_in}
use Rattle.pst_commit.proofs.writes.write_pieces.Given as goal

abbrev pub invariant-loop-piece : goal.invariant-loop-piece
invariant-loop-piece g l = record {
  counts : NeverFall (g.W.Outside.view l.initial.w) (g.W.Outside.view l.w);
  told : (g.W.Outside.view l.w).tells → (g.W.Outside.view l.initial.w).tells;
  input : (g.W.Outside.view l.w).tells → (g.W.Outside.view l.w).input ≡ (g.W.Outside.view l.initial.w).input;
  written : (g.W.Outside.view l.w).written ≤ (g.W.Outside.view l.initial.w).written + bytes_in (take l.piece-index l.pieces);
  content : (g.W.Outside.view l.w).tells → Writes (Scattered l.pieces (g.W.Outside.view l.initial.w).here.main) (g.W.Outside.view l.initial.w).here (g.W.Outside.view l.w).here;
  holds : (g.W.Outside.view l.w).tells → HoldsEach (g.W.Outside.view l.w).here.main (take l.piece-index l.pieces);
  run : Settled (g.W.Outside.view l.initial.w) → LeavesOnly (g.W.Outside.view l.initial.w) (g.W.Outside.view l.w) (Writes (Scattered l.pieces (g.W.Outside.view l.initial.w).here.main) (g.W.Outside.view l.initial.w).here);
}
