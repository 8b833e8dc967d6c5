use Rattle.std.specs.Prelude.{◌≡◌, ◌≤◌, ◌+◌, ◌*◌}
use Rattle.pst_outside.specs.Calls.{NeverFall, LeavesOnly, Settled}
use Rattle.lays_kept.specs.Kept.{Scattered}
use Rattle.lays_kept.specs.Saved.{HoldsMaps, map_pieces}
use Rattle.pst_commit.specs.Commit.{Writes}
use Rattle.pst_commit.proofs.save.write_maps.Given as goal

-- the map pages before r stand, and nothing else was written
abbrev pub invariant-loop-r : goal.invariant-loop-r
invariant-loop-r g l = record {
  counts : NeverFall (g.W.Outside.view l.initial.w) (g.W.Outside.view l.w);
  told : (g.W.Outside.view l.w).tells → (g.W.Outside.view l.initial.w).tells;
  input : (g.W.Outside.view l.w).tells → (g.W.Outside.view l.w).input ≡ (g.W.Outside.view l.initial.w).input;
  written : (g.W.Outside.view l.w).written ≤ (g.W.Outside.view l.initial.w).written + 512 * l.r;
  content : (g.W.Outside.view l.w).tells → Writes (Scattered (map_pieces l.regions) (g.W.Outside.view l.initial.w).here.main) (g.W.Outside.view l.initial.w).here (g.W.Outside.view l.w).here;
  holds : (g.W.Outside.view l.w).tells → HoldsMaps l.slots l.r (g.W.Outside.view l.w).here.main;
  run : Settled (g.W.Outside.view l.initial.w) → LeavesOnly (g.W.Outside.view l.initial.w) (g.W.Outside.view l.w) (Writes (Scattered (map_pieces l.regions) (g.W.Outside.view l.initial.w).here.main) (g.W.Outside.view l.initial.w).here);
}
