use Rattle.std.proofs.Common.{◌≡◌, ◌≤◌, ◌-◌, ◌++◌, length, take}
use Rattle.pst_outside.specs.World.{SameDisk}
use Rattle.pst_outside.specs.Calls.{NeverFall, StaysButSaid, Follows, LeavesOnly, SaysSome}
use Rattle.pst_outside.proofs.helpers.say_all.Given as goal

abbrev pub decreases-loop-done : goal.decreases-loop-done
decreases-loop-done g l = length l.text - l.done

-- what was said so far
abbrev pub invariant-loop-done : goal.invariant-loop-done
invariant-loop-done g l = record {
  within : l.done ≤ length l.text;
  counts : NeverFall (g.W.Outside.view l.initial.w) (g.W.Outside.view l.w);
  content : StaysButSaid (g.W.Outside.view l.initial.w) (g.W.Outside.view l.w);
  said : (g.W.Outside.view l.w).tells → (g.W.Outside.view l.w).here.said ≡ (g.W.Outside.view l.initial.w).here.said ++ take l.done l.text;
  crash : Follows SameDisk (g.W.Outside.view l.initial.w) (g.W.Outside.view l.w);
  run : LeavesOnly (g.W.Outside.view l.initial.w) (g.W.Outside.view l.w) (SaysSome (g.W.Outside.view l.initial.w) l.text);
}
