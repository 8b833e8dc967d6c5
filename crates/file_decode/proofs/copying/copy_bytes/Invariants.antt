use Rattle.std.proofs.Common.{◌≡◌, ◌≤◌, ◌++◌, ◌-◌, length, take, drop}
use Rattle.file_decode.specs.Decoding.{no_header}
use Rattle.copy_part.specs.Keeps.{KeepsSource}
use Rattle.file_decode.proofs.copying.copy_bytes.Given as goal

abbrev pub invariant-loop-at : goal.invariant-loop-at
invariant-loop-at g l = record {
  keeps : KeepsSource (g.W.Outside.view l.fn.w) (g.W.Outside.view l.w);
  low : 564 ≤ l.at;
  long : (g.W.Outside.view l.w).tells → l.len ≡ length (g.W.Outside.view l.fn.w).here.main;
  copy : (g.W.Outside.view l.w).tells → (g.W.Outside.view l.w).here.copy ≡ no_header ++ take (l.at - 564) (drop 564 (g.W.Outside.view l.fn.w).here.main);
}

abbrev pub decreases-loop-at : goal.decreases-loop-at
decreases-loop-at g l = l.len - l.at
