use Rattle.std.proofs.Common.{◌≡◌, ◌+◌, ◌≤◌, drop}
use Rattle.store_filling.specs.Counts.{messages_in}
use Rattle.store_filling.proofs.counting.messages_in.Given as goal

-- those before are counted
abbrev pub invariant-loop-line : goal.invariant-loop-line
invariant-loop-line l = record {
  counted : l.count + messages_in (drop l.line-index l.lines) ≡ messages_in l.lines;
  few : l.count ≤ l.line-index;
}
