use Rattle.std.proofs.Common.{◌≡◌, ◌<◌, ◌≤◌, ℕ, length, get_or, bit_or}
use Rattle.alloc_map.proofs.bits.Bits.unite.Given as goal

-- the bytes that were passed are united, and the others are as they were
abbrev pub invariant-loop-at : goal.invariant-loop-at
invariant-loop-at l = record {
  size : length l.self-inside.bytes.items ≡ length l.initial.self-inside.bytes.items;
  passed : (k : ℕ) → k < l.at → get_or l.self-inside.bytes.items k 0 ≡ bit_or (get_or l.initial.self-inside.bytes.items k 0) (get_or l.added k 0);
  ahead : (k : ℕ) → l.at ≤ k → get_or l.self-inside.bytes.items k 0 ≡ get_or l.initial.self-inside.bytes.items k 0;
}
