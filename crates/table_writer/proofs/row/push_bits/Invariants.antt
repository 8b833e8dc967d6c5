use Rattle.std.proofs.Common.{◌≡◌, ◌++◌, ◌-◌, ◌*◌}
use Rattle.table_writer.specs.Bits.{bits}
use Rattle.table_writer.proofs.row.push_bits.Given as goal

abbrev pub invariant-loop-i : goal.invariant-loop-i
invariant-loop-i l = l.row.items ++ bits (l.count - l.i) (8 * l.i) l.marks ≡ l.fn.row.items ++ bits l.count 0 l.marks
