use Rattle.std.proofs.Common.{◌≡◌, ◌+◌, ◌*◌, length}
use Rattle.subnode_tree.proofs.MadeLaws.{Made}
use Rattle.file_rows.proofs.subnodes.flat.Given as goal

abbrev pub invariant-loop-i : goal.invariant-loop-i
invariant-loop-i l = record {
  made : Made 0 l.subs.items (0x21 + 0x20 * l.i);
  count : length l.subs.items ≡ l.i;
}
