use Rattle.std.proofs.Common.{◌≡◌, ◌≤◌, ◌*◌, length}
use Rattle.std.specs.List.{All}
use Rattle.data_tree.specs.Plan.{bytes_in}
use Rattle.file_rows.proofs.lists.content.Given as goal

abbrev pub invariant-loop-i : goal.invariant-loop-i
invariant-loop-i l = record {
  small : All (λ b. length b ≤ 8176) l.blocks.items;
  count : length l.blocks.items ≡ l.i;
  total : bytes_in l.blocks.items ≤ 8176 * l.i;
}
