use Rattle.std.proofs.Common.{◌≡◌, ◌≤◌, length, arith}
use Rattle.std.proofs.lemmas.List.{length_push}
use Rattle.data_tree.proofs.PlanSteps.{small-push, bytes_in-push}
use Rattle.file_rows.proofs.lists.content.Goals as goal

pub loop-i-preserved : goal.loop-i-preserved
loop-i-preserved c =
    let inv = c.loop-i.invariant in
    let out = c.loop-i.blocks.items in
    let block = c.in_ok-block.field-0 in
    let len : length block ≡ c.size.result = c.in_ok-block.ensures in
    let most : c.size.result ≤ 8176 = c.size.ensures in
    let count = inv.count in
    let total = inv.total in
    let pushed = length_push out block in
    let more = bytes_in-push out block in
    record {
      small = rw c.in_ok-push.ensures.items (small-push out block inv.small (omega arith));
      count = rw c.in_ok-push.ensures.items (omega arith);
      total = rw c.in_ok-push.ensures.items (omega arith);
    }
