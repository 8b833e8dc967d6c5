use Rattle.std.proofs.Common.{◌+◌, ◌*◌}
use Rattle.tree_edit.proofs.GatherLaws.{GatherLoop}
use Rattle.tree_edit.proofs.anew.+gather.Given as goal

abbrev pub decreases-gather_below : goal.decreases-gather_below
decreases-gather_below g l = 2 * l.level + 1

abbrev pub decreases-gather_children : goal.decreases-gather_children
decreases-gather_children g l = 2 * l.page.now.level

abbrev pub invariant-gather_children-loop-i : goal.invariant-gather_children-loop-i
invariant-gather_children-loop-i g l =
    GatherLoop g.E.Entry.rule g.E.Entry.size g.E.Entry.entry_of g.E.Entry.key (g.S.PageSource.view l.fn.s) (g.S.PageSource.view l.s) l.page l.low l.high l.i l.fn.entries.items l.entries.items l.fn.freed.items l.freed.items
