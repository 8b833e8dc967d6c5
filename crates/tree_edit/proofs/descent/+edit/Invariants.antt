use Rattle.std.proofs.Common.{◌≤◌, ◌+◌, ◌-◌, ◌*◌, length}
use Rattle.tree_edit.specs.Joins.{kept_child, size_of}
use Rattle.tree_edit.specs.Plans.{AreWritable}
use Rattle.tree_edit.proofs.LoopLaws.{EditLoop}
use Rattle.tree_edit.proofs.RoomLaws.{IsAmple}
use Rattle.tree_edit.proofs.descent.+edit.Given as goal

abbrev pub decreases-edit_below : goal.decreases-edit_below
decreases-edit_below g l = 2 * l.level + 1

abbrev pub decreases-edit_children : goal.decreases-edit_children
decreases-edit_children g l = 2 * l.page.now.level

abbrev pub invariant-edit_children-loop-i : goal.invariant-edit_children-loop-i
invariant-edit_children-loop-i g l =
    record {
      main : EditLoop g.E.Entry.rule g.E.Entry.size g.E.Entry.entry_of g.E.Entry.key (g.S.PageSource.view l.fn.s) (g.S.PageSource.view l.s) l.page l.low l.high l.most l.i l.fn.pages.items l.pages.items l.fn.freed.items l.freed.items l.out.items l.held.kept l.held.content.entries.items l.held.content.children.items l.edits l.rest;
      writable : AreWritable g.E.Entry.key g.E.Entry.rule g.E.Entry.size l.fn.pages.items → AreWritable g.E.Entry.key g.E.Entry.rule g.E.Entry.size l.pages.items;
      within : length l.rest ≤ length l.edits;
      end : l.i ≤ length l.page.entries;
      ample : IsAmple l.page.level l.most l.i (length l.edits - length l.rest) (size_of l.level l.held.content.entries.items l.held.content.children.items) (length l.out.items + length (kept_child l.held.kept)) (length l.fn.pages.items) (length l.pages.items);
    }

abbrev pub decreases-edit_children-loop-i : goal.decreases-edit_children-loop-i
decreases-edit_children-loop-i g l = length l.page.entries - l.i
