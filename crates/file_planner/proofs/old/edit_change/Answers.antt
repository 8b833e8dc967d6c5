use Rattle.file_planner.proofs.OldLaws.{one-edit, one-skip}
use Rattle.file_planner.proofs.old.edit_change.Goals as goal

pub returns-then-change-next-clause-made : goal.returns-then-change-next-clause-made
returns-then-change-next-clause-made g c = λ caches es has. one-skip es c.args.next c.args.change c.args.old.now.edits.items c.args.old.now.left.items c.if-change-next.true

pub returns-in_ok-add_edit-in-Ok-clause-made : goal.returns-in_ok-add_edit-in-Ok-clause-made
returns-in_ok-add_edit-in-Ok-clause-made g c = λ caches es has.
    one-edit es c.args.next c.args.change c.in-Ok.entry c.args.old.now.edits.items c.add_edit.new.old.edits.items c.args.old.now.left.items c.add_edit.new.old.left.items c.if-change-next.false (c.in-Ok.ensures.found caches es has) c.in_ok-add_edit-in-Ok.ensures.edits c.in_ok-add_edit-in-Ok.ensures.left
