use Rattle.std.proofs.Common.{Ok, Some}
use Rattle.mail_tree.specs.mail_objects.Forms.{Tbl}
use Rattle.mail_tree.specs.mail_objects.declared.object.Object.TheVariants.{Table}
use Rattle.mail_tree.specs.Changing.{with_object}
use Rattle.mail_draft.proofs.DeskCalls.{changes_at}
use Rattle.mail_folders.proofs.making.put_folders_table.Goals as goal

pub returns-clause-answer : goal.returns-clause-answer
returns-clause-answer g c = changes_at (λ (t : Tbl) T D. Ok (with_object c.args.nid.bits (Some (Table t)) D)) c.in_ok-table.ensures c.put.ensures.answer
