use Rattle.std.proofs.Common.{ℕ, Ok, Some}
use Rattle.mail_tree.specs.mail_objects.declared.object.Object.TheVariants.{Table}
use Rattle.mail_tree.specs.Changing.{associated, contents, with_object}
use Rattle.mail_tree.specs.Columns.{contents_table, hierarchy_table}
use Rattle.mail_draft.proofs.DeskCalls.{both_change, changes_at, first_exits}
use Rattle.mail_folders.proofs.making.put_tables.Goals as goal

pub returns-in_err-put_folders_table-clause-answer : goal.returns-in_err-put_folders_table-clause-answer
returns-in_err-put_folders_table-clause-answer g c =
    let f = c.args.folder.bits in
    first_exits (λ T D. Ok (with_object (associated f) (Some (Table contents_table)) (with_object (contents f) (Some (Table contents_table)) D))) (changes_at (λ (q : ℕ) T D. Ok (with_object q (Some (Table hierarchy_table)) D)) c.hierarchy.ensures c.in_err-put_folders_table.ensures.answer) c.from_residual.ensures.1

pub returns-in_err-put_messages_table-clause-answer : goal.returns-in_err-put_messages_table-clause-answer
returns-in_err-put_messages_table-clause-answer g c =
    let f = c.args.folder.bits in
    both_change (λ T D. Ok (with_object (associated f) (Some (Table contents_table)) (with_object (contents f) (Some (Table contents_table)) D))) (changes_at (λ (q : ℕ) T D. Ok (with_object q (Some (Table hierarchy_table)) D)) c.hierarchy.ensures c.in_ok-put_folders_table.ensures.answer) c.in_ok-put_folders_table.ensures.drafts
    (first_exits (λ T D. Ok (with_object (associated f) (Some (Table contents_table)) D)) (changes_at (λ (q : ℕ) T D. Ok (with_object q (Some (Table contents_table)) D)) c.contents.ensures c.in_err-put_messages_table.ensures.answer) c.from_residual-in_err-put_messages_table.ensures.1)

pub returns-clause-answer : goal.returns-clause-answer
returns-clause-answer g c =
    let f = c.args.folder.bits in
    both_change (λ T D. Ok (with_object (associated f) (Some (Table contents_table)) (with_object (contents f) (Some (Table contents_table)) D))) (changes_at (λ (q : ℕ) T D. Ok (with_object q (Some (Table hierarchy_table)) D)) c.hierarchy.ensures c.in_ok-put_folders_table.ensures.answer) c.in_ok-put_folders_table.ensures.drafts
    (both_change (λ T D. Ok (with_object (associated f) (Some (Table contents_table)) D)) (changes_at (λ (q : ℕ) T D. Ok (with_object q (Some (Table contents_table)) D)) c.contents.ensures c.in_ok-put_messages_table.ensures.answer) c.in_ok-put_messages_table.ensures.drafts (changes_at (λ (q : ℕ) T D. Ok (with_object q (Some (Table contents_table)) D)) c.associated.ensures c.put_messages_table-2.ensures.answer))
