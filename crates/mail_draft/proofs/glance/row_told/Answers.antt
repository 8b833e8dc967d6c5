use Rattle.std.proofs.Common.{◌≡◌, None, Some, is_some}
use Rattle.std.proofs.lemmas.Option.{same_Some}
use Rattle.mapi_values.specs.Tables.{find_row}
use Rattle.mail_draft.proofs.GlanceLaws.{told-row}
use Rattle.mail_draft.proofs.glance.row_told.Goals as goal

pub returns-in-Some-clause-told : goal.returns-in-Some-clause-told
returns-in-Some-clause-told c = λ t are.
    same_Some c.in-Some.has (is_some (find_row c.args.row.bits t.table.rows)) (told-row c.args.node.now t c.args.row.bits (Some c.in-Some.has) (rw (c.in-Some.is, c.as_slice.ensures.value) at c.has_row_at.ensures) are)

pub returns-in-None-clause-told : goal.returns-in-None-clause-told
returns-in-None-clause-told c = λ t are.
    let none : None ≡ Some (is_some (find_row c.args.row.bits t.table.rows)) = told-row c.args.node.now t c.args.row.bits None (rw (c.in-None.is, c.as_slice.ensures.value) at c.has_row_at.ensures) are in
    absurd (cc)
