use Rattle.std.proofs.Common.{◌≡◌, None, Some, length}
use Rattle.std.proofs.lemmas.Option.{same_Some}
use Rattle.mail_draft.proofs.GlanceLaws.{told-rows}
use Rattle.mail_draft.proofs.glance.rows_told.Goals as goal

pub returns-in-Some-clause-told : goal.returns-in-Some-clause-told
returns-in-Some-clause-told c = λ t are.
    same_Some c.in-Some.count (length t.table.rows) (told-rows c.args.node.now t (Some c.in-Some.count) (rw (c.in-Some.is, c.as_slice.ensures.value) at c.in_ok-count.ensures) are)

pub returns-in-None-clause-told : goal.returns-in-None-clause-told
returns-in-None-clause-told c = λ t are.
    let none : None ≡ Some (length t.table.rows) = told-rows c.args.node.now t None (rw (c.in-None.is, c.as_slice.ensures.value) at c.in_ok-count.ensures) are in
    absurd (cc)
