use Rattle.std.proofs.Common.{Some, None}
use Rattle.mail_draft.proofs.GlanceLaws.{told-content}
use Rattle.mail_draft.proofs.glance.glance_of.Goals as goal

pub returns-in-Some-clause-told : goal.returns-in-Some-clause-told
returns-in-Some-clause-told c = λ m content.
    told-content c.args.node.now m c.args.id (Some c.in-Some.glance) (rw (c.in-Some.is, c.as_slice.ensures.value) at c.in_ok-glance.ensures.told) content

pub returns-in-None-clause-told : goal.returns-in-None-clause-told
returns-in-None-clause-told c = λ m content.
    absurd (told-content c.args.node.now m c.args.id None (rw (c.in-None.is, c.as_slice.ensures.value) at c.in_ok-glance.ensures.told) content)
