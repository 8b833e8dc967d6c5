use Rattle.std.proofs.Common.{◌∙◌, arith}
use Rattle.mail_draft.proofs.GlanceLaws.{number-bytes, number-told}
use Rattle.mail_draft.proofs.ValueLaws.{no-number, number-length}
use Rattle.mail_draft.proofs.glance.number_told.Goals as goal

pub u32_at-requires : goal.u32_at-requires
u32_at-requires c = omega (arith, number-length _ c.in-Some.ensures.fit)

pub returns-in-Some : goal.returns-in-Some
returns-in-Some c = λ id props told. c.u32_at.ensures ∙ number-told id props c.args.glance.now c.in-Some.bytes.now c.in-Some.ensures.bytes told

pub returns-in-None : goal.returns-in-None
returns-in-None c = λ id props told. no-number id props (c.in-None.ensures.bytes ∙ number-bytes id props c.args.glance.now told)
