use Rattle.std.proofs.Common.{inr, refl, rules}
use Rattle.mail_session.specs.declared.exit.Status.TheVariants.{Memory}
use Rattle.mail_session.specs.Compact.{IsCompactedText, IsUnmadeText}
use Rattle.mail_session.specs.Decode.{IsDecodedText, IsUnreadText}
use Rattle.mail_session.proofs.CopyLaws.{copy_unread}
use Rattle.mail_session.proofs.FileLaws.{new_unread, well_as}
use Rattle.mail_session.proofs.FillLaws.{fill_unasked}
use Rattle.mail_session.proofs.LookLaws.{look_unread, look_well_as}
use Rattle.mail_session.proofs.MendLaws.{mend_unasked}
use Rattle.mail_session.proofs.call.run.Goals as goal

pub returns-in_default-clause-new : goal.returns-in_default-clause-new
returns-in_default-clause-new g c = λ name is third. (Memory, c.exit.ensures.status, new_unread name (g.W.Outside.view c.args.world.now))

pub returns-in_default-clause-complete : goal.returns-in_default-clause-complete
returns-in_default-clause-complete g c = λ form. (Memory, c.exit.ensures.status, λ settled tells places fresh none. inr (inr refl))

pub returns-clause-complete : goal.returns-clause-complete
returns-clause-complete g c = λ form. well_as (g.W.Outside.view c.args.world.now) (g.W.Outside.view c.answer.new.world) c.exit-2.result.status (search (rules, form))

pub returns-in_default-clause-decode : goal.returns-in_default-clause-decode
returns-in_default-clause-decode g c = λ form. (Memory, c.exit.ensures.status, copy_unread IsDecodedText IsUnreadText (g.W.Outside.view c.args.world.now))

pub returns-in_default-clause-compact : goal.returns-in_default-clause-compact
returns-in_default-clause-compact g c = λ form. (Memory, c.exit.ensures.status, copy_unread IsCompactedText IsUnmadeText (g.W.Outside.view c.args.world.now))

pub returns-in_default-clause-mend : goal.returns-in_default-clause-mend
returns-in_default-clause-mend g c = λ form. (Memory, c.exit.ensures.status, mend_unasked (g.W.Outside.view c.args.world.now))

pub returns-in_default-clause-look : goal.returns-in_default-clause-look
returns-in_default-clause-look g c = λ form. (Memory, c.exit.ensures.status, look_unread (g.W.Outside.view c.args.world.now))

pub returns-in_default-clause-look_complete : goal.returns-in_default-clause-look_complete
returns-in_default-clause-look_complete g c = λ form. (Memory, c.exit.ensures.status, λ tells X reads none. inr (inr refl))

pub returns-clause-look_complete : goal.returns-clause-look_complete
returns-clause-look_complete g c = λ form. look_well_as (g.W.Outside.view c.args.world.now) (g.W.Outside.view c.answer.new.world) c.exit-2.result.status (search (rules, form))

pub returns-in_default-clause-fill : goal.returns-in_default-clause-fill
returns-in_default-clause-fill g c = λ seed count form numbers. (Memory, c.exit.ensures.status, fill_unasked seed count (g.W.Outside.view c.args.world.now))
