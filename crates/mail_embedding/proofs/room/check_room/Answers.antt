use Rattle.std.proofs.Common.{◌∙◌, sym}
use Rattle.mail_embedding.proofs.Insides.{copy_fits}
use Rattle.mail_embedding.proofs.room.check_room.Goals as goal

pub returns-clause-fits : goal.returns-clause-fits
returns-clause-fits c = copy_fits c.args.mail c.args.source.now c.args.name.now (sym c.in_ok-lacks_rows.ensures ∙ c.if-branch.false)
