use Rattle.std.proofs.Common.{◌∙◌, ap}
use Rattle.std.specs.Option.{is_some}
use Rattle.mail_session.proofs.MemoryLaws.{has_place}
use Rattle.mail_session.proofs.pinning.MemoryKeeperPinner.has_pin.Goals as goal

pub returns : goal.returns
returns g c = c.is_some.ensures ∙ ap is_some c.place.ensures ∙ has_place c.args.p c.args.self.now.given c.args.self.now.pins.items
