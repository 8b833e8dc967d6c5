use Rattle.std.proofs.Common.{◌∙◌, ap}
use Rattle.std.specs.Option.{is_some}
use Rattle.pst_commit.proofs.PinLaws.{has_held}
use Rattle.pst_commit.proofs.pins.FileKeeperPinner.has_pin.Goals as goal

pub returns : goal.returns
returns g c = c.is_some.ensures ∙ ap is_some c.pin_at.ensures ∙ has_held c.args.p (g.S.NodeStore.held c.args.self.now.store)
