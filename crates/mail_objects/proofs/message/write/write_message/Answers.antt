use Rattle.std.proofs.Common.{◌+◌, ap, arith, length}
use Rattle.mapi_values.specs.Messages.{Mes}
use Rattle.node_port.specs.Stops.{subs_size}
use Rattle.property_context.specs.write_limits.Space.{props_space}
use Rattle.mail_objects.proofs.SizeLaws.{message-small}
use Rattle.mail_objects.proofs.message.write.write_message.Goals as goal

pub returns-clause-small : goal.returns-clause-small
returns-clause-small c =
    message-small c.args.message.now (length c.in_ok-blocks.blocks + subs_size c.in_ok-blocks.subs + 1) (subs_size c.in_ok-rest.rest)
    (omega (arith, c.in_ok-blocks.ensures.own, ap (λ (m : Mes). props_space m.props) c.message.view_is)) c.in_ok-rest.ensures.small
