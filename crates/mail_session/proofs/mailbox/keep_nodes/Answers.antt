use Rattle.std.proofs.lemmas.Bool.{false≢true}
use Rattle.node_port.specs.Nodes.{no_nodes}
use Rattle.mail_session.proofs.mailbox.keep_nodes.Goals as goal

pub returns-in-Ok-apply-clause-nodes : goal.returns-in-Ok-apply-clause-nodes
returns-in-Ok-apply-clause-nodes c = c.in-Ok-apply.ensures.made _ _ c.in-Ok.ensures.fits (λ told. tt) (λ no. absurd (false≢true no)) no_nodes (c.in-Ok.ensures.stays no_nodes c.new-keeper.ensures.nodes)
