use Rattle.std.proofs.Common.{ap, refl}
use Rattle.mapi_values.specs.Messages.{size}
use Rattle.embedded_obj.specs.Embedding.{EMBEDDED, embedded}
use Rattle.embedded_obj.proofs.HoldLaws.{laid-held}
use Rattle.pst_base.specs.declared.ids.Nid.{Nid}
use Rattle.mail_embedding.proofs.embed.added.Goals as goal

pub returns : goal.returns
returns c = record {
  node = c.in_ok-node.node;
  holds = λ n. laid-held c.in_ok-node.node (embedded EMBEDDED c.args.source) (ap (λ (id : Nid). id.bits) c.in_ok-node.ensures.id) c.in_ok-node.ensures.laid n c.args.name.now (size c.args.source);
  is = rw (c.size-size.ensures, c.message.ensures.message, c.in_ok-copy.ensures) refl;
}
