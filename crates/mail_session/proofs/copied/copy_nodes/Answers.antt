use Rattle.std.proofs.Common.{◌∙◌, subst}
use Rattle.mail_session.specs.Memory.{IsNextNode}
use Rattle.mail_session.proofs.MemoryLaws.{copies_next}
use Rattle.mail_session.proofs.copied.copy_nodes.Goals as goal

pub loop-nodes-preserved : goal.loop-nodes-preserved
loop-nodes-preserved c = record {
  copied = λ N keeps. copies_next N c.loop-nodes.passed c.loop-nodes.nodes c.insert.new.self (c.in-Some.nid, c.in-Some.node) c.in_ok-insert.ensures.updates (c.loop-nodes.invariant.copied N keeps) (subst (IsNextNode N c.loop-nodes.passed) c.in-Some.is (c.in_ok-nid.ensures.next N (c.loop-nodes.invariant.stays N keeps)));
  stays = λ N keeps. c.next_node.ensures.stays N (c.loop-nodes.invariant.stays N keeps);
  counts = c.next_node.ensures.counts ∙ c.loop-nodes.invariant.counts;
}
