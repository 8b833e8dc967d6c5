-- What is read of the nodes.
use Rattle.std.specs.Prelude.{ℕ, Option, Result, Ok, Err}
use Rattle.node_port.specs.Nodes.{node_at}
use Rattle.node_port.specs.declared.node.NodeRec.{NodeRec}
use Rattle.mail_tree.specs.Tree.{StandsAt, Tree, object_at}
use Rattle.mail_draft.specs.declared.stop.Stop.{Stop}
use Rattle.mail_draft.specs.Answers.{IsNoMatter}

-- the node stands at the id as the tree says, unless the disk failed or memory ran out
abbrev pub HasNode : Tree → ℕ → Result (Option NodeRec) Stop → Type 0
HasNode T q (Ok node) = StandsAt q node (object_at T q) (node_at T.others q)
HasNode T q (Err stop) = IsNoMatter stop
