-- What some blocks of a table's node tell of its rows.
use Rattle.std.specs.Prelude.{◌≡◌, ℕ, Bool, List, Option, None, Some, Result, Ok, Err}
use Rattle.node_port.specs.declared.node.NodeRec.{NodeRec}
use Rattle.content_glance.specs.heap_edit.Known.{AreKnown, Known, blocks_now}
use Rattle.mail_tree.specs.Tree.{Tree}
use Rattle.mail_draft.specs.declared.stop.Stop.{Stop}
use Rattle.mail_draft.specs.Answers.{IsNoMatter, Says}
use Rattle.mail_draft.specs.Listed.{has_row}

-- the blocks that are known are some of these, and none is put
abbrev pub AreSome : Known → List (List ℕ) → Type 0
AreSome h blocks = AreKnown h blocks × (blocks_now h blocks ≡ blocks)

-- the same of the blocks of a node, if it is there
abbrev pub AreOf : Known → Option NodeRec → Type 0
AreOf h None = Unit {0}
AreOf h (Some node) = AreSome h node.blocks

-- if something is told, it is whether the table at an id has the row; a stop is no matter of the tree
abbrev pub TellsLook : Tree → ℕ → ℕ → Result (Option Bool) Stop → Type 0
TellsLook T q row (Ok None) = Unit {0}
TellsLook T q row (Ok (Some has)) = Says (λ (b : Bool). b) (has_row T q row) (Ok has)
TellsLook T q row (Err stop) = IsNoMatter stop
