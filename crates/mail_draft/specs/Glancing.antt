-- What is read of a message's node without its subnodes.
use Rattle.std.specs.Prelude.{◌≡◌, ℕ, Bool, List, Option, None, Some, Result, Ok, Err, length}
use Rattle.std.specs.Option.{is_some}
use Rattle.mapi_values.specs.Tables.{find_row}
use Rattle.mapi_values.specs.Messages.{Mes}
use Rattle.mapi_values.specs.Values.{Val}
use Rattle.node_port.specs.Nodes.{content_of, node_at}
use Rattle.node_port.specs.declared.node.NodeRec.{NodeRec}
use Rattle.content_glance.specs.declared.content.Glance.{Glance}
use Rattle.content_glance.specs.declared.content.Glance.TheVariants.{Held, Absent, Below}
use Rattle.content_glance.specs.Glances.{IsTold}
use Rattle.mail_objects.specs.Forms.{Tbl}
use Rattle.mail_objects.specs.Objects.{ShowsMail, ShowsTable}
use Rattle.mail_tree.specs.Changing.{as_message}
use Rattle.mail_tree.specs.Tree.{StandsAt, Tree, object_at}
use Rattle.mail_tree.specs.Values.{of_kind}
use Rattle.mail_draft.specs.declared.stop.Stop.{Stop}
use Rattle.mail_draft.specs.Answers.{IsNoMatter}

-- the node is, without its subnodes, what stands at the id as the tree says, unless the disk failed or memory ran out
abbrev pub HasContent : Tree → ℕ → Result (Option NodeRec) Stop → Type 0
HasContent T q (Ok node) = (whole : Option NodeRec) × (node ≡ content_of whole) × StandsAt q whole (object_at T q) (node_at T.others q)
HasContent T q (Err stop) = IsNoMatter stop

-- the node's data is that of a node which shows the message
pub record IsContent (node : NodeRec) (m : Mes) : Type 0 where
  pub nid : ℕ
  pub whole : NodeRec
  pub shows : ShowsMail nid whole m
  pub blocks : node.blocks ≡ whole.blocks

-- the node's data is that of the message at the id, if the tree has one there, unless the disk failed or memory ran out
abbrev pub HoldsMessage : Tree → ℕ → Result NodeRec Stop → Type 0
HoldsMessage T q (Ok node) = (m : Mes) → as_message (object_at T q) ≡ Some m → IsContent node m
HoldsMessage T q (Err stop) = (m : Mes) → as_message (object_at T q) ≡ Some m → IsNoMatter stop

-- what is told of the value with an id is so of these values, unless memory ran out
abbrev pub TellsValue : ℕ → List Val → Result Glance Stop → Type 0
TellsValue id values (Ok glance) = IsTold id values (Some glance)
TellsValue id values (Err stop) = IsNoMatter stop

-- the bytes of the value that is told, if it is of this kind
abbrev pub told_bytes : ℕ → Glance → Option (List ℕ)
told_bytes kind (Held v) = of_kind kind v
told_bytes kind Absent = None
told_bytes kind Below = None

-- the text is told, but where the value stands in a subnode
abbrev pub TellsText : Glance → List ℕ → Option (List ℕ) → Type 0
TellsText glance text None = glance ≡ Below
TellsText glance text (Some told) = told ≡ text

-- the node's data is that of a node which shows the table
pub record AreOfTable (node : NodeRec) (t : Tbl) : Type 0 where
  pub whole : NodeRec
  pub shows : ShowsTable whole t
  pub blocks : node.blocks ≡ whole.blocks

-- so it is told whether the table has a row
abbrev pub TellsHas : ℕ → Tbl → Result Bool Stop → Type 0
TellsHas row t (Ok has) = has ≡ is_some (find_row row t.table.rows)
TellsHas row t (Err stop) = IsNoMatter stop

-- and how many it has
abbrev pub TellsRows : Tbl → Result ℕ Stop → Type 0
TellsRows t (Ok count) = count ≡ length t.table.rows
TellsRows t (Err stop) = IsNoMatter stop
