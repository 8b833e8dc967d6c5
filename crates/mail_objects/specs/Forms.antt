-- Objects as contracts see them.
use Rattle.std.specs.Prelude.{ℕ, List}
use Rattle.pst_base.specs.Flat.{Flat}
use Rattle.mapi_values.specs.Tables.{Tab}
use Rattle.mapi_values.specs.Values.{Val}

-- a node of properties: its parent, the values, and the subnodes that no value uses
pub record Ctx : Type 0 where
  pub parent : ℕ
  pub props : List Val
  pub kept : List Flat

-- a node that is a table, and its parent
pub record Tbl : Type 0 where
  pub parent : ℕ
  pub table : Tab
