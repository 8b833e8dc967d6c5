-- What each command leaves as it was, and which ids it gives.
use Rattle.std.specs.Prelude.{◌≡◌, ◌⊎◌, ◌<◌, ℕ, ◌%◌, ◌==◌, ◌&&◌, Bool, true, false, IfOk, IsSome, List, set, get_or, None, Some, ◌||◌}
use Rattle.std.specs.FinMap as map
use Rattle.pst_base.specs.Ids.{index_of}
use Rattle.mapi_values.specs.Properties.{find}
use Rattle.mapi_values.specs.Tables.{find_row}
use Rattle.command_text.specs.declared.command.Command.{Command}
use Rattle.command_text.specs.declared.command.Command.TheVariants.{NameProperty, RenameFolder}
use Rattle.command_text.specs.declared.reply.LastLine.{LastLine}
use Rattle.command_text.specs.declared.reply.LastLine.TheVariants.{Made}
use Rattle.mail_objects.specs.Forms.{Ctx, Tbl}
use Rattle.mail_objects.specs.declared.object.Object.TheVariants.{Context, Table}
use Rattle.node_port.specs.Nodes.{node_at}
use Rattle.mail_tree.specs.declared.places.FolderPlace.{FolderPlace}
use Rattle.mail_tree.specs.Folders.{Outcome}
use Rattle.mail_tree.specs.Places.{find_place}
use Rattle.mail_tree.specs.Tree.{Tree, object_at}
use Rattle.mail_tree.specs.Found.{IsFound, IsFoundBeside}
use Rattle.mail_tree.specs.Start.{IsStart}
use Rattle.mail_tree.specs.Step.{after, outcome}
use Rattle.mail_tree.specs.Whole.{IsWhole}

-- the command gives this folder its name
abbrev pub gives_name : Command → ℕ → Bool
gives_name (RenameFolder folder name) f = folder.bits == f
gives_name other f = false

-- the command may add a name of a property
abbrev pub adds_name : Command → Bool
adds_name (NameProperty guid number) = true
adds_name other = false

-- the id is that of one of a folder's counts
abbrev pub is_count : ℕ → Bool
is_count id = (id == 0x3602) || ((id == 0x3603) || (id == 0x360A))

-- a folder has its values still, but for its counts, and for its name where it is given one
pub record StaysFolder (named : Bool) (old new : Ctx) : Type 0 where
  pub kept : new.kept ≡ old.kept
  pub values : (id : ℕ) → is_count id ≡ false → (named && (id == 0x3001)) ≡ false → find id new.props ≡ find id old.props

-- each folder that stays has its values still, the store all of its own, and the names are the same but where one may be added
pub record KeepsValues : Type 0 where
  pub folders : (T : Tree) (c : Command) → IsWhole T → IfOk (outcome T c) (λ o. (f : ℕ) (p : FolderPlace) (old : Ctx) → find_place f o.places ≡ Some p → object_at T f ≡ Some (Context old)
      → (new : Ctx) × (object_at (after T o) f ≡ Some (Context new)) × StaysFolder (gives_name c f) old new)
  pub store : (T : Tree) (c : Command) → IsWhole T → IfOk (outcome T c) (λ o. object_at (after T o) 0x21 ≡ object_at T 0x21)
  pub names : (T : Tree) (c : Command) → IsWhole T → adds_name c ≡ false → IfOk (outcome T c) (λ o. object_at (after T o) 0x61 ≡ object_at T 0x61)

-- a table has still its columns, what it keeps below it, and each row that names no object of either tree
pub record StaysTable (T T' : Tree) (old new : Tbl) : Type 0 where
  pub parent : new.parent ≡ old.parent
  pub columns : new.table.columns ≡ old.table.columns
  pub ends : new.table.ends ≡ old.table.ends
  pub kept : new.table.kept ≡ old.table.kept
  pub rows : (r : ℕ) → object_at T r ≡ None → object_at T' r ≡ None → find_row r new.table.rows ≡ find_row r old.table.rows

-- each table that stays is the same but for the rows of folders and messages
abbrev pub KeepsTables : Type 0
KeepsTables = (T : Tree) (c : Command) → IsWhole T → IfOk (outcome T c) (λ o. (q : ℕ) (old new : Tbl) → object_at T q ≡ Some (Table old) → object_at (after T o) q ≡ Some (Table new) → StaysTable T (after T o) old new)

-- each other node is as it was, and what is new stands where no node stood
pub record KeepsNodes : Type 0 where
  pub same : (T : Tree) (c : Command) → IsWhole T → IfOk (outcome T c) (λ o. (q : ℕ) → object_at T q ≡ None → object_at (after T o) q ≡ None → node_at (after T o).others q ≡ node_at T.others q)
  pub free : (T : Tree) (c : Command) → IsWhole T → IfOk (outcome T c) (λ o. (q : ℕ) → object_at T q ≡ None → IsSome (object_at (after T o) q) → node_at T.others q ≡ None)

-- the id that is replied has an index behind the counter of its kind, which is that index then; all other counters stay
abbrev pub Counted : List ℕ → List ℕ → LastLine → Type 0
Counted old new (Made n) = (get_or old (n.bits % 32) 0 < index_of n.bits) × (new ≡ set old (n.bits % 32) (index_of n.bits))
Counted old new other = new ≡ old

-- ids aren't used again: each one that is given lies behind all that its counter has passed
abbrev pub GivesNewIds : Type 0
GivesNewIds = (T : Tree) (c : Command) → IfOk (outcome T c) (λ o. Counted T.last o.last o.reply.last)

-- an opening finds the tree of a new store, and the tree after each command on one that it finds, whatever stands beside
pub record StaysFound : Type 0 where
  pub starts : (name : List ℕ) (T : Tree) → IsStart name T → IsFound T
  pub stays : (T : Tree) (c : Command) → IsWhole T → IsFound T → IfOk (outcome T c) (λ o. IsFound (after T o))
  pub beside : (is_beside : ℕ → Bool) (T : Tree) (c : Command) → IsWhole T → IsFoundBeside (λ q. is_beside q ≡ true) T → IfOk (outcome T c) (λ o. IsFoundBeside (λ q. is_beside q ≡ true) (after T o))

-- the id is of a kind that only search folders, their updates, their criteria and their results have
abbrev pub IsSearchId : ℕ → Type 0
IsSearchId q = (q % 32 ≡ 3) ⊎ ((q % 32 ≡ 6) ⊎ ((q % 32 ≡ 7) ⊎ (q % 32 ≡ 16)))

-- nothing is put, and nothing goes, where searches have something, and each search folder stands where it stood
pub record Leaves (T : Tree) (o : Outcome) : Type 0 where
  pub nodes : (q : ℕ) → IsSearchId q → map.get o.changed.objects q ≡ None
  pub places : (f : ℕ) → f % 32 ≡ 3 → find_place f o.places ≡ find_place f T.places

-- no command of the tree changes what stands for searches
abbrev pub LeavesSearches : Type 0
LeavesSearches = (T : Tree) (c : Command) → IsWhole T → IfOk (outcome T c) (λ o. Leaves T o)
