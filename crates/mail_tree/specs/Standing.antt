-- The tree that nodes have: what an opening finds in them from the root down.
use Rattle.std.specs.Prelude.{◌≡◌, ◌⊎◌, ◌≤◌, ℕ, ◌%◌, ◌==◌, ◌&&◌, true, IsSome, List, Option, None, Some, if◌then◌else◌}
use Rattle.std.specs.Option.{is_some}
use Rattle.mapi_values.specs.Keyed.{keys_ascend}
use Rattle.mapi_values.specs.Messages.{Mes}
use Rattle.mapi_values.specs.Tables.{find_row}
use Rattle.mail_objects.specs.Forms.{Ctx, Tbl}
use Rattle.mail_objects.specs.Objects.{ShowsContext, ShowsMail, ShowsTable}
use Rattle.mail_tree.specs.Changing.{associated, contents, hierarchy}
use Rattle.mail_tree.specs.Folders.{nid, place}
use Rattle.mail_tree.specs.Found.{StandsBelow}
use Rattle.mail_tree.specs.Names.{AreNames}
use Rattle.mail_tree.specs.Places.{ROOT, find_place, is_plain, place_id}
use Rattle.mail_tree.specs.Whole.{kind_of_sort}
use Rattle.mail_tree.specs.declared.places.FolderPlace.{FolderPlace}
use Rattle.mail_tree.specs.declared.places.Sort.{Sort}
use Rattle.mail_tree.specs.declared.places.Sort.TheVariants.{Plain, Foreign}
use Rattle.node_port.specs.Nodes.{Nodes, node_at}
use Rattle.node_port.specs.declared.node.NodeRec.{NodeRec}

-- the node at the id is there, and is properties, a table or a message
abbrev pub HasContext : Nodes → ℕ → Ctx → Type 0
HasContext N q c = (node : NodeRec) × (node_at N q ≡ Some node) × ShowsContext node c

abbrev pub HasTable : Nodes → ℕ → Tbl → Type 0
HasTable N q t = (node : NodeRec) × (node_at N q ≡ Some node) × ShowsTable node t

abbrev pub HasMail : Nodes → ℕ → Mes → Type 0
HasMail N q m = (node : NodeRec) × (node_at N q ≡ Some node) × ShowsMail q node m

-- of which sort the folder is that a row of this id names: one of a folder's id, or one of a search folder's id whose node is there
abbrev pub names_sort : Nodes → ℕ → Option Sort
names_sort N r = if r % 32 == 2 then Some Plain else (if (r % 32 == 3) && is_some (node_at N r) then Some Foreign else None)

-- the folder's table of folders, or of messages, has a row of this id
abbrev pub ListsFolder : Nodes → ℕ → ℕ → Type 0
ListsFolder N f r = (t : Tbl) × HasTable N (hierarchy f) t × IsSome (find_row r t.table.rows)

abbrev pub ListsMessage : Nodes → ℕ → ℕ → Type 0
ListsMessage N f m = (t : Tbl) × HasTable N (contents f) t × IsSome (find_row m t.table.rows) × (m % 32 ≡ 4)

-- the tables of a plain folder are there, and that of what is associated with it is a table if it is there
pub record HasTables (N : Nodes) (f : ℕ) : Type 0 where
  pub folders : (t : Tbl) × HasTable N (hierarchy f) t
  pub messages : (t : Tbl) × HasTable N (contents f) t
  pub others : (node_at N (associated f) ≡ None) ⊎ ((t : Tbl) × HasTable N (associated f) t)
  -- each row that names a message names one whose parent is the folder
  pub listed : (m : ℕ) → ListsMessage N f m → (M : Mes) × HasMail N m M × (M.folder ≡ f)

-- each row of a folder's table that names a folder names one that stands in it, and not the root
abbrev pub IsListed : Nodes → List FolderPlace → ℕ → ℕ → Type 0
IsListed N places f r = (s : Sort) → names_sort N r ≡ Some s → (r ≡ ROOT → ⊥) × (find_place r places ≡ Some (record { nid = nid r; parent = nid f; sort = s }))

-- The nodes have a tree, whose folders stand at these places.
pub record HasTree (N : Nodes) (places : List FolderPlace) : Type 0 where
  -- the store's values, and the names
  pub store : (c : Ctx) × HasContext N 0x21 c
  pub names : (c : Ctx) × HasContext N 0x61 c × AreNames c.props
  -- the places ascend by id, and the root stands in itself
  pub ascend : keys_ascend place_id 0 places ≡ true
  pub root : find_place ROOT places ≡ Some (place ROOT ROOT)
  pub kinds : (f : ℕ) (p : FolderPlace) → find_place f places ≡ Some p → f % 32 ≡ kind_of_sort p.sort
  -- each folder has values, and each but the root names its parent
  pub contexts : (f : ℕ) (p : FolderPlace) → find_place f places ≡ Some p → (c : Ctx) × HasContext N f c × ((f ≡ ROOT → ⊥) → c.parent ≡ p.parent.bits)
  pub tables : (f : ℕ) (p : FolderPlace) → find_place f places ≡ Some p → is_plain p ≡ true → HasTables N f
  -- each folder but the root is listed by its parent, a plain one
  pub parents : (f : ℕ) (p : FolderPlace) → find_place f places ≡ Some p → (f ≡ ROOT → ⊥)
      → (q : FolderPlace) × (find_place p.parent.bits places ≡ Some q) × (is_plain q ≡ true) × ListsFolder N p.parent.bits f
  -- and each that is listed stands there
  pub listed : (f : ℕ) (p : FolderPlace) (r : ℕ) → find_place f places ≡ Some p → is_plain p ≡ true → ListsFolder N f r → IsListed N places f r
  -- each folder stands at most 64 folders below the root
  pub reached : (f : ℕ) (p : FolderPlace) → find_place f places ≡ Some p → (n : ℕ) × (n ≤ 64) × StandsBelow places n f
