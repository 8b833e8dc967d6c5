-- A whole tree: its folders hang together, and each row of a folder or a message names one.
use Rattle.std.specs.Prelude.{◌≡◌, ℕ, ◌%◌, ◌==◌, ◌&&◌, Bool, true, IsSome, List, Option, None, Some, Ok, Err, ◌||◌}
use Rattle.mapi_values.specs.Keyed.{keys_ascend}
use Rattle.mapi_values.specs.Messages.{Mes}
use Rattle.mapi_values.specs.Tables.{find_row}
use Rattle.mail_objects.specs.Forms.{Ctx, Tbl}
use Rattle.mail_objects.specs.declared.object.Object.{Object}
use Rattle.mail_objects.specs.declared.object.Object.TheVariants.{Context, Table, Message, Bare}
use Rattle.mail_tree.specs.declared.places.FolderPlace.{FolderPlace}
use Rattle.mail_tree.specs.declared.places.Sort.{Sort}
use Rattle.mail_tree.specs.declared.places.Sort.TheVariants.{Plain, Foreign}
use Rattle.mail_tree.specs.Places.{ROOT, find_place, is_plain, place_id}
use Rattle.mail_tree.specs.Tree.{Tree, object_at}
use Rattle.mail_tree.specs.Names.{HoldsNames}
use Rattle.mail_tree.specs.Changing.{Answer, associated, contents, hierarchy}
use Rattle.node_port.specs.Nodes.{node_at}

-- the kind of a folder's id
abbrev pub kind_of_sort : Sort → ℕ
kind_of_sort Plain = 2
kind_of_sort Foreign = 3

-- the object may stand at the id: values at that of the store, of the names, of a folder or of a search's criteria, a table at that of one, a message at its own, no data at that of a search's updates
abbrev pub fits_id : ℕ → Object → Bool
fits_id q (Context c) = (q == 0x21) || ((q == 0x61) || ((q % 32 == 2) || ((q % 32 == 3) || (q % 32 == 7))))
fits_id q (Table t) = (q % 32 == 13) || ((q % 32 == 14) || ((q % 32 == 15) || (q % 32 == 16)))
fits_id q (Message m) = (q % 32 == 4) && (m.nid == q)
fits_id q (Bare parent) = q % 32 == 6

-- a table is there, and has a row of this id
abbrev pub HasRow : Option Object → ℕ → Type 0
HasRow object id = (t : Tbl) × (object ≡ Some (Table t)) × IsSome (find_row id t.table.rows)

-- Objects by their ids, with the places of folders, are whole.
pub record AreWhole (places : List FolderPlace) (at : ℕ → Option Object) : Type 0 where
  -- places ascend by id, the root is a plain folder and its own parent, and each id is of the folder's kind
  pub ascend : keys_ascend place_id 0 places ≡ true
  pub root : (p : FolderPlace) × (find_place ROOT places ≡ Some p) × (is_plain p ≡ true) × (p.parent.bits ≡ ROOT)
  pub kinds : (f : ℕ) (p : FolderPlace) → find_place f places ≡ Some p → f % 32 ≡ kind_of_sort p.sort
  -- each other folder is listed by its parent, a plain folder
  pub parents : (f : ℕ) (p : FolderPlace) → find_place f places ≡ Some p → (f ≡ ROOT → ⊥)
      → (q : FolderPlace) × (find_place p.parent.bits places ≡ Some q) × (is_plain q ≡ true) × HasRow (at (hierarchy p.parent.bits)) f
  -- objects stand at ids of their kinds
  pub typed : (q : ℕ) (o : Object) → at q ≡ Some o → fits_id q o ≡ true
  -- the rows of each table ascend by id
  pub rows_ascend : (q : ℕ) (t : Tbl) → at q ≡ Some (Table t) → keys_ascend (λ r. r.0) 0 t.table.rows ≡ true
  -- the store's values, the names, each folder's values, of which all but the root's name its parent, and the tables of each plain folder are there
  pub store : IsSome (at 0x21)
  pub names : HoldsNames (at 0x61)
  pub contexts : (f : ℕ) (p : FolderPlace) → find_place f places ≡ Some p → (c : Ctx) × (at f ≡ Some (Context c)) × ((f ≡ ROOT → ⊥) → c.parent ≡ p.parent.bits)
  pub tables : (f : ℕ) (p : FolderPlace) → find_place f places ≡ Some p → is_plain p ≡ true → IsSome (at (hierarchy f)) × IsSome (at (contents f))
  -- each row of a message in a plain folder's table names a message in it
  pub listed : (f : ℕ) (p : FolderPlace) (t : Tbl) (m : ℕ) → find_place f places ≡ Some p → is_plain p ≡ true → at (contents f) ≡ Some (Table t)
      → IsSome (find_row m t.table.rows) → m % 32 ≡ 4 → (M : Mes) × (at m ≡ Some (Message M)) × (M.folder ≡ f)
  -- each message is listed by its folder, a plain one
  pub held : (m : ℕ) (M : Mes) → at m ≡ Some (Message M) → (p : FolderPlace) × (find_place M.folder places ≡ Some p) × (is_plain p ≡ true) × HasRow (at (contents M.folder)) m

-- a node beside a plain folder, where its table of associated messages would stand, is that table
abbrev pub HasNoStray : Tree → Type 0
HasNoStray T = (f : ℕ) (p : FolderPlace) → find_place f T.places ≡ Some p → is_plain p ≡ true → node_at T.others (associated f) ≡ None

-- the tree is whole
pub record IsWhole (T : Tree) : Type 0 where
  pub objects : AreWhole T.places (object_at T)
  pub no_stray : HasNoStray T

-- there is an answer or a refusal, and an answer has P
abbrev pub Fine : {A : Type 0} → Answer A → (A → Type 0) → Type 0
Fine (Ok x) P = P x
Fine (Err None) P = ⊥
Fine (Err (Some refusal)) P = Unit {0}
