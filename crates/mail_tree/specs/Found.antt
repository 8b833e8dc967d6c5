-- The tree that an opening finds in nodes: what the tables of folders show from the root down.
use Rattle.std.specs.Prelude.{◌≡◌, ◌⊎◌, ◌≤◌, ℕ, zero, suc, ◌%◌, ◌==◌, ◌&&◌, true, IsSome, List, Option, None, Some, if◌then◌else◌}
use Rattle.mapi_values.specs.Tables.{find_row}
use Rattle.mail_objects.specs.Forms.{Tbl}
use Rattle.mail_objects.specs.declared.object.Object.{Object}
use Rattle.mail_objects.specs.declared.object.Object.TheVariants.{Context, Table, Message, Bare}
use Rattle.mail_tree.specs.declared.places.FolderPlace.{FolderPlace}
use Rattle.mail_tree.specs.declared.places.Sort.{Sort}
use Rattle.mail_tree.specs.declared.places.Sort.TheVariants.{Plain, Foreign}
use Rattle.mail_tree.specs.Places.{ROOT, find_place, is_plain}
use Rattle.mail_tree.specs.Tree.{Tree, object_at}
use Rattle.mail_tree.specs.Changing.{associated, contents, hierarchy}
use Rattle.mail_tree.specs.Folders.{nid}
use Rattle.mail_tree.specs.Ids.{is_taken}

-- the folder stands so many folders below the root
abbrev pub StandsBelow : List FolderPlace → ℕ → ℕ → Type 0
StandsBelow places zero f = f ≡ ROOT
StandsBelow places (suc n) f = (f ≡ ROOT → ⊥) × ((p : FolderPlace) × (find_place f places ≡ Some p) × StandsBelow places n p.parent.bits)

-- of which sort the folder is that a row of this id names: one of a folder's id, or one of a search folder's id whose node is there
abbrev pub named_sort : Tree → ℕ → Option Sort
named_sort T r = if r % 32 == 2 then Some Plain else (if (r % 32 == 3) && is_taken T r then Some Foreign else None)

-- the object belongs at the id: values at that of the store, of the names or of a folder, a table at that of one beside a plain folder; of messages their folders' tables tell
abbrev pub BelongsAt : List FolderPlace → ℕ → Object → Type 0
BelongsAt places q (Context c) = (q ≡ 0x21) ⊎ ((q ≡ 0x61) ⊎ IsSome (find_place q places))
BelongsAt places q (Table t) = (f : ℕ) × ((p : FolderPlace) × (find_place f places ≡ Some p) × (is_plain p ≡ true)) × ((q ≡ hierarchy f) ⊎ ((q ≡ contents f) ⊎ (q ≡ associated f)))
BelongsAt places q (Message m) = Unit {0}
BelongsAt places q (Bare parent) = ⊥

-- each object belongs where it stands
abbrev pub AreOwned : List FolderPlace → (ℕ → Option Object) → Type 0
AreOwned places at = (q : ℕ) (o : Object) → at q ≡ Some o → BelongsAt places q o

-- The folders of a tree are those that its tables of folders list, and its objects are theirs.
pub record IsFound (T : Tree) : Type 0 where
  -- each row of a plain folder's table that names a folder names one that stands in it, and not the root
  pub listed : (f : ℕ) (p : FolderPlace) (t : Tbl) (r : ℕ) (s : Sort) → find_place f T.places ≡ Some p → is_plain p ≡ true → object_at T (hierarchy f) ≡ Some (Table t)
      → IsSome (find_row r t.table.rows) → named_sort T r ≡ Some s → (r ≡ ROOT → ⊥) × (find_place r T.places ≡ Some (record { nid = nid r; parent = nid f; sort = s }))
  -- each folder stands at most 64 folders below the root
  pub reached : (f : ℕ) (p : FolderPlace) → find_place f T.places ≡ Some p → (n : ℕ) × (n ≤ 64) × StandsBelow T.places n f
  -- no object stands beside what an opening finds
  pub owned : AreOwned T.places (object_at T)

-- the object belongs at the id, or the id is one of those beside what an opening of folders finds
abbrev pub BelongsOr : (ℕ → Type 0) → List FolderPlace → ℕ → Object → Type 0
BelongsOr beside places q o = beside q ⊎ BelongsAt places q o

-- The same, where objects may stand at certain ids beside what folders and messages have.
pub record IsFoundBeside (beside : ℕ → Type 0) (T : Tree) : Type 0 where
  pub listed : (f : ℕ) (p : FolderPlace) (t : Tbl) (r : ℕ) (s : Sort) → find_place f T.places ≡ Some p → is_plain p ≡ true → object_at T (hierarchy f) ≡ Some (Table t)
      → IsSome (find_row r t.table.rows) → named_sort T r ≡ Some s → (r ≡ ROOT → ⊥) × (find_place r T.places ≡ Some (record { nid = nid r; parent = nid f; sort = s }))
  pub reached : (f : ℕ) (p : FolderPlace) → find_place f T.places ≡ Some p → (n : ℕ) × (n ≤ 64) × StandsBelow T.places n f
  pub owned : (q : ℕ) (o : Object) → object_at T q ≡ Some o → BelongsOr beside T.places q o
