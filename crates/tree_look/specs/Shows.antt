-- Which tree nodes show.
use Rattle.std.specs.Prelude.{◌≡◌, ◌⊎◌, ◌↔◌, ℕ, true, IsSome, List, Some}
use Rattle.node_port.specs.Nodes.{Nodes, node_at}
use Rattle.mail_tree.specs.declared.places.FolderPlace.{FolderPlace}
use Rattle.mail_tree.specs.Changing.{associated, contents, hierarchy}
use Rattle.mail_tree.specs.Places.{find_place, is_plain}
use Rattle.mail_tree.specs.Standing.{HasTree, ListsMessage}
use Rattle.mail_tree.specs.Tree.{StandsAt, Tree, object_at}
use Rattle.mail_tree.specs.Whole.{fits_id}
use Rattle.mail_objects.specs.declared.object.Object.{Object}

-- a plain folder of these places
abbrev pub IsPlainIn : List FolderPlace → ℕ → Type 0
IsPlainIn places f = (p : FolderPlace) × (find_place f places ≡ Some p) × (is_plain p ≡ true)

-- the id is that of a table of the folder that is there, or of a message that the folder lists
abbrev pub IsBeside : Nodes → ℕ → ℕ → Type 0
IsBeside N f q = (q ≡ hierarchy f) ⊎ ((q ≡ contents f) ⊎ (((q ≡ associated f) × IsSome (node_at N q)) ⊎ ListsMessage N f q))

-- the id is that of the store's values, or of the names
abbrev pub IsFixed : ℕ → Type 0
IsFixed q = (q ≡ 0x21) ⊎ (q ≡ 0x61)

-- the id is that of the store's values, of the names, of a folder, of a table of a plain folder that is there, or of a message that one lists
abbrev pub IsOwned : Nodes → List FolderPlace → ℕ → Type 0
IsOwned N places q = IsFixed q ⊎ (IsSome (find_place q places) ⊎ ((f : ℕ) × IsPlainIn places f × IsBeside N f q))

-- The nodes show the tree: they have one with its places, its objects are those of the nodes that belong to the store, and it keeps all other nodes as they are.
pub record Shows (N : Nodes) (T : Tree) : Type 0 where
  pub tree : HasTree N T.places
  pub at : (q : ℕ) → StandsAt q (node_at N q) (object_at T q) (node_at T.others q)
  -- each object stands at an id of its kind
  pub typed : (q : ℕ) (o : Object) → object_at T q ≡ Some o → fits_id q o ≡ true
  pub owned : (q : ℕ) → IsSome (object_at T q) ↔ IsOwned N T.places q
