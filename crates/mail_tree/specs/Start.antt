-- The tree of a new store.
use Rattle.std.specs.Prelude.{◌≡◌, ℕ, ◌+◌, ◌/◌, ◌%◌, ◌==◌, if◌then◌else◌, true, List, [], ◌∷◌, ◌++◌, codes, length, replicate, Option, None, Some, ◌||◌}
use Rattle.std.specs.List.{flat_map}
use Rattle.std.specs.Char.{encode_utf8}
use Rattle.std.specs.Ordering.{nat_cmp}
use Rattle.std.specs.FinMap as finite
use Rattle.byteorder.specs.Endian.{little_bytes}
use Rattle.pst_checksum.specs.Crc.{crc_of}
use Rattle.mapi_values.specs.Characters.{characters}
use Rattle.mapi_values.specs.Properties.{put}
use Rattle.mapi_values.specs.Tables.{mirror}
use Rattle.mapi_values.specs.Values.{Val}
use Rattle.mapi_values.specs.declared.characters.Character.{Character}
use Rattle.mapi_values.specs.declared.characters.Character.TheVariants.{Scalar, Unpaired}
use Rattle.node_port.specs.Nodes.{node_at}
use Rattle.node_port.specs.declared.node.NodeRec.{NodeRec}
use Rattle.mail_objects.specs.Objects.{ShowsObject}
use Rattle.mail_objects.specs.declared.object.Object.{Object}
use Rattle.mail_objects.specs.declared.object.Object.TheVariants.{Context, Table}
use Rattle.mail_tree.specs.declared.places.FolderPlace.{FolderPlace}
use Rattle.mail_tree.specs.Places.{ROOT}
use Rattle.mail_tree.specs.Tree.{Tree}
use Rattle.mail_tree.specs.Values.{folder_props, number, text, truth, value}
use Rattle.mail_tree.specs.Changing.{with_rows}
use Rattle.mail_tree.specs.Columns.{attachments_table, contents_table, hierarchy_table, recipients_table}
use Rattle.mail_tree.specs.Folders.{place}

abbrev pub TOP : ℕ
TOP = 0x8022

abbrev pub SEARCH_ROOT : ℕ
SEARCH_ROOT = 0x8042

abbrev pub DELETED : ℕ
DELETED = 0x8062

-- the bytes of a character; an unpaired surrogate has those that the form of three bytes gives its number
abbrev pub utf8_bytes : Character → List ℕ
utf8_bytes (Scalar c) = encode_utf8 c
utf8_bytes (Unpaired u) = (0xE0 + u / 4096) ∷ (0x80 + u / 64 % 64) ∷ (0x80 + u % 64) ∷ []

-- a text of units as UTF-8
unfoldable pub utf8_of : List ℕ → List ℕ
utf8_of units = flat_map utf8_bytes (characters units)

-- the record key of a store of this name: the checksum and the length of the name, and who made it
unfoldable pub record_key : List ℕ → List ℕ
record_key name = little_bytes 4 (crc_of (utf8_of name)) ++ (little_bytes 4 (length (utf8_of name)) ++ codes "PSTORE01")

-- the entry id by which the store names a folder
abbrev pub entry_id : List ℕ → ℕ → List ℕ
entry_id key f = replicate 4 0 ++ (key ++ little_bytes 4 f)

-- the store's own values: its key, its name, and the folders that it names
unfoldable pub store_props : List ℕ → List Val
store_props name =
    let key = record_key name in
    value 0x0FF9 0x0102 key ∷ text 0x3001 name ∷ value 0x35E0 0x0102 (entry_id key TOP) ∷ value 0x35E3 0x0102 (entry_id key DELETED) ∷ value 0x35E7 0x0102 (entry_id key SEARCH_ROOT) ∷ []

-- values at a node with this parent
abbrev pub context : ℕ → List Val → Object
context parent props = Context (record { parent = parent; props = props; kept = [] })

-- the root's values: those of a new folder without a name, which has folders
abbrev pub root_props : List Val
root_props = put (truth 0x360A true) (folder_props [])

abbrev pub top_name : List ℕ
top_name = codes "Top of Personal Folders"

abbrev pub search_name : List ℕ
search_name = codes "Search Root"

abbrev pub deleted_name : List ℕ
deleted_name = codes "Deleted Items"

-- the row of a new folder
abbrev pub start_row : ℕ → List ℕ → ℕ × List Val
start_row f name = (f, mirror hierarchy_table.table.columns (folder_props name))

-- the root's table of folders
unfoldable pub root_hierarchy : Object
root_hierarchy = with_rows (start_row TOP top_name ∷ start_row SEARCH_ROOT search_name ∷ start_row DELETED deleted_name ∷ []) hierarchy_table

-- a new folder's nodes
abbrev pub folder_nodes : ℕ → List ℕ → List (ℕ × Object)
folder_nodes f name = (f, context ROOT (folder_props name)) ∷ (f + 11, Table hierarchy_table) ∷ (f + 12, Table contents_table) ∷ (f + 13, Table contents_table) ∷ []

-- the values of the node of names, of which there are none
abbrev pub names_props : List Val
names_props = number 0x0001 251 ∷ value 0x0002 0x0102 [] ∷ value 0x0003 0x0102 [] ∷ value 0x0004 0x0102 [] ∷ []

-- the objects of the tree of a new store
unfoldable pub start_objects : List ℕ → List (ℕ × Object)
start_objects name = (0x21, context 0 (store_props name)) ∷ (0x61, context 0 names_props)
    ∷ (0x122, context ROOT root_props) ∷ (0x12D, root_hierarchy) ∷ (0x12E, Table contents_table) ∷ (0x12F, Table contents_table)
    ∷ folder_nodes TOP top_name ++ (folder_nodes SEARCH_ROOT search_name ++ folder_nodes DELETED deleted_name)

-- the other nodes with tables: templates of all kinds of them
unfoldable pub start_others : List (ℕ × Object)
start_others = (0x60D, Table hierarchy_table) ∷ (0x60E, Table contents_table) ∷ (0x60F, Table contents_table) ∷ (0x610, Table contents_table)
    ∷ (0x671, Table attachments_table) ∷ (0x692, Table recipients_table) ∷ []

-- a node without data
abbrev pub empty_node : NodeRec
empty_node = record { parent = record { bits = 0 }; blocks = []; subs = [] }

-- the node of an object, if there is one, or one without data at the ids of two lists that other programs keep
abbrev pub IsStartNode : ℕ → Option Object → Option NodeRec → Type 0
IsStartNode q (Some object) node = (rec : NodeRec) × (node ≡ Some rec) × ShowsObject q rec object
IsStartNode q None node = node ≡ (if (q == 0x1E1) || (q == 0x201) then Some empty_node else None)

-- the places of the folders of a new store
abbrev pub start_places : List FolderPlace
start_places = place 0x122 ROOT ∷ place TOP ROOT ∷ place SEARCH_ROOT ROOT ∷ place DELETED ROOT ∷ []

-- the counters of a new store: by kinds, the last index that was given
abbrev pub start_last : List ℕ
start_last = 0x400 ∷ 0x400 ∷ 0x403 ∷ 0x4000 ∷ 0x10000 ∷ 0x400 ∷ 0x400 ∷ 0x400 ∷ 0x8000 ∷ replicate 23 0x400

-- the tree of a new store of this name
pub record IsStart (name : List ℕ) (T : Tree) : Type 0 where
  pub places : T.places ≡ start_places
  pub objects : T.objects ≡ finite.from_entries (start_objects name)
  pub others : (q : ℕ) → IsStartNode q (finite.find nat_cmp q start_others) (node_at T.others q)
  pub counters : T.last ≡ start_last
