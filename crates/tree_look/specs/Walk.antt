-- How far an opening has come.
use Rattle.std.specs.Prelude.{◌≡◌, ◌⊎◌, ◌≤◌, ℕ, suc, ◌%◌, Bool, true, List, [], Option, None, Some}
use Rattle.pst_base.specs.declared.ids.Nid.{Nid}
use Rattle.pst_outside.specs.World.{World}
use Rattle.pst_outside.specs.Calls.{Rose, Untouched}
use Rattle.mapi_values.specs.Keyed.{keys_ascend}
use Rattle.mail_objects.specs.Forms.{Ctx}
use Rattle.mail_tree.specs.Folders.{nid}
use Rattle.mail_tree.specs.Found.{StandsBelow}
use Rattle.mail_tree.specs.Places.{ROOT, find_place, is_plain, place_id}
use Rattle.mail_tree.specs.Whole.{kind_of_sort}
use Rattle.mail_tree.specs.declared.places.FolderPlace.{FolderPlace}
use Rattle.mail_tree.specs.declared.places.Sort.{Sort}
use Rattle.node_port.specs.Nodes.{Nodes}
use Rattle.node_port.specs.Stops.{Room}
use Rattle.mail_tree.specs.Standing.{HasContext, HasTables, IsListed, ListsFolder, names_sort}
use Rattle.tree_look.specs.Faults.{IsReached}
use Rattle.tree_look.specs.declared.stops.LookStop.{LookStop}
use Rattle.tree_look.specs.declared.stops.LookStop.TheVariants as stops

-- a call that only looks
pub record Looks (holds holds' : Nodes → Type 0) (last last' : List ℕ) (room room' : Room) (old new : World) : Type 0 where
  pub stays : (N : Nodes) → holds N → holds' N
  pub counters : last' ≡ last
  pub space : room' ≡ room
  pub world : Untouched old new

-- a fault comes only from a disk, whose count of faults rose
abbrev pub IsCaused : Bool → ℕ → ℕ → LookStop → Type 0
IsCaused disk before after (stops.Refused refusal) = Unit {0}
IsCaused disk before after stops.Fault = Rose before after × (disk ≡ true)
IsCaused disk before after (stops.Changed ib stored computed) = Unit {0}
IsCaused disk before after stops.Memory = Unit {0}

-- the folder that comes next: the root, or one that a plain folder lists
abbrev pub Comes : Nodes → Option Nid → ℕ → ℕ → Type 0
Comes N None n row = (n ≡ 0) × (row ≡ ROOT)
Comes N (Some p) n row = (k : ℕ) × (n ≡ suc k) × IsReached N k p.bits × (p.bits % 32 ≡ 2) × ListsFolder N p.bits row

-- a folder that may stand where it is listed: it isn't the root, and names the folder that lists it
abbrev pub Suits : Option Nid → ℕ → Ctx → Type 0
Suits None row c = Unit {0}
Suits (Some p) row c = (row ≡ ROOT → ⊥) × (c.parent ≡ p.bits)

-- the row names no folder, or one of this sort, whose values are there
abbrev pub Checked : Nodes → Option Nid → ℕ → Option Sort → Type 0
Checked N above row None = names_sort N row ≡ None
Checked N above row (Some s) = (names_sort N row ≡ Some s) × ((c : Ctx) × HasContext N row c × Suits above row c)

-- Folders that were found so far: all that is so of the tree but for the rows that weren't followed yet.
pub record IsPart (N : Nodes) (places : List FolderPlace) : Type 0 where
  pub ascend : keys_ascend place_id 0 places ≡ true
  pub kinds : (f : ℕ) (p : FolderPlace) → find_place f places ≡ Some p → f % 32 ≡ kind_of_sort p.sort
  pub contexts : (f : ℕ) (p : FolderPlace) → find_place f places ≡ Some p → (c : Ctx) × HasContext N f c × ((f ≡ ROOT → ⊥) → c.parent ≡ p.parent.bits)
  pub parents : (f : ℕ) (p : FolderPlace) → find_place f places ≡ Some p → (f ≡ ROOT → ⊥)
      → (q : FolderPlace) × (find_place p.parent.bits places ≡ Some q) × (is_plain q ≡ true) × ListsFolder N p.parent.bits f
  pub reached : (f : ℕ) (p : FolderPlace) → find_place f places ≡ Some p → (n : ℕ) × (n ≤ 64) × StandsBelow places n f

-- the parent of what comes next
abbrev pub parent_of : Option Nid → ℕ
parent_of None = ROOT
parent_of (Some p) = p.bits

-- nothing was found yet, or the folder that lists what comes next was, and no other row of it named that
abbrev pub Awaits : Option Nid → ℕ → ℕ → List FolderPlace → Type 0
Awaits None n row places = places ≡ []
Awaits (Some p) n row places = (k : ℕ) × (n ≡ suc k) × StandsBelow places k p.bits × ((q : FolderPlace) × (find_place p.bits places ≡ Some q) × (is_plain q ≡ true))
    × ((q : FolderPlace) → find_place row places ≡ Some q → q.parent.bits ≡ p.bits → (row ≡ ROOT → ⊥) → ⊥)

-- all rows of a plain folder were followed, and its tables are there
pub record IsClosed (N : Nodes) (places : List FolderPlace) (f : ℕ) : Type 0 where
  pub tables : HasTables N f
  pub listed : (r : ℕ) → ListsFolder N f r → IsListed N places f r

-- A row was followed, and all folders below it.
pub record Follows (N : Nodes) (above : Option Nid) (row : ℕ) (old new : List FolderPlace) : Type 0 where
  pub part : IsPart N new
  pub kept : (f : ℕ) (p : FolderPlace) → find_place f old ≡ Some p → find_place f new ≡ Some p
  pub closed : (f : ℕ) (p : FolderPlace) → find_place f new ≡ Some p → is_plain p ≡ true → (find_place f old ≡ Some p) ⊎ IsClosed N new f
  -- what is new is the row's folder, or stands in one that is new
  pub news : (f : ℕ) (p : FolderPlace) → find_place f new ≡ Some p → (find_place f old ≡ Some p) ⊎ ((f ≡ row) × (p.parent.bits ≡ parent_of above)) ⊎ (find_place p.parent.bits old ≡ None)
  pub is : (s : Sort) → names_sort N row ≡ Some s → find_place row new ≡ Some (record { nid = nid row; parent = nid (parent_of above); sort = s })
  pub other : (p : Nid) → above ≡ Some p → (s : Sort) → names_sort N row ≡ Some s → row ≡ ROOT → ⊥
