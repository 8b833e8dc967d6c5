-- What a keeper of a file holds and stands for depends on the two files alone.
use Rattle.std.specs.Prelude.{◌≡◌, ◌≤◌, ℕ, Bool, List, length}
use Rattle.std.proofs.Common.{sym, subst}
use Rattle.pst_outside.specs.World.{Image, World, SameDisk}
use Rattle.pst_header.specs.declared.header.Header.{Header}
use Rattle.gate_file.specs.Effective.{effective}
use Rattle.gate_file.specs.Gate.{IsShut}
use Rattle.node_port.specs.Nodes.{Nodes}
use Rattle.lays_kept.specs.Stands.{FileStands, Stands}
use Rattle.node_port.specs.Pins.{Pins}
use Rattle.pst_commit.specs.declared.store.Pin.{Pin}
use Rattle.pst_commit.specs.Held.{StandsAt, held_at}
use Rattle.pst_commit.specs.Keeping.{Keeps, Holds, HasRoom, IsKnowledge, Pinned, room_with}

-- a shut gate stays shut
pub shut_on : (c d : Image) → SameDisk c d → IsShut c.side → IsShut d.side
shut_on c d same is = subst IsShut (sym same.side) is

-- the image with what was said in another
abbrev pub with_said : Image → List ℕ → Image
with_said c said = record { main = c.main; side = c.side; copy = c.copy; said = said }

-- an image is another with what was said in it
pub is_with_said : (c d : Image) → SameDisk c d → d ≡ with_said c d.said
is_with_said c d same = λ i. record { main = same.main i; side = same.side i; copy = same.copy i; said = d.said }

-- what is held of an image is held whatever was said
pub keeps_on : (knows : Header → List ℕ → Type 0) (found : List ℕ) (header : Header) (c d : Image) (N : Nodes) → SameDisk c d → Keeps knows found header c N → Keeps knows found header d N
keeps_on knows found header c d N same is =
    subst (λ i. Keeps knows found header i N) (sym (is_with_said c d same)) (record {
      stands = record { main = (is.stands).main; side = (is.stands).side; file = (is.stands).file };
      own = is.own;
      known = is.known;
    })

-- and so over a world that tells
pub holds_still : (knows : Header → List ℕ → Type 0) (found : List ℕ) (header : Header) (v w : World) (N : Nodes) → w.tells × SameDisk v.here w.here → Holds knows found header v N → Holds knows found header w N
holds_still knows found header v w N same held = (same.0, keeps_on knows found header v.here w.here N same.1 held.1)

-- an image stands for nodes whatever was said
pub stands_on : (found : List ℕ) (c d : Image) → SameDisk c d → (N : Nodes) (last : List ℕ) → Stands found c N last → Stands found d N last
stands_on found c d same N last is = record {
  main = subst (λ l. 564 ≤ length l) (sym same.main) is.main;
  side = subst (λ l. length l ≤ 580) (sym same.side) is.side;
  file = subst (λ f. FileStands found f N last) (λ j. effective (sym same.main j) (sym same.side j)) is.file;
}

-- what a pin tells of an image it tells whatever was said
pub pinned_still : (held : List (Pin × List Bool)) (header : Header) (v w : World) → w.tells × SameDisk v.here w.here → (p : ℕ) (N : Nodes) → Pinned held header v p N → Pinned held header w p N
pinned_still held header v w same p N is = (
  same.0,
  subst (λ f. StandsAt header f (held_at p held) N) (sym (λ i. effective (same.1.main i) (same.1.side i))) is.1,
)

-- the room of what is held is that of the disk
pub held_measures : (knows : Header → List ℕ → Type 0) (used : List Bool) (pins : Pins) (cells : ℕ × ℕ × Bool) → IsKnowledge knows used pins.opened cells → (found : List ℕ) (header : Header) (v : World) (N : Nodes) → Holds knows found header v N → HasRoom v.here (room_with cells found pins)
held_measures knows used pins cells right found header v N held =
    let is = held.1.stands.file in
    record {
      header = is.header;
      read = is.read;
      m = is.m;
      lays = is.lays;
      used = used;
      measured = right.measured is.header (effective v.here.main v.here.side) is.m is.lays (subst (λ h. knows h (effective v.here.main v.here.side)) (sym held.1.own) held.1.known);
    }
