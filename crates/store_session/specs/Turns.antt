-- What a stop within a session leaves, whatever the session's state is: the state after some of the turns, among them each whose reply had begun, and at most one whose reply wasn't said whole.
use Rattle.std.specs.Prelude.{◌≡◌, ℕ, ◌<◌, ◌≤◌, List, [], ◌∷◌, ◌++◌, length, take}
use Rattle.pst_outside.specs.World.{Image, SameDisk}
use Rattle.store_session.specs.Disks.{Medium}

-- One turn: what was said, and the state, as a tree with its searches, and the disk after it.
pub record StoreTurn (X : Type 0) : Type 0 where
  pub said : List ℕ
  pub tree : X
  pub disk : Medium

-- the replies of some turns as one text
abbrev pub texts : {X : Type 0} → List (StoreTurn X) → List ℕ
texts [] = []
texts (turn ∷ turns) = turn.said ++ texts turns

-- the replies alone
abbrev pub replies_of : {X : Type 0} → List (StoreTurn X) → List (List ℕ)
replies_of [] = []
replies_of (turn ∷ turns) = turn.said ∷ replies_of turns

-- the state at the end
abbrev pub tree_after : {X : Type 0} → X → List (StoreTurn X) → X
tree_after start [] = start
tree_after start (turn ∷ turns) = tree_after turn.tree turns

-- the disk at the end
abbrev pub disk_after : {X : Type 0} → Medium → List (StoreTurn X) → Medium
disk_after disk [] = disk
disk_after disk (turn ∷ turns) = disk_after turn.disk turns

-- its image
abbrev pub image_after : {X : Type 0} → Image → List (StoreTurn X) → Image
image_after image [] = image
image_after image (turn ∷ turns) = image_after turn.disk.image turns

-- each disk of a run stands for the state of its place: the one before it, and that after each turn
abbrev pub StandThrough : {X : Type 0} → (Image → X → Type 0) → X → Medium → List (StoreTurn X) → Type 0
StandThrough stands start disk [] = stands disk.image start
StandThrough stands start disk (turn ∷ turns) = stands disk.image start × StandThrough stands turn.tree turn.disk turns

-- What was said since `first`: the replies of all turns but the last whole, and of that a front.
pub record SaysTurns {X : Type 0} (first : List ℕ) (turns : List (StoreTurn X)) (now : List ℕ) : Type 0 where
  pub done : List (StoreTurn X)
  pub hand : List (StoreTurn X)
  pub one : length hand ≤ 1
  pub are : turns ≡ done ++ hand
  pub count : ℕ
  pub said : now ≡ first ++ (texts done ++ take count (texts hand))

-- The image stands for the state after the turns whose replies were said whole and the one in hand, if there is one, of whose reply a front was said. Once that has begun, the disk is the one that this turn left.
pub record IsReached {X : Type 0} (stands : Image → X → Type 0) (first : List ℕ) (start : X) (turns : List (StoreTurn X)) (c : Image) : Type 0 where
  pub done : List (StoreTurn X)
  pub hand : List (StoreTurn X)
  pub left : List (StoreTurn X)
  pub one : length hand ≤ 1
  pub are : turns ≡ done ++ (hand ++ left)
  pub tree : stands c (tree_after start (done ++ hand))
  pub count : ℕ
  pub said : c.said ≡ first ++ (texts done ++ take count (texts hand))
  pub disk : 0 < count → SameDisk (image_after c hand) c
