-- The state of a session with transactions.
use Rattle.std.specs.Prelude.{List, [], ◌∷◌, Option, None, Some}
use Rattle.mail_searches.specs.Searching.{Searching}
use Rattle.node_port.specs.Pins.{Pins}
use Rattle.staged_store.specs.pinned_session.Sitting.{Sitting, begins as begins_sitting, pins_of}
use Rattle.staged_store.specs.pinned_session.store_session.Turns.{StoreTurn}
use Rattle.staged_store.specs.Saying.{Underway}
use Rattle.staged_store.specs.staged_nodes.Staged.{Staged}

-- a transaction that is open: the state in which it began, and the changes of nodes so far, which aren't committed
pub record Within : Type 0 where
  pub before : Sitting
  pub nodes : Staged

-- the present tree with its pins and views, and the transaction, if one is open
pub record State : Type 0 where
  pub sitting : Sitting
  pub within : Option Within

-- a session that begins has no pins, no views and no transaction
abbrev pub begins : Searching → State
begins X = record { sitting = begins_sitting X; within = None }

-- the tree that is committed: within a transaction the one from before it
abbrev pub committed_in : Option Within → Sitting → Searching
committed_in None S = S.now
committed_in (Some w) S = w.before.now

abbrev pub committed : State → Searching
committed S = committed_in S.within S.sitting

-- the tree, the views and the changes of a transaction
abbrev pub underway : Sitting → Within → Underway
underway S w = record { now = S.now; views = S.views; nodes = w.nodes }

-- the state with those of another
abbrev pub with_underway : Sitting → Within → Underway → State → State
with_underway S w U before = record before { sitting = record S { now = U.now; views = U.views }; within = Some (record w { nodes = U.nodes }) }

-- The state in which the transaction began, in which no number of a view is given again.
abbrev pub taken_back : Sitting → Within → Sitting
taken_back S w = record w.before { views = record { given = S.views.given; opened = w.before.views.opened } }

-- the pins of a state as a keeper tells them
abbrev pub pins_in : State → Pins
pins_in S = pins_of S.sitting

-- this is so of the state after each of some turns
abbrev pub AfterEach : (State → Type 0) → List (StoreTurn State) → Type 0
AfterEach P [] = Unit {0}
AfterEach P (turn ∷ turns) = P turn.tree × AfterEach P turns
