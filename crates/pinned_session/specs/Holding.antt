-- What a session has that stands in a state.
use Rattle.std.specs.Prelude.{◌≡◌, ℕ, List, [], ◌∷◌}
use Rattle.node_port.specs.Nodes.{Nodes}
use Rattle.node_port.specs.Stops.{Room}
use Rattle.mail_tree.specs.declared.known.Known.{Known}
use Rattle.mail_tree.specs.Knowing.{Knows}
use Rattle.mail_tree.specs.Tree.{Shown}
use Rattle.mail_tree.specs.Whole.{IsWhole}
use Rattle.mail_searches.specs.Searching.{AreSearches, Searching}
use Rattle.mail_searches.specs.declared.known.KnownSearches.{KnownSearches}
use Rattle.mail_reading.specs.search_folders.Comings.{KnowsSearches}
use Rattle.pinned_session.specs.Sitting.{AreNumbered, OpenPin, Sitting, pins_of}
use Rattle.pinned_session.specs.Viewing.{viewing_of}
use Rattle.pinned_session.specs.declared.pins.PinView.{PinView}
use Rattle.pinned_session.specs.declared.views.OpenViews.{OpenViews}

-- Nodes that are told show the tree with its searches, whatever these list, and this is known of it.
pub record TellsTree (holds : Nodes → Type 0) (last : List ℕ) (known : Known) (of_searches : KnownSearches) (X : Searching) : Type 0 where
  pub shown : Shown holds last X.tree
  pub knows : Knows X.tree known
  pub searches : KnowsSearches X of_searches
  pub whole : IsWhole X.tree
  pub are : AreSearches X

-- what is known of a pin is so of the tree that it keeps
pub record IsView (pinned : ℕ → Nodes → Type 0) (view : PinView) (pin : OpenPin) : Type 0 where
  pub number : view.number ≡ pin.number
  pub tells : TellsTree (pinned view.number) view.counts.last view.known view.searches pin.tree

-- each of the open pins is known
abbrev pub AreViews : (ℕ → Nodes → Type 0) → List PinView → List OpenPin → Type 0
AreViews pinned [] [] = Unit {0}
AreViews pinned (view ∷ views) (pin ∷ pins) = IsView pinned view pin × AreViews pinned views pins
AreViews pinned [] (pin ∷ pins) = ⊥
AreViews pinned (view ∷ views) [] = ⊥

-- A store has the tree of a state, its keeper was opened on this header and has the pins of the state, this is known of them, and the views are those of the state.
pub record HasSitting (has : Searching → Type 0) (pinned : ℕ → Nodes → Type 0) (room : Room) (known : List PinView) (count : ℕ) (shown : OpenViews) (front : List ℕ) (S : Sitting) : Type 0 where
  pub store : has S.now
  pub views : AreViews pinned known S.pins
  pub pins : room.pins ≡ pins_of S
  pub given : count ≡ S.given
  pub numbered : AreNumbered 0 S.given S.pins
  pub found : room.found ≡ front
  pub shows : S.views ≡ viewing_of shown
