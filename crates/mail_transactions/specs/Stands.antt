-- That a session stands in a state.
use Rattle.std.specs.Prelude.{◌≡◌, ℕ, Bool, List, [], Option, None, Some}
use Rattle.pst_outside.specs.World.{Image, World}
use Rattle.node_port.specs.Nodes.{Nodes}
use Rattle.node_port.specs.Stops.{Room, ample}
use Rattle.staged_store.specs.Standing.{HasOver}
use Rattle.staged_store.specs.pinned_session.Holding.{HasSitting}
use Rattle.staged_store.specs.pinned_session.Sits.{Sits}
use Rattle.staged_store.specs.pinned_session.Sitting.{Sitting}
use Rattle.staged_store.specs.pinned_session.Viewing.{viewing_of}
use Rattle.staged_store.specs.pinned_session.declared.pins.PinnedStore.{PinnedStore}
use Rattle.staged_store.specs.pinned_session.store_session.Carrying.{Has, InOrder, StandsOrdered}
use Rattle.staged_store.specs.staged_nodes.Staged.{listed}
use Rattle.mail_transactions.specs.State.{State, Within, committed}
use Rattle.mail_transactions.specs.declared.store.OpenTransaction.{OpenTransaction}
use Rattle.mail_transactions.specs.declared.store.SessionStore.{SessionStore}

-- the tree of a state is in order, and tidy if `tidy`, also within a transaction
abbrev pub IsOrdered : Bool → State → Type 0
IsOrdered tidy S = InOrder tidy S.sitting.now

-- the store as it was when its transaction began, in which no number of a view is given again
abbrev pub store_before : {K : Type 0} → PinnedStore K → OpenTransaction → PinnedStore K
store_before p t = record p { store = record p.store { store = record p.store.store { known = t.known }; searches = t.searches }; views = record p.views { opened = t.views.opened } }

-- an image stands for the committed tree of a state
abbrev pub StandsCommitted : (List ℕ → Image → Nodes → List ℕ → Type 0) → List ℕ → Bool → Image → State → Type 0
StandsCommitted stands found tidy c S = StandsOrdered tidy (stands found) c (committed S)

module _ {K W : Type 0} (view : W → World) (holds : K → World → Nodes → Type 0) (last : K → List ℕ) (pinned : K → World → ℕ → Nodes → Type 0) (room : K → Room) (rests : Image → Type 0) where
  -- Within a transaction: the keeper holds nodes by which the store stood in the state before it, and stands so still by what was known then; with the changes they
  -- show the present tree, and the views are the present ones. Where no node was changed no counter was.
  pub record IsWithin (p : PinnedStore K) (t : OpenTransaction) (v : W) (found : List ℕ) (tidy : Bool) (w : Within) (S : Sitting) : Type 0 where
    pub base : Nodes
    pub held : holds p.store.store.keeper (view v) base
    pub before : HasSitting (Has (λ N. N ≡ base) (last p.store.store.keeper) t.known t.searches rests (view v) tidy) (pinned p.store.store.keeper (view v)) (room p.store.store.keeper) p.pins.items p.given t.views found w.before
    pub now : HasOver base (room p.store.store.keeper) t.staging p.store.store.known p.store.searches tidy w.nodes S.now
    pub shows : S.views ≡ viewing_of p.views
    pub rest : S ≡ record w.before { now = S.now; views = S.views }
    pub counted : listed w.nodes ≡ [] → S.now.tree.last ≡ w.before.now.tree.last

  -- with the transaction of a session, if one is open
  abbrev pub StandsIn : PinnedStore K → Option OpenTransaction → W → List ℕ → Bool → Option Within → Sitting → Type 0
  StandsIn p None v found tidy None S = Sits view holds last pinned room rests p v found tidy S
  StandsIn p (Some t) v found tidy (Some w) S = IsWithin p t v found tidy w S
  StandsIn p None v found tidy (Some w) S = ⊥
  StandsIn p (Some t) v found tidy None S = ⊥

  -- a session stands in a state
  abbrev pub Stands : SessionStore K → W → List ℕ → Bool → State → Type 0
  Stands s v found tidy S = StandsIn s.pinned s.open v found tidy S.within S.sitting

  -- the same of one that may not be there
  abbrev pub StandsSome : Option (SessionStore K) → W → List ℕ → Bool → State → Type 0
  StandsSome None v found tidy S = ⊥
  StandsSome (Some s) v found tidy S = Stands s v found tidy S

-- its room
abbrev pub room_of : {K : Type 0} → (K → Room) → Option (SessionStore K) → Room
room_of room None = ample
room_of room (Some s) = room s.pinned.store.store.keeper
