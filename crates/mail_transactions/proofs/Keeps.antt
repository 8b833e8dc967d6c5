-- A session that answers lines keeps to what it needs.
use Rattle.std.proofs.Common.{◌≡◌, ℕ, Bool, true, List, Option, None, Some, refl, sym, subst, ap}
use Rattle.pst_outside.specs.World.{Image, SameDisk, World}
use Rattle.pst_outside.specs.Calls.{Settled}
use Rattle.line_server.specs.History.{Answering, Stopping}
use Rattle.node_port.specs.Nodes.{Nodes}
use Rattle.node_port.specs.Pins.{Pins}
use Rattle.node_port.specs.Stops.{Room}
use Rattle.staged_store.specs.pinned_session.Sits.{Sits}
use Rattle.staged_store.specs.pinned_session.Sitting.{Sitting, pins_of}
use Rattle.staged_store.specs.pinned_session.declared.pins.PinnedStore.{PinnedStore}
use Rattle.staged_store.specs.pinned_session.store_session.Carrying.{StandsOrdered}
use Rattle.staged_store.specs.pinned_session.store_session.Disks.{Effects}
use Rattle.staged_store.specs.pinned_session.store_session.declared.carrying.StoreStop.{StoreStop}
use Rattle.staged_store.proofs.pinned_session_laws.PinLaws.{has_mapped, views_on}
use Rattle.staged_store.proofs.pinned_session_laws.PinnedKeeps.{sits_measured, sits_on, sits_stands}
use Rattle.mail_transactions.specs.Keeping.{Keeping}
use Rattle.mail_transactions.specs.Lines.{AnswersLine, StopsLine}
use Rattle.mail_transactions.specs.Stands.{IsOrdered, IsWithin, StandsCommitted, StandsIn, StandsSome, room_of}
use Rattle.mail_transactions.specs.State.{State, Within, committed_in, pins_in}
use Rattle.mail_transactions.specs.declared.answerer.SessionAnswerer.{SessionAnswerer}
use Rattle.mail_transactions.specs.declared.store.OpenTransaction.{OpenTransaction}
use Rattle.mail_transactions.specs.declared.store.SessionStore.{SessionStore}
use Rattle.staged_store.proofs.store_session_laws.mail_draft_laws.Looking.{untouched_same}

-- the store as it is before its transaction
abbrev pub before_of : {K : Type 0} → PinnedStore K → OpenTransaction → PinnedStore K
before_of p t = record p { store = record { store = record { keeper = p.store.store.keeper; known = t.known }; searches = t.searches }; views = t.views }

module _ {K W : Type 0} (view : W → World) (holds : K → World → Nodes → Type 0) (last : K → List ℕ) (pinned : K → World → ℕ → Nodes → Type 0) (room : K → Room) (disk : Bool) (stands : List ℕ → Image → Nodes → List ℕ → Type 0) (rests : Image → Type 0) (effects : Pins → Effects) where
  -- it stands in the state from before it
  pub before_sits : (p : PinnedStore K) (t : OpenTransaction) (v : W) (found : List ℕ) (tidy : Bool) (w : Within) (S : Sitting) → IsWithin view holds last pinned room rests p t v found tidy w S → Sits view holds last pinned room rests (before_of p t) v found tidy w.before
  before_sits p t v found tidy w S h = record {
    store = has_mapped tidy w.before.now (λ N is. subst (holds p.store.store.keeper (view v)) (sym is) h.held) refl (untouched_same (view v)) h.before.store;
    views = h.before.views;
    pins = h.before.pins;
    given = h.before.given;
    numbered = h.before.numbered;
    found = h.before.found;
    shows = h.before.shows;
  }

  abbrev stands_in : PinnedStore K → Option OpenTransaction → W → List ℕ → Bool → Option Within → Sitting → Type 0
  stands_in p o v found tidy w S = StandsIn view holds last pinned room rests p o v found tidy w S

  pub settled_in : (p : PinnedStore K) (o : Option OpenTransaction) (v : W) (found : List ℕ) (tidy : Bool) (w : Option Within) (S : Sitting) → stands_in p o v found tidy w S → Settled (view v)
  settled_in p None v found tidy None S h = h.store.settled
  settled_in p (Some t) v found tidy (Some w) S h = h.before.store.settled
  settled_in p None v found tidy (Some w) S h = absurd h
  settled_in p (Some t) v found tidy None S h = absurd h

  rests_in : (p : PinnedStore K) (o : Option OpenTransaction) (v : W) (found : List ℕ) (tidy : Bool) (w : Option Within) (S : Sitting) → stands_in p o v found tidy w S → (view v).tells → rests (view v).here
  rests_in p None v found tidy None S h told = h.store.at_rest told
  rests_in p (Some t) v found tidy (Some w) S h told = h.before.store.at_rest told
  rests_in p None v found tidy (Some w) S h told = absurd h
  rests_in p (Some t) v found tidy None S h told = absurd h

  order_in : (p : PinnedStore K) (o : Option OpenTransaction) (v : W) (found : List ℕ) (tidy : Bool) (w : Option Within) (S : Sitting) → stands_in p o v found tidy w S → IsOrdered tidy (record { sitting = S; within = w })
  order_in p None v found tidy None S h = h.store.order
  order_in p (Some t) v found tidy (Some w) S h = h.now.order
  order_in p None v found tidy (Some w) S h = absurd h
  order_in p (Some t) v found tidy None S h = absurd h

  pins_within : (w : Within) (S : Sitting) → S ≡ record w.before { now = S.now; views = S.views } → pins_of S ≡ pins_of w.before
  pins_within w S rest = ap pins_of rest

  module _ (held_stands : (k : K) (w : W) (N : Nodes) → holds k (view w) N → stands (room k).found (view w).here N (last k)) where
    pub here_in : (p : PinnedStore K) (o : Option OpenTransaction) (v : W) (found : List ℕ) (tidy : Bool) (w : Option Within) (S : Sitting) → stands_in p o v found tidy w S → StandsOrdered tidy (stands found) (view v).here (committed_in w S)
    here_in p None v found tidy None S h = sits_stands view holds last pinned room disk stands rests effects held_stands found tidy p v S h
    here_in p (Some t) v found tidy (Some w) S h = sits_stands view holds last pinned room disk stands rests effects held_stands found tidy (before_of p t) v w.before (before_sits p t v found tidy w S h)
    here_in p None v found tidy (Some w) S h = absurd h
    here_in p (Some t) v found tidy None S h = absurd h

  measured_in : ((k : K) (w : W) (N : Nodes) → holds k (view w) N → (effects (room k).pins).measures (view w).here (room k)) → (p : PinnedStore K) (o : Option OpenTransaction) (v : W) (found : List ℕ) (tidy : Bool) (w : Option Within) (S : Sitting) → stands_in p o v found tidy w S
      → (effects (pins_of S)).measures (view v).here (room p.store.store.keeper)
  measured_in held_measures p None v found tidy None S h = sits_measured view holds last pinned room disk stands rests effects held_measures found tidy p v S h
  measured_in held_measures p (Some t) v found tidy (Some w) S h =
      subst (λ q. (effects q).measures (view v).here (room p.store.store.keeper)) (sym (pins_within w S h.rest)) (sits_measured view holds last pinned room disk stands rests effects held_measures found tidy (before_of p t) v w.before (before_sits p t v found tidy w S h))
  measured_in held_measures p None v found tidy (Some w) S h = absurd h
  measured_in held_measures p (Some t) v found tidy None S h = absurd h

  -- the same over another world with the same disk
  module _ (holds_on : (k : K) (v w : W) → (disk ≡ true → (view w).tells × SameDisk (view v).here (view w).here) → (N : Nodes) → holds k (view v) N → holds k (view w) N)
      (pinned_on : (k : K) (v w : W) → (disk ≡ true → (view w).tells × SameDisk (view v).here (view w).here) → (q : ℕ) (N : Nodes) → pinned k (view v) q N → pinned k (view w) q N)
      (rests_on : (c d : Image) → SameDisk c d → rests c → rests d) where
    within_on : (p : PinnedStore K) (t : OpenTransaction) (v w : W) (found : List ℕ) (tidy : Bool) (i : Within) (S : Sitting) → IsWithin view holds last pinned room rests p t v found tidy i S → Settled (view w) → ((view w).tells → (view v).tells × SameDisk (view v).here (view w).here) → (disk ≡ true → (view w).tells)
        → IsWithin view holds last pinned room rests p t w found tidy i S
    within_on p t v w found tidy i S h settled same tells =
        let k = p.store.store.keeper in
        let s = h.before.store in
        record {
          base = h.base;
          held = holds_on k v w (λ d. (tells d, (same (tells d)).1)) h.base h.held;
          before = record {
            store = record { stores = s.stores; order = s.order; settled = settled; at_rest = λ told. let x = same told in rests_on (view v).here (view w).here x.1 (s.at_rest x.0) };
            views = views_on p.pins.items i.before.pins (λ q N told. pinned_on k v w (λ d. (tells d, (same (tells d)).1)) q N told) h.before.views;
            pins = h.before.pins;
            given = h.before.given;
            numbered = h.before.numbered;
            found = h.before.found;
            shows = h.before.shows;
          };
          now = h.now;
          shows = h.shows;
          rest = h.rest;
          counted = h.counted;
        }

    pub on_in : (p : PinnedStore K) (o : Option OpenTransaction) (v w : W) (found : List ℕ) (tidy : Bool) (i : Option Within) (S : Sitting) → stands_in p o v found tidy i S → Settled (view w) → ((view w).tells → (view v).tells × SameDisk (view v).here (view w).here) → (disk ≡ true → (view w).tells)
        → stands_in p o w found tidy i S
    on_in p None v w found tidy None S h settled same tells = sits_on view holds last pinned room disk stands rests effects holds_on pinned_on rests_on found tidy p v w S h settled same tells
    on_in p (Some t) v w found tidy (Some i) S h settled same tells = within_on p t v w found tidy i S h settled same tells
    on_in p None v w found tidy (Some i) S h settled same tells = absurd h
    on_in p (Some t) v w found tidy None S h settled same tells = absurd h

  -- ---- a session that may not be there

  abbrev pub has_state : List ℕ → Bool → SessionAnswerer K → W → State → Type 0
  has_state found tidy a v S = StandsSome view holds last pinned room rests a.session v found tidy S

  -- what it answers, and at which lines it stops
  abbrev pub line_answers : Answering (SessionAnswerer K) W
  line_answers a v bytes said b w = AnswersLine (StandsSome view holds last pinned room rests a.session v) (StandsSome view holds last pinned room rests b.session w) (StandsCommitted stands) effects (room_of room a.session) disk (view v) (view w) bytes said

  abbrev pub line_stops : Stopping (SessionAnswerer K) W StoreStop
  line_stops a v bytes stop b w = StopsLine (StandsSome view holds last pinned room rests a.session v) (StandsCommitted stands) effects (room_of room a.session) disk (view v) (view w) bytes stop

  abbrev some_of : List ℕ → Bool → Option (SessionStore K) → W → State → Type 0
  some_of found tidy o v S = StandsSome view holds last pinned room rests o v found tidy S

  some_settled : (found : List ℕ) (tidy : Bool) (o : Option (SessionStore K)) (v : W) (S : State) → some_of found tidy o v S → Settled (view v)
  some_settled found tidy None v S h = absurd h
  some_settled found tidy (Some s) v S h = settled_in s.pinned s.open v found tidy S.within S.sitting h

  some_rests : (found : List ℕ) (tidy : Bool) (o : Option (SessionStore K)) (v : W) (S : State) → some_of found tidy o v S → (view v).tells → rests (view v).here
  some_rests found tidy None v S h told = absurd h
  some_rests found tidy (Some s) v S h told = rests_in s.pinned s.open v found tidy S.within S.sitting h told

  some_here : ((k : K) (w : W) (N : Nodes) → holds k (view w) N → stands (room k).found (view w).here N (last k)) → (found : List ℕ) (tidy : Bool) (o : Option (SessionStore K)) (v : W) (S : State) → some_of found tidy o v S → StandsCommitted stands found tidy (view v).here S
  some_here held_stands found tidy None v S h = absurd h
  some_here held_stands found tidy (Some s) v S h = here_in held_stands s.pinned s.open v found tidy S.within S.sitting h

  pub some_order : (found : List ℕ) (tidy : Bool) (o : Option (SessionStore K)) (v : W) (S : State) → some_of found tidy o v S → IsOrdered tidy S
  some_order found tidy None v S h = absurd h
  some_order found tidy (Some s) v S h = order_in s.pinned s.open v found tidy S.within S.sitting h

  pub some_measured : ((k : K) (w : W) (N : Nodes) → holds k (view w) N → (effects (room k).pins).measures (view w).here (room k)) → (found : List ℕ) (tidy : Bool) (o : Option (SessionStore K)) (v : W) (S : State) → some_of found tidy o v S → (effects (pins_in S)).measures (view v).here (room_of room o)
  some_measured held_measures found tidy None v S h = absurd h
  some_measured held_measures found tidy (Some s) v S h = measured_in held_measures s.pinned s.open v found tidy S.within S.sitting h

  pub some_on : ((k : K) (v w : W) → (disk ≡ true → (view w).tells × SameDisk (view v).here (view w).here) → (N : Nodes) → holds k (view v) N → holds k (view w) N)
      → ((k : K) (v w : W) → (disk ≡ true → (view w).tells × SameDisk (view v).here (view w).here) → (q : ℕ) (N : Nodes) → pinned k (view v) q N → pinned k (view w) q N)
      → ((c d : Image) → SameDisk c d → rests c → rests d)
      → (found : List ℕ) (tidy : Bool) (o : Option (SessionStore K)) (v w : W) (S : State) → some_of found tidy o v S → Settled (view w) → ((view w).tells → (view v).tells × SameDisk (view v).here (view w).here) → (disk ≡ true → (view w).tells) → some_of found tidy o w S
  some_on holds_on pinned_on rests_on found tidy None v w S h settled same tells = absurd h
  some_on holds_on pinned_on rests_on found tidy (Some s) v w S h settled same tells = on_in holds_on pinned_on rests_on s.pinned s.open v w found tidy S.within S.sitting h settled same tells

  pub session_keeps : ((k : K) (v w : W) → (disk ≡ true → (view w).tells × SameDisk (view v).here (view w).here) → (N : Nodes) → holds k (view v) N → holds k (view w) N)
      → ((k : K) (v w : W) → (disk ≡ true → (view w).tells × SameDisk (view v).here (view w).here) → (q : ℕ) (N : Nodes) → pinned k (view v) q N → pinned k (view w) q N)
      → ((k : K) (w : W) (N : Nodes) → holds k (view w) N → stands (room k).found (view w).here N (last k))
      → ((k : K) (w : W) (N : Nodes) → holds k (view w) N → (effects (room k).pins).measures (view w).here (room k))
      → ((found : List ℕ) (c d : Image) → SameDisk c d → (N : Nodes) (l : List ℕ) → stands found c N l → stands found d N l)
      → ((c d : Image) → SameDisk c d → rests c → rests d)
      → (found : List ℕ) (tidy : Bool) → Keeping view disk (has_state found tidy) (StandsCommitted stands found tidy) (IsOrdered tidy) rests effects (λ a. room_of room a.session) line_answers line_stops
  session_keeps holds_on pinned_on held_stands held_measures stands_on rests_on found tidy = record {
    settled = λ a v S h. some_settled found tidy a.session v S h;
    at_rest = λ a v S h. some_rests found tidy a.session v S h;
    here = λ a v S h. some_here held_stands found tidy a.session v S h;
    order = λ a v S h. some_order found tidy a.session v S h;
    measured = λ a v S h. some_measured held_measures found tidy a.session v S h;
    stands_on = λ c d S same is. (record { nodes = is.0.nodes; held = stands_on found c d same is.0.nodes _ is.0.held; at = is.0.at; counters = is.0.counters }, is.1);
    has_on = λ a v w S h settled same tells. some_on holds_on pinned_on rests_on found tidy a.session v w S h settled same tells;
    answered = λ a b v w bytes said S is h tells. is.carried found tidy S h tells;
    stopped = λ a b v w bytes stop S is h tells. is.leaves found tidy S h tells;
  }
