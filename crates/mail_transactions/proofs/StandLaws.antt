-- That a session stands in a state, as its keeper goes on, a transaction begins, is dropped or is committed.
use Rattle.std.proofs.Common.{◌≡◌, ◌∙◌, ◌⊎◌, inl, inr, ℕ, Bool, List, [], Option, None, refl, sym, ap, subst}
use Rattle.pst_outside.specs.World.{Image, World}
use Rattle.pst_outside.specs.Calls.{Untouched}
use Rattle.pst_outside.proofs.Moments.{weaker}
use Rattle.node_port.specs.Nodes.{Nodes, changed, node_at}
use Rattle.node_port.specs.Pins.{no_pins}
use Rattle.node_port.specs.Stops.{KeepsPins, Room}
use Rattle.node_port.specs.declared.node.NodeRec.{NodeRec}
use Rattle.pst_base.specs.declared.ids.Nid.{Nid}
use Rattle.mail_searches.specs.Searching.{Searching}
use Rattle.mail_tree.specs.Knowing.{Knows}
use Rattle.mail_tree.specs.Tree.{Shown, StandsAt, Tree, object_at}
use Rattle.staged_store.specs.Standing.{HasOver}
use Rattle.staged_store.specs.staged_nodes.Room.{IsLeft}
use Rattle.staged_store.specs.staged_nodes.Staged.{IsOver, Staged, listed, none_staged}
use Rattle.staged_store.specs.staged_nodes.Staging.{IsStaged}
use Rattle.staged_store.specs.pinned_session.Sits.{Sits}
use Rattle.staged_store.specs.pinned_session.Holding.{HasSitting}
use Rattle.staged_store.specs.pinned_session.Sitting.{Sitting, begins as begins_sitting}
use Rattle.staged_store.specs.pinned_session.Viewing.{viewing_of}
use Rattle.staged_store.specs.pinned_session.declared.pins.PinnedStore.{PinnedStore}
use Rattle.staged_store.specs.pinned_session.mail_reading.search_folders.Comings.{KnowsSearches}
use Rattle.staged_store.specs.pinned_session.store_session.Carrying.{Has, Leaves, StandsFor, StandsOrdered}
use Rattle.staged_store.specs.pinned_session.store_session.search_store.declared.store.SearchStore.{SearchStore}
use Rattle.staged_store.proofs.pinned_session_laws.MakeLaws.{sitting_same}
use Rattle.staged_store.proofs.pinned_session_laws.PinLaws.{has_mapped, views_on}
use Rattle.staged_store.proofs.pinned_session_laws.PinnedKeeps.{sits_first}
use Rattle.staged_store.proofs.staged_nodes_laws.StagedLaws.{listed_none, over_listed, over_none}
use Rattle.staged_store.proofs.store_session_laws.mail_draft_laws.Looking.{untouched_same}
use Rattle.staged_store.proofs.store_session_laws.mail_store_laws.StoreLaws.{shown_stands}
use Rattle.mail_transactions.specs.Committing.{LeavesNodes, MadeChanges}
use Rattle.mail_transactions.specs.Stands.{IsWithin, Stands, StandsIn, store_before}
use Rattle.mail_transactions.specs.State.{Within, begins, taken_back}
use Rattle.mail_transactions.specs.declared.store.OpenTransaction.{OpenTransaction}
use Rattle.mail_transactions.specs.declared.store.SessionStore.{SessionStore}

-- the store over another keeper
abbrev pub with_keeper : {K : Type 0} → PinnedStore K → K → PinnedStore K
with_keeper p k = record p { store = record p.store { store = record p.store.store { keeper = k } } }

-- ---- the nodes with the changes of a transaction

over_same : (base M : Nodes) (F : Staged) → IsOver base F M → (q : ℕ) → node_at M q ≡ node_at (changed base (listed F)) q
over_same base M F is q = is q ∙ sym (over_listed base F q)

-- nodes that are over others show a tree just where these with the changes do
pub over_shown : (base : Nodes) (F : Staged) (last : List ℕ) (T : Tree) → Shown (IsOver base F) last T → Shown (λ N. N ≡ changed base (listed F)) last T
over_shown base F last T s = record {
  nodes = changed base (listed F);
  held = refl;
  at = λ q. subst (λ n. StandsAt q n (object_at T q) (node_at T.others q)) (over_same base s.nodes F s.held q) (s.at q);
  counters = s.counters;
}

-- the one that shows a tree is held
shown_held : {holds : Nodes → Type 0} (M : Nodes) (last last' : List ℕ) (T : Tree) → holds M → last' ≡ last → Shown (λ N. N ≡ M) last T → Shown holds last' T
shown_held {holds} M last last' T held same s = record { nodes = s.nodes; held = subst holds (sym s.held) held; at = s.at; counters = s.counters ∙ sym same }

-- an image that stands for it stands for the tree
one_stands : (stands : Nodes → List ℕ → Type 0) (M : Nodes) (last : List ℕ) (T : Tree) → Shown (λ N. N ≡ M) last T → stands M last → StandsFor stands T
one_stands stands M last T s is = shown_stands stands last T s (subst (λ N. stands N last) (sym s.held) is)

-- ---- over a keeper that goes on

-- another keeper over a world holds what one held, and its pins tell what they told
pub record GoesOn {K W : Type 0} (view : W → World) (holds : K → World → Nodes → Type 0) (last : K → List ℕ) (pinned : K → World → ℕ → Nodes → Type 0) (room : K → Room) (k k' : K) (v w : W) : Type 0 where
  pub held : (N : Nodes) → holds k (view v) N → holds k' (view w) N
  pub keeps : KeepsPins (holds k (view v)) (pinned k (view v)) (pinned k' (view w))
  pub counted : last k' ≡ last k
  pub room_same : room k' ≡ room k
  pub same : Untouched (view v) (view w)

module _ {K W : Type 0} (view : W → World) (holds : K → World → Nodes → Type 0) (last : K → List ℕ) (pinned : K → World → ℕ → Nodes → Type 0) (room : K → Room) (rests : Image → Type 0) where
  pub sits_goes_on : (p : PinnedStore K) (k : K) (v w : W) (found : List ℕ) (tidy : Bool) (S : Sitting) → GoesOn view holds last pinned room p.store.store.keeper k v w → Sits view holds last pinned room rests p v found tidy S → Sits view holds last pinned room rests (with_keeper p k) w found tidy S
  sits_goes_on p k v w found tidy S on h =
      let s = h.store.stores.tree.shown in
      sitting_same S h (λ store. has_mapped tidy S.now on.held on.counted on.same store) (ap (λ (r : Room). r.found) on.room_same) (λ q N told. on.keeps s.nodes s.held q N told) (ap (λ (r : Room). r.pins) on.room_same)

  pub within_goes_on : (p : PinnedStore K) (t : OpenTransaction) (k : K) (v w : W) (found : List ℕ) (tidy : Bool) (i : Within) (S : Sitting) (h : IsWithin view holds last pinned room rests p t v found tidy i S) → holds k (view w) h.base → ((q : ℕ) (N : Nodes) → pinned p.store.store.keeper (view v) q N → pinned k (view w) q N)
      → last k ≡ last p.store.store.keeper → room k ≡ room p.store.store.keeper → Untouched (view v) (view w) → IsWithin view holds last pinned room rests (with_keeper p k) t w found tidy i S
  within_goes_on p t k v w found tidy i S h held keeps counted same_room same = record {
    base = h.base;
    held = held;
    before = sitting_same i.before h.before (λ store. has_mapped {holds = λ N. N ≡ h.base} tidy i.before.now (λ N is. is) counted same store) (ap (λ (r : Room). r.found) same_room) keeps (ap (λ (r : Room). r.pins) same_room);
    now = subst (λ r. HasOver h.base r t.staging p.store.store.known p.store.searches tidy i.nodes S.now) (sym same_room) h.now;
    shows = h.shows;
    rest = h.rest;
    counted = h.counted;
  }

  -- ---- a session begins

  pub session_first : (s : SessionStore K) (store : SearchStore K) (v : W) (tidy : Bool) (X : Searching) → s.pinned.store ≡ store → s.pinned.given ≡ 0 → s.pinned.pins.items ≡ [] → viewing_of s.pinned.views ≡ record { given = 0; opened = [] } → s.open ≡ None
      → Has (holds store.store.keeper (view v)) (last store.store.keeper) store.store.known store.searches rests (view v) tidy X → (room store.store.keeper).pins ≡ no_pins → Stands view holds last pinned room rests s v (room store.store.keeper).found tidy (begins X)
  session_first s store v tidy X is given pins views none h unpinned =
      let has : SearchStore K → Searching → Type 0 = λ t. Has (holds t.store.keeper (view v)) (last t.store.keeper) t.store.known t.searches rests (view v) tidy in
      let sits : HasSitting (has store) (pinned store.store.keeper (view v)) (room store.store.keeper) s.pinned.pins.items 0 s.pinned.views (room store.store.keeper).found (begins_sitting X) = sits_first s.pinned.pins.items s.pinned.views X h pins views unpinned in
      let over : HasSitting (has s.pinned.store) (pinned s.pinned.store.store.keeper (view v)) (room s.pinned.store.store.keeper) s.pinned.pins.items 0 s.pinned.views (room store.store.keeper).found (begins_sitting X) =
      subst (λ (t : SearchStore K). HasSitting (has t) (pinned t.store.keeper (view v)) (room t.store.keeper) s.pinned.pins.items 0 s.pinned.views (room store.store.keeper).found (begins_sitting X)) (sym is) sits in
      subst (λ (o : Option OpenTransaction). StandsIn view holds last pinned room rests s.pinned o v (room store.store.keeper).found tidy None (begins_sitting X)) (sym none)
      (subst (λ (n : ℕ). HasSitting (has s.pinned.store) (pinned s.pinned.store.store.keeper (view v)) (room s.pinned.store.store.keeper) s.pinned.pins.items n s.pinned.views (room store.store.keeper).found (begins_sitting X)) (sym given) over)

  -- ---- a transaction begins

  pub within_first : (p : PinnedStore K) (t : OpenTransaction) (v : W) (found : List ℕ) (tidy : Bool) (S : Sitting) → IsStaged t.staging none_staged → t.staging.counts.last ≡ last p.store.store.keeper → IsLeft (room p.store.store.keeper) t.staging.left
      → ((T : Tree) → Knows T p.store.store.known → Knows T t.known) → ((X : Searching) → KnowsSearches X p.store.searches → KnowsSearches X t.searches) → viewing_of t.views ≡ viewing_of p.views
      → Sits view holds last pinned room rests p v found tidy S → IsWithin view holds last pinned room rests p t v found tidy (record { before = S; nodes = none_staged }) S
  within_first p t v found tidy S staged counts left knows searches views h =
      let s = h.store.stores.tree.shown in
      record {
        base = s.nodes;
        held = s.held;
        before = record {
          store = record {
            stores = record {
              tree = record { shown = record { nodes = s.nodes; held = refl; at = s.at; counters = s.counters }; knows = knows S.now.tree h.store.stores.tree.knows };
              searches = searches S.now h.store.stores.searches;
            };
            order = h.store.order;
            settled = h.store.settled;
            at_rest = h.store.at_rest;
          };
          views = h.views;
          pins = h.pins;
          given = h.given;
          numbered = h.numbered;
          found = h.found;
          shows = h.shows ∙ sym views;
        };
        now = record {
          stores = record {
            tree = record { shown = record { nodes = s.nodes; held = over_none s.nodes; at = s.at; counters = s.counters ∙ sym counts }; knows = h.store.stores.tree.knows };
            searches = h.store.stores.searches;
          };
          order = h.store.order;
          staged = staged;
          left = left;
          enough = record { numbers = λ some. absurd (some listed_none); cells = λ some. absurd (some listed_none) };
        };
        shows = h.shows;
        rest = refl;
        counted = λ none. refl;
      }

  -- ---- it is dropped

  pub sits_back : (p : PinnedStore K) (t : OpenTransaction) (v : W) (found : List ℕ) (tidy : Bool) (i : Within) (S : Sitting) → IsWithin view holds last pinned room rests p t v found tidy i S → Sits view holds last pinned room rests (store_before p t) v found tidy (taken_back S i)
  sits_back p t v found tidy i S h = record {
    store = has_mapped {holds = λ N. N ≡ h.base} tidy i.before.now (λ N is. subst (holds p.store.store.keeper (view v)) (sym is) h.held) refl (untouched_same (view v)) h.before.store;
    views = h.before.views;
    pins = h.before.pins;
    given = h.before.given;
    numbered = h.before.numbered;
    found = h.before.found;
    shows = λ j. record { given = (h.shows j).given; opened = (h.before.shows j).opened };
  }

  -- ---- it is committed

  module _ (stands : List ℕ → Image → Nodes → List ℕ → Type 0) (applied : List (Nid × Option NodeRec) → ℕ → Image → Image → Type 0) where
    pub sits_made : (p : PinnedStore K) (t : OpenTransaction) (k : K) (v w : W) (found : List ℕ) (tidy : Bool) (i : Within) (S : Sitting) (h : IsWithin view holds last pinned room rests p t v found tidy i S)
        → MadeChanges (stands (room p.store.store.keeper).found) applied (holds k (view w)) (pinned p.store.store.keeper (view v)) (pinned k (view w)) (last p.store.store.keeper) (last k) (room p.store.store.keeper) (room k) rests (view v) (view w) h.base (listed i.nodes) t.staging.counts.last
        → Sits view holds last pinned room rests (with_keeper p k) w found tidy S
    sits_made p t k v w found tidy i S h made =
        let Now : Sitting = record i.before { now = S.now; views = S.views } in
        let has : Sitting → Type 0 = λ Z. Sits view holds last pinned room rests (with_keeper p k) w found tidy Z in
        subst has (sym h.rest) (record {
          store = record {
            stores = record {
              tree = record { shown = shown_held (changed h.base (listed i.nodes)) t.staging.counts.last (last k) S.now.tree made.held made.counted (over_shown h.base i.nodes t.staging.counts.last S.now.tree h.now.stores.tree.shown); knows = h.now.stores.tree.knows };
              searches = h.now.stores.searches;
            };
            order = h.now.order;
            settled = made.settled;
            at_rest = made.at_rest;
          };
          views = views_on p.pins.items i.before.pins made.keeps h.before.views;
          pins = made.pins ∙ h.before.pins;
          given = h.before.given;
          numbered = h.before.numbered;
          found = made.found ∙ h.before.found;
          shows = h.shows;
        })

    -- at each moment the disk stands for the tree from before, or for the present one
    pub leaves_trees : (p : PinnedStore K) (t : OpenTransaction) (v w : W) (found : List ℕ) (tidy : Bool) (i : Within) (S : Sitting) (h : IsWithin view holds last pinned room rests p t v found tidy i S)
        → LeavesNodes (stands (room p.store.store.keeper).found) (last p.store.store.keeper) (view v) (view w) h.base (listed i.nodes) t.staging.counts.last → Leaves (StandsOrdered tidy (stands found)) (view v) (view w) i.before.now S.now
    leaves_trees p t v w found tidy i S h leaves =
        let Old : Searching = i.before.now in
        let New : Searching = S.now in
        let P : Image → Type 0 = λ c. (c.said ≡ (view v).here.said) × (StandsOrdered tidy (stands found) c Old ⊎ StandsOrdered tidy (stands found) c New) in
        let one : (c : Image) → stands (room p.store.store.keeper).found c h.base (last p.store.store.keeper) ⊎ stands (room p.store.store.keeper).found c (changed h.base (listed i.nodes)) t.staging.counts.last → StandsOrdered tidy (stands found) c Old ⊎ StandsOrdered tidy (stands found) c New =
        λ c is. elim is [
          | inl was ↦ inl (one_stands (stands found c) h.base (last p.store.store.keeper) Old.tree h.before.store.stores.tree.shown (subst (λ f. stands f c h.base (last p.store.store.keeper)) h.before.found was), h.before.store.order)
          | inr now ↦ inr (one_stands (stands found c) (changed h.base (listed i.nodes)) t.staging.counts.last New.tree (over_shown h.base i.nodes t.staging.counts.last New.tree h.now.stores.tree.shown) (subst (λ f. stands f c (changed h.base (listed i.nodes)) t.staging.counts.last) h.before.found now), h.now.order)
        ] in
        weaker P leaves (λ c told is. (is.0, one c is.1))

  -- ---- what counters a transaction that changed no node has

  pub counted_before : (p : PinnedStore K) (t : OpenTransaction) (v : W) (found : List ℕ) (tidy : Bool) (i : Within) (S : Sitting) (h : IsWithin view holds last pinned room rests p t v found tidy i S) → listed i.nodes ≡ [] → t.staging.counts.last ≡ last p.store.store.keeper
  counted_before p t v found tidy i S h none = sym h.now.stores.tree.shown.counters ∙ h.counted none ∙ h.before.store.stores.tree.shown.counters
