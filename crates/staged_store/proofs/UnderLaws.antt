-- A store with a transaction that stands in a state, after a call.
use Rattle.std.proofs.Common.{◌≡◌, ◌∙◌, Bool, Ok, sym, ap, subst}
use Rattle.node_port.specs.Nodes.{Nodes}
use Rattle.node_port.specs.Stops.{Room}
use Rattle.mail_searches.specs.Criteria.{Coming}
use Rattle.mail_searches.specs.Step.{after, outcome}
use Rattle.mail_tree.specs.Knowing.{Knows}
use Rattle.command_text.specs.declared.command.Command.{Command}
use Rattle.pinned_session.specs.Viewing.{Viewing, standing, viewing_of}
use Rattle.pinned_session.specs.store_session.mail_store.Planning.{SameKnown}
use Rattle.pinned_session.specs.store_session.search_folders.Comings.{KnowsSearches}
use Rattle.pinned_session.proofs.store_session_laws.Carry.{made_order}
use Rattle.pinned_session.specs.store_session.Carrying.{InOrder}
use Rattle.staged_nodes.specs.Staged.{Staged}
use Rattle.staged_nodes.specs.Staging.{SameChanges}
use Rattle.staged_nodes.specs.Room.{IsLeft}
use Rattle.staged_nodes.specs.declared.staging.Staging.{Staging}
use Rattle.staged_nodes.proofs.StagedLaws.{same_staged}
use Rattle.node_port.specs.declared.node.Counts.{Counts}
use Rattle.staged_store.specs.Saying.{Underway}
use Rattle.staged_store.specs.Standing.{HasOver, IsUnderway}
use Rattle.staged_store.specs.declared.underway.StagedStore.{StagedStore}
use Rattle.staged_store.proofs.MakeLaws.{Leaves}

module _ {K : Type 0} (base : Nodes) (room : Room) (tidy : Bool) (U : Underway) where
  -- a store that knows the same is in the same state
  pub underway_known : (s new : StagedStore K) → SameKnown s.store.store.known new.store.store.known → new.store.searches ≡ s.store.searches → new.staging ≡ s.staging → viewing_of new.views ≡ viewing_of s.views → IsUnderway base room s tidy U → IsUnderway base room new tidy U
  underway_known s new same searches staging views is =
      let h = is.has in
      let knows = h.stores.tree.knows in
      record {
        has = subst (λ (t : Staging). HasOver base room t new.store.store.known new.store.searches tidy U.nodes U.now) (sym staging) (record {
          stores = record {
            tree = record {
              shown = h.stores.tree.shown;
              knows = record { places = knows.places ∙ sym same.0; flags = λ m unread there. knows.flags m unread (sym (same.1 m) ∙ there) };
            };
            searches = subst (KnowsSearches U.now) (sym searches) h.stores.searches;
          };
          order = h.order;
          staged = h.staged;
          left = h.left;
          enough = h.enough;
        });
        shows = is.shows ∙ sym views;
      }

  -- slots were made
  pub underway_room : (s new : StagedStore K) → SameChanges s.staging.slots new.staging.slots → new.staging.counts ≡ s.staging.counts → new.staging.left ≡ s.staging.left → new.staging.size ≡ s.staging.size → new.store.store.known ≡ s.store.store.known → new.store.searches ≡ s.store.searches
      → viewing_of new.views ≡ viewing_of s.views → IsUnderway base room s tidy U → IsUnderway base room new tidy U
  underway_room s new same counts left size known searches views is =
      let h = is.has in
      let shown = h.stores.tree.shown in
      record {
        has = record {
          stores = record {
            tree = record {
              shown = record { nodes = shown.nodes; held = shown.held; at = shown.at; counters = shown.counters ∙ ap (λ (c : Counts). c.last) (sym counts) };
              knows = subst (Knows U.now.tree) (sym known) h.stores.tree.knows;
            };
            searches = subst (KnowsSearches U.now) (sym searches) h.stores.searches;
          };
          order = h.order;
          staged = same_staged s.staging new.staging U.nodes same size h.staged;
          left = subst (IsLeft room) (sym left) h.left;
          enough = h.enough;
        };
        shows = is.shows ∙ sym views;
      }

  -- the changes of a command were made
  pub underway_made : (new : StagedStore K) (c : Command) (o : Coming) (F : Staged) (views : Viewing) → InOrder tidy U.now → outcome U.now c ≡ Ok o → Leaves base room new.staging U.now.tree o.outcome F → Knows (after U.now o).tree new.store.store.known → KnowsSearches (after U.now o) new.store.searches
      → U.views ≡ views → viewing_of new.views ≡ standing new.store.store.known.places views → IsUnderway base room new tidy (record { now = after U.now o; views = standing (after U.now o).tree.places U.views; nodes = F })
  underway_made new c o F views order e leaves knows searches was closed = record {
    has = record {
      stores = record { tree = record { shown = leaves.shown; knows = knows }; searches = searches };
      order = made_order room tidy U.now c order o e;
      staged = leaves.staged;
      left = leaves.left;
      enough = leaves.enough;
    };
    shows = ap (standing (after U.now o).tree.places) was ∙ ap (λ p. standing p views) knows.places ∙ sym closed;
  }
