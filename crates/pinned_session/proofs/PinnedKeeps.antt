-- What a store that stands in a state has.
use Rattle.std.proofs.Common.{◌≡◌, ℕ, Bool, true, List, [], Option, None, Some, arith, refl, subst, sym}
use Rattle.pst_outside.specs.World.{Image, SameDisk, World}
use Rattle.pst_outside.specs.Calls.{Settled}
use Rattle.node_port.specs.Nodes.{Nodes}
use Rattle.mail_searches.specs.Searching.{Searching}
use Rattle.node_port.specs.Pins.{Pins, no_pins}
use Rattle.node_port.specs.Stops.{Room}
use Rattle.store_session.specs.Carrying.{StandsOrdered}
use Rattle.store_session.specs.Disks.{Effects}
use Rattle.store_session.proofs.Carry.{stands_here}
use Rattle.pinned_session.specs.Holding.{HasSitting}
use Rattle.pinned_session.specs.Sits.{Sits, StandsNow}
use Rattle.pinned_session.specs.Sitting.{Sitting, begins, pins_of}
use Rattle.pinned_session.specs.Viewing.{viewing_of}
use Rattle.pinned_session.specs.declared.pins.PinView.{PinView}
use Rattle.pinned_session.specs.declared.views.OpenViews.{OpenViews}
use Rattle.pinned_session.specs.declared.pins.PinnedStore.{PinnedStore}
use Rattle.pinned_session.proofs.PinLaws.{views_on}

module _ {K W : Type 0} (view : W → World) (holds : K → World → Nodes → Type 0) (last : K → List ℕ) (pinned : K → World → ℕ → Nodes → Type 0) (room : K → Room) (disk : Bool) (stands : List ℕ → Image → Nodes → List ℕ → Type 0) (rests : Image → Type 0) (effects : Pins → Effects) where
  -- the disk stands for the present tree
  module _ (held_stands : (k : K) (w : W) (N : Nodes) → holds k (view w) N → stands (room k).found (view w).here N (last k)) where
    pub sits_stands : (found : List ℕ) (tidy : Bool) (p : PinnedStore K) (v : W) (S : Sitting) → Sits view holds last pinned room rests p v found tidy S → StandsNow stands found tidy (view v).here S
    sits_stands found tidy p v S h =
        let k = p.store.store.keeper in
        subst (λ f. StandsOrdered tidy (stands f) (view v).here S.now) h.found (stands_here (stands (room k).found) tidy S.now (λ N is. held_stands k v N is) h.store)

  -- its room is that of the disk
  pub sits_measured : ((k : K) (w : W) (N : Nodes) → holds k (view w) N → (effects (room k).pins).measures (view w).here (room k)) → (found : List ℕ) (tidy : Bool) (p : PinnedStore K) (v : W) (S : Sitting) → Sits view holds last pinned room rests p v found tidy S
      → (effects (pins_of S)).measures (view v).here (room p.store.store.keeper)
  sits_measured held_measures found tidy p v S h =
      let s = h.store.stores.tree.shown in subst (λ q. (effects q).measures (view v).here (room p.store.store.keeper)) h.pins (held_measures p.store.store.keeper v s.nodes s.held)

  -- it stands so over another world with the same disk
  pub sits_on : ((k : K) (v w : W) → (disk ≡ true → (view w).tells × SameDisk (view v).here (view w).here) → (N : Nodes) → holds k (view v) N → holds k (view w) N)
      → ((k : K) (v w : W) → (disk ≡ true → (view w).tells × SameDisk (view v).here (view w).here) → (q : ℕ) (N : Nodes) → pinned k (view v) q N → pinned k (view w) q N)
      → ((c d : Image) → SameDisk c d → rests c → rests d)
      → (found : List ℕ) (tidy : Bool) (p : PinnedStore K) (v w : W) (S : Sitting) → Sits view holds last pinned room rests p v found tidy S → Settled (view w) → ((view w).tells → (view v).tells × SameDisk (view v).here (view w).here) → (disk ≡ true → (view w).tells) → Sits view holds last pinned room rests p w found tidy S
  sits_on holds_on pinned_on rests_on found tidy p v w S h settled same tells =
      let s = h.store.stores.tree.shown in
      let k = p.store.store.keeper in
      record {
        store = record {
          stores = record {
            tree = record {
              shown = record { nodes = s.nodes; held = holds_on k v w (λ d. (tells d, (same (tells d)).1)) s.nodes s.held; at = s.at; counters = s.counters };
              knows = h.store.stores.tree.knows;
            };
            searches = h.store.stores.searches;
          };
          order = h.store.order;
          settled = settled;
          at_rest = λ t. let x = same t in rests_on (view v).here (view w).here x.1 (h.store.at_rest x.0);
        };
        views = views_on p.pins.items S.pins (λ q N told. pinned_on k v w (λ d. (tells d, (same (tells d)).1)) q N told) h.views;
        pins = h.pins;
        given = h.given;
        numbered = h.numbered;
        found = h.found;
        shows = h.shows;
      }

-- a store without pins and views stands in the state of its tree
pub sits_first : {has : Searching → Type 0} {pinned : ℕ → Nodes → Type 0} {room : Room} (known : List PinView) (shown : OpenViews) (X : Searching) → has X → known ≡ [] → viewing_of shown ≡ record { given = 0; opened = [] } → room.pins ≡ no_pins
    → HasSitting has pinned room known 0 shown room.found (begins X)
sits_first {has} {pinned} {room} known shown X h none empty pins =
    subst (λ l. HasSitting has pinned room l 0 shown room.found (begins X)) (sym none) (record { store = h; views = tt; pins = pins; given = refl; numbered = omega arith; found = refl; shows = sym empty })
