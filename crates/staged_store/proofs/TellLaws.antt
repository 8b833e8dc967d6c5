-- What a keeper with the changes of a transaction over it tells, and what stays of the keeper below.
use Rattle.std.proofs.Common.{◌≡◌, ◌∙◌, ℕ, ◌+◌, ◌*◌, Bool, List, Option, None, Some, sym, ap, arith}
use Rattle.node_port.specs.Nodes.{Nodes}
use Rattle.node_port.specs.Stops.{Room}
use Rattle.mail_searches.specs.Searching.{Searching}
use Rattle.mail_searches.specs.declared.known.KnownSearches.{KnownSearches}
use Rattle.mail_tree.specs.declared.known.Known.{Known}
use Rattle.pinned_session.specs.pinned_views.Telling.{KeepsTold}
use Rattle.pinned_session.specs.store_session.search_store.Planning.{StoresSearches}
use Rattle.staged_nodes.specs.Room.{room_beside}
use Rattle.staged_nodes.specs.Staged.{Staged}
use Rattle.staged_nodes.specs.Telling.{ShowsDone, ShowsOver}
use Rattle.staged_nodes.specs.declared.staging.StagedReady.{StagedReady}
use Rattle.staged_nodes.specs.declared.staging.Staging.{Staging}
use Rattle.staged_nodes.proofs.StagedLaws.{over_lies}
use Rattle.staged_store.specs.Standing.{HasOver}
use Rattle.staged_store.specs.Telling.{Keeps}

-- the room below is the same where that of a line is
room_back : (size : ℕ) (a b : Room) → room_beside size a ≡ room_beside size b → a ≡ b
room_back size a b e =
    let free : a.free ≡ b.free = ap (λ (r : Room). r.free) e in
    let more : a.pages + 48 * size ≡ b.pages + 48 * size = ap (λ (r : Room). r.pages) e in
    let pages : a.pages ≡ b.pages = omega (arith, more) in
    let spent : a.spent ≡ b.spent = ap (λ (r : Room). r.spent) e in
    let found : a.found ≡ b.found = ap (λ (r : Room). r.found) e in
    let pins : a.pins ≡ b.pins = ap (λ (r : Room). r.pins) e in
    λ i. record { free = free i; pages = pages i; spent = spent i; found = found i; pins = pins i }

module _ (held : Nodes → Type 0) (told : ℕ → Nodes → Type 0) (counters : List ℕ) (staged : Staging → Type 0) where
  -- a store with a transaction has its tree over the keeper that tells its changes
  pub stores_over : (holds : Nodes → Type 0) (pinned : ℕ → Nodes → Type 0) (last : List ℕ) (room : Room) (s : Staging) (base : Nodes) (known : Known) (of_searches : KnownSearches) (tidy : Bool) (F : Staged) (X : Searching)
      → ((N : Nodes) → held N → holds N) → KeepsTold told pinned → last ≡ counters → staged s → held base → HasOver base room s known of_searches tidy F X → StoresSearches (ShowsOver held told counters staged holds pinned last room s) s.counts.last known of_searches X
  stores_over holds pinned last room s base known of_searches tidy F X stays keeps counted are was h =
      let shown = h.stores.tree.shown in
      record {
        tree = record {
          shown = record {
            nodes = shown.nodes;
            held = record {
              some = base;
              was = was;
              over = over_lies base shown.nodes s.slots F h.staged.changes shown.held;
              stays = stays;
              keeps = keeps;
              counted = counted;
              left = h.left;
              are = are;
            };
            at = shown.at;
            counters = shown.counters;
          };
          knows = h.stores.tree.knows;
        };
        searches = h.stores.searches;
      }

  -- what was shown before further changes, if some were made
  shown_over : (holds : Nodes → Type 0) (pinned : ℕ → Nodes → Type 0) (last : List ℕ) (room : Room) (s : Staging) (made : Option StagedReady) (M : Nodes)
      → ShowsDone made (ShowsOver held told counters staged holds pinned last room s) M → (N : Nodes) × ShowsOver held told counters staged holds pinned last room s N
  shown_over holds pinned last room s None M is = (M, is)
  shown_over holds pinned last room s (Some ready) M is = (is.0, is.1)

  -- so what a keeper holds and tells stays
  pub keeps_under : (holds : Nodes → Type 0) (pinned : ℕ → Nodes → Type 0) (last : List ℕ) (room before : Room) (s was : Staging) (made : Option StagedReady) (M : Nodes)
      → ShowsDone made (ShowsOver held told counters staged holds pinned last room s) M → ((t : Staging) → staged t → t ≡ was) → room_beside s.size room ≡ room_beside was.size before → Keeps held holds told pinned counters last before room
  keeps_under holds pinned last room before s was made M is are same =
      let shows = (shown_over holds pinned last room s made M is).1 in
      record {
        stays = shows.stays;
        keeps = shows.keeps;
        counted = shows.counted;
        room = room_back was.size room before (sym (ap (λ (t : Staging). room_beside t.size room) (are s shows.are)) ∙ same);
      }

  -- and so do the changes of the transaction
  pub staged_under : (holds : Nodes → Type 0) (pinned : ℕ → Nodes → Type 0) (last : List ℕ) (room : Room) (s was : Staging) (made : Option StagedReady) (M : Nodes)
      → ShowsDone made (ShowsOver held told counters staged holds pinned last room s) M → ((t : Staging) → staged t → t ≡ was) → s ≡ was
  staged_under holds pinned last room s was made M is are = are s (shown_over holds pinned last room s made M is).1.are

-- nothing was done
pub keeps_same : (held : Nodes → Type 0) (told : ℕ → Nodes → Type 0) (counters : List ℕ) (room : Room) → Keeps held held told told counters counters room room
keeps_same held told counters room = record { stays = λ N h. h; keeps = λ p N is. is; counted = λ i. counters; room = λ i. room }

-- one after another
pub keeps_then : {held mid holds : Nodes → Type 0} {told between pinned : ℕ → Nodes → Type 0} {counters some last : List ℕ} {before on after : Room} → Keeps held mid told between counters some before on → Keeps mid holds between pinned some last on after → Keeps held holds told pinned counters last before after
keeps_then first then = record {
  stays = λ N h. then.stays N (first.stays N h);
  keeps = λ p N is. then.keeps p N (first.keeps p N is);
  counted = then.counted ∙ first.counted;
  room = then.room ∙ first.room;
}
