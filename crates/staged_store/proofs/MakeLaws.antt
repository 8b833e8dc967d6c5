-- What a planned command makes of a transaction.
use Rattle.std.proofs.Common.{◌≡◌, ◌∙◌, ℕ, ◌<◌, ◌≤◌, false, true, List, [], Option, None, Some, Result, Ok, Err, refl, sym, ap, subst, arith}
use Rattle.std.specs.Prelude.{OnErr, OnOk}
use Rattle.std.specs.Option.{ForSome}
use Rattle.std.specs.FinMap as map
use Rattle.std.specs.List.{AllZip}
use Rattle.std.proofs.lemmas.Bool.{false≢true}
use Rattle.pst_base.specs.declared.ids.Nid.{Nid}
use Rattle.node_port.specs.Nodes.{Nodes, changed}
use Rattle.node_port.specs.Stops.{Room, size}
use Rattle.node_port.specs.declared.node.Counts.{Counts}
use Rattle.node_port.specs.declared.node.NodeRec.{NodeRec}
use Rattle.command_text.specs.declared.reply.Reply.{Reply}
use Rattle.mail_searches.specs.Criteria.{Coming}
use Rattle.mail_searches.specs.Searching.{Searching}
use Rattle.mail_searches.specs.declared.known.KnownSearches.{KnownSearches}
use Rattle.mail_tree.specs.Changing.{Answer, Changed}
use Rattle.mail_tree.specs.Folders.{Outcome}
use Rattle.mail_tree.specs.Step.{after}
use Rattle.mail_tree.specs.Tree.{Shown, Tree}
use Rattle.mail_tree.specs.declared.known.Known.{Known}
use Rattle.mail_tree.specs.declared.note.Note.{Note}
use Rattle.mail_tree.specs.declared.places.FolderPlace.{FolderPlace}
use Rattle.pinned_session.specs.store_session.mail_draft.Space.{space_needed}
use Rattle.pinned_session.specs.store_session.mail_draft.Written.{Writes}
use Rattle.pinned_session.specs.store_session.mail_draft.declared.stop.Stop.{Stop}
use Rattle.pinned_session.specs.store_session.mail_store.Planning.{Carries, ChangesNodes, PlansTo}
use Rattle.pinned_session.specs.store_session.mail_store.Space.{HasRoom as HasSpace, WritesNodes}
use Rattle.pinned_session.specs.store_session.search_store.Planning.{PlansComing, StoresSearches}
use Rattle.pinned_session.proofs.store_session_laws.mail_store_laws.SpaceLaws.{is_need}
use Rattle.staged_nodes.specs.Room.{IsLeft, room_beside}
use Rattle.staged_nodes.specs.Sizes.{MOST_STAGED}
use Rattle.staged_nodes.specs.Staged.{IsOver, Staged, staged_size, with_changes}
use Rattle.staged_nodes.specs.Staging.{Fits, HasChanges, IsStaged, SameChanges}
use Rattle.staged_nodes.specs.declared.staging.StagedReady.{StagedReady}
use Rattle.staged_nodes.specs.declared.staging.Staging.{Staging}
use Rattle.staged_nodes.proofs.StagedLaws.{over_more, size_more, staged_on}
use Rattle.staged_store.specs.Planning.{Fills, PutsTooMuch}
use Rattle.staged_store.specs.Saying.{Adds}
use Rattle.staged_store.specs.Standing.{HasRoom}

-- ---- plans by other meanings

module _ {R : Type 0} (fits fits' : R → List ℕ → List (Nid × Option NodeRec) → Type 0) (goes : (ready : R) (last : List ℕ) (cs : List (Nid × Option NodeRec)) → fits ready last cs → fits' ready last cs) where
  carries_alike : (T : Tree) (o : Outcome) (change : Option R) → Carries fits T o change → Carries fits' T o change
  carries_alike T o None is = is
  carries_alike T o (Some ready) is = (is.0, goes ready o.last is.0 is.1, is.2, is.3)

  pub plans_alike : (T : Tree) (o : Outcome) (change : Option R) (places : Option (List FolderPlace)) (flags : List (ℕ × Option Note)) (reply : Reply) → PlansTo fits T o change places flags reply → PlansTo fits' T o change places flags reply
  plans_alike T o change places flags reply is = record { reply_is = is.reply_is; places_are = is.places_are; flags_are = is.flags_are; carries = carries_alike T o change is.carries; changes = is.changes }

pub coming_alike : {P : Type 0} (room : Room) (plans plans' : Coming → P → Type 0) → ((o : Coming) (p : P) → plans o p → plans' o p) → (answer : Answer Coming) (result : Result P Stop) → PlansComing room plans answer result → PlansComing room plans' answer result
coming_alike room plans plans' goes (Ok o) (Ok p) is = (goes o p is.0, is.1)
coming_alike room plans plans' goes (Ok o) (Err stop) is = is
coming_alike room plans plans' goes (Err (Some refusal)) (Ok p) is = is
coming_alike room plans plans' goes (Err (Some refusal)) (Err stop) is = is
coming_alike room plans plans' goes (Err None) result is = tt

-- a plan over a transaction fits it after slots were made
pub fits_same : (s r : Staging) → SameChanges s.slots r.slots → r.size ≡ s.size → (ready : StagedReady) (last : List ℕ) (cs : List (Nid × Option NodeRec)) → Fits s ready last cs → Fits r ready last cs
fits_same s r same size ready last cs fits = record {
  nodes = fits.nodes;
  counters = fits.counters;
  size = λ F is. fits.size F (record { changes = λ q. is.changes q ∙ (same q).0; size = sym size ∙ is.size; few = let few = is.few in omega (arith, size, few) });
}

-- ---- what is known is no matter of the nodes

pub stores_any : (holds : Nodes → Type 0) (last : List ℕ) (known : Known) (of_searches : KnownSearches) (X : Searching) → StoresSearches holds last known of_searches X → StoresSearches (λ N. Unit {0}) last known of_searches X
stores_any holds last known of_searches X is =
    let shown = is.tree.shown in
    record { tree = record { shown = record { nodes = shown.nodes; held = tt; at = shown.at; counters = shown.counters }; knows = is.tree.knows }; searches = is.searches }

-- what comes of a call that can't fail
pub sure : {A E P : Type 0} (Q : Type 0) (r : Result A E) → OnOk r P → OnErr r (Q × (false ≡ true)) → P
sure Q (Ok x) is fails = is
sure Q (Err e) is fails = absurd (false≢true fails.1)

-- there are counters of a plan
pub some_counters : (change : Option Counts) → ForSome change (λ ready. (last : List ℕ) × (cs : List (Nid × Option NodeRec)) × (ready.last ≡ last))
some_counters change = λ counts is. (counts.last, [], refl)

-- the plan as it is settled
settled_carries : (s new : Staging) (T : Tree) (o : Outcome) (change : Option StagedReady) (counts : Option Counts) → Fills s new change counts → Carries (Fits s) T o change → Carries {R = Counts} (λ ready last cs. ready.last ≡ last) T o counts
settled_carries s new T o None counts fills is = subst (λ (c : Option Counts). Carries {R = Counts} (λ ready last cs. ready.last ≡ last) T o c) (sym fills.1) is
settled_carries s new T o (Some ready) counts fills is = subst (λ (c : Option Counts). Carries {R = Counts} (λ ready last cs. ready.last ≡ last) T o c) (sym fills.4) (is.0, is.1.counters, is.2, is.3)

settled_changes : (s new : Staging) (D : Changed) (change : Option StagedReady) (counts : Option Counts) → Fills s new change counts → ChangesNodes D change → ChangesNodes {R = Counts} D counts
settled_changes s new D None counts fills is = subst (λ (c : Option Counts). ChangesNodes {R = Counts} D c) (sym fills.1) is
settled_changes s new D (Some ready) counts fills is = subst (λ (c : Option Counts). ChangesNodes {R = Counts} D c) (sym fills.4) is

pub settled_plan : (s new : Staging) (T : Tree) (o : Outcome) (change : Option StagedReady) (counts : Option Counts) (places : Option (List FolderPlace)) (flags : List (ℕ × Option Note)) (reply : Reply) → Fills s new change counts
    → PlansTo (Fits s) T o change places flags reply → PlansTo {R = Counts} (λ ready last cs. ready.last ≡ last) T o counts places flags reply
settled_plan s new T o change counts places flags reply fills is = record {
  reply_is = is.reply_is;
  places_are = is.places_are;
  flags_are = is.flags_are;
  carries = settled_carries s new T o change counts fills is.carries;
  changes = settled_changes s new o.changed change counts fills is.changes;
}

-- ---- the changes after a command

-- the cells that a plan has suffice for all that is put then
cells_suffice : (room : Room) (D : Changed) (F : Staged) (cs : List (Nid × Option NodeRec)) → AllZip Writes (map.entries D.objects) cs → WritesNodes D → HasSpace (room_beside (staged_size F) room) D → staged_size (with_changes F cs) ≤ MOST_STAGED → HasRoom room (with_changes F cs)
cells_suffice room D F cs are writes has few =
    let cells = has writes in
    let free = cells.free in
    let need = is_need (room_beside (staged_size F) room) D cs (space_needed D) are refl in
    let more = size_more F cs in
    record { numbers = λ some. cells.numbers; cells = λ some. omega (arith, free, need, more, few) }

-- what a command leaves of the changes
pub record Leaves (base : Nodes) (room : Room) (new : Staging) (X : Tree) (o : Outcome) (F : Staged) : Type 0 where
  pub shown : Shown (IsOver base F) new.counts.last (after X o)
  pub staged : IsStaged new F
  pub left : IsLeft room new.left
  pub enough : HasRoom room F

module _ (base : Nodes) (room : Room) (s new : Staging) (T : Tree) (o : Coming) (F : Staged) (shown : Shown (IsOver base F) s.counts.last T) (staged : IsStaged s F) (left : IsLeft room s.left) (enough : HasRoom room F) where
  pub leaves : (change : Option StagedReady) (counts : Option Counts) → Fills s new change counts → Carries (Fits s) T o.outcome change → ChangesNodes o.outcome.changed change → HasSpace (room_beside (staged_size F) room) o.outcome.changed → ForSome change (λ ready. ready.size ≤ MOST_STAGED)
      → (G : Staged) × Adds (Ok o) F G × Leaves base room new T o.outcome G
  leaves None counts fills carries none space few = (
    F,
    ((λ writes. absurd (writes none)), (λ is. refl)),
    record {
      shown = subst (λ (t : Tree). Shown (IsOver base F) new.counts.last t) (sym carries) (subst (λ (t : Staging). Shown (IsOver base F) t.counts.last T) (sym fills.0) shown);
      staged = subst (λ (t : Staging). IsStaged t F) (sym fills.0) staged;
      left = subst (λ (t : Staging). IsLeft room t.left) (sym fills.0) left;
      enough = enough;
    },
  )
  leaves (Some ready) counts fills carries writes space few =
      let cs = carries.0 in
      let fits = carries.1 in
      let put = staged_on s new F ready o.outcome.last cs staged fits (few ready refl) (subst (λ (ds : List (Nid × Option NodeRec)). HasChanges new.slots (with_changes F ds)) fits.nodes (fills.0 F staged.changes)) fills.3 in
      let fewer = put.few in
      let sized = put.size in (
        with_changes F cs,
        ((λ is. (cs, carries.3, refl)), (λ none. absurd (writes none))),
        record {
          shown = record {
            nodes = changed shown.nodes cs;
            held = over_more base shown.nodes F cs shown.held;
            at = carries.2 shown.nodes shown.at;
            counters = sym (ap (λ (c : Counts). c.last) fills.1 ∙ fits.counters);
          };
          staged = put;
          left = subst (IsLeft room) (sym fills.2) left;
          enough = cells_suffice room o.outcome.changed F cs carries.3 writes space (omega (arith, fewer, sized));
        },
      )

-- what is too much
pub too_much : (s : Staging) (T : Tree) (o : Coming) (F : Staged) (change : Option StagedReady) → IsStaged s F → Carries (Fits s) T o.outcome change → ChangesNodes o.outcome.changed change → PutsTooMuch change
    → WritesNodes o.outcome.changed × (cs : List (Nid × Option NodeRec)) × AllZip Writes (map.entries o.outcome.changed.objects) cs × (MOST_STAGED < staged_size (with_changes F cs))
too_much s T o F None staged carries changes much = absurd much
too_much s T o F (Some ready) staged carries writes much = let e = carries.1.size F staged in (writes, carries.0, carries.3, omega (arith, e, much))
