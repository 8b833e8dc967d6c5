-- What the looks at nodes come to together.
use Rattle.std.proofs.Common.{◌≡◌, ◌∙◌, ◌==◌, ℕ, Bool, true, List, [], ◌∷◌, Some, IfErr, Result, Ok, Err, inl, inr, refl, subst, sym}
use Rattle.std.specs.Result.{IsErrAnd}
use Rattle.std.proofs.lemmas.Bool.{cases_Bool}
use Rattle.std.proofs.lemmas.Option.{none-some, same_Some}
use Rattle.pst_base.specs.declared.ids.Nid.{Nid}
use Rattle.node_port.specs.Nodes.{Nodes}
use Rattle.node_port.specs.declared.keeper.KeepStop.TheVariants as keep
use Rattle.mail_tree.specs.declared.known.Known.{Known}
use Rattle.mail_tree.specs.Knowing.{Knows}
use Rattle.mail_tree.specs.declared.places.FolderPlace.{FolderPlace}
use Rattle.mail_tree.specs.Standing.{HasTree}
use Rattle.mail_tree.specs.Tree.{Shown}
use Rattle.mail_tree.specs.Whole.{IsWhole}
use Rattle.tree_look.specs.mail_draft.Answers.{IsNoMatter}
use Rattle.tree_look.specs.mail_draft.declared.stop.Stop.{Stop}
use Rattle.tree_look.specs.mail_draft.declared.stop.Stop.TheVariants as draft
use Rattle.tree_look.specs.Faults.{Stops}
use Rattle.tree_look.specs.Seeing.{AreKnown, AreListed}
use Rattle.tree_look.specs.declared.stops.LookStop.{LookStop}
use Rattle.tree_look.specs.declared.stops.LookStop.TheVariants as looks
use Rattle.tree_look.proofs.Excludes as folders
use Rattle.tree_look.proofs.One.{one_places}
use Rattle.mail_searches.specs.Searches.{IsFresh, KnowsMessages, Search, find_search, runs}
use Rattle.mail_searches.specs.Searching.{AllFresh, AreSearches, Each, Searching}
use Rattle.mail_searches.specs.declared.known.KnownSearches.{KnownSearches}
use Rattle.search_look.specs.Having.{HasSearches}
use Rattle.search_look.specs.Faults.{FindsSearches, HasSearchFault}
use Rattle.search_look.specs.Looking.{IsKept}
use Rattle.search_look.specs.declared.stops.SearchRefusal.{SearchRefusal}
use Rattle.search_look.specs.declared.stops.SearchRefusal.TheVariants as refusals
use Rattle.search_look.specs.declared.stops.SearchStop.{SearchStop}
use Rattle.search_look.specs.declared.stops.SearchStop.TheVariants as look
use Rattle.search_look.proofs.Excludes as searches
use Rattle.search_look.specs.Showing.{ShowsFresh, ShowsSearches}
use Rattle.search_look.proofs.Has.{has_searches, knows_messages}
use Rattle.search_look.proofs.Made.{shows_searches}
use Rattle.search_look.proofs.One.{one_searching}
use Rattle.search_look.proofs.Without.{has_tree, search_flags}
use Rattle.list_check.specs.Checking.{TellsStale}
use Rattle.store_open.specs.Opening.{IsSearchRefused, KnowsTree, LooksTree, StopsLook, StopsTree}
use Rattle.store_open.specs.declared.open.OpenedTree.{OpenedTree}
use Rattle.store_open.specs.Stops.{of_check, of_look, of_searches}
use Rattle.store_open.specs.declared.stops.TreeRefusal.TheVariants.{Searches}
use Rattle.store_open.specs.declared.stops.TreeStop.{TreeStop}
use Rattle.store_open.specs.declared.stops.TreeStop.TheVariants.{Kept, Refused}

-- what is so of each search is so of one that is found
each_with : (P : Search → Type 0) (f : ℕ) (s : Search) (ss : List Search) → Each P ss → find_search f ss ≡ Some s → P s
each_with P f s [] all e = absurd (none-some s e)
each_with P f s (x ∷ xs) all e = elim (cases_Bool (x.nid == f)) [
  | inl t ↦ subst P (same_Some x s (rw t at e)) all.0
  | inr t ↦ each_with P f s xs all.1 (rw t at e)
]

-- ---- folders that are refused

pub folders_stop : (N : Nodes) (stop : LookStop) → Stops N stop → StopsLook N (of_look stop)
folders_stop N (looks.Refused refusal) is = (is, λ X shows. folders.fault_excludes N refusal is X.tree.places (has_tree N X shows))
folders_stop N looks.Fault is = tt
folders_stop N (looks.Changed ib stored computed) is = is
folders_stop N looks.Memory is = tt

-- ---- searches that are refused

-- a fault of the look at searches is a refusal
refused_is : (N : Nodes) (places : List FolderPlace) (refusal : SearchRefusal) → HasSearchFault N places refusal → IsSearchRefused N places refusal
refused_is N places (refusals.Node q fault) is = is
refused_is N places (refusals.Criteria q) is = is
refused_is N places (refusals.Stale f) is = absurd is

refused_searches : (N : Nodes) (places : List FolderPlace) (refusal : SearchRefusal) → HasTree N places → HasSearchFault N places refusal → StopsLook N (Refused (Searches refusal))
refused_searches N places refusal tree is = (
  (places, tree, refused_is N places refusal is),
  λ X shows. searches.excludes N places refusal is X.own X.searches
      (subst (λ p. HasSearches N p X.own X.searches) (one_places N X.tree.places places (has_tree N X shows) tree) (has_searches N X shows)),
)

pub searches_stop : (N : Nodes) (places : List FolderPlace) (disk : Bool) (before after : ℕ) (held : Nodes → Type 0) (stop : SearchStop) → HasTree N places → FindsSearches N places (Err stop) → held N → IsKept disk before after held stop
    → StopsLook N (of_searches stop)
searches_stop N places disk before after held (look.Refused refusal) tree is here kept = refused_searches N places refusal tree is
searches_stop N places disk before after held (look.Kept keep.Fault) tree is here kept = tt
searches_stop N places disk before after held (look.Kept (keep.Changed ib stored computed)) tree is here kept = absurd (kept N here)
searches_stop N places disk before after held (look.Kept keep.Memory) tree is here kept = tt

-- a stop of a look is one of an opening
pub look_stops : (N : Nodes) (stop : TreeStop) → StopsLook N stop → StopsTree N stop
look_stops N (Refused refusal) is = (is.0, λ X shows. is.1 X shows.0)
look_stops N (Kept keep.Fault) is = tt
look_stops N (Kept (keep.Changed ib stored computed)) is = is
look_stops N (Kept keep.Memory) is = tt

-- a check of lists refuses nothing
pub check_stops : (N : Nodes) (stop : Stop) → IsNoMatter stop → StopsTree N (of_check stop)
check_stops N (draft.Refused refusal) is = absurd is
check_stops N draft.Fault is = tt
check_stops N (draft.Changed ib stored computed) is = is
check_stops N draft.Memory is = tt

-- a stop that is passed on
pub passed_on : {A : Type 0} (P : TreeStop → Type 0) (stop : TreeStop) (result : Result A TreeStop) → IsErrAnd result (λ e. e ≡ stop) → P stop → IfErr result P
passed_on P stop (Ok y) h p = absurd h
passed_on P stop (Err e) h p = rw h p

-- ---- whatever the counters are

-- the tree with these counters
abbrev counted : List ℕ → Searching → Searching
counted last Y = record Y { tree = record Y.tree { last = last } }

counted_shows : (N : Nodes) (last : List ℕ) (Y : Searching) → ShowsSearches N Y → ShowsSearches N (counted last Y)
counted_shows N last Y h = record {
  at = h.at;
  whole = record { objects = h.whole.objects; no_stray = h.whole.no_stray };
  found = record { listed = h.found.listed; reached = h.found.reached; owned = h.found.owned };
  searches = record {
    own_ascend = h.searches.own_ascend;
    ascend = h.searches.ascend;
    among = h.searches.among;
    kinds = h.searches.kinds;
    placed = h.searches.placed;
    criteria = h.searches.criteria;
    tables = h.searches.tables;
  };
  marked = record { foreign = h.marked.foreign; updates = h.marked.updates };
}

fresh_there : (last : List ℕ) (f : Nid) (Y : Searching) → AllFresh Y.tree Y.searches → TellsStale (counted last Y) (Some f) → ⊥
fresh_there last f Y fresh (s, at, running, stale) = stale (each_with (λ t. runs t ≡ true → IsFresh Y.tree t) f.bits s Y.searches fresh at running)

-- ---- what is known where nothing is refused

-- the tree with its searches that the nodes show
pub looked : (N : Nodes) (last : List ℕ) (known : Known) (found : KnownSearches) → HasTree N known.places → AreListed N known.places known.flags → AreKnown N known.places known.flags → HasSearches N known.places found.own found.searches
    → LooksTree N last (record { known = known; searches = found })
looked N last known found tree listed seen has =
    let got = shows_searches N known.places last found.own found.searches tree has in
    record {
      tree = got.0;
      shows = got.5;
      counters = got.2;
      knows = record { places = got.1; flags = search_flags N got.0 known.flags got.5 (subst (λ p. AreListed N p known.flags) (sym got.1) listed) };
      messages = knows_messages N got.0 known.flags got.5 (subst (λ p. AreKnown N p known.flags) (sym got.1) seen);
      searches = record { own = got.3; searches = got.4 };
    }

module _ (N : Nodes) (last : List ℕ) (opened : OpenedTree) (k : LooksTree N last opened) where
  -- what is answered of each tree that a keeper of the nodes shows is so of it
  pub told : {holds : Nodes → Type 0} {counters : List ℕ} (P : Searching → Type 0) → counters ≡ last → holds N
      → ((Y : Searching) → Shown holds counters Y.tree → Knows Y.tree opened.known → KnowsMessages Y.tree opened.known.flags → Y.searches ≡ opened.searches.searches → IsWhole Y.tree → AreSearches Y → P Y) → P k.tree
  told P same held answer = answer k.tree (record { nodes = N; held = held; at = k.shows.at; counters = k.counters ∙ sym same }) k.knows k.messages k.searches.searches k.shows.whole k.shows.searches

  pub knows : AllFresh k.tree.tree k.tree.searches → KnowsTree N last opened
  knows fresh = record { tree = k.tree; shows = (k.shows, fresh); counters = k.counters; knows = k.knows; searches = k.searches }

  -- a search that isn't fresh stops, and no tree is shown that is
  pub stale_stops : (f : Nid) → TellsStale k.tree (Some f) → StopsTree N (Refused (Searches (refusals.Stale f)))
  stale_stops f is = ((k.tree.tree.places, has_tree N k.tree k.shows, (k.tree, k.shows, is)), none)
    where
      none : (Y : Searching) → ShowsFresh N Y → ⊥
      none Y h = fresh_there k.tree.tree.last f Y h.1 (subst (λ Z. TellsStale Z (Some f)) (one_searching N k.tree (counted k.tree.tree.last Y) k.shows (counted_shows N k.tree.tree.last Y h.0) refl) is)
