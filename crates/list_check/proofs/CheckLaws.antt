-- What the check tells of the lists of searches.
use Rattle.std.proofs.Common.{◌≡◌, ◌∙◌, ℕ, ◌==◌, Bool, true, false, is_some, length, List, [], Option, None, Some, Result, Ok, Err, sym, ap, subst}
use Rattle.std.specs.Result.{IsErrAnd}
use Rattle.std.proofs.lemmas.Bool.{eqb-true}
use Rattle.std.proofs.lemmas.List.{nil_from_length}
use Rattle.pst_base.specs.declared.ids.Nid.{Nid}
use Rattle.mail_tree.specs.declared.places.FolderPlace.{FolderPlace}
use Rattle.mail_tree.specs.Changing.{Answer}
use Rattle.mail_tree.specs.Flags.{AreFlags, FlagList}
use Rattle.mail_tree.specs.Places.{place_id}
use Rattle.mail_tree.specs.Tree.{object_at}
use Rattle.mail_tree.specs.Whole.{IsWhole}
use Rattle.mail_draft.specs.Answers.{IsNoMatter, Says}
use Rattle.mail_draft.specs.declared.stop.Stop.{Stop}
use Rattle.mail_searches.specs.Searches.{KnowsMessages, Search, find_search, search_id}
use Rattle.mail_searches.specs.Searching.{AllFresh, AreSearches, Each, Searching}
use Rattle.list_check.specs.Checking.{Checks, TellsStale}
use Rattle.list_check.specs.Watching.{Watch, bits_of, stale_below, stray_of, watched, watches_of}
use Rattle.list_check.specs.declared.watching.Watched.{Watched}
use Rattle.list_check.proofs.PassLaws.{FreshWatch, Names, Seen, Stale, Tells, Told, Watches, all-agree, each-found, fresh-agrees, fresh-each, stale-below, strays-told, watches}

-- a stop that is passed on
pub checks_stopped : (X : Searching) (stop : Stop) (result : Result (Option Nid) Stop) → IsNoMatter stop → IsErrAnd result (λ e. e ≡ stop) → Checks X result
checks_stopped X stop (Ok stale) calm is = absurd is
checks_stopped X stop (Err e) calm is = subst IsNoMatter (sym is) calm

module _ (X : Searching) (w : IsWhole X.tree) (a : AreSearches X) where
  pub running : Watches X w a [] X.searches
  running = watches X w a X.searches [] (each-found search_id 0 X.searches a.ascend) tt

  -- the searches that run are told
  pub watched_told : {D : Type 0} (view : D → List Watch) (searches : List Search) (v : D) → X.searches ≡ searches → Says view (watched X.tree [] searches) (Ok v) → view v ≡ running.all
  watched_told view searches v same says =
      subst (λ x. Says view x (Ok v)) (ap (watched X.tree []) (sym same) ∙ running.is) says

  pub watched_stops : {D : Type 0} (view : D → List Watch) (searches : List Search) (stop : Stop) → X.searches ≡ searches → Says view (watched X.tree [] searches) (Err stop) → IsNoMatter stop
  watched_stops view searches stop same says =
      subst (λ x. Says view x (Err stop)) (ap (watched X.tree []) (sym same) ∙ running.is) says

  -- where none runs each has the list that it is to have
  pub none_runs : running.all ≡ [] → AllFresh X.tree X.searches
  none_runs none = (running.fresh (subst (Each (FreshWatch X w a)) (sym none) tt)).1

  pub none_watched : {D : Type 0} (items : D → List Watched) (searches : List Search) (v : D) (all : List Watched) (empty : Bool) → X.searches ≡ searches → Says (λ v. watches_of (items v)) (watched X.tree [] searches) (Ok v) → all ≡ items v
      → empty ≡ (length all == 0) → empty ≡ true → AllFresh X.tree X.searches
  none_watched items searches v all empty same says are is holds =
      let none : all ≡ [] = nil_from_length all (eqb-true (length all) 0 (sym is ∙ holds)) in
      none_runs (sym (watched_told (λ v. watches_of (items v)) searches v same says) ∙ ap watches_of (sym are ∙ none))

  -- a search that is told is one whose list isn't as it is to be
  stale_is : (f : Nid) → Stale X w a f.bits → TellsStale X (Some f)
  stale_is f s =
      let v = s.0 in let is = s.1 in
      (v.0, subst (λ i. find_search i X.searches ≡ Some v.0) s.2 is.3, is.4, λ fresh. s.4 (fresh-agrees X w a v s.3 is fresh))

  module _ (names : Each (Names X w a) running.all) where
    all_fresh : Each (Seen X w a running.all running.each) X.tree.places → AllFresh X.tree X.searches
    all_fresh seen = (running.fresh (fresh-each X w a running.all running.each names (all-agree X w a running.all running.each seen))).1

    told_is : (stale : Option Nid) (o : Option ℕ) → bits_of stale ≡ o → Told X w a (Each (Seen X w a running.all running.each) X.tree.places) o → TellsStale X stale
    told_is None o is told = all_fresh (subst (Told X w a (Each (Seen X w a running.all running.each) X.tree.places)) (sym is) told)
    told_is (Some f) o is told = stale_is f (subst (Told X w a (Each (Seen X w a running.all running.each) X.tree.places)) (sym is) told)

    by_answer : (o : Answer (Option ℕ)) (result : Result (Option Nid) Stop) → Tells X w a (Each (Seen X w a running.all running.each) X.tree.places) o → Says bits_of o result → Checks X result
    by_answer (Ok o) (Ok stale) tells says = told_is stale o says tells
    by_answer (Ok o) (Err stop) tells says = says
    by_answer (Err e) result tells says = absurd tells

    -- what the pass tells
    pass_told : (ws : List Watch) (places : List FolderPlace) (result : Result (Option Nid) Stop) → ws ≡ running.all → X.tree.places ≡ places → Says bits_of (stale_below X.tree ws places) result → Checks X result
    pass_told ws places result are same says =
        by_answer (stale_below X.tree running.all X.tree.places) result (stale-below X w a running.all running.each X.tree.places (each-found place_id 0 X.tree.places w.objects.ascend))
        (subst (λ x. Says bits_of x result) (ap (stale_below X.tree ws) (sym same) ∙ ap (λ vs. stale_below X.tree vs X.tree.places) are) says)

  module _ (flags : FlagList) (are : AreFlags (object_at X.tree) flags) (all : KnowsMessages X.tree flags) where
    strays : Told X w a (Each (Names X w a) running.all) (stray_of flags running.all)
    strays = strays-told X w a flags are all running.all running.each

    -- a row names no message
    pub stray_told : (ws : List Watch) (stray : Option Nid) → ws ≡ running.all → bits_of stray ≡ stray_of flags ws → is_some stray ≡ true → TellsStale X stray
    stray_told ws None same is some = cc
    stray_told ws (Some f) same is some = stale_is f (subst (Told X w a (Each (Names X w a) running.all)) (sym (is ∙ ap (stray_of flags) same)) strays)

    -- all rows name messages, and the pass tells
    pub rest_told : (ws : List Watch) (stray : Option Nid) (places : List FolderPlace) (result : Result (Option Nid) Stop) → ws ≡ running.all → bits_of stray ≡ stray_of flags ws → is_some stray ≡ false → X.tree.places ≡ places
        → Says bits_of (stale_below X.tree ws places) result → Checks X result
    rest_told ws (Some f) places result same is some at says = cc
    rest_told ws None places result same is some at says =
        pass_told (subst (Told X w a (Each (Names X w a) running.all)) (sym (is ∙ ap (stray_of flags) same)) strays) ws places result same at says
