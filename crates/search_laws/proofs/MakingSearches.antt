-- After a new search was made the searches are those of the tree, and list what they are to list.
use Rattle.std.proofs.Common.{◌≡◌, ℕ, ◌%◌, ◌<◌, ◌==◌, true, false, List, [], ◌∷◌, Option, None, Some, is_some, arith, refl, sym, subst, ap, ◌∙◌, ◌⊎◌, inl, inr}
use Rattle.std.specs.List.{list_any}
use Rattle.std.proofs.lemmas.Bool.{cases_eq, false≢true, eq-eqb}
use Rattle.std.proofs.lemmas.Option.{none-some, same_Some}
use Rattle.mapi_values.specs.Messages.{Mes}
use Rattle.mapi_values.proofs.KeyedLaws.{put-ascends}
use Rattle.mail_objects.specs.declared.object.Object.{Object}
use Rattle.mail_objects.specs.declared.object.Object.TheVariants.{Bare, Context, Message, Table}
use Rattle.mail_tree.specs.Places.{find_place, path}
use Rattle.mail_tree.specs.Tree.{Tree, object_at}
use Rattle.mail_tree.specs.Changing.{as_message, beside, nothing}
use Rattle.mail_tree.specs.Columns.{contents_table}
use Rattle.mail_tree.specs.Whole.{AreWhole, IsWhole}
use Rattle.mail_tree.proofs.KindsOfPuts.{beside_kind}
use Rattle.mail_laws.proofs.Effects.{no_message}
use Rattle.search_obj.specs.Changing.{unset}
use Rattle.search_obj.specs.Found.{crit_found, version_found}
use Rattle.search_obj.specs.Writing.{written}
use Rattle.mail_searches.specs.Searches.{IsFresh, Search, criteria_node, criteria_of, find_search, is_listed, results, runs}
use Rattle.mail_searches.specs.Searching.{AllFresh, AreSearches, Each, Searching, is_own}
use Rattle.search_lists.specs.Laws.{AllShow, ShowsList}
use Rattle.search_lists.proofs.ApartLaws.{each-found}
use Rattle.search_lists.proofs.ListLaws.{are-rows, rows-are}
use Rattle.search_lists.proofs.ScopeLaws.{placed-out, same-listed}
use Rattle.search_lists.proofs.SettleLaws.{each-two}
use Rattle.search_lists.proofs.ShowLaws.{tells-same, tree-shows}
use Rattle.search_laws.proofs.MakingFound.{among_kept, among_was, with_id}
use Rattle.search_laws.proofs.MakingIds.{IsFree}
use Rattle.search_laws.proofs.MakingMade.{Away, away_kind}
use Rattle.search_laws.proofs.MakingPuts.{place_here, place_others, unset_values, with_place}

-- the criteria object of a new search says that none are set
none_set : criteria_of (written unset []) ≡ Some unset
unfolding criteria_of written version_found crit_found
none_set = refl

-- each of what holds still
each_still : {E : Type 0} (P Q : E → Type 0) (xs : List E) → ((x : E) → P x → Q x) → Each P xs → Each Q xs
each_still P Q [] more each = tt
each_still P Q (x ∷ xs) more each = (more x each.0, each_still P Q xs more each.1)

-- T' : the tree after it
module _ (X : Searching) (s parent : ℕ) (three : s % 32 ≡ 3) (free : IsFree X.tree s) (whole : IsWhole X.tree) (searches : AreSearches X) (unplaced : find_place s X.tree.places ≡ None)
    (T' : Tree) (places_are : T'.places ≡ with_place X.tree.places s parent) (others : (x : ℕ) → Away s x → (x % 32 ≡ 2 → ⊥) → (x % 32 ≡ 13 → ⊥) → object_at T' x ≡ object_at X.tree x)
    (whole' : AreWhole T'.places (object_at T')) (criteria_there : object_at T' (criteria_node s) ≡ Some (Context unset_values)) (list_there : object_at T' (results s) ≡ Some (Table contents_table)) where
  abbrev T : Tree
  T = X.tree

  abbrev X' : Searching
  X' = record { tree = T'; own = with_id s X.own; searches = X.searches }

  -- the new search wasn't one of the tree's own
  not_own : is_own X.own s ≡ true → ⊥
  not_own is = let t = searches.tables s is in none-some (Table t.0) (sym free.results_free ∙ t.1)

  no_search : find_search s X.searches ≡ None
  no_search = none (find_search s X.searches) refl
    where
      none : (o : Option Search) → find_search s X.searches ≡ o → o ≡ None
      none None e = refl
      none (Some x) e = absurd (not_own (searches.among s x e))

  -- what stands beside another search stays
  beside_other : (f kind : ℕ) → f % 32 ≡ 3 → (f ≡ s → ⊥) → (kind ≡ 7) ⊎ (kind ≡ 16) → object_at T' (beside f kind) ≡ object_at T (beside f kind)
  beside_other f kind f_three other is =
      let few : (6 < kind) × (kind < 32) × (kind ≡ 13 → ⊥) = elim is [ inl a ↦ (omega arith, omega arith, λ e. omega arith) | inr a ↦ (omega arith, omega arith, λ e. omega arith) ] in
      let at = beside_kind f kind few.1 in
      others (beside f kind)
      ((λ e. omega arith), (λ e. omega (arith, beside_kind s 6 (omega arith))), (λ e. other (elim is [ inl a ↦ omega arith | inr a ↦ omega (arith, beside_kind s 7 (omega arith)) ])), (λ e. other (elim is [ inl a ↦ omega (arith, beside_kind s 16 (omega arith)) | inr a ↦ omega arith ])))
      (λ e. omega arith) (λ e. few.2 (sym at ∙ e))

  -- each message is as it was
  pub same_message : (m : ℕ) → as_message (object_at T' m) ≡ as_message (object_at T m)
  same_message m = elim (cases_eq (m % 32) 4) [
    | inl four ↦ ap as_message (others m (away_kind s m three (λ e. omega arith) (λ e. omega arith) (λ e. omega arith) (λ e. omega arith)) (λ e. omega arith) (λ e. omega arith))
    | inr other ↦ no_message m (object_at T' m) (whole'.typed m) other ∙ sym (no_message m (object_at T m) (whole.objects.typed m) other)
  ]

  -- the list of another search stays
  list_still : (f : ℕ) → is_own X.own f ≡ true → object_at T' (results f) ≡ object_at T (results f)
  list_still f old = beside_other f 16 (searches.kinds f old) (λ same. not_own (subst (λ x. is_own X.own x ≡ true) same old)) (inr refl)

  -- the searches are those of the tree
  pub searches_after : AreSearches X'
  searches_after = record {
    own_ascend = put-ascends (λ f. f) 0 s X.own (omega arith) searches.own_ascend;
    ascend = searches.ascend;
    among = λ f x e. among_kept s f X.own (searches.among f x e);
    kinds = λ f is. elim (among_was s f X.own is) [ inl same ↦ ap (λ x. x % 32) same ∙ three | inr old ↦ searches.kinds f old ];
    placed = λ f is. ap (λ ps. is_some (find_place f ps)) places_are ∙ elim (among_was s f X.own is) [
      | inl same ↦ ap (λ x. is_some (find_place x (with_place T.places s parent))) same ∙ ap is_some (place_here T.places s parent)
      | inr old ↦ ap is_some (place_others T.places s parent f (λ same. not_own (subst (λ x. is_own X.own x ≡ true) same old))) ∙ searches.placed f old
    ];
    criteria = λ f is. elim (among_was s f X.own is) [
      | inl same ↦ (unset_values, ap (λ x. object_at T' (criteria_node x)) same ∙ criteria_there, (unset, none_set, ap (λ x. find_search x X.searches) same ∙ no_search))
      | inr old ↦
          let c = searches.criteria f old in
          (c.0, beside_other f 7 (searches.kinds f old) (λ same. not_own (subst (λ x. is_own X.own x ≡ true) same old)) (inl refl) ∙ c.1, c.2)
    ];
    tables = λ f is. elim (among_was s f X.own is) [
      | inl same ↦ (contents_table, ap (λ x. object_at T' (results x)) same ∙ list_there)
      | inr old ↦
          let t = searches.tables f old in
          (t.0, list_still f old ∙ t.1)
    ];
  }

  -- each message is listed where it was
  listed_still : (x : Search) (m : ℕ) → is_listed T'.places x (as_message (object_at T' m)) ≡ is_listed T.places x (as_message (object_at T m))
  listed_still x m = ap (is_listed T'.places x) (same_message m) ∙ ap (λ ps. is_listed ps x (as_message (object_at T m))) places_are
      ∙ same-listed (λ g. g == s) T.places (with_place T.places s parent) (λ g apart. place_others T.places s parent g (λ same. false≢true (sym apart ∙ eq-eqb g s same))) x (as_message (object_at T m)) (λ M e. outside M (is_message (object_at T m) M e))
    where
      is_message : (o : Option Object) (M : Mes) → as_message o ≡ Some M → o ≡ Some (Message M)
      is_message None M e = cc
      is_message (Some (Context c)) M e = cc
      is_message (Some (Table t)) M e = cc
      is_message (Some (Bare above)) M e = cc
      is_message (Some (Message N)) M e = ap (λ z. Some (Message z)) (same_Some N M e)

      outside : (M : Mes) → object_at T m ≡ Some (Message M) → list_any (λ h. h == s) (path T.places M.folder) ≡ false
      outside M e =
          let v = whole.objects.held m M e in
          placed-out T.places (λ g p is no_root. let up = whole.objects.parents g p is no_root in (up.0, up.1)) s unplaced M.folder v.0 v.1

  -- so each running search lists what it is to list
  fresh_still : (x : Search) → IsFresh T x → IsFresh T' x
  fresh_still x fresh =
      let t = fresh.0 in
      let kind = beside_kind x.nid 16 (omega arith) in
      let stays : object_at T' (results x.nid) ≡ Some (Table t) =
      others (results x.nid) ((λ e. omega arith), (λ e. omega (arith, beside_kind s 6 (omega arith))), (λ e. omega (arith, beside_kind s 7 (omega arith))), (λ e. none-some (Table t) (sym free.results_free ∙ ap (object_at T) (sym e) ∙ fresh.1))) (λ e. omega arith) (λ e. omega arith)
      ∙ fresh.1 in
      let rows = are-rows T x t.table.rows fresh.2 in
      (t, stays, rows-are T' x t.table.rows rows.0 (λ m. rows.1 m ∙ sym (listed_still x m)))

  -- and shows it rightly where it did
  pub show_after : AllShow T X.searches → AllShow T' X.searches
  show_after shows = each-two (λ x. find_search x.nid X.searches ≡ Some x) (λ x. runs x ≡ true → ShowsList T nothing x.nid) (λ x. runs x ≡ true → ShowsList T' nothing x.nid) X.searches (each-found 0 X.searches searches.ascend) shows (λ x found was run.
      let own = searches.among x.nid x found in
      let kind = searches.kinds x.nid own in
      let away : Away s x.nid = ((λ same. not_own (subst (λ z. is_own X.own z ≡ true) same own)), (λ e. omega (arith, e, kind, beside_kind s 6 (omega arith))), (λ e. omega (arith, e, kind, beside_kind s 7 (omega arith))), (λ e. omega (arith, e, kind, beside_kind s 16 (omega arith)))) in
      tree-shows T T' x.nid same_message (list_still x.nid own) (λ c at. tells-same (object_at T x.nid) c (sym (others x.nid away (λ e. omega (arith, e, kind)) (λ e. omega (arith, e, kind))) ∙ at)) (was run))

  pub fresh_after : AllFresh T X.searches → AllFresh T' X.searches
  fresh_after fresh = each_still (λ x. runs x ≡ true → IsFresh T x) (λ x. runs x ≡ true → IsFresh T' x) X.searches (λ x f is. fresh_still x (f is)) fresh
