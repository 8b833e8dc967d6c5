-- Searches that stay are those of the tree still, and list what they listed.
use Rattle.std.proofs.Common.{◌≡◌, ◌∙◌, ℕ, zero, suc, ◌%◌, ◌==◌, true, false, List, [], ◌∷◌, Option, Some, IsSome, ap, refl, subst, sym, inl, inr}
use Rattle.std.specs.List.{list_any}
use Rattle.std.proofs.lemmas.Bool.{cases_Bool, eqb-false, ne_eqb}
use Rattle.std.proofs.lemmas.Option.{none-some, same_Some}
use Rattle.mapi_values.specs.Keyed.{keys_ascend}
use Rattle.mapi_values.specs.Messages.{Mes}
use Rattle.mail_objects.specs.Forms.{Ctx}
use Rattle.mail_objects.specs.declared.object.Object.{Object}
use Rattle.mail_objects.specs.declared.object.Object.TheVariants.{Context}
use Rattle.mail_tree.specs.declared.places.FolderPlace.{FolderPlace}
use Rattle.mail_tree.specs.Changing.{as_message, nothing, now_at}
use Rattle.mail_tree.specs.Places.{ROOT, find_place, is_plain, is_within, path_from}
use Rattle.mail_tree.specs.Tree.{object_at}
use Rattle.mail_tree.specs.Whole.{AreWhole, IsWhole}
use Rattle.mail_tree.proofs.AfterTree.{after_now}
use Rattle.mail_tree.proofs.Nearly.{nearly}
use Rattle.mail_laws.proofs.LawSteps.{is_message}
use Rattle.mail_searches.specs.Criteria.{Coming}
use Rattle.mail_searches.specs.Searches.{IsFresh, Search, criteria_node, find_search, is_listed, results, runs, search_id}
use Rattle.mail_searches.specs.Searching.{AllFresh, AreSearches, Each, Searching, is_own}
use Rattle.mail_searches.specs.Step.{after}
use Rattle.search_lists.specs.Laws.{AllShow, ShowsList}
use Rattle.search_lists.proofs.ApartLaws.{each-found}
use Rattle.search_lists.proofs.ListLaws.{are-rows, rows-are}
use Rattle.search_lists.proofs.ScopeLaws.{same-listed}
use Rattle.search_lists.proofs.SettleLaws.{each}
use Rattle.search_lists.proofs.ShowLaws.{TellsAs, tree-shows}
use Rattle.search_laws.proofs.PlainPlaces.{plain_other}

-- what holds of each search holds of one that is found
each_at : (P : Search → Type 0) (ss : List Search) (f : ℕ) (t : Search) → Each P ss → find_search f ss ≡ Some t → P t
each_at P [] f t all e = absurd (none-some t e)
each_at P (u ∷ us) f t all e = elim (cases_Bool (u.nid == f)) [
  | inl b ↦ subst P (same_Some u t (rw b at e)) all.0
  | inr b ↦ each_at P us f t all.1 (rw b at e)
]

-- the folders above a plain one are none of a search
module _ (places : List FolderPlace) (at : ℕ → Option Object) (w : AreWhole places at) (s : ℕ) (three : s % 32 ≡ 3) where
  apart : (g : ℕ) (p : FolderPlace) → find_place g places ≡ Some p → is_plain p ≡ true → (g == s) ≡ false
  apart g p e plain = ne_eqb g s (plain_other (nearly (λ x. ⊥) places at w) s three g p e plain)

  path_out : (n g : ℕ) (p : FolderPlace) → find_place g places ≡ Some p → is_plain p ≡ true → list_any (λ h. h == s) (path_from n places g) ≡ false
  unfolding path_from
  path_out zero g p e plain = rw (apart g p e plain) refl
  path_out (suc n) g p e plain = elim (cases_Bool (g == ROOT)) [
    | inl t ↦ rw (apart g p e plain, t) refl
    | inr t ↦ let up = w.parents g p e (eqb-false g ROOT t) in rw (apart g p e plain, t, e) (path_out n p.parent.bits up.0 up.1 up.2)
  ]

  pub plain_out : (g : ℕ) (p : FolderPlace) → find_place g places ≡ Some p → is_plain p ≡ true → is_within places s g ≡ false
  plain_out g p e plain = path_out 64 g p e plain

-- What a command leaves of the searches that stay: those after it are some of those before, and their nodes, like all messages, are as they were; no folder but this one moved.
pub record Follows (X : Searching) (s : ℕ) (o : Coming) : Type 0 where
  pub own_ascend : keys_ascend (λ f. f) 0 o.own ≡ true
  pub ascend : keys_ascend search_id 0 o.searches ≡ true
  pub stays : (f : ℕ) → is_own o.own f ≡ true → is_own X.own f ≡ true
  pub found : (f : ℕ) → is_own o.own f ≡ true → find_search f o.searches ≡ find_search f X.searches
  pub among : (f : ℕ) (t : Search) → find_search f o.searches ≡ Some t → is_own o.own f ≡ true
  pub placed : (f : ℕ) → is_own o.own f ≡ true → IsSome (find_place f o.outcome.places)
  pub criteria : (f : ℕ) → is_own o.own f ≡ true → now_at X.tree o.outcome.changed (criteria_node f) ≡ object_at X.tree (criteria_node f)
  pub lists : (f : ℕ) → is_own o.own f ≡ true → now_at X.tree o.outcome.changed (results f) ≡ object_at X.tree (results f)
  pub values : (f : ℕ) (c : Ctx) → is_own o.own f ≡ true → now_at X.tree o.outcome.changed f ≡ Some (Context c) → TellsAs (object_at X.tree f) c
  pub messages : (q : ℕ) → as_message (now_at X.tree o.outcome.changed q) ≡ as_message (object_at X.tree q)
  pub places : (g : ℕ) → (g ≡ s → ⊥) → find_place g o.outcome.places ≡ find_place g X.tree.places

module _ (X : Searching) (s : ℕ) (o : Coming) (w : IsWhole X.tree) (are : AreSearches X) (three : s % 32 ≡ 3) (k : Follows X s o) where
  now : (q : ℕ) → object_at (after X o).tree q ≡ now_at X.tree o.outcome.changed q
  now q = ap (λ at. at q) (sym (after_now X.tree o.outcome))

  -- they are those of the tree
  pub searches_stay : AreSearches (after X o)
  searches_stay = record {
    own_ascend = k.own_ascend;
    ascend = k.ascend;
    among = k.among;
    kinds = λ f own. are.kinds f (k.stays f own);
    placed = k.placed;
    criteria = λ f own.
        let c = are.criteria f (k.stays f own) in let told = c.2 in
        (c.0, now (criteria_node f) ∙ k.criteria f own ∙ c.1, (told.0, told.1, k.found f own ∙ told.2));
    tables = λ f own. let t = are.tables f (k.stays f own) in (t.0, now (results f) ∙ k.lists f own ∙ t.1);
  }

  out : (m : ℕ) (M : Mes) → as_message (object_at X.tree m) ≡ Some M → is_within X.tree.places s M.folder ≡ false
  out m M e = let v = w.objects.held m M (is_message (object_at X.tree m) M e) in plain_out X.tree.places (object_at X.tree) w.objects s three M.folder v.0 v.1 v.2

  -- a search that stays lists what filtering lists, if it did
  fresh_still : (t : Search) → is_own o.own t.nid ≡ true → IsFresh X.tree t → IsFresh (after X o).tree t
  fresh_still t own f =
      let rows = f.0.table.rows in
      let old = are-rows X.tree t rows f.2 in (
        f.0,
        now (results t.nid) ∙ k.lists t.nid own ∙ f.1,
        rows-are (after X o).tree t rows old.0 (λ m. old.1 m ∙ sym (ap (is_listed o.outcome.places t) (ap as_message (now m) ∙ k.messages m)
            ∙ same-listed (λ g. g == s) X.tree.places o.outcome.places (λ g b. k.places g (eqb-false g s b)) t (as_message (object_at X.tree m)) (λ M e. out m M e))),
      )

  pub all_fresh : AllFresh X.tree X.searches → AllFresh (after X o).tree o.searches
  all_fresh fresh = each (λ t. find_search t.nid o.searches ≡ Some t) (λ t. runs t ≡ true → IsFresh (after X o).tree t) o.searches (each-found 0 o.searches k.ascend) (λ t e run.
      let own = k.among t.nid t e in
      fresh_still t own (each_at (λ u. runs u ≡ true → IsFresh X.tree u) X.searches t.nid t fresh (sym (k.found t.nid own) ∙ e) run))

  -- and shows it rightly, if it did
  pub all_show : AllShow X.tree X.searches → AllShow (after X o).tree o.searches
  all_show shows = each (λ t. find_search t.nid o.searches ≡ Some t) (λ t. runs t ≡ true → ShowsList (after X o).tree nothing t.nid) o.searches (each-found 0 o.searches k.ascend) (λ t e run.
      let own = k.among t.nid t e in
      tree-shows X.tree (after X o).tree t.nid (λ m. ap as_message (now m) ∙ k.messages m) (now (results t.nid) ∙ k.lists t.nid own) (λ c at. k.values t.nid c own (sym (now t.nid) ∙ at))
      (each_at (λ u. runs u ≡ true → ShowsList X.tree nothing u.nid) X.searches t.nid t shows (sym (k.found t.nid own) ∙ e) run))
