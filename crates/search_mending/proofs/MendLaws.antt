-- Mending a search leaves the tree in order.
use Rattle.std.proofs.Common.{◌≡◌, ◌∙◌, ℕ, ◌%◌, ◌<◌, ◌&&◌, ◌||◌, Bool, true, false, not, Option, None, Some, Ok, Err, IfOk, IsSome, is_some, ap, arith, refl, subst, sym, inl, inr}
use Rattle.std.specs.Prelude.{nat_eq}
use Rattle.std.specs.Cmp.Lexicographic.{pointwise}
use Rattle.std.specs.Option.{option_and_then, option_map}
use Rattle.std.proofs.lemmas.Bool.{cases_Bool, cases_eq}
use Rattle.mapi_values.specs.Keyed.{keys_ascend}
use Rattle.restr_eval.specs.Eval.{holds_of}
use Rattle.search_obj.specs.Changing.{migrated}
use Rattle.search_obj.specs.Crits.{Crit}
use Rattle.search_obj.specs.Writing.{written}
use Rattle.search_obj.specs.declared.criteria.Version.{Version}
use Rattle.search_obj.specs.declared.criteria.Version.TheVariants.{First, Second}
use Rattle.command_text.specs.declared.reply.CommandRefusal.TheVariants as refusals
use Rattle.command_text.specs.declared.reply.LastLine.TheVariants.{Done}
use Rattle.mail_objects.specs.Forms.{Ctx, Tbl}
use Rattle.mail_objects.specs.declared.object.Object.TheVariants.{Context, Table}
use Rattle.mail_tree.specs.declared.places.FolderPlace.{FolderPlace}
use Rattle.mail_tree.specs.Changing.{Answer, Changed, ◌>>=◌, as_context, as_message, as_table, beside, hierarchy, nothing, now_at, with_rows}
use Rattle.mail_tree.specs.Folders.{Outcome, changing, replied}
use Rattle.mail_tree.specs.Found.{IsFoundBeside}
use Rattle.mail_tree.specs.Places.{ROOT, find_place}
use Rattle.mail_tree.specs.Settling.{with_context}
use Rattle.mail_tree.specs.Step as tree
use Rattle.mail_tree.specs.Tree.{Tree, object_at}
use Rattle.mail_tree.specs.Whole.{AreWhole, Fine, IsWhole}
use Rattle.mail_tree.proofs.AfterTree.{after_now, now_nothing}
use Rattle.mail_tree.proofs.FineLaws.{after_context, after_table, after_test, fine_then, fine_weaker}
use Rattle.mail_tree.proofs.KindsOfPuts.{beside_kind, same_table}
use Rattle.mail_tree.proofs.Settles.{folders_of}
use Rattle.mail_tree.proofs.StoodLaws.{AreStood, IsNew, after_limits, fine_stood, none_stood, values_stood}
use Rattle.mail_laws.specs.Laws.{Counts, Mirrors}
use Rattle.mail_laws.proofs.Keeping.{both}
use Rattle.search_store.proofs.mail_store_laws.QuietLaws.{quiet}
use Rattle.mail_searches.specs.Building.{built_rows}
use Rattle.mail_searches.specs.Relisting.{with_results}
use Rattle.mail_searches.specs.Searches.{Search, ShowsCriteria, criteria_node, criteria_of, find_search, lists, results, row_ids, runs, search_id, search_of}
use Rattle.mail_searches.specs.Searching.{AreSearches, Each, IsOfSearch, Searching, is_own}
use Rattle.mail_searches.specs.Step.{after}
use Rattle.search_store.specs.search_folders.Pieces.{criteria_at}
use Rattle.search_lists.proofs.AfterOrder.{results_keep_order}
use Rattle.search_lists.specs.Keeps.{IsThere, KeepsOrder}
use Rattle.search_lists.specs.Laws.{MirrorsList, MirrorsMessage, ShowsList}
use Rattle.search_lists.proofs.ApartLaws.{each-found}
use Rattle.search_lists.proofs.SettleLaws.{each-two}
use Rattle.search_lists.proofs.ShowLaws.{after-shows, shows-still, tells-same, tree-mirrors, tree-tells}
use Rattle.search_laws.proofs.Attachments.{attachments_still}
use Rattle.search_laws.proofs.Marked.{marks_still}
use Rattle.search_laws.proofs.SettingLists.{AreBuilt, rows_built}
use Rattle.search_laws.proofs.SettingObject.{counts_after_object, found_after_object, messages_after_object, mirrors_after_object, object_puts, put_so, whole_after_object}
use Rattle.search_laws.proofs.SettingSteps.{Listed, results-listed}
use Rattle.search_mending.proofs.RowLaws.{stood_ascends, stood_ids, stood_shows}
use Rattle.search_mending.proofs.SaysLaws.{says_turned}
use Rattle.search_mending.proofs.StayLaws.{found_key, results_stood, same_lists, same_results, same_wrong, texts_same}
use Rattle.search_mending.proofs.TouchLaws.{HasNodes, IsAsIs, order_same, search_stays}
use Rattle.search_mending.specs.Laws.{IsAsBefore, IsElsewhere, IsMendable, IsMended, Mends, MendsInOrder, ShowsMendable}
use Rattle.search_mending.specs.Mending.{Mending, can_hold_any, is_first, is_stale, list_anew, list_if_wrong, list_of_any, lists_right, lists_wrong, mended_search, mending, mending_with, search_as_is, touched_if, turned, with_list, with_other_rows}

-- an answer is fine, and has a fact besides
fine-with : {A : Type 0} (P Q R : A → Type 0) (a : Answer A) → Fine a P → IfOk a Q → ((x : A) → P x → Q x → R x) → Fine a R
fine-with P Q R (Ok x) p q next = next x p q
fine-with P Q R (Err None) p q next = p
fine-with P Q R (Err (Some refusal)) p q next = tt

not-false : (b : Bool) → not b ≡ false → b ≡ true
not-false true e = refl
not-false false e = cc

second-is : (version : Version) → is_first version ≡ false → version ≡ Second
second-is First e = cc
second-is Second e = refl

same-some : {A : Type 0} (x y : A) → Some x ≡ Some y → x ≡ y
same-some x y e = cc

-- the nodes of one kind beside two searches are two
apart-nodes : (f g kind : ℕ) → f % 32 ≡ 3 → g % 32 ≡ 3 → kind < 32 → (f ≡ g → ⊥) → beside f kind ≡ beside g kind → ⊥
apart-nodes f g kind a b less other e = other (omega arith)

module _ (tidy : Bool) (X : Searching) (f : ℕ) (order : IsMendable tidy X) (own : is_own X.own f ≡ true) where
  abbrev T : Tree
  T = X.tree

  kind : f % 32 ≡ 3
  kind = order.searches.kinds f own

  -- ---- the list

  -- a list that was built anew
  record IsAnew (s : Search) (t : Tbl) : Type 0 where
    old : Tbl
    stood : object_at T (results f) ≡ Some (Table old)
    is : t ≡ with_other_rows t.table.rows old
    ascend : keys_ascend (λ r. r.0) 0 t.table.rows ≡ true
    lists_all : row_ids t.table.rows ≡ lists T s
    show_all : MirrorsList T nothing f → (m : ℕ) → MirrorsMessage t.table.columns t.table.rows m (as_message (object_at T m))

  -- the list that the search is to get, if it is to get one
  record HasList (list : Option Tbl) : Type 0 where
    told : is_some list ≡ is_stale X f
    built : (t : Tbl) → list ≡ Some t → (s : Search) × (find_search f X.searches ≡ Some s) × IsAnew s t

  anew : (s : Search) → s.nid ≡ f → Fine (list_anew T s) (IsAnew s)
  unfolding list_anew
  anew s id =
      let table = order.searches.tables f own in
      let old = table.0 in
      let stood : object_at T (results s.nid) ≡ Some (Table old) = ap (λ n. object_at T (results n)) id ∙ table.1 in
      after_table (IsAnew s) T nothing (results s.nid) old _ (ap (λ at. at (results s.nid)) (now_nothing T) ∙ stood)
      (fine_then (AreBuilt T s old.table.columns) (IsAnew s) (built_rows T s old.table.columns) _ (rows_built T s old.table.columns order.whole) (λ rows b. record {
        old = old;
        stood = table.1;
        is = refl;
        ascend = stood_ascends 0 old.table.rows rows ∙ b.ascend;
        lists_all = stood_ids old.table.rows rows ∙ b.lists_all;
        show_all = λ mirrors m. stood_shows old.table.columns old.table.rows rows m (as_message (object_at T m))
            (subst (MirrorsMessage old.table.columns old.table.rows m) (ap (λ at. as_message (at m)) (now_nothing T)) (mirrors old (ap (λ at. at (results f)) (now_nothing T) ∙ table.1) m)) (b.show_all m);
      }))

  none-listed : (b : Bool) → b ≡ false → is_stale X f ≡ b → HasList None
  none-listed b not is = record { told = sym (is ∙ not); built = λ t e. cc }

  list-found : (o : Option Search) → find_search f X.searches ≡ o → Fine (list_of_any T o) HasList
  unfolding list_if_wrong
  list-found None e = none-listed false refl (ap (holds_of (lists_wrong T)) e)
  list-found (Some s) e = elim (cases_Bool (runs s)) [
    | inr halted ↦ rw halted (none-listed (lists_wrong T s) (ap (λ b. b && not (lists_right T s)) halted) (ap (holds_of (lists_wrong T)) e))
    | inl run ↦ rw run (fine_then (IsAnew s) HasList (list_anew T s) _ (anew s (found_key search_id f X.searches s e)) (λ t new. elim (cases_Bool (lists_right T s)) [
      | inl right ↦ rw right (none-listed (lists_wrong T s) (ap (λ b. b && not (lists_right T s)) run ∙ ap not right) (ap (holds_of (lists_wrong T)) e))
      | inr wrong ↦ rw wrong (record {
        told = sym (ap (holds_of (lists_wrong T)) e ∙ ap (λ b. b && not (lists_right T s)) run ∙ ap not wrong);
        built = λ u same. (s, e, subst (IsAnew s) (same-some t u same) new);
      })
    ]))
  ]

  -- ---- the criteria object

  record HasCriteria (p : Ctx × Crit) : Type 0 where
    at : object_at T (criteria_node f) ≡ Some (Context p.0)
    says : criteria_of p.0.props ≡ Some p.1
    shows : find_search f X.searches ≡ option_map (search_of f) p.1.set

  criteria-found : Fine (criteria_at T f) HasCriteria
  unfolding criteria_at
  criteria-found =
      let object = order.searches.criteria f own in
      let now : now_at T nothing (criteria_node f) ≡ Some (Context object.0) = ap (λ at. at (criteria_node f)) (now_nothing T) ∙ object.1 in
      after_context HasCriteria T nothing (criteria_node f) object.0 _ now (rw object.2.1 (record { at = object.1; says = object.2.1; shows = object.2.2 }))

  node : criteria_node f % 32 ≡ 7
  node = beside_kind f 7 (omega arith)

  abbrev said : Changed → Outcome
  said D = put_so T (replied Done) D

  -- What the object leaves, in the version in which it now says its criteria.
  record Turns (k : Crit) (D : Changed) : Type 0 where
    stood : AreStood T (IsNew None) D
    others : (q : ℕ) → (q ≡ criteria_node f → ⊥) → now_at T D q ≡ object_at T q
    messages : (m : ℕ) → as_message (now_at T D m) ≡ as_message (object_at T m)
    whole : IsWhole (tree.after T (said D))
    found : IsFoundBeside (IsOfSearch X.own) (tree.after T (said D))
    mirrors : tidy ≡ true → Mirrors (tree.after T (said D))
    counts : tidy ≡ true → Counts (tree.after T (said D))
    here : (c : Ctx) × (now_at T D (criteria_node f) ≡ Some (Context c)) × (criteria_of c.props ≡ Some (migrated k))

  first-turns : (c : Ctx) (k : Crit) → HasCriteria (c, k) → can_hold_any k.set ≡ true → Turns k (with_context (criteria_node f) c (written (migrated k) c.props) nothing)
  first-turns c k h holds =
      let q = criteria_node f in
      let props = written (migrated k) c.props in
      let puts = object_puts T q c props (replied Done) node h.at in
      record {
        stood = values_stood T (IsNew None) q c (record c { props = props }) nothing (none_stood T (IsNew None)) (ap (λ at. at q) (now_nothing T) ∙ h.at);
        others = puts.others;
        messages = messages_after_object T q c props (replied Done) node h.at;
        whole = whole_after_object T q c props (replied Done) node h.at order.whole;
        found = found_after_object T q c props (replied Done) node h.at (IsOfSearch X.own) (f, own, inr (inl refl)) order.found;
        mirrors = λ t. mirrors_after_object T q c props (replied Done) node h.at order.whole (order.mirrors t);
        counts = λ t. counts_after_object T q c props (replied Done) node h.at order.whole (order.counts t);
        here = (record c { props = props }, puts.here, says_turned k c.props h.says holds);
      }

  nothing-turns : (c : Ctx) (k : Crit) → HasCriteria (c, k) → k.version ≡ Second → Turns k nothing
  nothing-turns c k h second =
      let same : tree.after T (said nothing) ≡ T = quiet T (said nothing) (λ none. (refl, refl)) refl in
      let is : k ≡ migrated k = λ i. record { version = second i; set = k.set } in
      record {
        stood = none_stood T (IsNew None);
        others = λ q other. ap (λ at. at q) (now_nothing T);
        messages = λ m. ap (λ at. as_message (at m)) (now_nothing T);
        whole = subst IsWhole (sym same) order.whole;
        found = subst (IsFoundBeside (IsOfSearch X.own)) (sym same) order.found;
        mirrors = λ t. subst Mirrors (sym same) (order.mirrors t);
        counts = λ t. subst Counts (sym same) (order.counts t);
        here = (c, ap (λ at. at (criteria_node f)) (now_nothing T) ∙ h.at, h.says ∙ ap Some is);
      }

  turned-fine : (c : Ctx) (k : Crit) → HasCriteria (c, k) → Fine (turned f c k) (Turns k)
  unfolding turned
  turned-fine c k h = elim (cases_Bool (is_first k.version)) [
    | inl first ↦ rw first (after_test (Turns k) (not (can_hold_any k.set)) refusals.Criteria _ (λ e. first-turns c k h (not-false (can_hold_any k.set) e)))
    | inr second ↦ rw second (nothing-turns c k h (second-is k.version second))
  ]

  -- ---- both

  -- What both leave.
  record Sets (list : Option Tbl) (D1 D : Changed) : Type 0 where
    keeps : KeepsOrder T (said D1) D
    stood : AreStood T (IsNew None) D
    others : (q : ℕ) → (q ≡ results f → ⊥) × ((q ≡ f → ⊥) × (q % 32 ≡ 13 → ⊥)) → now_at T D q ≡ now_at T D1 q
    here : (t : Tbl) → list ≡ Some t → now_at T D (results f) ≡ Some (Table t)
    none : list ≡ None → (q : ℕ) → now_at T D q ≡ now_at T D1 q
    shows : (t : Tbl) → list ≡ Some t → MirrorsList T nothing f → ShowsList T D f

  list-kind : results f % 32 ≡ 16
  list-kind = beside_kind f 16 (omega arith)

  sets-fine : (list : Option Tbl) → HasList list → (k : Crit) (D1 : Changed) → Turns k D1 → Fine (with_list T f list D1) (Sets list D1)
  sets-fine None h k D1 turns = record {
    keeps = record { whole = λ w. w; found = λ own f. f; mirrors = λ w m. m; counts = λ w k. k; criteria = λ q is. refl; messages = λ q. refl; tables = λ q t is e. (t, e) };
    stood = turns.stood;
    others = λ q other. refl;
    here = λ t e. cc;
    none = λ e q. refl;
    shows = λ t e. cc;
  }
  sets-fine (Some t) h k D1 turns =
      let b = (h.built t refl).2 in
      let rows = t.table.rows in
      let apart : results f ≡ criteria_node f → ⊥ = λ e. omega (arith, e, list-kind, node) in
      let table : now_at T D1 (results f) ≡ Some (Table b.old) = turns.others (results f) apart ∙ b.stood in
      let there : IsThere T (said D1) f = record { kind = kind; placed = order.searches.placed f own; table = (b.old, table) } in
      let same : with_results T f rows b.old D1 ≡ with_results T f rows t D1 = same_results T f rows b.old t D1 (sym (ap (with_rows rows) b.is)) in
      let kept = subst (λ a. Fine a (KeepsOrder T (said D1))) same (results_keep_order T (said D1) f rows b.old order.whole turns.whole there table b.ascend) in
      fine-with (λ D. KeepsOrder T (said D1) D × AreStood T (IsNew None) D) (Listed T f kind rows t D1) (Sets (Some t) D1) (with_results T f rows t D1)
      (fine_stood (KeepsOrder T (said D1)) (AreStood T (IsNew None)) (with_results T f rows t D1) kept (results_stood T (IsNew None) f rows t D1 turns.stood))
      (results-listed T f kind rows t D1)
      (λ D p listed. record {
        keeps = p.0;
        stood = p.1;
        others = listed.others;
        here = λ u e. listed.here ∙ ap (λ (x : Tbl). Some (Table x)) (same-some t u e);
        none = λ e. cc;
        shows = λ u e mirrors. record {
          mirrors = λ v is m.
              let message : as_message (now_at T D m) ≡ as_message (object_at T m) = p.0.messages m ∙ turns.messages m in
              subst (λ (x : Tbl). MirrorsMessage x.table.columns x.table.rows m (as_message (now_at T D m))) (same_table t v (sym listed.here ∙ is))
              (subst (MirrorsMessage t.table.columns rows m) (sym message) (b.show_all mirrors m));
          counts = listed.tells;
        };
      })

  -- all nodes of the search stand there
  nodes-there : (list : Option Tbl) (k : Crit) (D1 D : Changed) → Turns k D1 → Sets list D1 D → HasNodes T D f
  nodes-there list k D1 D turns sets =
      let w = subst (AreWhole T.places) (sym (after_now T (said D))) (sets.keeps.whole turns.whole).objects in
      let p = placed-there (find_place f T.places) (order.searches.placed f own) in
      let c = w.contexts f p.0 p.1 in
      let no_root : f ≡ ROOT → ⊥ = λ e. omega (arith, e, kind) in
      let up = w.parents f p.0 p.1 no_root in
      let u = folders_of w p.0.parent.bits up.0 up.1 up.2 in
      let old = order.searches.tables f own in
      let before : now_at T D1 (results f) ≡ Some (Table old.0) = turns.others (results f) (λ e. omega (arith, e, list-kind, node)) ∙ old.1 in
      record {
        values = (c.0, c.1, (u.0, ap (λ q. now_at T D (hierarchy q)) (c.2 no_root) ∙ u.1));
        criteria = (turns.here.0, sets.keeps.criteria (criteria_node f) node ∙ turns.here.1);
        list = sets.keeps.tables (results f) old.0 list-kind before;
      }
    where
      placed-there : (found : Option FolderPlace) → IsSome found → (p : FolderPlace) × (found ≡ Some p)
      placed-there (Some p) there = (p, refl)
      placed-there None there = cc

  -- and stay as they are where they are put again
  sets-same : (list : Option Tbl) (D1 D D' : Changed) → Sets list D1 D → IsAsIs T D D' → Sets list D1 D'
  sets-same list D1 D D' sets still = record {
    keeps = order_same T (said D1) D D' still sets.keeps;
    stood = still.stood sets.stood;
    others = λ q other. ap (λ at. at q) still.now ∙ sets.others q other;
    here = λ t e. ap (λ at. at (results f)) still.now ∙ sets.here t e;
    none = λ e q. ap (λ at. at q) still.now ∙ sets.none e q;
    shows = λ t e mirrors. shows-still T T D D' f (λ m. ap (λ at. as_message (at m)) still.now) (ap (λ at. at (results f)) still.now) (λ c at. tells-same (now_at T D f) c (sym (ap (λ at. at f) still.now) ∙ at)) (sets.shows t e mirrors);
  }

  touched-fine : (b : Bool) (list : Option Tbl) (k : Crit) (D1 D : Changed) → Turns k D1 → Sets list D1 D → Fine (touched_if b T f D) (Sets list D1)
  touched-fine false list k D1 D turns sets = sets
  touched-fine true list k D1 D turns sets =
      fine_weaker (IsAsIs T D) (Sets list D1) (search_as_is T f D) (search_stays T f D (nodes-there list k D1 D turns sets)) (λ D' still. sets-same list D1 D D' sets still)

  -- What was made of a search.
  module _ (list : Option Tbl) (c : Ctx) (k : Crit) (D1 D : Changed) (has : HasList list) (h : HasCriteria (c, k)) (turns : Turns k D1) (sets : Sets list D1 D) where
    abbrev Y : Searching
    Y = after X (mending X list k (said D)).coming

    at-now : (q : ℕ) → object_at Y.tree q ≡ now_at T D q
    at-now q = ap (λ g. g q) (sym (after_now T (said D)))

    messages-now : (m : ℕ) → as_message (object_at Y.tree m) ≡ as_message (object_at T m)
    messages-now m = ap as_message (at-now m) ∙ sets.keeps.messages m ∙ turns.messages m

    lists-now : (s : Search) → lists Y.tree s ≡ lists T s
    lists-now s = same_lists T Y.tree s refl messages-now

    all-else : (q : ℕ) → IsElsewhere f q → object_at Y.tree q ≡ object_at T q
    all-else q e = at-now q ∙ sets.others q (e.list, (e.values, e.shows)) ∙ turns.others q e.criteria

    -- a node beside another search, of a kind that isn't that of a table of folders nor that of a folder
    beside-else : (g n : ℕ) → g % 32 ≡ 3 → (g ≡ f → ⊥) → n < 32 → (n ≡ 13 → ⊥) → (n ≡ 3 → ⊥) → IsElsewhere f (beside g n)
    beside-else g n three other less not13 not3 = record {
      list = λ e. by-kind 16 (omega arith) e;
      criteria = λ e. by-kind 7 (omega arith) e;
      values = λ e. not3 (sym (beside_kind g n less) ∙ ap (λ x. x % 32) e ∙ kind);
      shows = λ e. not13 (sym (beside_kind g n less) ∙ e);
    }
      where
        by-kind : (m : ℕ) → m < 32 → beside g n ≡ beside f m → ⊥
        by-kind m small e =
            let same : n ≡ m = sym (beside_kind g n less) ∙ ap (λ x. x % 32) e ∙ beside_kind f m small in
            apart-nodes g f n three kind less other (e ∙ ap (beside f) (sym same))

    criteria-now : (g : ℕ) → is_own X.own g ≡ true → (c' : Ctx) × (object_at Y.tree (criteria_node g) ≡ Some (Context c')) × ShowsCriteria X.searches g c'.props
    criteria-now g is = elim (cases_eq g f) [
      | inl same ↦
          let said-now = turns.here in
          let stands = at-now (criteria_node f) ∙ sets.keeps.criteria (criteria_node f) node ∙ said-now.1 in
          subst (λ x. (c' : Ctx) × (object_at Y.tree (criteria_node x) ≡ Some (Context c')) × ShowsCriteria X.searches x c'.props) (sym same) (said-now.0, stands, (migrated k, said-now.2, h.shows))
      | inr other ↦
          let old = order.searches.criteria g is in
          (old.0, all-else (criteria_node g) (beside-else g 7 (order.searches.kinds g is) other (omega arith) (λ e. omega arith) (λ e. omega arith)) ∙ old.1, old.2)
    ]

    tables-now : (g : ℕ) → is_own X.own g ≡ true → (t : Tbl) × (object_at Y.tree (results g) ≡ Some (Table t))
    tables-now g is =
        let w = order.searches.tables g is in
        let sixteen = beside_kind g 16 (omega arith) in
        let before : now_at T D1 (results g) ≡ Some (Table w.0) = turns.others (results g) (λ e. omega (arith, e, sixteen, node)) ∙ w.1 in
        let u = sets.keeps.tables (results g) w.0 sixteen before in
        (u.0, at-now (results g) ∙ u.1)

    searches-now : AreSearches Y
    searches-now = record {
      own_ascend = order.searches.own_ascend;
      ascend = order.searches.ascend;
      among = order.searches.among;
      kinds = order.searches.kinds;
      placed = order.searches.placed;
      criteria = criteria-now;
      tables = tables-now;
    }

    -- another search is as it was
    as-before : (g : ℕ) → is_own X.own g ≡ true → (g ≡ f → ⊥) → IsAsBefore X Y g
    as-before g is other = record {
      stale = by-search (find_search g X.searches) refl;
      first = ap (λ o. holds_of (λ (k : Crit). is_first k.version) (option_and_then (λ (c : Ctx). criteria_of c.props) (as_context o)))
          (all-else (criteria_node g) (beside-else g 7 (order.searches.kinds g is) other (omega arith) (λ e. omega arith) (λ e. omega arith)));
    }
      where
        by-search : (o : Option Search) → find_search g X.searches ≡ o → holds_of (lists_wrong Y.tree) o ≡ holds_of (lists_wrong T) o
        by-search None e = refl
        by-search (Some s) e =
            let id : s.nid ≡ g = found_key search_id g X.searches s e in
            let table = all-else (results g) (beside-else g 16 (order.searches.kinds g is) other (omega arith) (λ e. omega arith) (λ e. omega arith)) in
            same_wrong T Y.tree s (lists-now s) (subst (λ n. object_at Y.tree (results n) ≡ object_at T (results n)) (sym id) table)

    -- another search shows what it showed
    shows-other : (s : Search) → find_search s.nid X.searches ≡ Some s → (s.nid ≡ f → ⊥) → ShowsMendable X s → ShowsMendable Y s
    shows-other s found other old =
        let is = order.searches.among s.nid s found in
        let three = order.searches.kinds s.nid is in
        let table = all-else (results s.nid) (beside-else s.nid 16 three other (omega arith) (λ e. omega arith) (λ e. omega arith)) in
        let values = all-else s.nid (record { list = λ e. omega (arith, e, three, list-kind); criteria = λ e. omega (arith, e, three, node); values = other; shows = λ e. omega (arith, e, three) }) in
        record {
          mirrors = λ run. tree-mirrors T Y.tree s.nid messages-now table (old.mirrors run);
          counts = λ run fresh. tree-tells T Y.tree s.nid messages-now table (λ c at. tells-same (object_at T s.nid) c (sym values ∙ at)) (old.counts run (sym (as-before s.nid is other).stale ∙ fresh));
        }

    -- this one shows it rightly, anew or as it did
    shows-here : (l : Option Tbl) → list ≡ l → (s : Search) → s.nid ≡ f → ShowsMendable X s → ShowsMendable Y s
    shows-here (Some t) e s id old =
        let shows : runs s ≡ true → ShowsList Y.tree nothing s.nid = λ run.
        subst (λ g. ShowsList Y.tree nothing g) (sym id) (after-shows T Y.tree D f at-now (sets.shows t e (subst (MirrorsList T nothing) id (old.mirrors run)))) in
        record { mirrors = λ run. (shows run).mirrors; counts = λ run fresh. (shows run).counts }
    shows-here None e s id old =
        let table : object_at Y.tree (results s.nid) ≡ object_at T (results s.nid) = subst (λ g. object_at Y.tree (results g) ≡ object_at T (results g)) (sym id)
        (at-now (results f) ∙ sets.none e (results f) ∙ turns.others (results f) (λ a. omega (arith, a, list-kind, node))) in
        let values : object_at Y.tree s.nid ≡ object_at T s.nid = subst (λ g. object_at Y.tree g ≡ object_at T g) (sym id) (at-now f ∙ sets.none e f ∙ turns.others f (λ a. omega (arith, a, kind, node))) in
        record {
          mirrors = λ run. tree-mirrors T Y.tree s.nid messages-now table (old.mirrors run);
          counts = λ run fresh. tree-tells T Y.tree s.nid messages-now table (λ c at. tells-same (object_at T s.nid) c (sym values ∙ at)) (old.counts run (ap (is_stale X) id ∙ sym has.told ∙ ap is_some e));
        }

    shows-now : Each (ShowsMendable X) X.searches → Each (ShowsMendable Y) X.searches
    shows-now shows = each-two (λ s. find_search s.nid X.searches ≡ Some s) (ShowsMendable X) (ShowsMendable Y) X.searches (each-found 0 X.searches order.searches.ascend) shows (λ s found old. elim (cases_eq s.nid f) [
      | inl same ↦ shows-here list refl s same old
      | inr other ↦ shows-other s found other old
    ])

    order-now : IsMendable tidy Y
    order-now = record {
      whole = sets.keeps.whole turns.whole;
      found = sets.keeps.found X.own turns.found;
      mirrors = λ t. sets.keeps.mirrors turns.whole (turns.mirrors t);
      counts = λ t. sets.keeps.counts turns.whole (turns.counts t);
      attachments = λ t. attachments_still T Y.tree messages-now (order.attachments t);
      lists = λ t. shows-now (order.lists t);
      searches = searches-now;
      marked = marks_still X (said D) X.searches order.marked (λ g three other. refl);
    }

    -- where nothing is to be listed anew it is fresh
    kept-fresh : list ≡ None → is_stale Y f ≡ false
    kept-fresh none = by-search (find_search f X.searches) refl (sym has.told ∙ ap is_some none)
      where
        by-search : (o : Option Search) → find_search f X.searches ≡ o → holds_of (lists_wrong T) o ≡ false → holds_of (lists_wrong Y.tree) o ≡ false
        by-search None e fresh = refl
        by-search (Some s) e fresh =
            let id : s.nid ≡ f = found_key search_id f X.searches s e in
            let table : object_at Y.tree (results f) ≡ object_at T (results f) = at-now (results f) ∙ sets.none none (results f) ∙ turns.others (results f) (λ e. omega (arith, e, list-kind, node)) in
            same_wrong T Y.tree s (lists-now s) (subst (λ n. object_at Y.tree (results n) ≡ object_at T (results n)) (sym id) table) ∙ fresh

    -- and where something is
    built-fresh : (t : Tbl) → list ≡ Some t → is_stale Y f ≡ false
    built-fresh t some =
        let b = has.built t some in
        let s = b.0 in
        let id : s.nid ≡ f = found_key search_id f X.searches s b.1 in
        let table : as_table (object_at Y.tree (results s.nid)) ≡ Some t = ap (λ n. as_table (object_at Y.tree (results n))) id ∙ ap as_table (at-now (results f) ∙ sets.here t some) in
        let ids : row_ids t.table.rows ≡ lists Y.tree s = b.2.lists_all ∙ sym (lists-now s) in
        let right : lists_right Y.tree s ≡ true = ap (holds_of (λ (u : Tbl). pointwise nat_eq (row_ids u.table.rows) (lists Y.tree s))) table ∙ ap (λ x. pointwise nat_eq x (lists Y.tree s)) ids ∙ texts_same (lists Y.tree s) in
        ap (holds_of (lists_wrong Y.tree)) b.1 ∙ and-not (runs s) (lists_right Y.tree s) right
      where
        and-not : (a b : Bool) → b ≡ true → (a && not b) ≡ false
        and-not true b e = ap not e
        and-not false b e = refl

    fresh-now : (l : Option Tbl) → list ≡ l → is_stale Y f ≡ false
    fresh-now None e = kept-fresh e
    fresh-now (Some t) e = built-fresh t e

    mended-now : IsMended Y f
    mended-now = record {
      fresh = fresh-now list refl;
      second =
          let stands = at-now (criteria_node f) ∙ sets.keeps.criteria (criteria_node f) node ∙ turns.here.1 in
          ap (λ o. holds_of (λ (k : Crit). is_first k.version) (option_and_then (λ (c : Ctx). criteria_of c.props) (as_context o))) stands ∙ ap (holds_of (λ (k : Crit). is_first k.version)) turns.here.2;
    }

    mends : Mends tidy X f (mending X list k (said D))
    mends = record {
      stale = has.told;
      first = sym (ap (λ o. holds_of (λ (k : Crit). is_first k.version) (option_and_then (λ (c : Ctx). criteria_of c.props) (as_context o))) h.at ∙ ap (holds_of (λ (k : Crit). is_first k.version)) h.says);
      order = order-now;
      own = refl;
      searches = refl;
      places = refl;
      all_else = all-else;
      here = mended-now;
      others = as-before;
    }

  with-fine : (list : Option Tbl) → HasList list → (p : Ctx × Crit) → HasCriteria p → Fine (mending_with X f list p) (Mends tidy X f)
  unfolding mending_with
  with-fine list has p h =
      let k = p.1 in
      let made : Outcome → Mending = mending X list k in
      let Facts : Changed → Type 0 = λ D. (D1 : Changed) × Turns k D1 × Sets list D1 D in
      let b = is_some list || is_first k.version in
      fine_then (λ o. Mends tidy X f (made o)) (Mends tidy X f) (turned f p.0 k >>= with_list T f list >>= touched_if b T f >>= changing T (replied Done)) _
      (fine_then Facts (λ o. Mends tidy X f (made o)) (turned f p.0 k >>= with_list T f list >>= touched_if b T f) (changing T (replied Done))
      (fine_then Facts Facts (turned f p.0 k >>= with_list T f list) (touched_if b T f)
      (fine_then (Turns k) Facts (turned f p.0 k) (with_list T f list) (turned-fine p.0 k h) (λ D1 turns.
      fine_weaker (Sets list D1) Facts (with_list T f list D1) (sets-fine list has k D1 turns) (λ D sets. (D1, turns, sets))))
      (λ D facts. fine_weaker (Sets list facts.0) Facts (touched_if b T f D) (touched-fine b list k facts.0 D facts.1 facts.2) (λ D' sets. (facts.0, facts.1, sets))))
      (λ D facts. after_limits (λ o. Mends tidy X f (made o)) T None D _ facts.2.stood (mends list p.0 k facts.0 D has h facts.1 facts.2)))
      (λ o is. is)

  search-fine : Fine (mended_search X f) (Mends tidy X f)
  unfolding mended_search
  search-fine =
      fine_then HasList (Mends tidy X f) (list_of_any T (find_search f X.searches)) _ (list-found (find_search f X.searches) refl) (λ list has.
      fine_then HasCriteria (Mends tidy X f) (criteria_at T f) (mending_with X f list) criteria-found (λ p h. with-fine list has p h))

pub mends_in_order : MendsInOrder
mends_in_order tidy X f order own = search-fine tidy X f order own
