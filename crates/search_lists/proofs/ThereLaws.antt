-- Searches whose nodes are there are settled.
use Rattle.std.proofs.Common.{◌≡◌, ◌∙◌, ℕ, ◌%◌, ◌==◌, ◌||◌, ◌&&◌, Bool, true, false, List, [], ◌∷◌, length, Option, None, Some, IfOk, IsSome, Ok, Err, ap, sym, refl, inl, inr, arith}
use Rattle.std.proofs.lemmas.Bool.{cases_Bool, cases_eq, eq-eqb, false≢true, ne_eqb}
use Rattle.std.specs.List.{list_any}
use Rattle.std.specs.Option.{is_none, is_some}
use Rattle.std.specs.FinMap as map
use Rattle.mapi_values.specs.Messages.{Mes}
use Rattle.mapi_values.specs.Tables.{find_row}
use Rattle.mapi_values.specs.Values.{Val}
use Rattle.mail_objects.specs.Forms.{Ctx, Tbl}
use Rattle.mail_objects.specs.declared.object.Object.{Object}
use Rattle.mail_objects.specs.declared.object.Object.TheVariants.{Context, Table}
use Rattle.mail_tree.specs.Changing.{Answer, Changed, as_message, hierarchy, newest, now_at, put_shown, shown_row, with_object, with_rows}
use Rattle.mail_tree.specs.Places.{ROOT}
use Rattle.mail_tree.specs.Settling.{mirrored}
use Rattle.mail_tree.specs.Tree.{Tree, object_at}
use Rattle.mail_tree.specs.Ids.{is_taken}
use Rattle.mail_tree.proofs.KindsOfPuts.{beside_kind}
use Rattle.mail_tree.specs.Values.{with_counts}
use Rattle.mail_tree.specs.Whole.{Fine, IsWhole}
use Rattle.mail_tree.proofs.AfterTree.{puts_object}
use Rattle.mail_tree.proofs.FineLaws.{after_context, after_table, fine_either, fine_then, fine_weaker}
use Rattle.mail_tree.proofs.Nearly.{Puts}
use Rattle.mail_searches.specs.Searches.{Search, results, runs}
use Rattle.mail_searches.specs.Relisting.{Around, Touch, concerns, counted_search, named, relisted, settled_search, settled_searches, takes_row, unread, with_results}
use Rattle.mail_searches.specs.Searching.{Each}
use Rattle.search_lists.specs.Laws.{AreApart, HasNodes, SettlesThere}
use Rattle.search_lists.proofs.ClearLaws.{none_unclear}
use Rattle.search_lists.proofs.SettleLaws.{each}

-- tables stay tables, and values stay values with their parents
record SameForms (at at' : ℕ → Option Object) : Type 0 where
  tables : (q : ℕ) (t : Tbl) → at q ≡ Some (Table t) → (u : Tbl) × (at' q ≡ Some (Table u))
  contexts : (q : ℕ) (c : Ctx) → at q ≡ Some (Context c) → (k : Ctx) × (at' q ≡ Some (Context k)) × (k.parent ≡ c.parent)

same_context : (c k : Ctx) → ◌≡◌ {A = Option Object} (Some (Context c)) (Some (Context k)) → c ≡ k
same_context c k e = cc

apart : (t : Tbl) (c : Ctx) → ◌≡◌ {A = Option Object} (Some (Table t)) (Some (Context c)) → ⊥
apart t c e = cc

put-table : (at at' : ℕ → Option Object) (q : ℕ) (t u : Tbl) → Puts at at' q (Some (Table u)) → at q ≡ Some (Table t) → SameForms at at'
put-table at at' q t u puts there = record {
  tables = λ x v is. elim (cases_eq x q) [
    | inl e ↦ (u, ap at' e ∙ puts.here)
    | inr n ↦ (v, puts.others x n ∙ is)
  ];
  contexts = λ x c is. elim (cases_eq x q) [
    | inl e ↦ absurd (apart t c (sym there ∙ ap at (sym e) ∙ is))
    | inr n ↦ (c, puts.others x n ∙ is, refl)
  ];
}

put-context : (at at' : ℕ → Option Object) (q : ℕ) (c k : Ctx) → Puts at at' q (Some (Context k)) → at q ≡ Some (Context c) → k.parent ≡ c.parent → SameForms at at'
put-context at at' q c k puts there parent = record {
  tables = λ x v is. elim (cases_eq x q) [
    | inl e ↦ absurd (apart v c (sym is ∙ ap at e ∙ there))
    | inr n ↦ (v, puts.others x n ∙ is)
  ];
  contexts = λ x c' is. elim (cases_eq x q) [
    | inl e ↦ (k, ap at' e ∙ puts.here, parent ∙ ap (λ (y : Ctx). y.parent) (same_context c c' (sym there ∙ ap at (sym e) ∙ is)))
    | inr n ↦ (c', puts.others x n ∙ is, refl)
  ];
}

forms-stay : (at : ℕ → Option Object) → SameForms at at
forms-stay at = record { tables = λ q t is. (t, is); contexts = λ q c is. (c, is, refl) }

forms-then : (at at' at'' : ℕ → Option Object) → SameForms at at' → SameForms at' at'' → SameForms at at''
forms-then at at' at'' a b = record {
  tables = λ q t is. let u = a.tables q t is in b.tables q u.0 u.1;
  contexts = λ q c is. let k = a.contexts q c is in let l = b.contexts q k.0 k.1 in (l.0, l.1, l.2 ∙ k.2);
}

-- the root is no search
no-root : (f : ℕ) → f % 32 ≡ 3 → f ≡ ROOT → ⊥
no-root f search e = omega (arith, e, search)

module _ (T : Tree) (w : IsWhole T) where
  abbrev Forms : Changed → Changed → Type 0
  Forms D D' = SameForms (now_at T D) (now_at T D')

  shown-there : (q id : ℕ) (props : List Val) (D : Changed) (t : Tbl) → now_at T D q ≡ Some (Table t) → Fine (put_shown T q id props D) (Forms D)
  unfolding put_shown
  shown-there q id props D t there =
      let u : Tbl = record { parent = t.parent; table = record t.table { rows = shown_row id props t.table } } in
      after_table (Forms D) T D q t _ there (put-table (now_at T D) _ q t u (puts_object T D q (Some (with_rows (shown_row id props t.table) t))) there)

  mirrored-there : (f : ℕ) (D : Changed) (c : Ctx) (t : Tbl) → f % 32 ≡ 3 → now_at T D f ≡ Some (Context c) → now_at T D (hierarchy c.parent) ≡ Some (Table t) → Fine (mirrored T f D) (Forms D)
  unfolding mirrored
  mirrored-there f D c t search is there = rw (ne_eqb f ROOT (no-root f search)) (after_context (Forms D) T D f c _ is (shown-there (hierarchy c.parent) f c.props D t there))

  counted-there : (s : ℕ) (rows : List (ℕ × List Val)) (D : Changed) (c : Ctx) → now_at T D s ≡ Some (Context c) → Fine (counted_search T s rows D) (Forms D)
  unfolding counted_search
  counted-there s rows D c is =
      let props = with_counts (length (named T D rows)) (length (unread (named T D rows))) false c.props in
      let k : Ctx = record c { props = props } in
      after_context (Forms D) T D s c _ is (rw (none_unclear T D rows w) (put-context (now_at T D) _ s c k (puts_object T D s (Some (Context k))) is refl))

  -- the nodes of a search are there still
  nodes-stay : (D D' : Changed) → Forms D D' → (s : Search) → HasNodes T D s → HasNodes T D' s
  nodes-stay D D' same s has =
      let table = same.tables (results s.nid) has.0.0 has.0.1 in
      let c = same.contexts s.nid has.1.0 has.1.1 in
      let up = same.tables (hierarchy has.1.0.parent) has.1.2.0 has.1.2.1 in
      ((table.0, table.1), (c.0, c.1, (up.0, ap (λ f. now_at T D' (hierarchy f)) c.2 ∙ up.1)))

  results-there : (s : Search) (rows : List (ℕ × List Val)) (D : Changed) → s.nid % 32 ≡ 3 → (has : HasNodes T D s) → Fine (with_results T s.nid rows has.0.0 D) (Forms D)
  unfolding with_results
  results-there s rows D search has =
      let t = has.0.0 in
      let u : Tbl = record { parent = t.parent; table = record t.table { rows = rows } } in
      let D1 = with_object (results s.nid) (Some (with_rows rows t)) D in
      let first : Forms D D1 = put-table (now_at T D) (now_at T D1) (results s.nid) t u (puts_object T D (results s.nid) (Some (with_rows rows t))) has.0.1 in
      let has1 = nodes-stay D D1 first s has in
      fine_then (Forms D1) (Forms D) (counted_search T s.nid rows D1) (mirrored T s.nid) (counted-there s.nid rows D1 has1.1.0 has1.1.1) (λ D2 second.
      let has2 = nodes-stay D1 D2 second s has1 in
      fine_weaker (Forms D2) (Forms D) (mirrored T s.nid D2) (mirrored-there s.nid D2 has2.1.0 has2.1.2.0 search has2.1.1 has2.1.2.1)
      (λ D3 third. forms-then (now_at T D) (now_at T D1) (now_at T D3) first (forms-then (now_at T D1) (now_at T D2) (now_at T D3) second third)))

  module _ (d : Around) (ts : List Touch) where
    search-there : (s : Search) (D : Changed) → s.nid % 32 ≡ 3 → HasNodes T D s → Fine (settled_search T d ts s D) (Forms D)
    unfolding settled_search
    search-there s D search has =
        let t = has.0.0 in
        fine_either (Forms D) (concerns d s ts) _ (Ok D)
        (λ b. after_table (Forms D) T D (results s.nid) t _ has.0.1 (fine_either (Forms D) (runs s || takes_row t.table.rows ts) _ (Ok D) (λ c. results-there s (relisted d s t.table.columns ts t.table.rows) D search has) (λ c. forms-stay (now_at T D))))
        (λ b. forms-stay (now_at T D))

    searches-there : (ss : List Search) (D : Changed) → AreApart ss → Each (HasNodes T D) ss → Fine (settled_searches T d ts ss D) (Forms D)
    searches-there [] D are has = forms-stay (now_at T D)
    searches-there (s ∷ ss) D are has =
        fine_then (Forms D) (Forms D) (settled_search T d ts s D) (settled_searches T d ts ss) (search-there s D are.0 has.0) (λ D1 one.
        fine_weaker (Forms D1) (Forms D) (settled_searches T d ts ss D1)
        (searches-there ss D1 are.2 (each (HasNodes T D) (HasNodes T D1) ss has.1 (λ x h. nodes-stay D D1 one x h)))
        (λ D2 rest. forms-then (now_at T D) (now_at T D1) (now_at T D2) one rest))

pub settles_there : SettlesThere
settles_there T d ts ss D w are has =
    fine_weaker (Forms T w D) (λ D'. Each (HasNodes T D') ss) (settled_searches T d ts ss D) (searches-there T w d ts ss D are has) (λ D' same. each (HasNodes T D) (HasNodes T D') ss has (λ s h. nodes-stay T w D D' same s h))
