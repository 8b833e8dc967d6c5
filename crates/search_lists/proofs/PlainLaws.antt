-- What the commands that know no searches leave of them.
use Rattle.std.proofs.Common.{◌≡◌, ◌∙◌, ℕ, ◌%◌, ◌==◌, true, List, [], ◌∷◌, None, Some, IfOk, ap, sym, refl, subst, inl, inr, arith}
use Rattle.std.specs.Prelude.{◌⊎◌, IsSome}
use Rattle.std.proofs.lemmas.Bool.{cases_Bool, cases_eq, eqb-true, false≢true}
use Rattle.std.specs.Option.{is_some}
use Rattle.mapi_values.specs.Tables.{find_row}
use Rattle.mail_objects.specs.Forms.{Tbl}
use Rattle.mail_objects.specs.declared.object.Object.TheVariants.{Table}
use Rattle.mail_tree.specs.Changing.{Changed, as_message, hierarchy, newest, now_at, with_rows}
use Rattle.mail_tree.specs.Folders.{Outcome}
use Rattle.mail_tree.specs.Step.{after, outcome}
use Rattle.mail_tree.specs.Whole.{Fine}
use Rattle.mail_tree.specs.Tree.{Tree, object_at}
use Rattle.mail_tree.proofs.AfterTree.{after_now}
use Rattle.mail_tree.proofs.FineLaws.{cases_Option}
use Rattle.mail_tree.proofs.KindsOfPuts.{beside_kind}
use Rattle.mail_laws.specs.Stays.{IsSearchId, Leaves}
use Rattle.mail_laws.proofs.Keeping.{KeepsAt, both, from_fine, if_then}
use Rattle.mail_laws.proofs.KeptLaws.{leaves_searches}
use Rattle.mail_searches.specs.Searches.{Search, criteria_node, find_search, results}
use Rattle.mail_searches.specs.Searching.{AllFresh, AreSearches, Each, Searching, is_own}
use Rattle.mail_searches.specs.Relisting.{Around, Touch, around, relisted, settled_searches, with_searches}
use Rattle.mail_searches.specs.Touching.{followed, touched}
use Rattle.search_lists.specs.Laws.{AreTouched, IsSearch, PlainCommandsStay, Settles, with_tree}
use Rattle.search_lists.proofs.ApartLaws.{all-apart, all-searches, each-found}
use Rattle.search_lists.proofs.CommandLaws.{fresh_after}
use Rattle.search_lists.proofs.TouchLaws.{touches_all}
use Rattle.search_lists.proofs.SettleLaws.{apart, each, each-two, same_table, searches-keep, settles_all}

-- the ids of criteria objects
abbrev Seven : ℕ → Type 0
Seven q = q % 32 ≡ 7

no_hierarchy : (g : ℕ) → Seven (hierarchy g) → ⊥
no_hierarchy g e = omega (arith, e, beside_kind g 13 (omega arith))

-- no node of a search that changes is a criteria object
elsewhere : (s : Search) → IsSearch s → (Seven s.nid → ⊥) × (Seven (results s.nid) → ⊥)
elsewhere s search = ((λ e. omega (arith, e, search)), (λ e. omega (arith, e, beside_kind s.nid 16 (omega arith))))

module _ (T : Tree) (d : Around) (ts : List Touch) (D D' : Changed) where
  abbrev Gets : Search → Type 0
  Gets s = (t : Tbl) → now_at T D (results s.nid) ≡ Some (Table t) → now_at T D' (results s.nid) ≡ Some (with_rows (relisted d s t.table.columns ts t.table.rows) t)

  abbrev IsTable : ℕ → Type 0
  IsTable q = (u : Tbl) × (now_at T D' q ≡ Some (Table u))

  -- a table is that of one of the searches, or of none of them
  of-searches : (q : ℕ) (t : Tbl) → now_at T D q ≡ Some (Table t) → (ss : List Search) → Each Gets ss → IsTable q ⊎ Each (λ s. q ≡ results s.nid → ⊥) ss
  of-searches q t there [] gets = inr tt
  of-searches q t there (s ∷ ss) gets = elim (cases_eq q (results s.nid)) [
    | inl e ↦ inl (record { parent = t.parent; table = record t.table { rows = relisted d s t.table.columns ts t.table.rows } }, ap (now_at T D') e ∙ gets.0 t (ap (now_at T D) (sym e) ∙ there))
    | inr n ↦ elim (of-searches q t there ss gets.1) [
      | inl found ↦ inl found
      | inr none ↦ inr (n, none)
    ]
  ]

  -- tables of searches stay tables
  tables-stay : (ss : List Search) → Settles T d ts ss D D' → (q : ℕ) (t : Tbl) → q % 32 ≡ 16 → now_at T D q ≡ Some (Table t) → IsTable q
  tables-stay ss st q t is there = elim (of-searches q t there ss st.tables) [
    | inl found ↦ found
    | inr none ↦ (t, st.others q is none ∙ there)
  ]

module _ (X : Searching) (are : AreSearches X) (o : Outcome) (leaves : Leaves X.tree o) where
  -- the command left what stands there
  left : (q : ℕ) → IsSearchId q → now_at X.tree o.changed q ≡ object_at X.tree q
  left q of = ap (λ x. newest x (object_at X.tree q)) (leaves.nodes q of)

  -- the searches are those of the tree with these changes
  are-still : (ts : List Touch) (D : Changed) → KeepsAt Seven X.tree o.changed D → Settles X.tree (around X.tree o) ts X.searches o.changed D → AreSearches (with_tree X (after X.tree (record o { changed = D })))
  are-still ts D kept st =
      let o' : Outcome = record o { changed = D } in
      let now : (q : ℕ) → object_at (after X.tree o') q ≡ now_at X.tree D q = λ q. ap (λ g. g q) (sym (after_now X.tree o')) in
      record {
        own_ascend = are.own_ascend;
        ascend = are.ascend;
        among = are.among;
        kinds = are.kinds;
        placed = λ f own. rw (leaves.places f (are.kinds f own)) (are.placed f own);
        criteria = λ f own.
            let c = are.criteria f own in let q = criteria_node f in let seven = beside_kind f 7 (omega arith) in
            (c.0, now q ∙ kept q seven ∙ left q (inr (inr (inl seven))) ∙ c.1, c.2);
        tables = λ f own.
            let t = are.tables f own in let q = results f in let sixteen = beside_kind f 16 (omega arith) in
            let u = tables-stay X.tree (around X.tree o) ts o.changed D X.searches st q t.0 sixteen (left q (inr (inr (inr sixteen))) ∙ t.1) in
            (u.0, now q ∙ u.1);
      }

  settled-still : (ts : List Touch) → IfOk (with_searches X.tree X.searches ts o) (λ o'. AreSearches (with_tree X (after X.tree o')))
  settled-still ts =
      let d = around X.tree o in let a = settled_searches X.tree d ts X.searches o.changed in
      if_then (λ D. AreSearches (with_tree X (after X.tree (record o { changed = D })))) (λ o'. AreSearches (with_tree X (after X.tree o'))) a _
      (both (KeepsAt Seven X.tree o.changed) (Settles X.tree d ts X.searches o.changed) (λ D. AreSearches (with_tree X (after X.tree (record o { changed = D })))) a
      (searches-keep X.tree Seven no_hierarchy d ts X.searches o.changed (each IsSearch _ X.searches (all-searches X are) elsewhere))
      (settles_all X.tree d ts X.searches o.changed (all-apart X are)) (λ D. are-still ts D))
      (λ D is. is)

pub plain_commands_stay : PlainCommandsStay
plain_commands_stay X c w are fresh =
    let T = X.tree in
    let Still : Outcome → Type 0 = λ o'. AreSearches (with_tree X (after T o')) in
    let Fresh : Outcome → Type 0 = λ o'. AllFresh (after T o') X.searches in
    let Left : Outcome → Type 0 = λ o. Leaves T o × Fine (touched T c o) (AreTouched T o) in
    both Left (λ o. IfOk (followed T X.searches c o) Fresh) _ (outcome T c)
    (both (Leaves T) (λ o. Fine (touched T c o) (AreTouched T o)) Left (outcome T c) (leaves_searches T c w) (touches_all T c w) (λ o l t. (l, t)))
    (fresh_after T c X.searches w (all-apart X are) fresh)
    (λ o left f. both Still Fresh _ (followed T X.searches c o)
    (if_then (AreTouched T o) Still (touched T c o) _ (from_fine (AreTouched T o) (touched T c o) left.1) (λ ts t. settled-still X are o left.0 ts))
    f (λ o' a b. (a, b)))
