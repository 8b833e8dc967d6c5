-- Searches after the messages that a command touched.
use Rattle.std.proofs.Common.{◌≡◌, ◌∙◌, ℕ, ◌%◌, ◌==◌, ◌||◌, false, List, [], ◌∷◌, length, Option, None, Some, IfOk, ap, sym, refl, subst, inl, inr, arith}
use Rattle.std.proofs.lemmas.Bool.{cases_Bool, cases_eq, or_parts}
use Rattle.mapi_values.specs.Values.{Val}
use Rattle.mail_objects.specs.Forms.{Tbl}
use Rattle.mail_objects.specs.declared.object.Object.{Object}
use Rattle.mail_objects.specs.declared.object.Object.TheVariants.{Bare, Context, Message, Table}
use Rattle.mail_tree.specs.Changing.{Changed, ◌>>=◌, as_context, as_message, as_table, context_at, hierarchy, known, now_at, put_shown, shown_row, table_at, with_object, with_rows}
use Rattle.mail_tree.specs.Places.{ROOT}
use Rattle.mail_tree.specs.Settling.{mirrored, table_as_is, with_context}
use Rattle.mail_tree.specs.Tree.{Tree}
use Rattle.mail_tree.specs.Values.{with_counts}
use Rattle.mail_tree.proofs.AfterTree.{puts_object}
use Rattle.mail_tree.proofs.KindsOfPuts.{beside_kind}
use Rattle.mail_tree.proofs.Nearly.{Puts}
use Rattle.mail_laws.proofs.Keeping.{KeepsAt, both, if_any, if_then, if_weaker, kept_put, mirrored_keeps}
use Rattle.mail_laws.proofs.Touches.{table_same}
use Rattle.mail_searches.specs.Searches.{Search, results, runs}
use Rattle.mail_searches.specs.Relisting.{Around, Touch, concerns, counted_search, relisted, settled_search, settled_searches, named, takes_row, unless_unclear, unread, with_results}
use Rattle.mail_searches.specs.Searching.{Each}
use Rattle.search_lists.specs.Laws.{AreApart, Settles, SettlesAll}
use Rattle.search_lists.proofs.RowLaws.{none-gone, still-halted, still-running}

-- messages are as they were
abbrev pub SameMessages : Tree → Changed → Changed → Type 0
SameMessages T D D' = (m : ℕ) → as_message (now_at T D' m) ≡ as_message (now_at T D m)

found-table : (o : Option Object) → IfOk (known (as_table o)) (λ t. o ≡ Some (Table t))
found-table None = tt
found-table (Some (Table t)) = refl
found-table (Some (Context c)) = tt
found-table (Some (Message m)) = tt
found-table (Some (Bare parent)) = tt

pub found-context : (o : Option Object) → IfOk (known (as_context o)) (λ c. o ≡ Some (Context c))
found-context None = tt
found-context (Some (Table t)) = tt
found-context (Some (Context c)) = refl
found-context (Some (Message m)) = tt
found-context (Some (Bare parent)) = tt

-- what is no message is put where none stood
pub put-apart : (T : Tree) (D D' : Changed) (q : ℕ) (o : Option Object) → Puts (now_at T D) (now_at T D') q o → as_message (now_at T D q) ≡ None → as_message o ≡ None → SameMessages T D D'
put-apart T D D' q o puts old new m = elim (cases_eq m q) [
  | inl e ↦ ap (λ x. as_message (now_at T D' x)) e ∙ ap as_message puts.here ∙ new ∙ sym old ∙ ap (λ x. as_message (now_at T D x)) (sym e)
  | inr n ↦ ap as_message (puts.others m n)
]

module _ (T : Tree) where
  same-then : (D D1 D2 : Changed) → SameMessages T D D1 → SameMessages T D1 D2 → SameMessages T D D2
  same-then D D1 D2 a b m = b m ∙ a m

  shown-apart : (q id : ℕ) (props : List Val) (D : Changed) → IfOk (put_shown T q id props D) (SameMessages T D)
  unfolding put_shown
  shown-apart q id props D = if_then (λ t. now_at T D q ≡ Some (Table t)) (SameMessages T D) (table_at T D q) _ (found-table (now_at T D q)) (λ t there.
      put-apart T D (with_object q (Some (with_rows (shown_row id props t.table) t)) D) q (Some (with_rows (shown_row id props t.table) t)) (puts_object T D q (Some (with_rows (shown_row id props t.table) t))) (ap as_message there) refl)

  pub mirrored-apart : (f : ℕ) (D : Changed) → IfOk (mirrored T f D) (SameMessages T D)
  unfolding mirrored
  mirrored-apart f D = elim (cases_Bool (f == ROOT)) [
    | inl b ↦ rw b (if_weaker (λ D'. now_at T D' ≡ now_at T D) (SameMessages T D) (table_as_is T (hierarchy ROOT) D) (table_same T (hierarchy ROOT) D) (λ D' same m. ap (λ at. as_message (at m)) same))
    | inr b ↦ rw b (if_then (λ c. Unit {0}) (SameMessages T D) (context_at T D f) _ (if_any (context_at T D f)) (λ c u. shown-apart (hierarchy c.parent) f c.props D))
  ]

  counted-apart : (s : ℕ) (rows : List (ℕ × List Val)) (D : Changed) → IfOk (counted_search T s rows D) (SameMessages T D)
  unfolding counted_search
  counted-apart s rows D = if_then (λ c. now_at T D s ≡ Some (Context c)) (SameMessages T D) (context_at T D s) _ (found-context (now_at T D s)) (λ c there.
      if_then (λ u. Unit {0}) (SameMessages T D) (unless_unclear T D rows) _ (if_any (unless_unclear T D rows)) (λ u u'.
      let props = with_counts (length (named T D rows)) (length (unread (named T D rows))) false c.props in
      put-apart T D (with_context s c props D) s (Some (Context (record c { props = props }))) (puts_object T D s (Some (Context (record c { props = props })))) (ap as_message there) refl))

  results-apart : (s : ℕ) (rows : List (ℕ × List Val)) (t : Tbl) (D : Changed) → now_at T D (results s) ≡ Some (Table t) → IfOk (with_results T s rows t D) (SameMessages T D)
  unfolding with_results
  results-apart s rows t D there =
      let D1 = with_object (results s) (Some (with_rows rows t)) D in
      let first = put-apart T D D1 (results s) (Some (with_rows rows t)) (puts_object T D (results s) (Some (with_rows rows t))) (ap as_message there) refl in
      if_then (SameMessages T D1) (SameMessages T D) (counted_search T s rows D1) (mirrored T s) (counted-apart s rows D1)
      (λ D2 second. if_weaker (SameMessages T D2) (SameMessages T D) (mirrored T s D2) (mirrored-apart s D2) (λ D3 third. same-then D D1 D3 first (same-then D1 D2 D3 second third)))

  -- tables at other ids stay
  module _ (S : ℕ → Type 0) (no_hierarchy : (g : ℕ) → S (hierarchy g) → ⊥) where
    counted-keeps : (s : ℕ) (rows : List (ℕ × List Val)) (D : Changed) → (S s → ⊥) → IfOk (counted_search T s rows D) (KeepsAt S T D)
    unfolding counted_search
    counted-keeps s rows D other = if_then (λ c. Unit {0}) (KeepsAt S T D) (context_at T D s) _ (if_any (context_at T D s)) (λ c u.
        if_then (λ v. Unit {0}) (KeepsAt S T D) (unless_unclear T D rows) _ (if_any (unless_unclear T D rows)) (λ v v'.
        let props = with_counts (length (named T D rows)) (length (unread (named T D rows))) false c.props in
        kept_put S _ _ s _ (puts_object T D s (Some (Context (record c { props = props })))) other))

    pub ends-keep : (s : ℕ) (rows : List (ℕ × List Val)) (D : Changed) → (S s → ⊥) → IfOk (counted_search T s rows D >>= mirrored T s) (KeepsAt S T D)
    ends-keep s rows D other = if_then (KeepsAt S T D) (KeepsAt S T D) (counted_search T s rows D) (mirrored T s) (counted-keeps s rows D other)
        (λ D' k. if_weaker (KeepsAt S T D') (KeepsAt S T D) (mirrored T s D') (mirrored_keeps S no_hierarchy T s D') (λ D'' k' m is. k' m is ∙ k m is))

    -- a search whose nodes lie elsewhere keeps what stands at these ids
    results-keep : (s : ℕ) (rows : List (ℕ × List Val)) (t : Tbl) (D : Changed) → (S s → ⊥) → (S (results s) → ⊥) → IfOk (with_results T s rows t D) (KeepsAt S T D)
    unfolding with_results
    results-keep s rows t D other list = if_weaker (KeepsAt S T (with_object (results s) (Some (with_rows rows t)) D)) (KeepsAt S T D) _ (ends-keep s rows (with_object (results s) (Some (with_rows rows t)) D) other)
        (λ D' k m is. k m is ∙ kept_put S _ _ (results s) _ (puts_object T D (results s) (Some (with_rows rows t))) list m is)

    pub search-keeps : (d : Around) (ts : List Touch) (s : Search) (D : Changed) → (S s.nid → ⊥) → (S (results s.nid) → ⊥) → IfOk (settled_search T d ts s D) (KeepsAt S T D)
    unfolding settled_search
    search-keeps d ts s D other list = elim (cases_Bool (concerns d s ts)) [
      | inl y ↦ rw y (if_then (λ t. Unit {0}) (KeepsAt S T D) (table_at T D (results s.nid)) _ (if_any (table_at T D (results s.nid))) (λ t u. elim (cases_Bool (runs s || takes_row t.table.rows ts)) [
        | inl c ↦ rw c (results-keep s.nid (relisted d s t.table.columns ts t.table.rows) t D other list)
        | inr c ↦ rw c (λ m is. refl)
      ]))
      | inr n ↦ rw n (λ m is. refl)
    ]

    pub searches-keep : (d : Around) (ts : List Touch) (ss : List Search) (D : Changed) → Each (λ s. (S s.nid → ⊥) × (S (results s.nid) → ⊥)) ss → IfOk (settled_searches T d ts ss D) (KeepsAt S T D)
    searches-keep d ts [] D other = λ m is. refl
    searches-keep d ts (s ∷ ss) D other = if_then (KeepsAt S T D) (KeepsAt S T D) (settled_search T d ts s D) (settled_searches T d ts ss) (search-keeps d ts s D other.0.0 other.0.1)
        (λ D' k. if_weaker (KeepsAt S T D') (KeepsAt S T D) (settled_searches T d ts ss D') (searches-keep d ts ss D' other.1) (λ D'' k' m is. k' m is ∙ k m is))

-- What one search leaves and gets.
pub record SettlesOne (T : Tree) (d : Around) (ts : List Touch) (s : Search) (D D' : Changed) : Type 0 where
  pub messages : SameMessages T D D'
  pub others : (q : ℕ) → q % 32 ≡ 16 → (q ≡ results s.nid → ⊥) → now_at T D' q ≡ now_at T D q
  pub table : (t : Tbl) → now_at T D (results s.nid) ≡ Some (Table t) → now_at T D' (results s.nid) ≡ Some (with_rows (relisted d s t.table.columns ts t.table.rows) t)

pub same_table : (t u : Tbl) → ◌≡◌ {A = Option Object} (Some (Table t)) (Some (Table u)) → t ≡ u
same_table t u e = cc

module _ (T : Tree) (d : Around) (ts : List Touch) (s : Search) (D : Changed) (search : s.nid % 32 ≡ 3) where
  at-results : results s.nid % 32 ≡ 16
  at-results = beside_kind s.nid 16 (omega arith)

  abbrev Others : ℕ → Type 0
  Others q = (q % 32 ≡ 16) × (q ≡ results s.nid → ⊥)

  abbrev Mine : ℕ → Type 0
  Mine q = q ≡ results s.nid

  others-hierarchy : (g : ℕ) → Others (hierarchy g) → ⊥
  others-hierarchy g e = omega (arith, e.0, beside_kind g 13 (omega arith))

  others-search : Others s.nid → ⊥
  others-search e = omega (arith, e.0, search)

  mine-hierarchy : (g : ℕ) → Mine (hierarchy g) → ⊥
  mine-hierarchy g e = omega (arith, e, at-results, beside_kind g 13 (omega arith))

  mine-search : Mine s.nid → ⊥
  mine-search e = omega (arith, search, at-results, e)

  -- a search of which no row changes
  still : ((t : Tbl) → now_at T D (results s.nid) ≡ Some (Table t) → relisted d s t.table.columns ts t.table.rows ≡ t.table.rows) → SettlesOne T d ts s D D
  still same = record {
    messages = λ m. refl;
    others = λ q is n. refl;
    table = λ t there. there ∙ ap (λ rows. Some (with_rows rows t)) (sym (same t there));
  }

  -- a search that is counted anew
  gets : (t : Tbl) → now_at T D (results s.nid) ≡ Some (Table t) → IfOk (with_results T s.nid (relisted d s t.table.columns ts t.table.rows) t D) (SettlesOne T d ts s D)
  unfolding with_results
  gets t there =
      let rows = relisted d s t.table.columns ts t.table.rows in
      both (SameMessages T D) (λ D'. KeepsAt Others T D D' × (now_at T D' (results s.nid) ≡ Some (with_rows rows t))) (SettlesOne T d ts s D) (with_results T s.nid rows t D) (results-apart T s.nid rows t D there) (keeps rows)
      (λ D' same kept. record {
        messages = same;
        others = λ q is n. kept.0 q (is, n);
        table = λ u there'. kept.1 ∙ ap (λ (x : Tbl). Some (with_rows (relisted d s x.table.columns ts x.table.rows) x)) (same_table t u (sym there ∙ there'));
      })
    where
      keeps : (rows : List (ℕ × List Val)) → IfOk (with_results T s.nid rows t D) (λ D'. KeepsAt Others T D D' × (now_at T D' (results s.nid) ≡ Some (with_rows rows t)))
      keeps rows =
          let D1 = with_object (results s.nid) (Some (with_rows rows t)) D in
          let put = puts_object T D (results s.nid) (Some (with_rows rows t)) in
          both (KeepsAt Others T D1) (KeepsAt Mine T D1) (λ D'. KeepsAt Others T D D' × (now_at T D' (results s.nid) ≡ Some (with_rows rows t))) (counted_search T s.nid rows D1 >>= mirrored T s.nid)
          (ends-keep T Others others-hierarchy s.nid rows D1 others-search) (ends-keep T Mine mine-hierarchy s.nid rows D1 mine-search)
          (λ D' k m. ((λ q is. k q is ∙ kept_put Others _ _ (results s.nid) _ put (λ e. e.1 refl) q is), m (results s.nid) refl ∙ put.here))

  pub settles-one : IfOk (settled_search T d ts s D) (SettlesOne T d ts s D)
  unfolding settled_search
  settles-one = elim (cases_Bool (concerns d s ts)) [
    | inl y ↦ rw y (if_then (λ t. now_at T D (results s.nid) ≡ Some (Table t)) (SettlesOne T d ts s D) (table_at T D (results s.nid)) _ (found-table (now_at T D (results s.nid))) (λ t there.
        elim (cases_Bool (runs s || takes_row t.table.rows ts)) [
          | inl c ↦ rw c (gets t there)
          | inr c ↦
              let p = or_parts (runs s) (takes_row t.table.rows ts) c in
              rw c (still (λ u there'. still-halted d s u.table.columns p.0 ts u.table.rows (subst (λ (x : Tbl). takes_row x.table.rows ts ≡ false) (same_table t u (sym there ∙ there')) p.1)))
        ]))
    | inr n ↦ rw n (still (λ t there. elim (cases_Bool (runs s)) [
      | inl run ↦ still-running d s t.table.columns run ts t.table.rows (sym (rw run refl) ∙ n)
      | inr halted ↦ still-halted d s t.table.columns halted ts t.table.rows (none-gone d s t.table.columns halted ts t.table.rows (sym (rw halted refl) ∙ n))
    ]))
  ]

-- searches with different ids have different tables
pub apart : (f g : ℕ) → f % 32 ≡ 3 → g % 32 ≡ 3 → (f ≡ g → ⊥) → results f ≡ results g → ⊥
apart f g a b n e = n (omega (arith, e))

pub each : {X : Type 0} (P Q : X → Type 0) (xs : List X) → Each P xs → ((x : X) → P x → Q x) → Each Q xs
each P Q [] p f = tt
each P Q (x ∷ xs) p f = (f x p.0, each P Q xs p.1 f)

pub each-two : {X : Type 0} (P Q R : X → Type 0) (xs : List X) → Each P xs → Each Q xs → ((x : X) → P x → Q x → R x) → Each R xs
each-two P Q R [] p q f = tt
each-two P Q R (x ∷ xs) p q f = (f x p.0 q.0, each-two P Q R xs p.1 q.1 f)

pub are-searches : (ss : List Search) → AreApart ss → Each (λ s. s.nid % 32 ≡ 3) ss
are-searches [] a = tt
are-searches (s ∷ ss) a = (a.0, are-searches ss a.2)

module _ (T : Tree) (d : Around) (ts : List Touch) where
  abbrev Gets : Changed → Changed → Search → Type 0
  Gets D D' s = (t : Tbl) → now_at T D (results s.nid) ≡ Some (Table t) → now_at T D' (results s.nid) ≡ Some (with_rows (relisted d s t.table.columns ts t.table.rows) t)

  settles : (ss : List Search) (D : Changed) → AreApart ss → IfOk (settled_searches T d ts ss D) (Settles T d ts ss D)
  settles [] D a = record { messages = λ m. refl; others = λ q is n. refl; tables = tt }
  settles (s ∷ ss) D a =
      let tables : Each (λ t. results s.nid ≡ results t.nid → ⊥) ss = each-two (λ t. t.nid ≡ s.nid → ⊥) (λ t. t.nid % 32 ≡ 3) (λ t. results s.nid ≡ results t.nid → ⊥) ss a.1 (are-searches ss a.2)
      (λ t n is. apart s.nid t.nid a.0 is (λ e. n (sym e))) in
      if_then (SettlesOne T d ts s D) (Settles T d ts (s ∷ ss) D) (settled_search T d ts s D) (settled_searches T d ts ss) (settles-one T d ts s D a.0) (λ D1 one.
      if_weaker (Settles T d ts ss D1) (Settles T d ts (s ∷ ss) D) (settled_searches T d ts ss D1) (settles ss D1 a.2) (λ D' rest. record {
        messages = λ m. rest.messages m ∙ one.messages m;
        others = λ q is n. rest.others q is n.1 ∙ one.others q is n.0;
        tables = (
          λ t there. rest.others (results s.nid) (beside_kind s.nid 16 (omega arith)) tables ∙ one.table t there,
          each-two (λ t. results s.nid ≡ results t.nid → ⊥) (Gets D1 D') (Gets D D') ss tables rest.tables
              (λ u n gets t there. gets t (one.others (results u.nid) (beside_kind u.nid 16 (omega arith)) (λ e. n (sym e)) ∙ there)),
        );
      }))

pub settles_all : SettlesAll
settles_all T d ts ss D a = settles T d ts ss D a
