-- The list of a search after messages were touched.
use Rattle.std.proofs.Common.{◌≡◌, ◌<◌, ◌≤◌, ℕ, zero, suc, min, arith, ◌+◌, Bool, true, false, List, [], ◌∷◌, length, drop, get_or, drop-cons, add-one, map, Option, Result, Ok, Err, IfOk, refl, sym, ap, ◌∙◌, subst, if◌then◌else◌}
use Rattle.std.proofs.lemmas.List.{drop_all}
use Rattle.std.specs.List.{list_any}
use Rattle.std.specs.Result.{IsErrAnd}
use Rattle.pst_base.specs.Flat.{Flat}
use Rattle.mapi_values.specs.Tables.{Tab}
use Rattle.mapi_values.specs.Values.{Val}
use Rattle.mapi_values.specs.declared.column.Column.{Column}
use Rattle.live_search.specs.declared.touching.Delta.{Delta}
use Rattle.mail_objects.specs.Forms.{Tbl}
use Rattle.mail_tree.specs.Changing.{Answer, Changed, ◌>>=◌, table_at}
use Rattle.mail_tree.specs.Tree.{Tree}
use Rattle.mail_tree.specs.declared.places.FolderPlace.{FolderPlace}
use Rattle.mail_draft.specs.declared.stop.Stop.{Stop}
use Rattle.mail_draft.specs.Answers.{Says}
use Rattle.mail_draft.specs.Outcomes.{places_after}
use Rattle.mail_draft.specs.Sight.{Answers, Changes, IsAbout, Sight}
use Rattle.mail_draft.proofs.Passes.{stop_says, then_says}
use Rattle.mail_searches.specs.Asking.{places_around}
use Rattle.mail_searches.specs.Relisting.{Around, Touch, by_delta, is_gone, props_of, relisted, settled_search, settled_searches, takes_row, with_results}
use Rattle.mail_searches.specs.Searches.{Search, results, runs}
use Rattle.search_results.proofs.JoinLaws.{stopped}
use Rattle.search_results.specs.Following.{around_move, changes_at, delta_at, drop_gone, relisted_by, with_list, without_gone}

-- where folders stood and stand, as it is known
pub known_around : (T : Tree) (new : Option (List FolderPlace)) {before after : List FolderPlace} → T.places ≡ before → after ≡ places_after before new
    → places_around before after ≡ around_move T new
known_around T new {before} same e = ap (places_around before) e ∙ ap (λ p. places_around p (places_after p new)) (sym same)

-- so what is said of it is said of each tree that is shown
pub known_of : {A X E : Type 0} (desk : Sight A) (P : X → Around → Type 0) (new : Option (List FolderPlace)) {before after : List FolderPlace} (r : Result X E) → IsAbout desk (λ T. T.places ≡ before) → after ≡ places_after before new
    → IfOk r (λ x. P x (places_around before after)) → IfOk r (λ x. IsAbout desk (λ T. P x (around_move T new)))
known_of desk P new (Ok x) known e h = λ T shown. subst (P x) (known_around T new (known T shown) e) h
known_of desk P new (Err stop) known e h = tt

-- tables with the same parts are the same
abbrev tab_of : List Column → List ℕ → List (ℕ × List Val) → List Flat → Tab
tab_of columns ends rows kept = record { columns = columns; ends = ends; rows = rows; kept = kept }

abbrev tbl_of : ℕ → Tab → Tbl
tbl_of parent table = record { parent = parent; table = table }

same_table : (t u : Tab) → t.columns ≡ u.columns → t.ends ≡ u.ends → t.rows ≡ u.rows → t.kept ≡ u.kept → t ≡ u
same_table t u a b c d = ap (λ x. tab_of x t.ends t.rows t.kept) a ∙ ap (λ x. tab_of u.columns x t.rows t.kept) b ∙ ap (λ x. tab_of u.columns u.ends x t.kept) c ∙ ap (λ x. tab_of u.columns u.ends u.rows x) d

pub list_is : (list node : Tbl) (table : Tab) (rows : List (ℕ × List Val)) → list.parent ≡ node.parent → list.table ≡ table
    → table.columns ≡ node.table.columns → table.ends ≡ node.table.ends → table.rows ≡ rows → table.kept ≡ node.table.kept → list ≡ with_list rows node
list_is list node table rows p e columns ends same kept =
    ap (λ x. tbl_of x list.table) p ∙ ap (tbl_of node.parent) (e ∙ same_table table (with_list rows node).table columns ends same kept)

-- rows follow what becomes of each message
by_deltas : (d : Around) (s : Search) (columns : List Column) (ts : List Touch) (rows : List (ℕ × List Val)) → runs s ≡ true → relisted_by columns ts (map (delta_at d s) ts) rows ≡ relisted d s columns ts rows
by_deltas d s columns [] rows e = refl
by_deltas d s columns (t ∷ ts) rows e = by_deltas d s columns ts (by_delta (delta_at d s t) t.anew columns t.nid (props_of t.new) rows) e
    ∙ ap (λ (b : Bool). relisted d s columns ts (if b then by_delta (delta_at d s t) t.anew columns t.nid (props_of t.new) rows else drop_gone t rows)) (sym e)

-- rows of messages that are gone go
by_gone : (d : Around) (s : Search) (columns : List Column) (ts : List Touch) (rows : List (ℕ × List Val)) → runs s ≡ false → without_gone ts rows ≡ relisted d s columns ts rows
by_gone d s columns [] rows e = refl
by_gone d s columns (t ∷ ts) rows e = by_gone d s columns ts (drop_gone t rows) e
    ∙ ap (λ (b : Bool). relisted d s columns ts (if b then by_delta (delta_at d s t) t.anew columns t.nid (props_of t.new) rows else drop_gone t rows)) (sym e)

-- one of the two lists came to its end
pub relisted_over : (columns : List Column) (ts : List Touch) (xs : List Delta) (i : ℕ) (rows : List (ℕ × List Val)) → i ≡ min (length ts) (length xs) → relisted_by columns (drop i ts) (drop i xs) rows ≡ rows
relisted_over columns [] xs i rows e = rw (drop_all {X = Touch} i [] (omega arith)) refl
relisted_over columns (t ∷ ts) [] zero rows e = refl
relisted_over columns (t ∷ ts) [] (suc i) rows e = absurd (omega (arith, e))
relisted_over columns (t ∷ ts) (x ∷ xs) zero rows e = absurd (omega (arith, e))
relisted_over columns (t ∷ ts) (x ∷ xs) (suc i) rows e = relisted_over columns ts xs i rows (omega (arith, e))

module _ (T : Tree) (d : Around) (ts : List Touch) (s : Search) (D : Changed) where
  -- the table that gets the rows counts for nothing but what it keeps
  same_results : (rows : List (ℕ × List Val)) (t : Tbl) → with_results T s.nid (with_list rows t).table.rows (with_list rows t) D ≡ with_results T s.nid rows t D
  unfolding with_results
  same_results rows t = refl

module _ {E : Type 0} (T : Tree) (d : Around) (ts : List Touch) (s : Search) (D : Changed) (view : E → Changed) (r : Result E Stop) where
  relists : (rows : List (ℕ × List Val)) (node list : Tbl) → rows ≡ relisted d s node.table.columns ts node.table.rows → list ≡ with_list rows node
      → Says view (with_results T s.nid list.table.rows list D) r → Says view (with_results T s.nid (relisted d s node.table.columns ts node.table.rows) node D) r
  relists rows node list same e h =
      subst (λ (x : List (ℕ × List Val)). Says view (with_results T s.nid x node D) r) same
      (subst (λ (a : Answer Changed). Says view a r) (same_results T d ts s D rows node)
      (subst (λ (l : Tbl). Says view (with_results T s.nid l.table.rows l D) r) e h))

  pub settles_running : (node list : Tbl) (deltas : List Delta) → runs s ≡ true → list_any (changes_at d s) ts ≡ true → Says (λ (t : Tbl). t) (table_at T D (results s.nid)) (Ok node)
      → deltas ≡ map (delta_at d s) ts → list ≡ with_list (relisted_by node.table.columns ts deltas node.table.rows) node → Says view (with_results T s.nid list.table.rows list D) r → Says view (settled_search T d ts s D) r
  unfolding settled_search
  settles_running node list deltas run change table same e h =
      rw (run, change) (then_says (λ (t : Tbl). t) view (table_at T D (results s.nid)) _ node r table
      (relists (relisted_by node.table.columns ts deltas node.table.rows) node list
      (ap (λ x. relisted_by node.table.columns ts x node.table.rows) same ∙ by_deltas d s node.table.columns ts node.table.rows run) e h))

  pub settles_halted : (node list : Tbl) → runs s ≡ false → list_any is_gone ts ≡ true → Says (λ (t : Tbl). t) (table_at T D (results s.nid)) (Ok node) → takes_row node.table.rows ts ≡ true
      → list ≡ with_list (without_gone ts node.table.rows) node → Says view (with_results T s.nid list.table.rows list D) r → Says view (settled_search T d ts s D) r
  unfolding settled_search
  settles_halted node list run gone table takes e h =
      rw (run, gone) (then_says (λ (t : Tbl). t) view (table_at T D (results s.nid)) _ node r table
      (rw takes (relists (without_gone ts node.table.rows) node list (by_gone d s node.table.columns ts node.table.rows run) e h)))

-- no row changes, or the table can't be read
module _ {A R : Type 0} {old new : Sight A} (d : Tree → Around) (ts : List Touch) (s : Search) where
  pub stays_running : (y : R) → IsAbout old (λ T. list_any (changes_at (d T) s) ts ≡ false) → runs s ≡ true → new.changed ≡ old.changed → Changes old new (λ T. settled_search T (d T) ts s) (Ok y)
  unfolding settled_search
  stays_running y change run same = record { says = λ T shown. rw (run, change T shown) same }

  pub stays_halted : (y : R) → list_any is_gone ts ≡ false → runs s ≡ false → new.changed ≡ old.changed → Changes old new (λ T. settled_search T (d T) ts s) (Ok y)
  unfolding settled_search
  stays_halted y gone run same = record { says = λ T shown. rw (run, gone) same }

  pub keeps_halted : (y : R) (node : Tbl) → runs s ≡ false → list_any is_gone ts ≡ true → Answers old (λ (t : Tbl). t) (λ T D. table_at T D (results s.nid)) (Ok node) → takes_row node.table.rows ts ≡ false
      → new.changed ≡ old.changed → Changes old new (λ T. settled_search T (d T) ts s) (Ok y)
  unfolding settled_search
  keeps_halted y node run gone table takes same = record {
    says = λ T shown. rw (run, gone) (then_says {D = R} (λ (t : Tbl). t) (λ w. new.changed) (table_at T old.changed (results s.nid)) _ node (Ok y) (table.says T shown) (rw takes same));
  }

  pub stops_running : {stop : Stop} (r : Result R Stop) → IsAbout old (λ T. list_any (changes_at (d T) s) ts ≡ true) → runs s ≡ true → Answers {Y = Tbl} old (λ t. t) (λ T D. table_at T D (results s.nid)) (Err stop)
      → IsErrAnd r (λ e. e ≡ stop) → Changes old new (λ T. settled_search T (d T) ts s) r
  unfolding settled_search
  stops_running {stop} r change run table is = record {
    says = λ T shown. rw (run, change T shown) (stopped (λ (w : R). new.changed) _ stop r is (stop_says {B = Tbl} {D = R} (λ t. t) (λ w. new.changed) (table_at T old.changed (results s.nid)) _ stop (table.says T shown)));
  }

  pub stops_halted : {stop : Stop} (r : Result R Stop) → list_any is_gone ts ≡ true → runs s ≡ false → Answers {Y = Tbl} old (λ t. t) (λ T D. table_at T D (results s.nid)) (Err stop)
      → IsErrAnd r (λ e. e ≡ stop) → Changes old new (λ T. settled_search T (d T) ts s) r
  unfolding settled_search
  stops_halted {stop} r gone run table is = record {
    says = λ T shown. rw (run, gone) (stopped (λ (w : R). new.changed) _ stop r is (stop_says {B = Tbl} {D = R} (λ t. t) (λ w. new.changed) (table_at T old.changed (results s.nid)) _ stop (table.says T shown)));
  }

-- a search and those behind it
settled_on : (T : Tree) (d : Around) (ts : List Touch) (ss : List Search) (i : ℕ) (s : Search) (D : Changed) → i < length ss → s ≡ get_or ss i s
    → settled_searches T d ts (drop i ss) D ≡ (settled_search T d ts s D >>= settled_searches T d ts (drop (i + 1) ss))
settled_on T d ts ss i s D h is = subst (λ (x : Search). settled_searches T d ts (drop i ss) D ≡ (settled_search T d ts x D >>= settled_searches T d ts (drop (i + 1) ss))) (sym is) (rw (add-one, drop-cons ss i s h) refl)

-- searches are settled one after the other
module _ {E : Type 0} (T : Tree) (d : Around) (ts : List Touch) (ss : List Search) (i : ℕ) (s : Search) (D : Changed) where
  pub settled_stops : {F : Type 0} (view : E → Changed) (view' : F → Changed) (stop : Stop) → i < length ss → s ≡ get_or ss i s → Says view (settled_search T d ts s D) (Err stop) → Says view' (settled_searches T d ts (drop i ss) D) (Err stop)
  settled_stops view view' stop h is said = rw (settled_on T d ts ss i s D h is) (stop_says view view' (settled_search T d ts s D) (settled_searches T d ts (drop (i + 1) ss)) stop said)

  pub settled_goes : {F : Type 0} (view : E → Changed) (view' : F → Changed) (y : E) (r : Result F Stop) → i < length ss → s ≡ get_or ss i s → Says view (settled_search T d ts s D) (Ok y)
      → Says view' (settled_searches T d ts (drop (i + 1) ss) (view y)) r → Says view' (settled_searches T d ts (drop i ss) D) r
  settled_goes view view' y r h is said after = rw (settled_on T d ts ss i s D h is) (then_says view view' (settled_search T d ts s D) (settled_searches T d ts (drop (i + 1) ss)) y r said after)

-- all are settled
pub settled_all : {E : Type 0} (T : Tree) (d : Around) (ts : List Touch) (ss : List Search) (i : ℕ) (D : Changed) (y : E) → length ss ≤ i → Says (λ (z : E). D) (settled_searches T d ts (drop i ss) D) (Ok y)
settled_all T d ts ss i D y past = rw (drop_all i ss past) refl
