-- How the list of a search is built, step by step.
use Rattle.std.proofs.Common.{◌≡◌, ℕ, ◌+◌, ◌<◌, suc, List, [], ◌∷◌, length, get_or, drop, drop-cons, add-one, Result, Ok, Err, refl, ap, subst, ◌∙◌, inl, inr}
use Rattle.std.proofs.lemmas.Bool.{cases_Bool}
use Rattle.mapi_values.specs.Tables.{Tab}
use Rattle.mapi_values.specs.Values.{Val}
use Rattle.mapi_values.specs.declared.column.Column.{Column}
use Rattle.mail_objects.specs.Forms.{Tbl}
use Rattle.mail_tree.specs.declared.places.FolderPlace.{FolderPlace}
use Rattle.mail_tree.specs.Changing.{Answer, Changed, ◌>>=◌, contents, message_at, nothing, table_at, with_rows}
use Rattle.mail_tree.specs.Places.{place_id}
use Rattle.mail_tree.specs.Settling.{message_ids}
use Rattle.mail_tree.specs.Tree.{Tree}
use Rattle.mail_draft.specs.Answers.{Says}
use Rattle.mail_draft.specs.declared.stop.Stop.{Stop}
use Rattle.mail_draft.proofs.Passes.{stop_says, then_says}
use Rattle.mail_folders.proofs.Steps.{regroup}
use Rattle.mail_searches.specs.Building.{built, built_rows, found_among, found_below, with_found}
use Rattle.mail_searches.specs.Relisting.{with_results}
use Rattle.mail_searches.specs.Searches.{Search, in_scope, results}
use Rattle.search_folders.specs.Pieces.{found_at, found_in}

abbrev pub Rows : Type 0
Rows = List (ℕ × List Val)

-- ---- a message after another

pub message_on : {D E : Type 0} (one : E → Rows) (view : D → Rows) (T : Tree) (s : Search) (columns : List Column) (ms : List ℕ) (i d : ℕ) (rows : Rows) (e : E) (result : Result D Stop) → i < length ms
    → Says one (found_at T s columns (get_or ms i d) rows) (Ok e) → Says view (found_among T s columns (drop (i + 1) ms) (one e)) result → Says view (found_among T s columns (drop i ms) rows) result
unfolding found_at
message_on one view T s columns ms i d rows e result h first then =
    rw (drop-cons ms i d) (regroup view (message_at T nothing (get_or ms i d)) (λ M. Ok (with_found s columns (get_or ms i d) M rows)) (found_among T s columns (drop (suc i) ms)) result
    (then_says one view (found_at T s columns (get_or ms i d) rows) (found_among T s columns (drop (suc i) ms)) e result first (rw add-one at then)))

pub message_stops : {D E : Type 0} (one : E → Rows) (view : D → Rows) (T : Tree) (s : Search) (columns : List Column) (ms : List ℕ) (i d : ℕ) (rows : Rows) (stop : Stop) → i < length ms
    → Says one (found_at T s columns (get_or ms i d) rows) (Err stop) → Says view (found_among T s columns (drop i ms) rows) (Err stop)
unfolding found_at
message_stops one view T s columns ms i d rows stop h first =
    rw (drop-cons ms i d) (regroup view (message_at T nothing (get_or ms i d)) (λ M. Ok (with_found s columns (get_or ms i d) M rows)) (found_among T s columns (drop (suc i) ms)) (Err stop)
    (stop_says one view (found_at T s columns (get_or ms i d) rows) (found_among T s columns (drop (suc i) ms)) stop first))

-- ---- a folder after another

-- one folder first
folder_first : (T : Tree) (s : Search) (columns : List Column) (p : FolderPlace) (ps : List FolderPlace) (rows : Rows)
    → found_below T s columns (p ∷ ps) rows ≡ (found_in T s columns (place_id p) rows >>= found_below T s columns ps)
unfolding found_in
folder_first T s columns p ps rows = elim (cases_Bool (in_scope T.places s (place_id p))) [
  | inl t ↦ rw t (two (table_at T nothing (contents (place_id p))) (λ t. found_among T s columns (message_ids t.table) rows) (found_below T s columns ps))
  | inr f ↦ rw f refl
]
  where
    two : {A B C : Type 0} (a : Answer A) (f : A → Answer B) (g : B → Answer C) → (a >>= λ x. f x >>= g) ≡ ((a >>= f) >>= g)
    two (Ok x) f g = refl
    two (Err e) f g = refl

pub folder_on : {D E : Type 0} (one : E → Rows) (view : D → Rows) (T : Tree) (s : Search) (columns : List Column) (ps : List FolderPlace) (i : ℕ) (d : FolderPlace) (rows : Rows) (e : E) (result : Result D Stop) → i < length ps
    → Says one (found_in T s columns (place_id (get_or ps i d)) rows) (Ok e) → Says view (found_below T s columns (drop (i + 1) ps) (one e)) result → Says view (found_below T s columns (drop i ps) rows) result
folder_on one view T s columns ps i d rows e result h first then =
    rw (drop-cons ps i d, folder_first T s columns (get_or ps i d) (drop (suc i) ps) rows)
    (then_says one view (found_in T s columns (place_id (get_or ps i d)) rows) (found_below T s columns (drop (suc i) ps)) e result first (rw add-one at then))

pub folder_stops : {D E : Type 0} (one : E → Rows) (view : D → Rows) (T : Tree) (s : Search) (columns : List Column) (ps : List FolderPlace) (i : ℕ) (d : FolderPlace) (rows : Rows) (stop : Stop) → i < length ps
    → Says one (found_in T s columns (place_id (get_or ps i d)) rows) (Err stop) → Says view (found_below T s columns (drop i ps) rows) (Err stop)
folder_stops one view T s columns ps i d rows stop h first =
    rw (drop-cons ps i d, folder_first T s columns (get_or ps i d) (drop (suc i) ps) rows)
    (stop_says one view (found_in T s columns (place_id (get_or ps i d)) rows) (found_below T s columns (drop (suc i) ps)) stop first)

-- ---- the whole

-- two tables that differ in their rows alone
abbrev pub same_but_rows : Tab → Tab → Type 0
same_but_rows t u = record t { rows = [] } ≡ record u { rows = [] }

rows_on : (rows : Rows) (t u : Tbl) → u.parent ≡ t.parent → same_but_rows u.table t.table → with_rows rows u ≡ with_rows rows t
rows_on rows t u above same =
    ap (λ (x : Tab). with_rows rows (record { parent = u.parent; table = x })) same ∙ ap (λ p. with_rows rows (record { parent = p; table = t.table })) above

pub results_on : {D : Type 0} (view : D → Changed) (T : Tree) (s : ℕ) (rows : Rows) (t u : Tbl) (E : Changed) (result : Result D Stop) → u.parent ≡ t.parent → same_but_rows u.table t.table
    → Says view (with_results T s rows u E) result → Says view (with_results T s rows t E) result
unfolding with_results
results_on view T s rows t u E result above same said = rw (rows_on rows t u above same) at said

-- the list, of the rows that were found
pub built_on : {D : Type 0} (view : D → Changed) (T : Tree) (s : Search) (f : ℕ) (places : List FolderPlace) (n : ℕ) (E : Changed) (t node : Tbl) (empty table : Tab) (result : Result D Stop) → f ≡ s.nid → T.places ≡ places → n ≡ results f
    → Says {B = Tbl} (λ t. t) (table_at T E n) (Ok t) → empty ≡ record t.table { rows = [] } → Says {B = Unit {0}} (λ u. table.rows) (found_below T s empty.columns places empty.rows) (Ok tt) → same_but_rows table empty
    → node.parent ≡ t.parent → node.table ≡ table → Says view (with_results T f node.table.rows node E) result → Says view (built T s E) result
unfolding built
built_on view T s f places n E t node empty table result its p there first none rows same above here then =
    let found : Says {B = Unit {0}} (λ u. table.rows) (built_rows T s t.table.columns) (Ok tt) = rw (none, ← p) at rows in
    let alike : same_but_rows node.table t.table = ap (λ (x : Tab). record x { rows = [] }) here ∙ same ∙ ap (λ (x : Tab). record x { rows = [] }) none in
    then_says (λ t. t) view (table_at T E (results s.nid)) (λ t. built_rows T s t.table.columns >>= λ rows. with_results T s.nid rows t E) t result (subst (λ q. Says {B = Tbl} (λ t. t) (table_at T E q) (Ok t)) (there ∙ ap results its) first)
    (then_says (λ (u : Unit {0}). table.rows) view (built_rows T s t.table.columns) (λ rows. with_results T s.nid rows t E) tt result found
    (results_on view T s.nid table.rows t node E result above alike (subst (λ (x : Tab). Says view (with_results T s.nid x.rows node E) result) here (subst (λ i. Says view (with_results T i node.table.rows node E) result) its then))))
