-- The list of a search that is made anew, step by step.
use Rattle.std.proofs.Common.{◌≡◌, ◌∙◌, Bool, true, false, List, [], Option, None, Some, Result, Ok, Err, ap, refl, subst, sym, if◌then◌else◌}
use Rattle.std.specs.Prelude.{ℕ, nat_eq}
use Rattle.std.specs.Cmp.Lexicographic.{pointwise}
use Rattle.mapi_values.specs.Tables.{Tab}
use Rattle.mapi_values.specs.Values.{Val}
use Rattle.mapi_values.specs.declared.column.Column.{Column}
use Rattle.restr_eval.specs.Eval.{holds_of}
use Rattle.mail_objects.specs.Forms.{Tbl}
use Rattle.mail_tree.specs.Changing.{Answer, ◌>>=◌, as_table, known, nothing, now_at, table_at}
use Rattle.mail_tree.specs.declared.places.FolderPlace.{FolderPlace}
use Rattle.mail_tree.specs.Tree.{Tree, object_at}
use Rattle.mail_tree.specs.Whole.{Fine, IsWhole}
use Rattle.mail_tree.proofs.AfterTree.{now_nothing}
use Rattle.store_session.specs.mail_draft.Answers.{Says}
use Rattle.store_session.specs.mail_draft.declared.stop.Stop.{Stop}
use Rattle.store_session.proofs.mail_draft_laws.Passes.{stop_says, then_says}
use Rattle.mail_searches.specs.Building.{built_rows, found_below}
use Rattle.mail_searches.specs.Searches.{Search, lists, results, row_ids, runs}
use Rattle.store_session.proofs.search_laws.SettingLists.{AreBuilt, rows_built}
use Rattle.search_mending.specs.Mending.{list_anew, list_if_wrong, lists_right, with_other_rows, with_stood}
use Rattle.search_mends.proofs.Steps.{grouped, then_given}

abbrev pub Rows : Type 0
Rows = List (ℕ × List Val)

known_is : {A : Type 0} (o : Option A) (x : A) → known o ≡ Ok x → o ≡ Some x
known_is None x e = cc
known_is (Some y) x e = cc

table_there : (T : Tree) (q : ℕ) (t : Tbl) → table_at T nothing q ≡ Ok t → as_table (object_at T q) ≡ Some t
table_there T q t e = ap as_table (sym (ap (λ at. at q) (now_nothing T))) ∙ known_is (as_table (now_at T nothing q)) t e

-- ---- the rows that are built

-- they are built into a table without rows
pub built_on : {D : Type 0} (view : D → Rows) (T : Tree) (s : Search) (columns columns' : List Column) (places : List FolderPlace) (none : Rows) (result : Result D Stop) → T.places ≡ places → columns' ≡ columns → none ≡ []
    → Says view (found_below T s columns' places none) result → Says view (built_rows T s columns) result
built_on view T s columns columns' places none result p same empty said =
    subst (λ ps. Says view (found_below T s columns ps []) result) (sym p)
    (subst (λ cs. Says view (found_below T s cs places []) result) same (subst (λ rows. Says view (found_below T s columns' places rows) result) empty said))

-- a stop is no matter of what is given
pub stops_too : {A B C : Type 0} (view : B → A) (view' : C → A) (answer : Answer A) (stop : Stop) → Says view answer (Err stop) → Says view' answer (Err stop)
stops_too view view' (Ok x) stop said = said
stops_too view view' (Err None) stop said = tt
stops_too view view' (Err (Some refusal)) stop said = said

-- and stand in it then
pub in_table : (answer : Answer Rows) (t : Tab) → Says {B = Unit {0}} (λ u. t.rows) answer (Ok tt) → Says {B = Tab} (λ u. u.rows) answer (Ok t)
in_table (Ok rows) t said = said
in_table (Err None) t said = tt
in_table (Err (Some refusal)) t said = said

-- a node with other rows
pub node_on : (node made : Tbl) (stood table : Tab) (rows : Rows) → made.parent ≡ node.parent → stood ≡ node.table → table ≡ record stood { rows = rows } → made.table ≡ table → made ≡ with_other_rows rows node
node_on node made stood table rows above is with same =
    let whole : made.table ≡ record node.table { rows = rows } = same ∙ with ∙ ap (λ (t : Tab). record t { rows = rows }) is in λ i. record { parent = above i; table = whole i }

-- ---- the list

-- a search that doesn't run gets no list
pub halted : (T : Tree) (s : Search) (b : Bool) → b ≡ runs s → b ≡ false → Says {B = Option Tbl} (λ list. list) (list_if_wrong T s) (Ok None)
unfolding list_if_wrong
halted T s b is off = let halts : runs s ≡ false = sym is ∙ off in rw halts refl

-- the rows that are built are those that the search is to have
list_right : (T : Tree) (s : Search) (t : Tbl) (rows : Rows) → IsWhole T → table_at T nothing (results s.nid) ≡ Ok t → built_rows T s t.table.columns ≡ Ok rows
    → lists_right T s ≡ pointwise nat_eq (row_ids t.table.rows) (row_ids rows)
list_right T s t rows whole there are =
    let built : AreBuilt T s t.table.columns rows = subst (λ a. Fine a (AreBuilt T s t.table.columns)) are (rows_built T s t.table.columns whole) in
    ap (holds_of (λ (u : Tbl). pointwise nat_eq (row_ids u.table.rows) (lists T s))) (table_there T (results s.nid) t there) ∙ ap (pointwise nat_eq (row_ids t.table.rows)) (sym built.lists_all)

module _ (T : Tree) (s : Search) (b : Bool) (is : b ≡ runs s) (on : b ≡ true) where
  run : runs s ≡ true
  run = sym is ∙ on

  -- there is no list
  pub table_stops : (stop : Stop) → Says {B = Tbl} (λ t. t) (table_at T nothing (results s.nid)) (Err stop) → Says {B = Option Tbl} (λ list. list) (list_if_wrong T s) (Err stop)
  unfolding list_if_wrong list_anew
  table_stops stop first =
      rw run (grouped (λ list. list) (table_at T nothing (results s.nid)) (λ t. built_rows T s t.table.columns >>= λ rows. Ok (with_other_rows (with_stood t.table.rows rows) t)) (λ t. Ok (if lists_right T s then None else Some t)) (Err stop)
      (stop_says (λ t. t) (λ list. list) (table_at T nothing (results s.nid)) _ stop first))

  -- its rows can't be built
  pub rows_stop : (t : Tbl) (stop : Stop) → Says {B = Tbl} (λ t. t) (table_at T nothing (results s.nid)) (Ok t) → Says {B = Tab} (λ u. u.rows) (built_rows T s t.table.columns) (Err stop)
      → Says {B = Option Tbl} (λ list. list) (list_if_wrong T s) (Err stop)
  unfolding list_if_wrong list_anew
  rows_stop t stop first second =
      rw run (grouped (λ list. list) (table_at T nothing (results s.nid)) (λ t. built_rows T s t.table.columns >>= λ rows. Ok (with_other_rows (with_stood t.table.rows rows) t)) (λ t. Ok (if lists_right T s then None else Some t)) (Err stop)
      (then_says (λ t. t) (λ list. list) (table_at T nothing (results s.nid)) _ t (Err stop) first
      (grouped (λ list. list) (built_rows T s t.table.columns) (λ rows. Ok (with_other_rows (with_stood t.table.rows rows) t)) (λ t. Ok (if lists_right T s then None else Some t)) (Err stop)
      (stop_says (λ (u : Tab). u.rows) (λ list. list) (built_rows T s t.table.columns) _ stop second))))

  -- the list gets the rows that were built, unless it has rows of the same ids
  pub list_on : (t : Tbl) (u : Tab) (result : Result (Option Tbl) Stop) → IsWhole T → Says {B = Tbl} (λ t. t) (table_at T nothing (results s.nid)) (Ok t) → Says {B = Tab} (λ u. u.rows) (built_rows T s t.table.columns) (Ok u)
      → Says (λ list. list) (Ok (if pointwise nat_eq (row_ids t.table.rows) (row_ids u.rows) then None else Some (with_other_rows (with_stood t.table.rows u.rows) t))) result
      → Says (λ list. list) (list_if_wrong T s) result
  unfolding list_if_wrong list_anew
  list_on t u result whole first second last =
      rw run (grouped (λ list. list) (table_at T nothing (results s.nid)) (λ t. built_rows T s t.table.columns >>= λ rows. Ok (with_other_rows (with_stood t.table.rows rows) t)) (λ t. Ok (if lists_right T s then None else Some t)) result
      (then_given (λ t. t) (λ list. list) (table_at T nothing (results s.nid)) _ t result first (λ there.
      grouped (λ list. list) (built_rows T s t.table.columns) (λ rows. Ok (with_other_rows (with_stood t.table.rows rows) t)) (λ t. Ok (if lists_right T s then None else Some t)) result
      (then_given (λ (u : Tab). u.rows) (λ list. list) (built_rows T s t.table.columns) _ u result second (λ are.
      subst (λ (right : Bool). Says (λ list. list) (Ok (if right then None else Some (with_other_rows (with_stood t.table.rows u.rows) t))) result) (sym (list_right T s t u.rows whole there are)) last)))))

  -- it has
  pub right_on : (t : Tbl) (u : Tab) (same : Bool) → IsWhole T → Says {B = Tbl} (λ t. t) (table_at T nothing (results s.nid)) (Ok t) → Says {B = Tab} (λ u. u.rows) (built_rows T s t.table.columns) (Ok u)
      → same ≡ pointwise nat_eq (row_ids t.table.rows) (row_ids u.rows) → same ≡ true → Says {B = Option Tbl} (λ list. list) (list_if_wrong T s) (Ok None)
  right_on t u same whole first second tells so =
      let right : pointwise nat_eq (row_ids t.table.rows) (row_ids u.rows) ≡ true = sym tells ∙ so in list_on t u (Ok None) whole first second (rw right refl)

  -- it hasn't
  pub wrong_on : (t : Tbl) (u : Tab) (v : Tbl) (same : Bool) → IsWhole T → Says {B = Tbl} (λ t. t) (table_at T nothing (results s.nid)) (Ok t) → Says {B = Tab} (λ u. u.rows) (built_rows T s t.table.columns) (Ok u)
      → same ≡ pointwise nat_eq (row_ids t.table.rows) (row_ids u.rows) → same ≡ false → v ≡ with_other_rows (with_stood t.table.rows u.rows) t → Says {B = Option Tbl} (λ list. list) (list_if_wrong T s) (Ok (Some v))
  wrong_on t u v same whole first second tells so made =
      let wrong : pointwise nat_eq (row_ids t.table.rows) (row_ids u.rows) ≡ false = sym tells ∙ so in list_on t u (Ok (Some v)) whole first second (rw wrong (ap Some made))
