-- What stays while a search gets other rows, and which searches are stale still.
use Rattle.std.proofs.Common.{◌≡◌, ◌∙◌, ℕ, ◌==◌, ◌&&◌, true, not, List, [], ◌∷◌, Option, None, Some, IfOk, ap, refl, sym, inl, inr}
use Rattle.std.specs.Prelude.{nat_eq}
use Rattle.std.specs.Cmp.Lexicographic.{pointwise, same_text}
use Rattle.std.proofs.lemmas.Bool.{cases_Bool, eqb-true}
use Rattle.std.proofs.lemmas.Cmp.{nat_list_eq_equiv}
use Rattle.mapi_values.specs.Keyed.{find_key}
use Rattle.restr_eval.specs.Eval.{holds_of}
use Rattle.mail_objects.specs.Forms.{Tbl}
use Rattle.mail_objects.specs.declared.object.Object.{Object}
use Rattle.mail_objects.specs.declared.object.Object.TheVariants.{Bare, Context, Message, Table}
use Rattle.mail_tree.specs.Changing.{Changed, ◌>>=◌, as_message, as_table, context_at, now_at, with_object, with_rows}
use Rattle.mail_tree.specs.Settling.{mirrored}
use Rattle.mail_tree.specs.Tree.{Tree, object_at}
use Rattle.mail_tree.proofs.StoodLaws.{AreStood, goes_on, is_context, mirrored_stood, stood_put, stood_then, values_stood}
use Rattle.mail_searches.specs.Relisting.{counted_search, unless_unclear, with_results}
use Rattle.mail_searches.specs.Searches.{IsFresh, Search, is_listed, lists, results, row_ids, runs}
use Rattle.search_lists.proofs.ListLaws.{lists_all, one-list}
use Rattle.search_mending.proofs.RowLaws.{Rows}
use Rattle.search_mending.specs.Mending.{lists_right, lists_wrong}

-- ---- a search gets other rows

-- the table counts by its rows alone
pub same_results : (T : Tree) (s : ℕ) (rows : Rows) (t u : Tbl) (D : Changed) → with_rows rows t ≡ with_rows rows u → with_results T s rows t D ≡ with_results T s rows u D
unfolding with_results
same_results T s rows t u D e = ap (λ (x : Object). counted_search T s rows (with_object (results s) (Some x) D) >>= mirrored T s) e

-- what is put can be compared with the tree
module _ (T : Tree) (new : ℕ → Type 0) where
  counted-stood : (s : ℕ) (rows : Rows) (D : Changed) → AreStood T new D → IfOk (counted_search T s rows D) (AreStood T new)
  unfolding counted_search
  counted-stood s rows D all = goes_on _ (context_at T D s) _ (λ c is. goes_on _ (unless_unclear T D rows) _ (λ u v. values_stood T new s c _ D all (is_context (now_at T D s) c is)))

  pub results_stood : (s : ℕ) (rows : Rows) (t : Tbl) (D : Changed) → AreStood T new D → IfOk (with_results T s rows t D) (AreStood T new)
  unfolding with_results
  results_stood s rows t D all =
      stood_then (counted_search T s rows (with_object (results s) (Some (with_rows rows t)) D)) (mirrored T s)
      (counted-stood s rows _ (stood_put T new (results s) (Some (with_rows rows t)) D tt all)) (λ D' k. mirrored_stood T new s D' k)

-- ---- which searches are stale

-- an element that is found has its key
pub found_key : {E : Type 0} (key : E → ℕ) (k : ℕ) (xs : List E) (x : E) → find_key key k xs ≡ Some x → key x ≡ k
found_key key k [] x e = cc
found_key key k (y ∷ ys) x e = elim (cases_Bool (key y == k)) [
  | inl t ↦ let same : y ≡ x = one y x (rw t at e) in ap key (sym same) ∙ eqb-true (key y) k t
  | inr f ↦ found_key key k ys x (rw f at e)
]
  where
    one : {E : Type 0} (y x : E) → Some y ≡ Some x → y ≡ x
    one y x e = cc

-- a list is itself
pub texts_same : (xs : List ℕ) → pointwise nat_eq xs xs ≡ true
texts_same xs = nat_list_eq_equiv.refl xs

table-is : (o : Option Object) (t : Tbl) → as_table o ≡ Some t → o ≡ Some (Table t)
table-is None t e = cc
table-is (Some (Table u)) t e = cc
table-is (Some (Context c)) t e = cc
table-is (Some (Message m)) t e = cc
table-is (Some (Bare parent)) t e = cc

-- a table has the rows that it is to have just where the search is fresh
pub right_fresh : (T : Tree) (s : Search) → lists_right T s ≡ true → IsFresh T s
right_fresh T s right = by-table (as_table (object_at T (results s.nid))) refl right
  where
    by-table : (o : Option Tbl) → as_table (object_at T (results s.nid)) ≡ o → holds_of (λ (t : Tbl). pointwise nat_eq (row_ids t.table.rows) (lists T s)) o ≡ true → IsFresh T s
    by-table None e r = cc
    by-table (Some t) e r = (t, table-is (object_at T (results s.nid)) t e, same_text (row_ids t.table.rows) (lists T s) (sym r))

pub fresh_right : (T : Tree) (s : Search) → IsFresh T s → lists_right T s ≡ true
fresh_right T s fresh =
    ap (λ o. holds_of (λ (t : Tbl). pointwise nat_eq (row_ids t.table.rows) (lists T s)) (as_table o)) fresh.1 ∙ ap (λ ids. pointwise nat_eq ids (lists T s)) fresh.2 ∙ texts_same (lists T s)

-- the same messages in the same folders are listed
pub same_lists : (T U : Tree) (s : Search) → U.places ≡ T.places → ((m : ℕ) → as_message (object_at U m) ≡ as_message (object_at T m)) → lists U s ≡ lists T s
same_lists T U s places messages = one-list 0 (lists U s) (lists T s) (lists_all.ascend U s) (lists_all.ascend T s)
    (λ k. lists_all.members U s k ∙ (ap (λ ps. is_listed ps s (as_message (object_at U k))) places ∙ ap (is_listed T.places s) (messages k)) ∙ sym (lists_all.members T s k))

-- where its table is the same too, a search is as stale as it was
pub same_wrong : (T U : Tree) (s : Search) → lists U s ≡ lists T s → object_at U (results s.nid) ≡ object_at T (results s.nid) → lists_wrong U s ≡ lists_wrong T s
same_wrong T U s same table =
    ap (λ ids. runs s && not (holds_of (λ (t : Tbl). pointwise nat_eq (row_ids t.table.rows) ids) (as_table (object_at U (results s.nid))))) same
    ∙ ap (λ o. runs s && not (holds_of (λ (t : Tbl). pointwise nat_eq (row_ids t.table.rows) (lists T s)) (as_table o))) table
