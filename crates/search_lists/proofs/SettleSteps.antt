-- Searches that are settled leave the tree in order.
use Rattle.std.proofs.Common.{◌≡◌, ℕ, ◌%◌, Bool, true, false, List, [], ◌∷◌, Some, IsSome, IfOk, Ok, Err, None, subst, sym, ◌∙◌, inl, inr, arith, refl, if◌then◌else◌, ◌||◌}
use Rattle.std.proofs.lemmas.Bool.{cases_Bool}
use Rattle.mapi_values.specs.Keyed.{keys_ascend}
use Rattle.mapi_values.specs.Tables.{drop_row}
use Rattle.mapi_values.specs.Values.{Val}
use Rattle.mapi_values.specs.declared.column.Column.{Column}
use Rattle.mapi_values.proofs.KeyedLaws.{drop-ascends}
use Rattle.mail_objects.specs.Forms.{Tbl}
use Rattle.mail_objects.specs.declared.object.Object.TheVariants.{Table}
use Rattle.mail_tree.specs.declared.places.FolderPlace.{FolderPlace}
use Rattle.mail_tree.specs.Changing.{Answer, Changed, ◌>>=◌, now_at}
use Rattle.mail_tree.specs.Places.{find_place}
use Rattle.mail_tree.specs.Tree.{Tree}
use Rattle.mail_tree.specs.Whole.{AreWhole, Fine, IsWhole}
use Rattle.mail_tree.proofs.FineLaws.{after_table, fine_either, fine_then, fine_weaker}
use Rattle.mail_tree.proofs.KindsOfPuts.{beside_kind}
use Rattle.mail_laws.proofs.Keeping.{KeepsAt}
use Rattle.mail_searches.specs.Searches.{Search, results, runs}
use Rattle.mail_searches.specs.Searching.{Each}
use Rattle.mail_searches.specs.Relisting.{Around, Touch, concerns, is_gone, relisted, relisted_row, settled_search, settled_searches, takes_row}
use Rattle.search_lists.specs.Laws.{AreApart}
use Rattle.search_lists.proofs.RowLaws.{relisted-ascends}
use Rattle.search_lists.proofs.SettleLaws.{searches-keep}
use Rattle.search_lists.proofs.Quiet.{IsQuiet}
use Rattle.search_lists.proofs.ListSteps.{IsOrderly, orderly_stay, orderly_then}
use Rattle.search_lists.proofs.ResultSteps.{results_orderly}

abbrev Ascend : List (ℕ × List Val) → Type 0
Ascend rows = keys_ascend (λ r. r.0) 0 rows ≡ true

-- a row that goes leaves the others in their order
gone_ascends : (b : Bool) (m : ℕ) (rows : List (ℕ × List Val)) → Ascend rows → Ascend (if b then drop_row m rows else rows)
gone_ascends true m rows a = drop-ascends (λ r. r.0) 0 m rows a
gone_ascends false m rows a = a

halted_ascends : (d : Around) (s : Search) (columns : List Column) → runs s ≡ false → (ts : List Touch) (rows : List (ℕ × List Val)) → Ascend rows → Ascend (relisted d s columns ts rows)
halted_ascends d s columns halted [] rows a = a
halted_ascends d s columns halted (t ∷ ts) rows a = halted_ascends d s columns halted ts (relisted_row d s columns t rows) (rw halted (gone_ascends (is_gone t) t.nid rows a))

-- rows that follow touched messages ascend
still_ascend : (d : Around) (s : Search) (columns : List Column) (ts : List Touch) (rows : List (ℕ × List Val)) → Ascend rows → Ascend (relisted d s columns ts rows)
still_ascend d s columns ts rows a = elim (cases_Bool (runs s)) [
  | inl run ↦ relisted-ascends d s columns run ts rows a
  | inr halted ↦ halted_ascends d s columns halted ts rows a
]

-- The folder of a search stands there, and its list is a table.
pub record Stands (T : Tree) (places : List FolderPlace) (D : Changed) (s : ℕ) : Type 0 where
  pub kind : s % 32 ≡ 3
  pub placed : (p : FolderPlace) × (find_place s places ≡ Some p)
  pub table : (t : Tbl) × (now_at T D (results s) ≡ Some (Table t))

-- it stands there still
stands_still : (T : Tree) (places : List FolderPlace) (D D' : Changed) → IsOrderly T places D D' → (ss : List Search) → Each (λ s. Stands T places D s.nid) ss → Each (λ s. Stands T places D' s.nid) ss
stands_still T places D D' o [] are = tt
stands_still T places D D' o (s ∷ ss) are =
    let is = are.0 in
    let t = o.quiet.tables (results s.nid) is.table.0 is.table.1 in
    (record { kind = is.kind; placed = is.placed; table = (t.0, t.1) }, stands_still T places D D' o ss are.1)

module _ (T : Tree) (was : IsWhole T) (places : List FolderPlace) (d : Around) (ts : List Touch) where
  search_orderly : (s : Search) (D : Changed) → AreWhole places (now_at T D) → Stands T places D s.nid → Fine (settled_search T d ts s D) (IsOrderly T places D)
  unfolding settled_search
  search_orderly s D w is =
      let t = is.table.0 in
      let stays = orderly_stay T places D w in
      fine_either (IsOrderly T places D) (concerns d s ts) _ (Ok D)
      (λ b. after_table (IsOrderly T places D) T D (results s.nid) t _ is.table.1 (fine_either (IsOrderly T places D) (runs s || takes_row t.table.rows ts) _ (Ok D)
      (λ c. results_orderly T places s.nid is.placed.0 is.kind is.placed.1 (relisted d s t.table.columns ts t.table.rows) t D was w is.table.1
      (still_ascend d s t.table.columns ts t.table.rows (w.rows_ascend (results s.nid) t is.table.1)))
      (λ c. stays)))
      (λ b. stays)

  -- searches are settled
  pub searches_orderly : (ss : List Search) (D : Changed) → AreWhole places (now_at T D) → AreApart ss → Each (λ s. Stands T places D s.nid) ss → Fine (settled_searches T d ts ss D) (IsOrderly T places D)
  searches_orderly [] D w apart stand = orderly_stay T places D w
  searches_orderly (s ∷ ss) D w apart stand =
      fine_then (IsOrderly T places D) (IsOrderly T places D) (settled_search T d ts s D) (settled_searches T d ts ss) (search_orderly s D w stand.0) (λ D1 one.
      fine_weaker (IsOrderly T places D1) (IsOrderly T places D) (settled_searches T d ts ss D1)
      (searches_orderly ss D1 one.whole apart.2 (stands_still T places D D1 one ss stand.1))
      (λ D2 rest. orderly_then T places D D1 D2 one rest))
