-- Rows, of which those that stay keep their cells.
use Rattle.std.proofs.Common.{◌≡◌, ◌∙◌, ℕ, suc, ◌==◌, ◌&&◌, true, List, [], ◌∷◌, ◌++◌, Option, None, Some, ap, is_some, refl, sym, inl, inr}
use Rattle.std.specs.Prelude.{nat_le}
use Rattle.std.specs.List.{list_all}
use Rattle.std.proofs.lemmas.Bool.{and_from, and_parts, cases_Bool, eqb-true, false≢true}
use Rattle.mapi_values.specs.Keyed.{keys_ascend}
use Rattle.mapi_values.specs.Messages.{Mes}
use Rattle.mapi_values.specs.Tables.{IsTable, Tab, find_row, mirror, row_suits}
use Rattle.mapi_values.specs.Values.{Val}
use Rattle.mapi_values.specs.declared.column.Column.{Column}
use Rattle.mail_searches.specs.Searches.{row_ids}
use Rattle.search_lists.specs.Laws.{MirrorsMessage}
use Rattle.search_mending.specs.Mending.{or_stood, with_stood}

abbrev pub Rows : Type 0
Rows = List (ℕ × List Val)

-- a row that keeps its cells has its id
pub stood_id : (row : ℕ × List Val) (stood : Rows) → (or_stood row (find_row row.0 stood)).0 ≡ row.0
stood_id row [] = refl
stood_id row (r ∷ rs) = elim (cases_Bool (r.0 == row.0)) [ inl t ↦ rw t (eqb-true r.0 row.0 t) | inr f ↦ rw f (stood_id row rs) ]

-- so the ids are the same
pub stood_ids : (stood rows : Rows) → row_ids (with_stood stood rows) ≡ row_ids rows
stood_ids stood [] = refl
stood_ids stood (r ∷ rs) = ap (λ i. i ∷ row_ids (with_stood stood rs)) (stood_id r stood) ∙ ap (λ is. r.0 ∷ is) (stood_ids stood rs)

-- and in order
pub stood_ascends : (low : ℕ) (stood rows : Rows) → keys_ascend (λ r. r.0) low (with_stood stood rows) ≡ keys_ascend (λ r. r.0) low rows
stood_ascends low stood [] = refl
stood_ascends low stood (r ∷ rs) =
    ap (λ i. nat_le low i && keys_ascend (λ r. r.0) (suc i) (with_stood stood rs)) (stood_id r stood) ∙ ap (λ b. nat_le low r.0 && b) (stood_ascends (suc r.0) stood rs)

-- a row of one table or the other
stood_suits : (columns : List Column) (row : ℕ × List Val) (stood : Rows) → list_all (row_suits columns) stood ≡ true → row_suits columns row ≡ true → row_suits columns (or_stood row (find_row row.0 stood)) ≡ true
stood_suits columns row [] all one = one
stood_suits columns row (r ∷ rs) all one =
    let p = and_parts (row_suits columns r) (list_all (row_suits columns) rs) all in
    elim (cases_Bool (r.0 == row.0)) [ inl t ↦ rw t p.0 | inr f ↦ rw f (stood_suits columns row rs p.1 one) ]

-- cells of one table or the other suit the columns of both
all_suit : (columns : List Column) (stood rows : Rows) → list_all (row_suits columns) stood ≡ true → list_all (row_suits columns) rows ≡ true → list_all (row_suits columns) (with_stood stood rows) ≡ true
all_suit columns stood [] all more = refl
all_suit columns stood (r ∷ rs) all more =
    let p = and_parts (row_suits columns r) (list_all (row_suits columns) rs) more in
    and_from (row_suits columns (or_stood r (find_row r.0 stood))) (list_all (row_suits columns) (with_stood stood rs)) (stood_suits columns r stood all p.0) (all_suit columns stood rs all p.1)

-- a table with these rows is one
pub stood_table : (stood built : Tab) → built.columns ≡ stood.columns → IsTable stood → IsTable built → IsTable (record stood { rows = with_stood stood.rows built.rows })
stood_table stood built same s b = record {
  layout = s.layout;
  ascend = stood_ascends 0 stood.rows built.rows ∙ b.ascend;
  suit = all_suit stood.columns stood.rows built.rows s.suit (ap (λ columns. list_all (row_suits columns) built.rows) (sym same) ∙ b.suit);
}

-- one row more
pub stood_more : (stood rows more : Rows) → with_stood stood (rows ++ more) ≡ with_stood stood rows ++ with_stood stood more
stood_more stood [] more = refl
stood_more stood (r ∷ rs) more = ap (λ x. or_stood r (find_row r.0 stood) ∷ x) (stood_more stood rs more)

-- rows that keep their cells mirror their message where both did
pub stood_shows : (columns : List Column) (stood rows : Rows) (m : ℕ) (message : Option Mes) → MirrorsMessage columns stood m message → MirrorsMessage columns rows m message → MirrorsMessage columns (with_stood stood rows) m message
stood_shows columns stood [] m message old new M e there = absurd (false≢true there)
stood_shows columns stood (r ∷ rs) m message old new M e there =
    let id : ((or_stood r (find_row r.0 stood)).0 == m) ≡ (r.0 == m) = ap (λ x. x == m) (stood_id r stood) in
    elim (cases_Bool (r.0 == m)) [
      | inl t ↦ rw (id, t) (by-stood (find_row r.0 stood) (ap (λ x. find_row x stood) (eqb-true r.0 m t)) (sym (rw t refl) ∙ new M e (rw t refl)))
      | inr f ↦ rw (id, f) (stood_shows columns stood rs m message old (λ N e' there'. sym (rw f refl) ∙ new N e' (rw f there')) M e (sym (rw (id, f) refl) ∙ there))
    ]
  where
    by-stood : (o : Option (ℕ × List Val)) → o ≡ find_row m stood → Some r ≡ Some (m, mirror columns M.props) → Some (or_stood r o) ≡ Some (m, mirror columns M.props)
    by-stood None is one = one
    by-stood (Some row) is one = is ∙ old M e (ap is_some (sym is))
