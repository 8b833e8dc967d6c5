-- The value of a column among values that ascend by id.
use Rattle.std.proofs.Common.{◌≡◌, ◌∙◌, ◌≤◌, ◌<◌, ◌⊎◌, ◌==◌, ◌&&◌, ◌+◌, ◌%◌, ◌++◌, ◌∷◌, [], ℕ, suc, Bool, true, false, not, List, length, drop, get_or, Option, Some, None, refl, sym, ap, inl, inr, arith}
use Rattle.std.specs.Prelude.{nat_le}
use Rattle.std.specs.List.{list_all, list_any}
use Rattle.std.proofs.lemmas.List.{drop_more}
use Rattle.std.proofs.lemmas.Bool.{and_parts, cases_Bool, eq-eqb, eqb-true, leb-true, ne_eqb, true≢false}
use Rattle.bth_tree.proofs.OptionLaws.{none-some, some-injective}
use Rattle.pst_base.specs.Fields.{number_at}
use Rattle.mapi_values.specs.declared.column.Column.{Column}
use Rattle.mapi_values.specs.Columns.{has_column, in_cell, is_column, suits_cell}
use Rattle.mapi_values.specs.Properties.{ascend_from, find}
use Rattle.mapi_values.specs.Tables.{value_suits}
use Rattle.mapi_values.specs.Values.{Val}
use Rattle.table_context.specs.Rows.{cell_names, has_cell, row_names, subnode}
use Rattle.table_writer.proofs.FillLaws.{column-parts}
use Rattle.row_edit.specs.Cells.{held, in_subnode, of_kind, pick}

pub pick-above : (vs : List Val) (low : ℕ) (c : Column) → ascend_from low vs ≡ true → c.tag.id < low → pick vs c ≡ None
pick-above [] low c a lt = refl
pick-above (v ∷ vs) low c a lt =
    let p = and_parts (nat_le low v.id) (ascend_from (suc v.id) vs) a in
    let le : low ≤ v.id = leb-true low v.id p.0 in
    rw (ne_eqb c.tag.id v.id (λ e. omega (arith, le, lt, e))) (pick-above vs (suc v.id) c p.1 (omega (arith, le, lt)))

pub find-pick : (vs : List Val) (low : ℕ) (c : Column) → ascend_from low vs ≡ true → of_kind c.tag.kind (find c.tag.id vs) ≡ pick vs c
find-pick [] low c a = refl
find-pick (v ∷ vs) low c a =
    let p = and_parts (nat_le low v.id) (ascend_from (suc v.id) vs) a in
    elim (cases_Bool (v.id == c.tag.id)) [
      | inl t ↦
          let e : v.id ≡ c.tag.id = eqb-true v.id c.tag.id t in
          elim (cases_Bool (v.kind == c.tag.kind)) [
            | inl u ↦ rw (t, u, eq-eqb c.tag.id v.id (sym e), eq-eqb c.tag.kind v.kind (sym (eqb-true v.kind c.tag.kind u))) refl
            | inr g ↦
                let ne : (c.tag.kind == v.kind) ≡ false = ne_eqb c.tag.kind v.kind (λ z. absurd (true≢false (sym (eq-eqb v.kind c.tag.kind (sym z)) ∙ g))) in
                rw (t, g, eq-eqb c.tag.id v.id (sym e), ne) (sym (pick-above vs (suc v.id) c p.1 (omega (arith, e))))
          ]
      | inr f ↦
          let ne : (c.tag.id == v.id) ≡ false = ne_eqb c.tag.id v.id (λ z. absurd (true≢false (sym (eq-eqb v.id c.tag.id (sym z)) ∙ f))) in
          rw (f, ne) (find-pick vs (suc v.id) c p.1)
    ]

pub pick-column : (vs : List Val) (c : Column) (v : Val) → pick vs c ≡ Some v → is_column v.id v.kind c ≡ true
pick-column [] c v h = absurd (none-some v h)
pick-column (w ∷ vs) c v h = elim (cases_Bool (is_column w.id w.kind c)) [
  | inl t ↦
      let e : Some w ≡ Some v = rw t at h in
      let same : w ≡ v = some-injective w v e in
      ap (λ (x : Val). is_column x.id x.kind c) (sym same) ∙ t
  | inr f ↦ pick-column vs c v (rw f at h)
]

pub pick-all : (p : Val → Bool) (vs : List Val) (c : Column) (v : Val) → list_all p vs ≡ true → pick vs c ≡ Some v → p v ≡ true
pick-all p [] c v a h = absurd (none-some v h)
pick-all p (w ∷ vs) c v a h =
    let q = and_parts (p w) (list_all p vs) a in
    elim (cases_Bool (is_column w.id w.kind c)) [
      | inl t ↦
          let e : Some w ≡ Some v = rw t at h in
          let same : w ≡ v = some-injective w v e in
          ap p (sym same) ∙ q.0
      | inr f ↦ pick-all p vs c v q.1 (rw f at h)
    ]

-- what a value that suits the columns is
pub suits-parts : (columns : List Column) (v : Val) → value_suits columns v ≡ true → (has_column columns v.id v.kind ≡ true) × (not (v.id == 0x67F2) ≡ true) × (suits_cell v.kind (length v.bytes) ≡ true)
unfolding value_suits
suits-parts columns v h =
    let a = and_parts (has_column columns v.id v.kind) (not (v.id == 0x67F2) && suits_cell v.kind (length v.bytes)) h in
    let b = and_parts (not (v.id == 0x67F2)) (suits_cell v.kind (length v.bytes)) a.1 in
    (a.0, b.0, b.1)

-- no value is the row id
pub pick-id : (columns : List Column) (vs : List Val) (c : Column) → list_all (value_suits columns) vs ≡ true → c.tag.id ≡ 0x67F2 → pick vs c ≡ None
pick-id columns [] c a e = refl
pick-id columns (v ∷ vs) c a e =
    let q = and_parts (value_suits columns v) (list_all (value_suits columns) vs) a in
    let s = suits-parts columns v q.0 in
    elim (cases_Bool (is_column v.id v.kind c)) [
      | inl t ↦
          let same : (v.id == 0x67F2) ≡ true = eq-eqb v.id 0x67F2 (sym (column-parts v.id v.kind c t).0 ∙ e) in
          absurd (true≢false (sym s.1 ∙ ap not same))
      | inr f ↦ rw f (pick-id columns vs c q.1 e)
    ]

-- ---- what names subnodes

not-back : (b : Bool) → not b ≡ false → b ≡ true
not-back true h = refl
not-back false h = absurd (true≢false h)

pub option-cases : {A : Type 0} (o : Option A) → ((x : A) × (o ≡ Some x)) ⊎ (o ≡ None)
option-cases None = inr refl
option-cases (Some x) = inl (x, refl)

names-held : (third : ℕ) (row : List ℕ) (c : Column) → in_subnode third row c ≡ false → cell_names third row c ≡ []
unfolding held cell_names subnode
names-held third row c f = elim (cases_Bool (has_cell third row c)) [
  | inl t ↦ elim (option-cases (in_cell c.tag.kind)) [
    | inl some ↦ rw (t, some.1) refl
    | inr none ↦
        let g : not (number_at 4 c.at row % 32 == 0) ≡ false = rw (t, none) at f in
        rw (t, none, not-back (number_at 4 c.at row % 32 == 0) g) refl
  ]
  | inr n ↦ rw n refl
]

pub names-none : (third : ℕ) (row : List ℕ) (columns : List Column) → list_any (in_subnode third row) columns ≡ false → row_names third columns row ≡ []
names-none third row [] f = refl
names-none third row (c ∷ cs) f = elim (cases_Bool (in_subnode third row c)) [
  | inl t ↦ absurd (true≢false (rw t at f))
  | inr g ↦ rw (names-held third row c g) (names-none third row cs (rw g at f))
]

some-names : (third : ℕ) (row : List ℕ) (c : Column) → in_subnode third row c ≡ true → cell_names third row c ≡ [] → ⊥
unfolding held cell_names subnode
some-names third row c h e = elim (cases_Bool (has_cell third row c)) [
  | inl t ↦ elim (option-cases (in_cell c.tag.kind)) [
    | inl some ↦ let g : false ≡ true = rw (t, some.1) at h in true≢false (sym g)
    | inr none ↦
        let g : not (number_at 4 c.at row % 32 == 0) ≡ true = rw (t, none) at h in
        elim (cases_Bool (number_at 4 c.at row % 32 == 0)) [
          | inl z ↦ let w : false ≡ true = rw z at g in true≢false (sym w)
          | inr z ↦ let w : number_at 4 c.at row ∷ [] ≡ [] = rw (t, none, z) at e in absurd cc
        ]
  ]
  | inr n ↦ let g : false ≡ true = rw n at h in true≢false (sym g)
]

append-none : (a b : List ℕ) → a ++ b ≡ [] → (a ≡ []) × (b ≡ [])
append-none [] b e = (refl, e)
append-none (x ∷ a) b e = absurd cc

pub names-some : (third : ℕ) (row : List ℕ) (columns : List Column) → list_any (in_subnode third row) columns ≡ true → row_names third columns row ≡ [] → ⊥
names-some third row [] h e = true≢false (sym h)
names-some third row (c ∷ cs) h e =
    let p = append-none (cell_names third row c) (row_names third cs row) e in
    elim (cases_Bool (in_subnode third row c)) [
      | inl t ↦ some-names third row c t p.0
      | inr g ↦ names-some third row cs (rw g at h) p.1
    ]

-- one more column, which names a subnode or not
pub any-here : (third : ℕ) (row : List ℕ) (columns : List Column) (i : ℕ) (d : Column) (b : Bool) → i < length columns → list_any (in_subnode third row) (drop i columns) ≡ b
    → in_subnode third row (get_or columns i d) ≡ true → true ≡ b
any-here third row columns i d b lt h t =
    let whole : list_any (in_subnode third row) (get_or columns i d ∷ drop (i + 1) columns) ≡ b = rw (drop_more columns i d lt) at h in
    rw t at whole

pub any-next : (third : ℕ) (row : List ℕ) (columns : List Column) (i : ℕ) (d : Column) (b : Bool) → i < length columns → list_any (in_subnode third row) (drop i columns) ≡ b
    → in_subnode third row (get_or columns i d) ≡ false → list_any (in_subnode third row) (drop (i + 1) columns) ≡ b
any-next third row columns i d b lt h f =
    let whole : list_any (in_subnode third row) (get_or columns i d ∷ drop (i + 1) columns) ≡ b = rw (drop_more columns i d lt) at h in
    rw f at whole
