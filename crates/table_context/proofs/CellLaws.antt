-- The values of a row, column by column.
use Rattle.std.proofs.Common.{◌≡◌, ◌∙◌, ◌<◌, ◌≤◌, ◌==◌, ◌&&◌, ◌+◌, ◌++◌, ◌∷◌, [], ℕ, Bool, true, false, not, List, length, get_or, drop, take, Option, Some, None, refl, sym, ap, subst, inl, inr, append_assoc, length-drop, arith, if◌then◌else◌}
use Rattle.std.proofs.lemmas.Bool.{and_from, and_parts, cases_Bool, eq-eqb}
use Rattle.std.proofs.lemmas.List.{drop_more, length-take-le}
use Rattle.std.specs.List.{list_all}
use Rattle.std.specs.Option.{unwrap_or}
use Rattle.bth_tree.proofs.OptionLaws.{bind-some, none-some, some-injective}
use Rattle.std.specs.Option.{option_and_then}
use Rattle.mapi_values.specs.declared.column.Column.{Column}
use Rattle.mapi_values.specs.Columns.{cell_width, has_column, has_width, in_cell, is_column, lies, suits_cell}
use Rattle.mapi_values.specs.Properties.{all_fit, ascend_from}
use Rattle.mapi_values.specs.Tables.{cells_suit, value_suits}
use Rattle.mapi_values.specs.Values.{Val, fits, value_fits}
use Rattle.table_context.specs.Rows.{cell_of, cells_of, content, has_cell, is_set, row_of, shows_id, value_in}
use Rattle.table_context.proofs.LayoutLaws.{lies-parts}
use Rattle.table_context.proofs.StepLaws.{before, before-step, first}

module _ (get : ℕ → Option (List ℕ)) (sub : ℕ → Option (List (List ℕ))) (from : ℕ) (row : List ℕ) where
  cells-more : (columns : List Column) (i : ℕ) (d : Column) → i < length columns
      → cells_of get sub from row (drop i columns) ≡ cells_of get sub from row (get_or columns i d ∷ drop (i + 1) columns)
  cells-more columns i d h = ap (cells_of get sub from row) (drop_more columns i d h)

  cells-has : (c : Column) (cs : List Column) → has_cell from row c ≡ true
      → cells_of get sub from row (c ∷ cs) ≡ option_and_then (λ (v : Val). first v (cells_of get sub from row cs)) (cell_of get sub row c)
  cells-has c cs t = rw t refl

  cells-lacks : (c : Column) (cs : List Column) → has_cell from row c ≡ false → cells_of get sub from row (c ∷ cs) ≡ cells_of get sub from row cs
  cells-lacks c cs f = rw f refl

  pub cells-fault : (columns : List Column) (i : ℕ) (d : Column) (out : List Val) (all : Option (List Val)) → i < length columns → has_cell from row (get_or columns i d) ≡ true
      → before out (cells_of get sub from row (drop i columns)) ≡ all → cell_of get sub row (get_or columns i d) ≡ None → all ≡ None
  cells-fault columns i d out all h t so_far none =
      sym so_far ∙ ap (before out) (cells-more columns i d h ∙ cells-has (get_or columns i d) (drop (i + 1) columns) t
      ∙ ap (option_and_then (λ (v : Val). first v (cells_of get sub from row (drop (i + 1) columns)))) none)

  pub cells-step : (columns : List Column) (i : ℕ) (d : Column) (out : List Val) (all : Option (List Val)) (v : Val) → i < length columns → has_cell from row (get_or columns i d) ≡ true
      → before out (cells_of get sub from row (drop i columns)) ≡ all → cell_of get sub row (get_or columns i d) ≡ Some v
      → before (out ++ v ∷ []) (cells_of get sub from row (drop (i + 1) columns)) ≡ all
  cells-step columns i d out all v h t so_far some =
      before-step out v (cells_of get sub from row (drop (i + 1) columns))
      ∙ sym (ap (before out) (cells-more columns i d h ∙ cells-has (get_or columns i d) (drop (i + 1) columns) t
      ∙ ap (option_and_then (λ (v : Val). first v (cells_of get sub from row (drop (i + 1) columns)))) some))
      ∙ so_far

  pub cells-skip : (columns : List Column) (i : ℕ) (d : Column) (out : List Val) (all : Option (List Val)) → i < length columns → has_cell from row (get_or columns i d) ≡ false
      → before out (cells_of get sub from row (drop i columns)) ≡ all → before out (cells_of get sub from row (drop (i + 1) columns)) ≡ all
  cells-skip columns i d out all h f so_far =
      sym (ap (before out) (cells-more columns i d h ∙ cells-lacks (get_or columns i d) (drop (i + 1) columns) f)) ∙ so_far

-- what a value that was read is
pub value-parts : (c : Column) (x : List ℕ) (v : Val) → value_in c x ≡ Some v → (fits c.tag.kind (length x) ≡ true) × (record { id = c.tag.id; kind = c.tag.kind; bytes = x } ≡ v)
unfolding value_in
value-parts c x v h = elim (cases_Bool (fits c.tag.kind (length x))) [
  | inl t ↦
      let w : Val = record { id = c.tag.id; kind = c.tag.kind; bytes = x } in
      let same : Some w ≡ Some v = rw t at h in
      (t, some-injective w v same)
  | inr f ↦
      let none : None ≡ Some v = rw f at h in
      absurd (none-some v none)
]

-- bytes that stand in a cell have its width
content-width : (get : ℕ → Option (List ℕ)) (sub : ℕ → Option (List (List ℕ))) (row : List ℕ) (at : ℕ) (o : Option ℕ) (x : List ℕ) → at + unwrap_or o 4 ≤ length row → content get sub row at o ≡ Some x
    → has_width o (length x) ≡ true
content-width get sub row at None x room h = refl
content-width get sub row at (Some w) x room h =
    let e : take w (drop at row) ≡ x = some-injective (take w (drop at row)) x h in
    let n : length x ≡ w = ap length (sym e) ∙ length-take-le w (drop at row) (omega (arith, length-drop at row)) in
    eq-eqb w (length x) (sym n)

-- what a value in a cell is
pub cell-parts : (get : ℕ → Option (List ℕ)) (sub : ℕ → Option (List (List ℕ))) (row : List ℕ) (c : Column) (v : Val) → c.at + cell_width c.tag.kind ≤ length row → cell_of get sub row c ≡ Some v
    → (value_fits v ≡ true) × (v.id ≡ c.tag.id) × (v.kind ≡ c.tag.kind) × (suits_cell v.kind (length v.bytes) ≡ true)
unfolding cell_of suits_cell cell_width
cell-parts get sub row c v room h =
    let a = bind-some (value_in c) (content get sub row c.at (in_cell c.tag.kind)) v h in
    let b = value-parts c a.0 v a.2 in
    let width = content-width get sub row c.at (in_cell c.tag.kind) a.0 room a.1 in
    subst (λ (w : Val). (value_fits w ≡ true) × (w.id ≡ c.tag.id) × (w.kind ≡ c.tag.kind) × (has_width (in_cell w.kind) (length w.bytes) ≡ true)) b.1 (b.0, refl, refl, width)

-- what holds of the values of columns holds of all
pub cells-all : (get : ℕ → Option (List ℕ)) (sub : ℕ → Option (List (List ℕ))) (from : ℕ) (row : List ℕ) (p : Val → Bool) (q : Column → Bool)
    → ((c : Column) (v : Val) → q c ≡ true → has_cell from row c ≡ true → cell_of get sub row c ≡ Some v → p v ≡ true)
    → (columns : List Column) (vs : List Val) → list_all q columns ≡ true → cells_of get sub from row columns ≡ Some vs → list_all p vs ≡ true
cells-all get sub from row p q one [] vs a h =
    let e : [] ≡ vs = some-injective [] vs h in
    subst (λ (ws : List Val). list_all p ws ≡ true) e refl
cells-all get sub from row p q one (c ∷ cs) vs a h =
    let parts = and_parts (q c) (list_all q cs) a in
    elim (cases_Bool (has_cell from row c)) [
      | inl t ↦
          let x = bind-some (λ (v : Val). first v (cells_of get sub from row cs)) (cell_of get sub row c) vs (rw t at h) in
          let y = bind-some (λ (ws : List Val). Some (x.0 ∷ ws)) (cells_of get sub from row cs) vs x.2 in
          let e : x.0 ∷ y.0 ≡ vs = some-injective (x.0 ∷ y.0) vs y.2 in
          subst (λ (ws : List Val). list_all p ws ≡ true) e (and_from (p x.0) (list_all p y.0) (one c x.0 parts.0 t x.1) (cells-all get sub from row p q one cs y.0 parts.1 y.1))
      | inr f ↦ cells-all get sub from row p q one cs vs parts.1 (rw f at h)
    ]

module _ (get : ℕ → Option (List ℕ)) (sub : ℕ → Option (List (List ℕ))) (from : ℕ) (columns : List Column) (id : ℕ) (row : List ℕ) where
  pub row-no_id : shows_id columns id row ≡ false → row_of get sub from columns id row ≡ None
  unfolding row_of
  row-no_id f = rw f refl

  pub row-fault : shows_id columns id row ≡ true → cells_of get sub from row columns ≡ None → row_of get sub from columns id row ≡ None
  unfolding row_of
  row-fault t none = rw (t, none) refl

  pub row-order : (vs : List Val) → shows_id columns id row ≡ true → cells_of get sub from row columns ≡ Some vs → ascend_from 0 vs ≡ false → row_of get sub from columns id row ≡ None
  unfolding row_of
  row-order vs t some f = rw (t, some, f) refl

  pub row-is : (vs : List Val) → shows_id columns id row ≡ true → cells_of get sub from row columns ≡ Some vs → ascend_from 0 vs ≡ true → row_of get sub from columns id row ≡ Some (id, vs)
  unfolding row_of
  row-is vs t some a = rw (t, some, a) refl

  -- what a row that was read is
  pub row-parts : (r : ℕ × List Val) → row_of get sub from columns id row ≡ Some r → (r.0 ≡ id) × (cells_of get sub from row columns ≡ Some r.1) × (ascend_from 0 r.1 ≡ true)
  unfolding row_of
  row-parts r h = elim (cases_Bool (shows_id columns id row)) [
    | inl t ↦
        let a = bind-some (λ (vs : List Val). if ascend_from 0 vs then Some (id, vs) else None) (cells_of get sub from row columns) r (rw t at h) in
        elim (cases_Bool (ascend_from 0 a.0)) [
          | inl u ↦
              let same : Some (id, a.0) ≡ Some r = rw u at a.2 in
              let e : (id, a.0) ≡ r = some-injective (id, a.0) r same in
              subst (λ (s : ℕ × List Val). (s.0 ≡ id) × (cells_of get sub from row columns ≡ Some s.1) × (ascend_from 0 s.1 ≡ true)) e (refl, a.1, u)
          | inr f ↦
              let none : None ≡ Some r = rw f at a.2 in
              absurd (none-some r none)
        ]
    | inr f ↦
        let none : None ≡ Some r = rw f at h in
        absurd (none-some r none)
  ]

-- a column of the list is one of its columns
columns-have : (all before after : List Column) → all ≡ before ++ after → list_all (λ (c : Column). has_column all c.tag.id c.tag.kind) after ≡ true
columns-have all before [] e = refl
columns-have all before (c ∷ cs) e =
    let here : has_column all c.tag.id c.tag.kind ≡ true = ap (λ (ds : List Column). has_column ds c.tag.id c.tag.kind) e ∙ has-there before c cs in
    and_from (has_column all c.tag.id c.tag.kind) (list_all (λ (d : Column). has_column all d.tag.id d.tag.kind) cs) here
    (columns-have all (before ++ c ∷ []) cs (e ∙ sym (append_assoc before (c ∷ []) cs)))
  where
    has-there : (before : List Column) (c : Column) (cs : List Column) → has_column (before ++ c ∷ cs) c.tag.id c.tag.kind ≡ true
    has-there [] c cs =
        let t : is_column c.tag.id c.tag.kind c ≡ true = and_from (c.tag.id == c.tag.id) (c.tag.kind == c.tag.kind) (eq-eqb c.tag.id c.tag.id refl) (eq-eqb c.tag.kind c.tag.kind refl) in
        rw t refl
    has-there (b ∷ bs) c cs = elim (cases_Bool (is_column c.tag.id c.tag.kind b)) [
      | inl t ↦ rw t refl
      | inr f ↦ rw f (has-there bs c cs)
    ]

all-both : (p q : Column → Bool) (columns : List Column) → list_all p columns ≡ true → list_all q columns ≡ true → list_all (λ (c : Column). p c && q c) columns ≡ true
all-both p q [] a b = refl
all-both p q (c ∷ cs) a b =
    let x = and_parts (p c) (list_all p cs) a in
    let y = and_parts (q c) (list_all q cs) b in
    and_from (p c && q c) (list_all (λ (d : Column). p d && q d) cs) (and_from (p c) (q c) x.0 y.0) (all-both p q cs x.1 y.1)

has-not_id : (from : ℕ) (row : List ℕ) (c : Column) → has_cell from row c ≡ true → not (c.tag.id == 0x67F2) ≡ true
unfolding has_cell
has-not_id from row c t = (and_parts (not (c.tag.id == 0x67F2)) (is_set from row c.bit) t).0

module _ (get : ℕ → Option (List ℕ)) (sub : ℕ → Option (List (List ℕ))) (from : ℕ) (columns : List Column) (row : List ℕ) (lie : list_all (lies from (length row)) columns ≡ true) where
  cell-room : (c : Column) → lies from (length row) c ≡ true → c.at + cell_width c.tag.kind ≤ length row
  cell-room c h = let l = lies-parts from (length row) c h in omega (arith, l.cell, l.bit, l.width)

  pub cells-fit : (vs : List Val) → cells_of get sub from row columns ≡ Some vs → all_fit vs ≡ true
  cells-fit vs h = cells-all get sub from row value_fits (lies from (length row))
      (λ c v l t some. (cell-parts get sub row c v (cell-room c l) some).0) columns vs lie h

  pub cells-suit : (vs : List Val) → cells_of get sub from row columns ≡ Some vs → ascend_from 0 vs ≡ true → cells_suit columns vs ≡ true
  unfolding cells_suit value_suits
  cells-suit vs h a =
      let have = all-both (lies from (length row)) (λ (c : Column). has_column columns c.tag.id c.tag.kind) columns lie (columns-have columns [] columns refl) in
      let suit = cells-all get sub from row (value_suits columns) (λ (c : Column). lies from (length row) c && has_column columns c.tag.id c.tag.kind)
      (λ c v q t some.
      let two = and_parts (lies from (length row) c) (has_column columns c.tag.id c.tag.kind) q in
      let p = cell-parts get sub row c v (cell-room c two.0) some in
      let has : has_column columns v.id v.kind ≡ true = ap (λ (n : ℕ). has_column columns n v.kind) p.1 ∙ ap (λ (n : ℕ). has_column columns c.tag.id n) p.2 ∙ two.1 in
      let other : not (v.id == 0x67F2) ≡ true = ap (λ (n : ℕ). not (n == 0x67F2)) p.1 ∙ has-not_id from row c t in
      and_from (has_column columns v.id v.kind) (not (v.id == 0x67F2) && suits_cell v.kind (length v.bytes)) has
      (and_from (not (v.id == 0x67F2)) (suits_cell v.kind (length v.bytes)) other p.3)) columns vs have h in
      and_from (ascend_from 0 vs) (all_fit vs && list_all (value_suits columns) vs) a
      (and_from (all_fit vs) (list_all (value_suits columns) vs) (cells-fit vs h) suit)
