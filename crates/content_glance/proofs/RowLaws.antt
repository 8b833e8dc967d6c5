-- The ids of a table's rows are the keys of its row index.
use Rattle.std.proofs.Common.{if◌then◌else◌, ◌≡◌, ◌==◌, ◌≤◌, nat_le, ℕ, Bool, true, List, [], ◌∷◌, length, Option, Some, None, is_some, refl, sym, ap, ◌∙◌, inl, inr, arith}
use Rattle.std.proofs.lemmas.Bool.{and_parts, cases_Bool, leb-true}
use Rattle.std.specs.Option.{option_and_then}
use Rattle.byteorder.specs.Endian.{little_number}
use Rattle.pst_base.specs.Flat.{Flat}
use Rattle.pst_base.specs.Fields.{number_at}
use Rattle.mapi_values.specs.declared.column.Column.{Column}
use Rattle.mapi_values.specs.Tables.{Tab, find_row}
use Rattle.mapi_values.specs.Properties.{ascend_from}
use Rattle.mapi_values.specs.Values.{Val}
use Rattle.heap_edit.specs.Known.{Known, Reads, blocks_now}
use Rattle.heap_on_node.specs.Heap.{IsHeap, item}
use Rattle.index_edit.specs.Rows.{as_number}
use Rattle.bth_tree.specs.Records.{entry_of}
use Rattle.bth_tree.specs.Tree.{any_bth, bth}
use Rattle.bth_tree.proofs.OptionLaws.{bind-some, none-some, some-injective}
use Rattle.node_values.specs.Subnodes.{data_of}
use Rattle.mail_objects.specs.table_context.Context.{IsTableContext, table_in, table_of}
use Rattle.mail_objects.specs.table_context.Header.{columns_of, ends_in, index_in, matrix_in, names_index, size_in}
use Rattle.mail_objects.specs.table_context.Rows.{cells_of, others, raw_rows, row_in, row_of, rows_of, shows_id, used}
use Rattle.content_glance.specs.Rows.{NamesIndex, TellsCount, TellsKnown, TellsRow}
use Rattle.content_glance.proofs.EntryLaws.{any-bth}

-- a row's bytes have its record's id
raws-keys : (row : ℕ → Option (List ℕ)) (recs raws : List (ℕ × List ℕ)) (id : ℕ) → raw_rows row recs ≡ Some raws → is_some (entry_of id raws) ≡ is_some (entry_of id recs)
raws-keys row [] raws id h = ap (λ (rs : List (ℕ × List ℕ)). is_some (entry_of id rs)) (sym (some-injective [] raws h))
raws-keys row (r ∷ rs) raws id h =
    let a = bind-some (λ (x : List ℕ). option_and_then (λ (xs : List (ℕ × List ℕ)). Some ((r.0, x) ∷ xs)) (raw_rows row rs)) (row (little_number 4 r.1)) raws h in
    let b = bind-some (λ (xs : List (ℕ × List ℕ)). Some ((r.0, a.0) ∷ xs)) (raw_rows row rs) raws a.2 in
    let is : (r.0, a.0) ∷ b.0 ≡ raws = some-injective ((r.0, a.0) ∷ b.0) raws b.2 in
    ap (λ (xs : List (ℕ × List ℕ)). is_some (entry_of id xs)) (sym is)
    ∙ elim (cases_Bool (r.0 == id)) [
      | inl t ↦ rw t refl
      | inr f ↦ rw f (raws-keys row rs b.0 id b.1)
    ]

row-id : (get : ℕ → Option (List ℕ)) (sub : ℕ → Option (List (List ℕ))) (from : ℕ) (columns : List Column) (id : ℕ) (x : List ℕ) (row : ℕ × List Val) → row_of get sub from columns id x ≡ Some row → row.0 ≡ id
unfolding row_of
row-id get sub from columns id x row h = elim (cases_Bool (shows_id columns id x)) [
  | inl t ↦
      let a = bind-some (λ (vs : List Val). if ascend_from 0 vs then Some (id, vs) else None) (cells_of get sub from x columns) row (rw t at h) in
      elim (cases_Bool (ascend_from 0 a.0)) [
        | inl s ↦ ap (λ (r : ℕ × List Val). r.0) (sym (some-injective (id, a.0) row (rw s at a.2)))
        | inr f ↦ absurd (none-some row (rw f at a.2))
      ]
  | inr f ↦ absurd (none-some row (rw f at h))
]

-- a row has the id of its bytes
rows-keys : (get : ℕ → Option (List ℕ)) (sub : ℕ → Option (List (List ℕ))) (from : ℕ) (columns : List Column) (raws : List (ℕ × List ℕ)) (rows : List (ℕ × List Val)) (id : ℕ) → rows_of get sub from columns raws ≡ Some rows
    → is_some (find_row id rows) ≡ is_some (entry_of id raws)
rows-keys get sub from columns [] rows id h = ap (λ (rs : List (ℕ × List Val)). is_some (find_row id rs)) (sym (some-injective [] rows h))
rows-keys get sub from columns (r ∷ rs) rows id h =
    let a = bind-some (λ (row : ℕ × List Val). option_and_then (λ (more : List (ℕ × List Val)). Some (row ∷ more)) (rows_of get sub from columns rs)) (row_of get sub from columns r.0 r.1) rows h in
    let b = bind-some (λ (more : List (ℕ × List Val)). Some (a.0 ∷ more)) (rows_of get sub from columns rs) rows a.2 in
    let is : a.0 ∷ b.0 ≡ rows = some-injective (a.0 ∷ b.0) rows b.2 in
    let same : (a.0).0 ≡ r.0 = row-id get sub from columns r.0 r.1 a.0 a.1 in
    ap (λ (xs : List (ℕ × List Val)). is_some (find_row id xs)) (sym is)
    ∙ rw same (elim (cases_Bool (r.0 == id)) [
      | inl t ↦ rw t refl
      | inr f ↦ rw f (rows-keys get sub from columns rs b.0 id b.1)
    ])

-- a table has a row just where its row index has a record
table-keys : (get : ℕ → Option (List ℕ)) (subs : List Flat) (x : List ℕ) (recs : List (ℕ × List ℕ)) (t : Tab) (id : ℕ) → table_in get subs x recs ≡ Some t → is_some (find_row id t.rows) ≡ is_some (entry_of id recs)
unfolding table_in table_of
table-keys get subs x recs t id h =
    let made : List Column → List (ℕ × List ℕ) → List (ℕ × List Val) → Tab = λ columns raws rows. record { columns = columns; ends = ends_in x; rows = rows; kept = others (used (number_at 2 6 x) columns raws (matrix_in x)) subs } in
    let rows_in : List Column → List (ℕ × List ℕ) → Option (List (ℕ × List Val)) = λ columns raws. rows_of get (data_of subs) (number_at 2 6 x) columns raws in
    let raws_in : Option (List (ℕ × List ℕ)) = raw_rows (row_in get (data_of subs) (size_in x) (matrix_in x)) recs in
    let c = bind-some (λ (columns : List Column). table_of get subs x columns recs) (columns_of x) t h in
    let r = bind-some (λ (raws : List (ℕ × List ℕ)). option_and_then (λ (rows : List (ℕ × List Val)). Some (made c.0 raws rows)) (rows_in c.0 raws)) raws_in t c.2 in
    let v = bind-some (λ (rows : List (ℕ × List Val)). Some (made c.0 r.0 rows)) (rows_in c.0 r.0) t r.2 in
    ap (λ (u : Tab). is_some (find_row id u.rows)) (sym (some-injective (made c.0 r.0 v.0) t v.2))
    ∙ rows-keys get (data_of subs) (number_at 2 6 x) c.0 r.0 v.0 id v.1
    ∙ raws-keys (row_in get (data_of subs) (size_in x) (matrix_in x)) recs r.0 id r.1

-- the header that was looked at is that of the table
same-head : (blocks : List (List ℕ)) (root : ℕ) (subs : List Flat) (t : Tab) → IsHeap blocks 0x7C root → (c : IsTableContext blocks subs t) → item blocks root ≡ Some c.head
same-head blocks root subs t heap c = ap (item blocks) (sym heap.root_is ∙ (c.heap).root_is) ∙ c.header

pub tells-row : (blocks : List (List ℕ)) (root id : ℕ) (head : List ℕ) (rs : List (ℕ × List ℕ)) → IsHeap blocks 0x7C root → item blocks root ≡ Some head → any_bth (item blocks) (index_in head) ≡ Some rs
    → TellsRow blocks id (Some (is_some (entry_of id rs)))
tells-row blocks root id head rs heap at looked = λ subs t c.
    let same : head ≡ c.head = some-injective head c.head (sym at ∙ same-head blocks root subs t heap c) in
    let found : any_bth (item blocks) (index_in c.head) ≡ Some c.recs = any-bth (item blocks) (index_in c.head) 4 4 c.recs (omega arith) (omega arith) c.index in
    let recs : rs ≡ c.recs = some-injective rs c.recs (sym looked ∙ ap (λ (x : List ℕ). any_bth (item blocks) (index_in x)) same ∙ found) in
    ap Some (ap (λ (xs : List (ℕ × List ℕ)). is_some (entry_of id xs)) recs ∙ sym (table-keys (item blocks) subs c.head c.recs t id c.table))

pub tells-none : (blocks : List (List ℕ)) (root id : ℕ) (head : List ℕ) → IsHeap blocks 0x7C root → item blocks root ≡ Some head → any_bth (item blocks) (index_in head) ≡ None → TellsRow blocks id None
tells-none blocks root id head heap at none = λ subs t c.
    let same : head ≡ c.head = some-injective head c.head (sym at ∙ same-head blocks root subs t heap c) in
    let found : any_bth (item blocks) (index_in c.head) ≡ Some c.recs = any-bth (item blocks) (index_in c.head) 4 4 c.recs (omega arith) (omega arith) c.index in
    absurd (none-some c.recs (sym none ∙ ap (λ (x : List ℕ). any_bth (item blocks) (index_in x)) same ∙ found))

-- an item that names a row index is long enough to do so
pub index-fits : (x : List ℕ) → names_index x ≡ true → 14 ≤ length x
unfolding names_index
index-fits x h = omega (arith, leb-true 22 (length x) (and_parts (nat_le 22 (length x)) (number_at 1 0 x == 0x7C) h).0)

raws-count : (row : ℕ → Option (List ℕ)) (recs raws : List (ℕ × List ℕ)) → raw_rows row recs ≡ Some raws → length raws ≡ length recs
raws-count row [] raws h = ap (length {A = ℕ × List ℕ}) (sym (some-injective [] raws h))
raws-count row (r ∷ rs) raws h =
    let a = bind-some (λ (x : List ℕ). option_and_then (λ (xs : List (ℕ × List ℕ)). Some ((r.0, x) ∷ xs)) (raw_rows row rs)) (row (little_number 4 r.1)) raws h in
    let b = bind-some (λ (xs : List (ℕ × List ℕ)). Some ((r.0, a.0) ∷ xs)) (raw_rows row rs) raws a.2 in
    let is : length raws ≡ length ((r.0, a.0) ∷ b.0) = ap (length {A = ℕ × List ℕ}) (sym (some-injective ((r.0, a.0) ∷ b.0) raws b.2)) in
    omega (arith, is, raws-count row rs b.0 b.1)

rows-count : (get : ℕ → Option (List ℕ)) (sub : ℕ → Option (List (List ℕ))) (from : ℕ) (columns : List Column) (raws : List (ℕ × List ℕ)) (rows : List (ℕ × List Val)) → rows_of get sub from columns raws ≡ Some rows → length rows ≡ length raws
rows-count get sub from columns [] rows h = ap (length {A = ℕ × List Val}) (sym (some-injective [] rows h))
rows-count get sub from columns (r ∷ rs) rows h =
    let a = bind-some (λ (row : ℕ × List Val). option_and_then (λ (more : List (ℕ × List Val)). Some (row ∷ more)) (rows_of get sub from columns rs)) (row_of get sub from columns r.0 r.1) rows h in
    let b = bind-some (λ (more : List (ℕ × List Val)). Some (a.0 ∷ more)) (rows_of get sub from columns rs) rows a.2 in
    let is : length rows ≡ length (a.0 ∷ b.0) = ap (length {A = ℕ × List Val}) (sym (some-injective (a.0 ∷ b.0) rows b.2)) in
    omega (arith, is, rows-count get sub from columns rs b.0 b.1)

-- a table has as many rows as its row index has records
table-count : (get : ℕ → Option (List ℕ)) (subs : List Flat) (x : List ℕ) (recs : List (ℕ × List ℕ)) (t : Tab) → table_in get subs x recs ≡ Some t → length t.rows ≡ length recs
unfolding table_in table_of
table-count get subs x recs t h =
    let made : List Column → List (ℕ × List ℕ) → List (ℕ × List Val) → Tab = λ columns raws rows. record { columns = columns; ends = ends_in x; rows = rows; kept = others (used (number_at 2 6 x) columns raws (matrix_in x)) subs } in
    let rows_in : List Column → List (ℕ × List ℕ) → Option (List (ℕ × List Val)) = λ columns raws. rows_of get (data_of subs) (number_at 2 6 x) columns raws in
    let raws_in : Option (List (ℕ × List ℕ)) = raw_rows (row_in get (data_of subs) (size_in x) (matrix_in x)) recs in
    let c = bind-some (λ (columns : List Column). table_of get subs x columns recs) (columns_of x) t h in
    let r = bind-some (λ (raws : List (ℕ × List ℕ)). option_and_then (λ (rows : List (ℕ × List Val)). Some (made c.0 raws rows)) (rows_in c.0 raws)) raws_in t c.2 in
    let v = bind-some (λ (rows : List (ℕ × List Val)). Some (made c.0 r.0 rows)) (rows_in c.0 r.0) t r.2 in
    ap (λ (u : Tab). length u.rows) (sym (some-injective (made c.0 r.0 v.0) t v.2))
    ∙ rows-count get (data_of subs) (number_at 2 6 x) c.0 r.0 v.0 v.1
    ∙ raws-count (row_in get (data_of subs) (size_in x) (matrix_in x)) recs r.0 r.1

pub tells-count : (blocks : List (List ℕ)) (root : ℕ) (head : List ℕ) (rs : List (ℕ × List ℕ)) → IsHeap blocks 0x7C root → item blocks root ≡ Some head → bth (item blocks) (index_in head) 4 4 ≡ Some rs
    → TellsCount blocks (Some (length rs))
tells-count blocks root head rs heap at looked = λ subs t c.
    let same : head ≡ c.head = some-injective head c.head (sym at ∙ same-head blocks root subs t heap c) in
    let recs : rs ≡ c.recs = some-injective rs c.recs (sym looked ∙ ap (λ (x : List ℕ). bth (item blocks) (index_in x) 4 4) same ∙ c.index) in
    ap Some (ap (length {A = ℕ × List ℕ}) recs ∙ sym (table-count (item blocks) subs c.head c.recs t c.table))

-- ---- of some blocks

-- the header's heap id is that of the table
pub known-head : (blocks : List (List ℕ)) (root : ℕ) (head : Option (List ℕ)) (subs : List Flat) (t : Tab) → IsHeap blocks 0x7C root → head ≡ item blocks root → (c : IsTableContext blocks subs t) → head ≡ Some c.head
known-head blocks root head subs t heap at c = at ∙ same-head blocks root subs t heap c

number-some : (o : Option (List ℕ)) → is_some (as_number o) ≡ is_some o
number-some None = refl
number-some (Some x) = refl

-- what the row index tells of a row is so of the table
pub tells-known : (h : Known) (id index : ℕ) (entry : Option ℕ) (has : Bool) → NamesIndex h index
    → ((was : List (List ℕ)) (get : ℕ → Option (List ℕ)) → Reads h was get → (recs : List (ℕ × List ℕ)) → bth get index 4 4 ≡ Some recs → entry ≡ as_number (entry_of id recs)) → has ≡ is_some entry → TellsKnown h id has
tells-known h id index entry has at found is = λ old known subs t c.
    let get : ℕ → Option (List ℕ) = item (blocks_now h old) in
    let recs : bth get index 4 4 ≡ Some c.recs = ap (λ (i : ℕ). bth get i 4 4) (at old known subs t c) ∙ c.index in
    is ∙ ap is_some (found old get (record { known = known; start = (c.heap).start; items = λ i. refl }) c.recs recs) ∙ number-some (entry_of id c.recs) ∙ sym (table-keys get subs c.head c.recs t id c.table)
