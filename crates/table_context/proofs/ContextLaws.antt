-- The table that rows make.
use Rattle.std.proofs.Common.{◌≡◌, ◌∙◌, ◌≤◌, ◌==◌, ◌&&◌, ◌∷◌, [], ℕ, suc, true, List, length, get_or, map, All, nat_le, Option, Some, refl, sym, ap, subst, arith}
use Rattle.std.proofs.lemmas.Bool.{and_from, and_parts, leb-true, le-leb}
use Rattle.std.specs.List.{list_all}
use Rattle.bth_tree.specs.Records.{within}
use Rattle.bth_tree.proofs.OptionLaws.{bind-some, none-some, some-injective}
use Rattle.bth_tree.proofs.WholeLaws.{first-within}
use Rattle.byteorder.specs.Endian.{little_number}
use Rattle.pst_base.specs.Fields.{number_at}
use Rattle.mapi_values.specs.declared.column.Column.{Column}
use Rattle.mapi_values.specs.Columns.{all_apart, ends_rise, is_layout, lies, tag_number}
use Rattle.mapi_values.specs.Keyed.{keys_ascend}
use Rattle.mapi_values.specs.Tables.{Tab, row_suits}
use Rattle.mapi_values.specs.Values.{Val}
use Rattle.pst_base.specs.Flat.{Flat}
use Rattle.table_context.specs.declared.rows.RawRow.{RawRow}
use Rattle.table_context.specs.Answers.{HasSize, raw_seen}
use Rattle.heap_on_node.specs.Heap.{IsHeap, item}
use Rattle.bth_tree.specs.Tree.{bth}
use Rattle.table_context.specs.declared.fault.TcFault.{TcFault}
use Rattle.table_context.specs.declared.fault.TcFault.TheVariants.{Heap, Bth, Tc}
use Rattle.table_context.specs.Context.{IsTableContext, Lacks, table_in, table_of}
use Rattle.table_context.specs.Header.{columns_of, ends_in, index_in, matrix_in, names_index, size_in}
use Rattle.table_context.specs.Rows.{raw_rows, row_in, row_of, rows_of, used}
use Rattle.node_values.specs.Subnodes.{data_of}
use Rattle.table_context.specs.Rows.{others}
use Rattle.table_context.proofs.LayoutLaws.{form-layout}
use Rattle.table_context.proofs.CellLaws.{cells-suit, row-parts}
use Rattle.table_context.proofs.RowLaws.{no_row}
use Rattle.table_context.proofs.StepLaws.{first}

pub index-size : (x : List ℕ) → names_index x ≡ true → 22 ≤ length x
unfolding names_index
index-size x h = leb-true 22 (length x) (and_parts (nat_le 22 (length x)) (number_at 1 0 x == 0x7C) h).0

pub layout-lies : (columns : List Column) (ends : List ℕ) → is_layout columns ends ≡ true → list_all (lies (get_or ends 2 0) (get_or ends 3 0)) columns ≡ true
unfolding is_layout
layout-lies columns ends h =
    let a = and_parts (ends_rise ends) (keys_ascend tag_number 0 columns && (list_all (lies (get_or ends 2 0) (get_or ends 3 0)) columns && all_apart columns)) h in
    let b = and_parts (keys_ascend tag_number 0 columns) (list_all (lies (get_or ends 2 0) (get_or ends 3 0)) columns && all_apart columns) a.1 in
    (and_parts (list_all (lies (get_or ends 2 0) (get_or ends 3 0)) columns) (all_apart columns) b.1).0

-- rows ascend as the records of the index do
pub raws-ascend : (row : ℕ → Option (List ℕ)) (low high : ℕ) (recs raws : List (ℕ × List ℕ)) → raw_rows row recs ≡ Some raws → within low high recs ≡ true
    → keys_ascend (λ (r : ℕ × List ℕ). r.0) low raws ≡ true
raws-ascend row low high [] raws h w =
    let e : [] ≡ raws = some-injective [] raws h in
    subst (λ (rs : List (ℕ × List ℕ)). keys_ascend (λ (r : ℕ × List ℕ). r.0) low rs ≡ true) e refl
raws-ascend row low high (r ∷ rs) raws h w =
    let a = bind-some (λ (x : List ℕ). first (r.0, x) (raw_rows row rs)) (row (little_number 4 r.1)) raws h in
    let b = bind-some (λ (xs : List (ℕ × List ℕ)). Some ((r.0, a.0) ∷ xs)) (raw_rows row rs) raws a.2 in
    let e : (r.0, a.0) ∷ b.0 ≡ raws = some-injective ((r.0, a.0) ∷ b.0) raws b.2 in
    let f = first-within low high r rs w in
    subst (λ (ss : List (ℕ × List ℕ)). keys_ascend (λ (s : ℕ × List ℕ). s.0) low ss ≡ true) e
    (and_from (nat_le low r.0) (keys_ascend (λ (s : ℕ × List ℕ). s.0) (suc r.0) b.0) (le-leb low r.0 f.0) (raws-ascend row (suc r.0) high rs b.0 b.1 f.2))

pub rows-ascend : (get : ℕ → Option (List ℕ)) (sub : ℕ → Option (List (List ℕ))) (from : ℕ) (columns : List Column) (low : ℕ) (raws : List (ℕ × List ℕ)) (rows : List (ℕ × List Val))
    → rows_of get sub from columns raws ≡ Some rows → keys_ascend (λ (r : ℕ × List ℕ). r.0) low raws ≡ true → keys_ascend (λ (r : ℕ × List Val). r.0) low rows ≡ true
rows-ascend get sub from columns low [] rows h w =
    let e : [] ≡ rows = some-injective [] rows h in
    subst (λ (rs : List (ℕ × List Val)). keys_ascend (λ (r : ℕ × List Val). r.0) low rs ≡ true) e refl
rows-ascend get sub from columns low (x ∷ xs) rows h w =
    let a = bind-some (λ (r : ℕ × List Val). first r (rows_of get sub from columns xs)) (row_of get sub from columns x.0 x.1) rows h in
    let b = bind-some (λ (rs : List (ℕ × List Val)). Some (a.0 ∷ rs)) (rows_of get sub from columns xs) rows a.2 in
    let e : a.0 ∷ b.0 ≡ rows = some-injective (a.0 ∷ b.0) rows b.2 in
    let key : a.0.0 ≡ x.0 = (row-parts get sub from columns x.0 x.1 a.0 a.1).0 in
    let p = and_parts (nat_le low x.0) (keys_ascend (λ (r : ℕ × List ℕ). r.0) (suc x.0) xs) w in
    let rest = rows-ascend get sub from columns (suc x.0) xs b.0 b.1 p.1 in
    subst (λ (rs : List (ℕ × List Val)). keys_ascend (λ (r : ℕ × List Val). r.0) low rs ≡ true) e
    (and_from (nat_le low a.0.0) (keys_ascend (λ (r : ℕ × List Val). r.0) (suc a.0.0) b.0) (ap (nat_le low) key ∙ p.0)
    (ap (λ (n : ℕ). keys_ascend (λ (r : ℕ × List Val). r.0) (suc n) b.0) key ∙ rest))

-- rows that were read may stand in a table
pub rows-suit : (get : ℕ → Option (List ℕ)) (sub : ℕ → Option (List (List ℕ))) (from size : ℕ) (columns : List Column) (raws : List RawRow) (rows : List (ℕ × List Val))
    → list_all (lies from size) columns ≡ true → All (HasSize size) raws → rows_of get sub from columns (map raw_seen raws) ≡ Some rows → list_all (row_suits columns) rows ≡ true
rows-suit get sub from size columns [] rows lie each h =
    let e : [] ≡ rows = some-injective [] rows h in
    subst (λ (rs : List (ℕ × List Val)). list_all (row_suits columns) rs ≡ true) e refl
rows-suit get sub from size columns (x ∷ xs) rows lie each h =
    let a = bind-some (λ (r : ℕ × List Val). first r (rows_of get sub from columns (map raw_seen xs))) (row_of get sub from columns x.id x.bytes.now) rows h in
    let b = bind-some (λ (rs : List (ℕ × List Val)). Some (a.0 ∷ rs)) (rows_of get sub from columns (map raw_seen xs)) rows a.2 in
    let e : a.0 ∷ b.0 ≡ rows = some-injective (a.0 ∷ b.0) rows b.2 in
    let size_is : length x.bytes.now ≡ size = each 0 no_row (omega arith) in
    let here : list_all (lies from (length x.bytes.now)) columns ≡ true = ap (λ (n : ℕ). list_all (lies from n) columns) size_is ∙ lie in
    let p = row-parts get sub from columns x.id x.bytes.now a.0 a.1 in
    subst (λ (rs : List (ℕ × List Val)). list_all (row_suits columns) rs ≡ true) e
    (and_from (row_suits columns a.0) (list_all (row_suits columns) b.0) (cells-suit get sub from columns x.bytes.now here a.0.1 p.1 p.2)
    (rows-suit get sub from size columns xs b.0 lie (λ i d k. each (suc i) d (omega (arith, k))) b.1))

pub each-lies : (from size : ℕ) (columns cs : List Column) (raws rs : List RawRow) → rs ≡ raws → cs ≡ columns → list_all (lies from size) columns ≡ true → All (HasSize size) raws
    → All (λ (r : RawRow). list_all (lies from (length r.bytes.now)) cs ≡ true) rs
each-lies from size columns cs raws rs e f lie each =
    subst (λ (xs : List RawRow). All (λ (r : RawRow). list_all (lies from (length r.bytes.now)) cs ≡ true) xs) (sym e)
    (λ i d h. ap (λ (ds : List Column). list_all (lies from (length (get_or raws i d).bytes.now)) ds) f ∙ ap (λ (n : ℕ). list_all (lies from n) columns) (each i d h) ∙ lie)

-- a table is its parts
pub made-of : (t : Tab) (columns : List Column) (ends : List ℕ) (rows : List (ℕ × List Val)) (kept : List Flat) → t.columns ≡ columns → t.ends ≡ ends → t.rows ≡ rows → t.kept ≡ kept
    → record { columns = columns; ends = ends; rows = rows; kept = kept } ≡ t
made-of t columns ends rows kept a b c d = rw (← a, ← b, ← c, ← d) refl

-- the columns of a header lie in its rows
pub header-lies : (x : List ℕ) (columns : List Column) (from size : ℕ) → columns_of x ≡ Some columns → from ≡ number_at 2 6 x → size ≡ size_in x → list_all (lies from size) columns ≡ true
header-lies x columns from size form f s =
    ap (λ (n : ℕ). list_all (lies n size) columns) f ∙ ap (λ (n : ℕ). list_all (lies (number_at 2 6 x) n) columns) s ∙ layout-lies columns (ends_in x) (form-layout x columns form).0

pub table-made : (get : ℕ → Option (List ℕ)) (subs : List Flat) (x : List ℕ) (columns : List Column) (recs : List (ℕ × List ℕ)) (from size hnid : ℕ)
    (raws : List (ℕ × List ℕ)) (rows : List (ℕ × List Val)) (kept : List Flat) (t : Tab) → from ≡ number_at 2 6 x → size ≡ size_in x → hnid ≡ matrix_in x
    → raw_rows (row_in get (data_of subs) size hnid) recs ≡ Some raws → rows_of get (data_of subs) from columns raws ≡ Some rows → kept ≡ others (used from columns raws hnid) subs
    → t.columns ≡ columns → t.ends ≡ ends_in x → t.rows ≡ rows → t.kept ≡ kept → table_of get subs x columns recs ≡ Some t
unfolding table_of
table-made get subs x columns recs from size hnid raws rows kept t f s m found read left a b c d =
    let sub = data_of subs in
    let found_there : raw_rows (row_in get sub (size_in x) (matrix_in x)) recs ≡ Some raws =
    ap (λ (n : ℕ). raw_rows (row_in get sub n (matrix_in x)) recs) (sym s) ∙ ap (λ (n : ℕ). raw_rows (row_in get sub size n) recs) (sym m) ∙ found in
    let read_there : rows_of get sub (number_at 2 6 x) columns raws ≡ Some rows = ap (λ (n : ℕ). rows_of get sub n columns raws) (sym f) ∙ read in
    let left_there : t.kept ≡ others (used (number_at 2 6 x) columns raws (matrix_in x)) subs =
    d ∙ left ∙ ap (λ (n : ℕ). others (used n columns raws hnid) subs) f ∙ ap (λ (n : ℕ). others (used (number_at 2 6 x) columns raws n) subs) m in
    rw (found_there, read_there) (ap Some (made-of t columns (ends_in x) rows (others (used (number_at 2 6 x) columns raws (matrix_in x)) subs) a b c left_there))

heads-one : (blocks : List (List ℕ)) (p q : ℕ) (x y : List ℕ) → IsHeap blocks 0x7C p → IsHeap blocks 0x7C q → item blocks p ≡ Some x → item blocks q ≡ Some y → x ≡ y
heads-one blocks p q x y a b i j =
    let roots : p ≡ q = sym a.root_is ∙ b.root_is in
    some-injective x y (sym i ∙ ap (item blocks) roots ∙ j)

pub one-table : (blocks : List (List ℕ)) (subs : List Flat) (t u : Tab) → IsTableContext blocks subs t → IsTableContext blocks subs u → t ≡ u
one-table blocks subs t u a b =
    let heads : a.head ≡ b.head = heads-one blocks a.root b.root a.head b.head a.heap b.heap a.header b.header in
    let recs : a.recs ≡ b.recs = some-injective a.recs b.recs (sym a.index ∙ ap (λ (x : List ℕ). bth (item blocks) (index_in x) 4 4) heads ∙ b.index) in
    some-injective t u (sym a.table ∙ ap (λ (x : List ℕ). table_in (item blocks) subs x a.recs) heads ∙ ap (table_in (item blocks) subs b.head) recs ∙ b.table)

pub no-table : (blocks : List (List ℕ)) (subs : List Flat) (t : Tab) (fault : TcFault) → Lacks blocks subs fault → IsTableContext blocks subs t → ⊥
no-table blocks subs t Heap l a = l a.root a.heap
no-table blocks subs t Bth l a =
    let heads : l.head ≡ a.head = heads-one blocks l.root a.root l.head a.head l.heap a.heap l.header a.header in
    none-some a.recs (sym l.index ∙ ap (λ (x : List ℕ). bth (item blocks) (index_in x) 4 4) heads ∙ a.index)
no-table blocks subs t Tc l a = l.2 t a
