-- The table that was written.
use Rattle.std.proofs.Common.{◌≡◌, ◌∙◌, ◌≤◌, ◌<◌, ◌==◌, ◌&&◌, ◌+◌, ◌/◌, ◌%◌, ◌^◌, ◌++◌, ◌∷◌, [], ℕ, suc, Bool, true, List, length, get_or, drop, map, Option, Some, refl, sym, ap, subst, inl, inr, arith, append_assoc}
use Rattle.std.specs.Prelude.{nat_le, slice_get}
use Rattle.std.specs.List.{flat_map}
use Rattle.std.specs.Option.{option_and_then}
use Rattle.std.proofs.lemmas.Bool.{and_parts, cases_Bool, leb-true, ne_eqb}
use Rattle.std.proofs.lemmas.List.{append-nil, drop_more}
use Rattle.byteorder.specs.Endian.{little_bytes, little_number}
use Rattle.byteorder.specs.Numbers.{little_number-reads_back}
use Rattle.heap_on_node.specs.Heap.{IsHeap, item}
use Rattle.heap_on_node.specs.Packing.{Adds, IsPacked, item_in}
use Rattle.heap_on_node.proofs.PackingLaws.{kept-by_adds}
use Rattle.bth_tree.specs.Making.{AreRecords, Keeps, Makes, chunks, items_above, items_made}
use Rattle.bth_tree.specs.Records.{within}
use Rattle.bth_tree.specs.Tree.{bth}
use Rattle.bth_tree.proofs.MakeLaws.{bth-kept, length-spelled}
use Rattle.bth_tree.proofs.OptionLaws.{bind-some}
use Rattle.bth_tree.proofs.WholeLaws.{within-first}
use Rattle.pst_base.specs.Flat.{Flat}
use Rattle.pst_base.specs.Subs.{flattened, one_deeper}
use Rattle.pst_base.specs.declared.subs.Sub.{Sub}
use Rattle.mapi_values.specs.declared.column.Column.{Column}
use Rattle.mapi_values.specs.Keyed.{keys_ascend}
use Rattle.mapi_values.specs.Tables.{Tab}
use Rattle.mapi_values.specs.Values.{Val}
use Rattle.write_limits.specs.Limits.{direct, few_subnodes, long_cells, matrix, rows_bytes, size_fits, table_fits, table_subnodes}
use Rattle.table_writer.specs.declared.value.Made.{Made}
use Rattle.table_context.specs.Context.{IsTableContext, table_in, table_of}
use Rattle.table_context.specs.Header.{columns_of}
use Rattle.node_values.specs.Named.{KeepsData}
use Rattle.table_writer.specs.Making.{get_of, sub_of, weight}
use Rattle.table_context.specs.Rows.{piece, raw_rows, row_in, row_names, rows_of, subnode, used}
use Rattle.node_values.specs.Subnodes.{data_of, ids_ascend, sub_id}
use Rattle.table_context.specs.Rows.{others}
use Rattle.table_writer.specs.Woven.{all_woven}
use Rattle.table_writer.specs.Writing.{AreRows, FillsRows, IsHeader, PutsHead, PutsRows, numbered, raws_of}
use Rattle.node_values.proofs.SubLaws.{ascend-first}
use Rattle.table_context.proofs.ContextLaws.{table-made}
use Rattle.table_writer.proofs.FillLaws.{grows-more}
use Rattle.table_writer.proofs.FoundRowLaws.{grows-swap, rows-found}
use Rattle.table_writer.proofs.PackLaws.{blocks-room}

-- ---- limits

pub record Limited (t : Tab) : Type 0 where
  pub rows : length t.rows ≤ 500000
  pub columns : length t.columns ≤ 255
  pub low : 1 ≤ get_or t.ends 3 0
  pub high : get_or t.ends 3 0 ≤ 8176
  pub bytes : rows_bytes t.rows ≤ 200000000
  pub subnodes : direct t.kept + long_cells t.rows ≤ 173400

pub limits : (t : Tab) → table_fits t ≡ true → Limited t
unfolding table_fits
limits t h =
    let size = get_or t.ends 3 0 in
    let a = and_parts (nat_le (length t.rows) 500000) (nat_le (length t.columns) 255 && (size_fits (get_or t.ends 3 0) && (nat_le (rows_bytes t.rows) 200000000 && few_subnodes (table_subnodes t)))) h in
    let b = and_parts (nat_le (length t.columns) 255) (size_fits (get_or t.ends 3 0) && (nat_le (rows_bytes t.rows) 200000000 && few_subnodes (table_subnodes t))) a.1 in
    let c = and_parts (size_fits (get_or t.ends 3 0)) (nat_le (rows_bytes t.rows) 200000000 && few_subnodes (table_subnodes t)) b.1 in
    let d = and_parts (nat_le (rows_bytes t.rows) 200000000) (few_subnodes (table_subnodes t)) c.1 in
    let e = and_parts (nat_le 1 (get_or t.ends 3 0)) (nat_le (get_or t.ends 3 0) 8176) c.0 in
    record {
      rows = leb-true (length t.rows) 500000 a.0;
      columns = leb-true (length t.columns) 255 b.0;
      low = leb-true 1 (get_or t.ends 3 0) e.0;
      high = leb-true (get_or t.ends 3 0) 8176 e.1;
      bytes = leb-true (rows_bytes t.rows) 200000000 d.0;
      subnodes = omega (arith, leb-true (table_subnodes t) 173400 d.1);
    }

direct-deeper : (fs gs : List Flat) → direct (map one_deeper fs ++ gs) ≡ direct gs
direct-deeper [] gs = refl
direct-deeper (f ∷ fs) gs = rw (ne_eqb (f.level + 1) 0 (λ e. absurd (omega (arith, e)))) (omega (arith, direct-deeper fs gs))

pub direct-count : (subs : List Sub) → direct (flattened subs) ≡ length subs
direct-count [] = refl
direct-count (s ∷ subs) = omega (arith, direct-deeper s.subs (flattened subs), direct-count subs)

pub ids-keys : (low : ℕ) (subs : List Sub) → ids_ascend low (flattened subs) ≡ keys_ascend sub_id low subs
ids-keys low [] = refl
ids-keys low (s ∷ subs) = ascend-first low s subs ∙ ap (λ (b : Bool). nat_le low s.nid.bits && b) (ids-keys (suc s.nid.bits) subs)

pub few-blocks : (heap : List (List (List ℕ))) → IsPacked heap → weight heap ≤ 200003584 → length heap ≤ 60000
few-blocks heap p w = omega (arith, blocks-room heap p, w)

above-one : (m : ℕ) → items_above 447 1 m ≤ chunks 447 m
above-one m = elim (cases_Bool (nat_le m 1)) [ inl t ↦ rw t (omega arith) | inr f ↦ rw f (omega arith) ]

above-two : (m : ℕ) → items_above 447 2 m ≤ chunks 447 m + chunks 447 (chunks 447 m)
above-two m = elim (cases_Bool (nat_le m 1)) [ inl t ↦ rw t (omega arith) | inr f ↦ rw f (omega (arith, above-one (chunks 447 m))) ]

pub index-room : (n : ℕ) → n ≤ 500000 → items_made 4 4 n ≤ 2000
index-room n few = omega (arith, few, above-two (chunks 447 n))

-- ---- the row index

pub numbered-step : (n : ℕ) (rows : List (ℕ × List Val)) (i : ℕ) (d : ℕ × List Val) (out : List (ℕ × List ℕ)) (all : List (ℕ × List ℕ)) (id : ℕ) (b : List ℕ) → i < length rows → id ≡ (get_or rows i d).0 → b ≡ little_bytes 4 n
    → out ++ numbered n (drop i rows) ≡ all → (out ++ (id, b) ∷ []) ++ numbered (n + 1) (drop (i + 1) rows) ≡ all
numbered-step n rows i d out all id b lt e f h =
    let next : n + 1 ≡ suc n = omega arith in
    append_assoc out ((id, b) ∷ []) (numbered (n + 1) (drop (i + 1) rows))
    ∙ ap (λ (k : ℕ). out ++ (id, b) ∷ numbered k (drop (i + 1) rows)) next
    ∙ ap (λ (k : ℕ). out ++ (k, b) ∷ numbered (suc n) (drop (i + 1) rows)) e
    ∙ ap (λ (x : List ℕ). out ++ ((get_or rows i d).0, x) ∷ numbered (suc n) (drop (i + 1) rows)) f
    ∙ ap (λ (rs : List (ℕ × List Val)). out ++ numbered n rs) (sym (drop_more rows i d lt))
    ∙ h

pub numbered-within : (n low : ℕ) (rows : List (ℕ × List Val)) → keys_ascend (λ (r : ℕ × List Val). r.0) low rows ≡ true → AreRecords 4 4 (numbered n rows) → within low (2 ^ 32) (numbered n rows) ≡ true
numbered-within n low [] a r = refl
numbered-within n low (x ∷ xs) a r =
    let p = and_parts (nat_le low x.0) (keys_ascend (λ (r : ℕ × List Val). r.0) (suc x.0) xs) a in
    within-first low (2 ^ 32) (x.0, little_bytes 4 n) (numbered (suc n) xs) (leb-true low x.0 p.0) r.0 (numbered-within (suc n) (suc x.0) xs p.1 r.2)

pub numbered-count : (n : ℕ) (rows : List (ℕ × List Val)) → length (numbered n rows) ≡ length rows
numbered-count n [] = refl
numbered-count n (x ∷ xs) = ap suc (numbered-count (suc n) xs)

-- ---- what was made is found

row-there : (get get2 : ℕ → Option (List ℕ)) (sub sub2 : ℕ → Option (List (List ℕ))) (size hnid n : ℕ) (y : List ℕ) → Keeps get get2 → KeepsData sub sub2 → row_in get sub size hnid n ≡ Some y → row_in get2 sub2 size hnid n ≡ Some y
unfolding row_in
row-there get get2 sub sub2 size hnid n y keeps holds h = elim (cases_Bool (hnid % 32 == 0)) [
  | inl t ↦
      let a = bind-some (piece size n) (get hnid) y (rw t at h) in
      rw (t, keeps hnid a.0 a.1) a.2
  | inr f ↦
      let a = bind-some (λ (blocks : List (List ℕ)). option_and_then (piece size (n % (8176 / size))) (slice_get blocks (n / (8176 / size)))) (sub hnid) y (rw f at h) in
      rw (f, holds hnid a.0 a.1) a.2
]

number-back : (n : ℕ) → n < 256 ^ 4 → little_number 4 (little_bytes 4 n) ≡ n
number-back n fit = ap (little_number 4) (sym (append-nil (little_bytes 4 n))) ∙ little_number-reads_back 4 n [] fit

are-count : (get : ℕ → Option (List ℕ)) (sub : ℕ → Option (List (List ℕ))) (third : ℕ) (columns : List Column) (rs : List (ℕ × List Val)) (bs : List (List ℕ)) → AreRows get sub third columns rs bs → length bs ≡ length rs
are-count get sub third columns [] [] a = refl
are-count get sub third columns [] (b ∷ bs) a = absurd a
are-count get sub third columns (r ∷ rs) [] a = absurd a
are-count get sub third columns (r ∷ rs) (b ∷ bs) a = ap suc (are-count get sub third columns rs bs a.1)

pub rows-count : (old new : Made) (third size : ℕ) (columns : List Column) (rs : List (ℕ × List Val)) (bs : List (List ℕ)) → FillsRows old new third size columns rs bs → length bs ≡ length rs
rows-count old new third size columns rs bs f = are-count (get_of new) (sub_of new) third columns rs bs f.read

raws-read : (row : ℕ → Option (List ℕ)) (n : ℕ) (rs : List (ℕ × List Val)) (bs : List (List ℕ)) → length bs ≡ length rs → n + length rs ≤ 256 ^ 4 → ((k : ℕ) → k < length bs → row (n + k) ≡ Some (get_or bs k []))
    → raw_rows row (numbered n rs) ≡ Some (raws_of rs bs)
raws-read row n [] bs len few here = refl
raws-read row n (r ∷ rs) [] len few here = absurd (omega (arith, len))
raws-read row n (r ∷ rs) (b ∷ bs) len few here =
    let none : n + 0 ≡ n = omega arith in
    let now : row (little_number 4 (little_bytes 4 n)) ≡ Some b = ap row (number-back n (omega (arith, few)) ∙ sym none) ∙ here 0 (omega arith) in
    let rest = raws-read row (suc n) rs bs (omega (arith, len)) (omega (arith, few))
    (λ k lt. let e : suc n + k ≡ n + suc k = omega arith in ap row e ∙ here (suc k) (omega (arith, lt))) in
    rw (now, rest) refl

rows-read : (get : ℕ → Option (List ℕ)) (sub : ℕ → Option (List (List ℕ))) (third : ℕ) (columns : List Column) (rs : List (ℕ × List Val)) (bs : List (List ℕ)) → AreRows get sub third columns rs bs
    → rows_of get sub third columns (raws_of rs bs) ≡ Some rs
rows-read get sub third columns [] bs a = refl
rows-read get sub third columns (r ∷ rs) [] a = absurd a
rows-read get sub third columns (r ∷ rs) (b ∷ bs) a = rw (a.0, rows-read get sub third columns rs bs a.1) refl

names-read : (third : ℕ) (columns : List Column) (rs : List (ℕ × List Val)) (bs : List (List ℕ)) → length bs ≡ length rs
    → flat_map (λ (r : ℕ × List ℕ). row_names third columns r.1) (raws_of rs bs) ≡ flat_map (row_names third columns) bs
names-read third columns [] [] len = refl
names-read third columns [] (b ∷ bs) len = absurd (omega (arith, len))
names-read third columns (r ∷ rs) [] len = absurd (omega (arith, len))
names-read third columns (r ∷ rs) (b ∷ bs) len = ap (λ (ids : List ℕ). row_names third columns b ++ ids) (names-read third columns rs bs (omega (arith, len)))

used-is : (third : ℕ) (columns : List Column) (raws : List (ℕ × List ℕ)) (hnid : ℕ) → used third columns raws hnid ≡ flat_map (λ (r : ℕ × List ℕ). row_names third columns r.1) raws ++ subnode hnid
unfolding used
used-is third columns raws hnid = refl

others-none : (fs : List Flat) → others [] fs ≡ fs
others-none [] = refl
others-none (f ∷ fs) = elim (cases_Bool (f.level == 0)) [
  | inl t ↦ rw t (ap (λ (gs : List Flat). f ∷ gs) (others-none fs))
  | inr e ↦ rw e (ap (λ (gs : List Flat). f ∷ gs) (others-none fs))
]

table-in : (get : ℕ → Option (List ℕ)) (subs : List Flat) (x : List ℕ) (columns : List Column) (recs : List (ℕ × List ℕ)) (t : Tab) → columns_of x ≡ Some columns → table_of get subs x columns recs ≡ Some t
    → table_in get subs x recs ≡ Some t
unfolding table_in
table-in get subs x columns recs t c h = rw c h

pub table-written : (begun filled made : Made) (t : Tab) (kept : List Sub) (bytes : List (List ℕ)) (hnid root : ℕ) (heap : List (List (List ℕ))) (blocks : List (List ℕ)) (subs : List Flat)
    → all_woven begun.subs ≡ kept → flattened kept ≡ t.kept → FillsRows begun filled (get_or t.ends 2 0) (get_or t.ends 3 0) t.columns t.rows bytes → PutsRows filled made (get_or t.ends 3 0) bytes hnid
    → PutsHead made.maker heap t hnid root → IsHeap blocks 0x7C root → ((hid : ℕ) → item blocks hid ≡ item_in heap hid) → subs ≡ flattened (all_woven made.subs) → length t.rows ≤ 500000
    → IsTableContext blocks subs t
table-written begun filled made t kept bytes hnid root heap blocks subs kept_is kept_flat f m h is_heap items subs_is few =
    let third = get_or t.ends 2 0 in
    let size = get_or t.ends 3 0 in
    let count = rows-count begun filled (get_or t.ends 2 0) (get_or t.ends 3 0) t.columns t.rows bytes f in
    let keeps : Keeps (get_of made) (item blocks) = λ hid x e. items hid ∙ h.kept hid x e in
    let holds : KeepsData (sub_of made) (data_of subs) = λ n x e. ap (λ (fs : List Flat). data_of fs n) subs_is ∙ e in
    let keeps_rows : Keeps (get_of filled) (item blocks) = λ hid x e. keeps hid x (m.grows.items hid x e) in
    let data_rows : KeepsData (sub_of filled) (data_of subs) = λ n x e. holds n x (m.grows.subs n x e) in
    let read : AreRows (item blocks) (data_of subs) (get_or t.ends 2 0) t.columns t.rows bytes =
    rows-found (get_of filled) (item blocks) (sub_of filled) (data_of subs) keeps_rows data_rows (get_or t.ends 2 0) t.columns t.rows bytes f.read in
    let raws : raw_rows (row_in (item blocks) (data_of subs) (get_or t.ends 3 0) hnid) (numbered 0 t.rows) ≡ Some (raws_of t.rows bytes) =
    raws-read (row_in (item blocks) (data_of subs) (get_or t.ends 3 0) hnid) 0 t.rows bytes count (omega (arith, few))
    (λ k lt. let e : 0 + k ≡ k = omega arith in
    ap (row_in (item blocks) (data_of subs) (get_or t.ends 3 0) hnid) e
    ∙ row-there (get_of made) (item blocks) (sub_of made) (data_of subs) (get_or t.ends 3 0) hnid k (get_or bytes k []) keeps holds (m.here k lt)) in
    let names = flat_map (row_names (get_or t.ends 2 0) t.columns) bytes in
    let g = grows-swap begun made (subnode hnid) (flat_map (row_names (get_or t.ends 2 0) t.columns) bytes)
    (grows-more begun filled made (flat_map (row_names (get_or t.ends 2 0) t.columns) bytes) (subnode hnid) f.grows m.grows) in
    let used_there : used (get_or t.ends 2 0) t.columns (raws_of t.rows bytes) hnid ≡ (flat_map (row_names (get_or t.ends 2 0) t.columns) bytes ++ subnode hnid) ++ [] =
    used-is (get_or t.ends 2 0) t.columns (raws_of t.rows bytes) hnid ∙ ap (λ (ids : List ℕ). ids ++ subnode hnid) (names-read (get_or t.ends 2 0) t.columns t.rows bytes count)
    ∙ sym (append-nil (flat_map (row_names (get_or t.ends 2 0) t.columns) bytes ++ subnode hnid)) in
    let left : others (used (get_or t.ends 2 0) t.columns (raws_of t.rows bytes) hnid) subs ≡ t.kept =
    ap (λ (ids : List ℕ). others ids subs) used_there ∙ ap (others ((flat_map (row_names (get_or t.ends 2 0) t.columns) bytes ++ subnode hnid) ++ [])) subs_is
    ∙ g.left [] ∙ others-none (flattened (all_woven begun.subs)) ∙ ap flattened kept_is ∙ kept_flat in
    let table : table_of (item blocks) subs h.head t.columns (numbered 0 t.rows) ≡ Some t =
    table-made (item blocks) subs h.head t.columns (numbered 0 t.rows) (get_or t.ends 2 0) (get_or t.ends 3 0) hnid (raws_of t.rows bytes) t.rows t.kept t
    (sym (ap (λ (es : List ℕ). get_or es 2 0) h.header.ends_are)) (sym (ap (λ (es : List ℕ). get_or es 3 0) h.header.ends_are)) (sym h.header.matrix_is) raws
    (rows-read (item blocks) (data_of subs) (get_or t.ends 2 0) t.columns t.rows bytes read) (sym left) refl (sym h.header.ends_are) refl refl in
    record {
      root = root;
      heap = is_heap;
      head = h.head;
      header = items root ∙ h.here;
      start = h.header.start;
      recs = numbered 0 t.rows;
      index = ap (λ (hid : ℕ). bth (item blocks) hid 4 4) h.header.index_is ∙ bth-kept (item_in heap) (item blocks) h.index 4 4 (numbered 0 t.rows) (λ hid x e. items hid ∙ e) h.tree;
      table = table-in (item blocks) subs h.head t.columns (numbered 0 t.rows) t h.header.columns_are table;
    }

pub head-put : (old mid new : List (List (List ℕ))) (t : Tab) (matrix index root : ℕ) (head : List ℕ) (recs : List (ℕ × List ℕ)) (columns : List Column) (ends : List ℕ) → Makes old mid index 4 4 recs → recs ≡ numbered 0 t.rows → AreRecords 4 4 recs
    → IsHeader head columns ends index matrix → columns ≡ t.columns → ends ≡ t.ends → Adds mid head new root → PutsHead old new t matrix root
head-put old mid new t matrix index root head recs columns ends m recs_is fit h columns_is ends_is a =
    let kept = kept-by_adds mid new head root a in
    let count : length recs ≡ length t.rows = ap length recs_is ∙ numbered-count 0 t.rows in
    let chunked : chunks 447 (length recs) ≡ chunks 447 (length t.rows) = ap (chunks 447) count in
    record {
      index = index;
      head = head;
      kept = λ hid x e. kept hid x (m.kept hid x e);
      tree = bth-kept (item_in mid) (item_in new) index 4 4 (numbered 0 t.rows) kept (m.tree ∙ ap Some recs_is);
      here = a.here;
      header = subst (λ (es : List ℕ). IsHeader head t.columns es index matrix) ends_is (subst (λ (cs : List Column). IsHeader head cs ends index matrix) columns_is h);
      spent = omega (arith, m.spent, a.spent, length-spelled 4 4 recs fit, count, chunked, h.size, ap length columns_is);
    }
