-- One more column of a row, filled or passed by.
use Rattle.std.proofs.Common.{◌≡◌, ◌∙◌, ◌≤◌, ◌<◌, ◌==◌, ◌&&◌, ◌+◌, ◌*◌, ◌/◌, ◌^◌, ◌++◌, ◌∷◌, [], ℕ, zero, suc, Bool, true, false, not, List, length, get_or, set, drop, Some, refl, sym, ap, subst, arith, length-append}
use Rattle.std.specs.List.{list_all}
use Rattle.std.specs.Option.{unwrap_or}
use Rattle.std.proofs.lemmas.Bool.{and_parts, eq-eqb, eqb-true, ne_eqb, true≢false}
use Rattle.std.proofs.lemmas.List.{drop_more, get_or_append_left, get_or-set_other, get_or-set_same, length-set}
use Rattle.byteorder.specs.Endian.{little_bytes}
use Rattle.byteorder.specs.Numbers.{length-bytes_low_first}
use Rattle.pst_base.specs.Fields.{number_at, replaced}
use Rattle.pst_base.proofs.CellLaws.{length-replaced}
use Rattle.pst_base.proofs.Numbers.{number_at-same}
use Rattle.mapi_values.specs.declared.column.Column.{Column}
use Rattle.mapi_values.specs.Columns.{all_apart, cell_width, has_column, in_cell, is_apart, is_column, is_placed, lies, suits_cell}
use Rattle.mapi_values.specs.Tables.{value_suits}
use Rattle.mapi_values.specs.Values.{Val, fits, value_fits}
use Rattle.write_limits.specs.Space.{values_blocks, values_bytes}
use Rattle.write_limits.specs.Limits.{cells_bytes, long_values}
use Rattle.table_writer.specs.declared.value.Made.{Made}
use Rattle.table_writer.specs.Bits.{bits}
use Rattle.table_writer.specs.Filling.{Filled, Steps, Suited, no_column, no_value}
use Rattle.table_writer.specs.Making.{Grows, PutsCell, get_of, sub_of}
use Rattle.table_context.specs.Rows.{cells_of, content, has_cell, is_set, names, row_names, shows_id}
use Rattle.table_context.proofs.LayoutLaws.{all-at, lies-at, lies-parts, width-some, width-three}
use Rattle.table_writer.proofs.FillLaws.{Same, apart-parts, cells-same, column-parts, covered-match, covered-skip, names-put, names-same, same-put, width-is}
use Rattle.table_writer.proofs.PutLaws.{marked, number-there, content-same}
use Rattle.table_writer.proofs.StepFillLaws.{cells-with, cells-without, has-value, lacks-cell, lacks-id, names-with, names-without, shows-here, shows-other, shows-put}

all-drop : {X : Type 0} (p : X → Bool) (xs : List X) (n : ℕ) → list_all p xs ≡ true → list_all p (drop n xs) ≡ true
all-drop p [] zero a = refl
all-drop p [] (suc n) a = refl
all-drop p (x ∷ xs) zero a = a
all-drop p (x ∷ xs) (suc n) a = all-drop p xs n (and_parts (p x) (list_all p xs) a).1

apart-rest : (columns : List Column) (i : ℕ) (d : Column) → all_apart columns ≡ true → i < length columns → list_all (is_apart (get_or columns i d)) (drop (suc i) columns) ≡ true
apart-rest [] i d a h = absurd (omega (arith, h))
apart-rest (c ∷ cs) zero d a h = (and_parts (list_all (is_apart c) cs) (all_apart cs) a).0
apart-rest (c ∷ cs) (suc i) d a h = apart-rest cs i d (and_parts (list_all (is_apart c) cs) (all_apart cs) a).1 (omega (arith, h))

pub apart-two : (columns : List Column) (k i : ℕ) (d : Column) → all_apart columns ≡ true → k < i → i < length columns → is_apart (get_or columns k d) (get_or columns i d) ≡ true
apart-two [] k i d a lt h = absurd (omega (arith, h))
apart-two (c ∷ cs) zero zero d a lt h = absurd (omega (arith, lt))
apart-two (c ∷ cs) zero (suc i) d a lt h = all-at (is_apart c) cs i d (and_parts (list_all (is_apart c) cs) (all_apart cs) a).0 (omega (arith, h))
apart-two (c ∷ cs) (suc k) zero d a lt h = absurd (omega (arith, lt))
apart-two (c ∷ cs) (suc k) (suc i) d a lt h = apart-two cs k i d (and_parts (list_all (is_apart c) cs) (all_apart cs) a).1 (omega (arith, lt)) (omega (arith, h))

pub grows-none : (made : Made) → Grows made made []
grows-none made = record { items = λ h x e. e; subs = λ n x e. e; left = λ ids. refl }

-- a column that gets nothing
pub step-skip : (made : Made) (third n : ℕ) (columns : List Column) (id : ℕ) (cells : List Val) (i j : ℕ) (front : List ℕ) (marks : List Bool) → Suited third n columns cells → i < length columns
    → is_column 0x67F2 0x0003 (get_or columns i no_column) ≡ false → (get_or columns i no_column).tag.kind < 65536
    → ((l : ℕ) → suc l ≡ j → is_column (get_or cells l no_value).id (get_or cells l no_value).kind (get_or columns i no_column) ≡ false)
    → Filled made third n columns id cells (i + 1) j front marks → Steps made made third n columns id cells i j j front front marks marks
step-skip made third n columns id cells i j front marks s h other small none f =
    let c = get_or columns i no_column in
    let row = front ++ bits n 0 marks in
    let next : i + 1 ≡ suc i = omega arith in
    let whole : drop i columns ≡ get_or columns i no_column ∷ drop (i + 1) columns = drop_more columns i no_column h in
    let l = lies-at third (third + n) columns i no_column s.lie h in
    let clear : is_set third (front ++ bits n 0 marks) (get_or columns i no_column).bit ≡ false =
    marked front marks n (get_or columns i no_column).bit third (sym f.front_size) (omega (arith, l.bit)) ∙ f.clear i (omega arith) in
    let lacks : has_cell third (front ++ bits n 0 marks) (get_or columns i no_column) ≡ false = lacks-cell third (front ++ bits n 0 marks) (get_or columns i no_column) clear in
    record {
      filled = record {
        front_size = f.front_size;
        marks_size = f.marks_size;
        within = f.within;
        covered = covered-skip columns cells i j s.ids s.tags h small f.within none (λ k lt. let q = f.covered k lt in (q.0, omega (arith, q.1), q.2));
        clear = λ k lt. f.clear k (omega (arith, lt));
        read = ap (cells_of (get_of made) (sub_of made) third (front ++ bits n 0 marks)) whole
            ∙ cells-without (get_of made) (sub_of made) third (front ++ bits n 0 marks) (get_or columns i no_column) (drop (i + 1) columns) lacks ∙ f.read;
        shown = ap (λ (cs : List Column). shows_id cs id (front ++ bits n 0 marks)) whole ∙ shows-other (get_or columns i no_column) (drop (i + 1) columns) id (front ++ bits n 0 marks) other f.shown;
      };
      added = [];
      grows = grows-none made;
      names = ap (λ (cs : List Column). row_names third cs (front ++ bits n 0 marks)) whole ∙ names-without third (front ++ bits n 0 marks) (get_or columns i no_column) (drop (i + 1) columns) lacks;
      weighs = omega arith;
      count = omega arith;
      loads = omega arith;
      blocks = omega arith;
    }

-- no value is the row id
value-not_id : (columns : List Column) (cells : List Val) (l : ℕ) → list_all (value_suits columns) cells ≡ true → l < length cells → not ((get_or cells l no_value).id == 0x67F2) ≡ true
unfolding value_suits
value-not_id columns cells l suit lt =
    let v = get_or cells l no_value in
    let p = all-at (value_suits columns) cells l no_value suit lt in
    let q = and_parts (has_column columns (get_or cells l no_value).id (get_or cells l no_value).kind) (not ((get_or cells l no_value).id == 0x67F2) && suits_cell (get_or cells l no_value).kind (length (get_or cells l no_value).bytes)) p in
    (and_parts (not ((get_or cells l no_value).id == 0x67F2)) (suits_cell (get_or cells l no_value).kind (length (get_or cells l no_value).bytes)) q.1).0

not-true : (b : Bool) → not b ≡ true → b ≡ false
not-true true h = sym h
not-true false h = refl

other-column : (id kind : ℕ) (c : Column) → c.tag.id ≡ 0x67F2 → not (id == 0x67F2) ≡ true → is_column id kind c ≡ false
other-column id kind c e ne =
    let f : (c.tag.id == id) ≡ false = ne_eqb c.tag.id id (λ z. absurd (true≢false (sym (eq-eqb id 0x67F2 (sym z ∙ e)) ∙ not-true (id == 0x67F2) ne))) in
    rw f refl

pub bit-apart : (c d : Column) → is_apart c d ≡ true → c.bit ≡ d.bit → ⊥
bit-apart c d h e = true≢false (sym (eq-eqb c.bit d.bit e) ∙ (apart-parts c d h).0)

pub id-placed : (third fourth : ℕ) (c : Column) → lies third fourth c ≡ true → is_column 0x67F2 0x0003 c ≡ true → (c.at ≡ 0) × (c.width ≡ 4)
unfolding is_placed
id-placed third fourth c lc t =
    let l = lies-parts third fourth c lc in
    let placed : (c.at == 0) && (c.bit == 0) ≡ true = rw t at l.placed in
    (eqb-true c.at 0 (and_parts (c.at == 0) (c.bit == 0) placed).0, l.width ∙ ap cell_width (column-parts 0x67F2 0x0003 c t).1 ∙ width-some 3 4 width-three)

-- the column of the row id
pub step-id : (made : Made) (third n : ℕ) (columns : List Column) (id : ℕ) (cells : List Val) (i j : ℕ) (front : List ℕ) (marks : List Bool) → Suited third n columns cells → i < length columns
    → is_column 0x67F2 0x0003 (get_or columns i no_column) ≡ true → id < 256 ^ 4 → Filled made third n columns id cells (i + 1) j front marks
    → Steps made made third n columns id cells i j j front (replaced (get_or columns i no_column).at (little_bytes 4 id) front) marks (set marks (get_or columns i no_column).bit true)
step-id made third n columns id cells i j front marks s h t fit f =
    let next : suc i ≡ i + 1 = omega arith in
    let whole : drop i columns ≡ get_or columns i no_column ∷ drop (i + 1) columns = drop_more columns i no_column h in
    let lc = all-at (lies third (third + n)) columns i no_column s.lie h in
    let l = lies-parts third (third + n) (get_or columns i no_column) lc in
    let p = id-placed third (third + n) (get_or columns i no_column) lc t in
    let parts = column-parts 0x67F2 0x0003 (get_or columns i no_column) t in
    let len : length (little_bytes 4 id) ≡ (get_or columns i no_column).width = length-bytes_low_first 0 4 id ∙ sym p.1 in
    let within : (get_or columns i no_column).at + length (little_bytes 4 id) ≤ length front = omega (arith, l.cell, len, f.front_size) in
    let size : length (replaced (get_or columns i no_column).at (little_bytes 4 id) front) ≡ length front = length-replaced (get_or columns i no_column).at (little_bytes 4 id) front within in
    let apart : list_all (is_apart (get_or columns i no_column)) (drop (i + 1) columns) ≡ true = ap (λ (k : ℕ). list_all (is_apart (get_or columns i no_column)) (drop k columns)) (sym next) ∙ apart-rest columns i no_column s.apart h in
    let lie = all-drop (lies third (third + n)) columns (i + 1) s.lie in
    let same = same-put made made [] third n (get_or columns i no_column) (little_bytes 4 id) front marks (drop (i + 1) columns) (grows-none made) (sym f.front_size) lc len apart lie in
    let row = front ++ bits n 0 marks in
    let there = replaced (get_or columns i no_column).at (little_bytes 4 id) front ++ bits n 0 (set marks (get_or columns i no_column).bit true) in
    let lacks : has_cell third there (get_or columns i no_column) ≡ false = lacks-id third there (get_or columns i no_column) parts.0 in
    let number : number_at 4 0 there ≡ id =
    number_at-same 4 0 0 there (replaced (get_or columns i no_column).at (little_bytes 4 id) front)
    (λ k lt. get_or_append_left (replaced (get_or columns i no_column).at (little_bytes 4 id) front) (bits n 0 (set marks (get_or columns i no_column).bit true)) 0 (0 + k) (omega (arith, lt, size, within, length-bytes_low_first 0 4 id)))
    ∙ ap (λ (a : ℕ). number_at 4 a (replaced (get_or columns i no_column).at (little_bytes 4 id) front)) (sym p.0)
    ∙ number-there (get_or columns i no_column).at id front (omega (arith, within, length-bytes_low_first 0 4 id)) fit in
    record {
      filled = record {
        front_size = size ∙ f.front_size;
        marks_size = length-set marks (get_or columns i no_column).bit true ∙ f.marks_size;
        within = f.within;
        covered = covered-skip columns cells i j s.ids s.tags h (omega (arith, parts.1)) f.within
            (λ k e. other-column (get_or cells k no_value).id (get_or cells k no_value).kind (get_or columns i no_column) parts.0 (value-not_id columns cells k s.suit (omega (arith, e, f.within))))
            (λ k lt. let q = f.covered k lt in (q.0, omega (arith, q.1), q.2));
        clear = λ k lt. get_or-set_other marks (get_or columns i no_column).bit (get_or columns k no_column).bit true false (bit-apart (get_or columns k no_column) (get_or columns i no_column) (apart-two columns k i no_column s.apart lt h))
            ∙ f.clear k (omega (arith, lt));
        read = ap (cells_of (get_of made) (sub_of made) third there) whole ∙ cells-without (get_of made) (sub_of made) third there (get_or columns i no_column) (drop (i + 1) columns) lacks
            ∙ cells-same made made third row there (drop (i + 1) columns) (drop j cells) same f.read;
        shown = ap (λ (cs : List Column). shows_id cs id there) whole ∙ shows-here (get_or columns i no_column) (drop (i + 1) columns) id there t number;
      };
      added = [];
      grows = grows-none made;
      names = ap (λ (cs : List Column). row_names third cs there) whole ∙ names-without third there (get_or columns i no_column) (drop (i + 1) columns) lacks ∙ names-same made made third row there (drop (i + 1) columns) same;
      weighs = omega arith;
      count = omega arith;
      loads = omega arith;
      blocks = omega arith;
    }

-- a value that was put into its cell
pub step-cell : (old new : Made) (third n : ℕ) (columns : List Column) (id : ℕ) (cells : List Val) (i l : ℕ) (front there : List ℕ) (marks : List Bool) → Suited third n columns cells → i < length columns → l < length cells
    → is_column (get_or cells l no_value).id (get_or cells l no_value).kind (get_or columns i no_column) ≡ true → length marks ≡ 8 * n
    → PutsCell old new front there (get_or columns i no_column).at (get_or cells l no_value) → Filled old third n columns id cells (i + 1) (l + 1) front marks
    → Steps old new third n columns id cells i (l + 1) l front there marks (set marks (get_or columns i no_column).bit true)
step-cell old new third n columns id cells i l front there marks s h lt match full p f =
    let c = get_or columns i no_column in
    let v = get_or cells l no_value in
    let next : suc i ≡ i + 1 = omega arith in
    let last : l + 1 ≡ suc l = omega arith in
    let whole : drop i columns ≡ get_or columns i no_column ∷ drop (i + 1) columns = drop_more columns i no_column h in
    let values : drop l cells ≡ get_or cells l no_value ∷ drop (l + 1) cells = drop_more cells l no_value lt in
    let lc = all-at (lies third (third + n)) columns i no_column s.lie h in
    let ll = lies-parts third (third + n) (get_or columns i no_column) lc in
    let parts = column-parts (get_or cells l no_value).id (get_or cells l no_value).kind (get_or columns i no_column) match in
    let len : length p.bytes ≡ (get_or columns i no_column).width = p.size ∙ ap cell_width (sym parts.1) ∙ sym ll.width in
    let within : (get_or columns i no_column).at + length p.bytes ≤ length front = omega (arith, ll.cell, len, f.front_size) in
    let size : length there ≡ length front = ap length p.row_is ∙ length-replaced (get_or columns i no_column).at p.bytes front within in
    let apart : list_all (is_apart (get_or columns i no_column)) (drop (i + 1) columns) ≡ true = ap (λ (k : ℕ). list_all (is_apart (get_or columns i no_column)) (drop k columns)) (sym next) ∙ apart-rest columns i no_column s.apart h in
    let lie = all-drop (lies third (third + n)) columns (i + 1) s.lie in
    let marked_now = set marks (get_or columns i no_column).bit true in
    let row = front ++ bits n 0 marks in
    let now = there ++ bits n 0 (set marks (get_or columns i no_column).bit true) in
    let added = names there (get_or columns i no_column).at (in_cell (get_or cells l no_value).kind) in
    let same : Same old new third (front ++ bits n 0 marks) (there ++ bits n 0 (set marks (get_or columns i no_column).bit true)) (drop (i + 1) columns) =
    subst (λ (b : List ℕ). Same old new third (front ++ bits n 0 marks) (b ++ bits n 0 (set marks (get_or columns i no_column).bit true)) (drop (i + 1) columns)) (sym p.row_is)
    (same-put old new added third n (get_or columns i no_column) p.bytes front marks (drop (i + 1) columns) p.grows (sym f.front_size) lc len apart lie) in
    let bit_low : (get_or columns i no_column).bit / 8 < n = omega (arith, ll.bit) in
    let bit_in : (get_or columns i no_column).bit < length marks = omega (arith, bit_low, full) in
    let marks_it : is_set third now (get_or columns i no_column).bit ≡ true =
    marked there marked_now n (get_or columns i no_column).bit third (sym (size ∙ f.front_size)) bit_low ∙ get_or-set_same marks (get_or columns i no_column).bit true false bit_in in
    let not_id : not ((get_or columns i no_column).tag.id == 0x67F2) ≡ true = ap (λ (k : ℕ). not (k == 0x67F2)) parts.0 ∙ value-not_id columns cells l s.suit lt in
    let has : has_cell third now (get_or columns i no_column) ≡ true = has-value third now (get_or columns i no_column) not_id marks_it in
    let kind : in_cell (get_or cells l no_value).kind ≡ in_cell (get_or columns i no_column).tag.kind = ap in_cell (sym parts.1) in
    let width : (get_or columns i no_column).width ≡ unwrap_or (in_cell (get_or columns i no_column).tag.kind) 4 = ll.width ∙ width-is (get_or columns i no_column).tag.kind in
    let bytes : (k : ℕ) → k < unwrap_or (in_cell (get_or columns i no_column).tag.kind) 4 → get_or there ((get_or columns i no_column).at + k) 0 ≡ get_or now ((get_or columns i no_column).at + k) 0 =
    λ k low. sym (get_or_append_left there (bits n 0 marked_now) 0 ((get_or columns i no_column).at + k) (omega (arith, low, width, ll.cell, size, f.front_size))) in
    let room_there : (get_or columns i no_column).at + unwrap_or (in_cell (get_or columns i no_column).tag.kind) 4 ≤ length there = omega (arith, width, ll.cell, size, f.front_size) in
    let room_now : (get_or columns i no_column).at + unwrap_or (in_cell (get_or columns i no_column).tag.kind) 4 ≤ length (there ++ bits n 0 (set marks (get_or columns i no_column).bit true)) =
    omega (arith, room_there, length-append there (bits n 0 (set marks (get_or columns i no_column).bit true))) in
    let here : content (get_of new) (sub_of new) now (get_or columns i no_column).at (in_cell (get_or columns i no_column).tag.kind) ≡ Some (get_or cells l no_value).bytes =
    sym (content-same (get_of new) (sub_of new) there now (get_or columns i no_column).at (in_cell (get_or columns i no_column).tag.kind) room_there room_now bytes)
    ∙ ap (content (get_of new) (sub_of new) there (get_or columns i no_column).at) (sym kind) ∙ p.here in
    let fit : fits (get_or cells l no_value).kind (length (get_or cells l no_value).bytes) ≡ true = all-at value_fits cells l no_value s.fit lt in
    let rest = cells-same old new third row now (drop (i + 1) columns) (drop (l + 1) cells) same f.read in
    let shown_there : shows_id (drop (i + 1) columns) id (there ++ bits n 0 (set marks (get_or columns i no_column).bit true)) ≡ true =
    subst (λ (b : List ℕ). shows_id (drop (i + 1) columns) id (b ++ bits n 0 (set marks (get_or columns i no_column).bit true)) ≡ true) (sym p.row_is)
    (shows-put third n (get_or columns i no_column) p.bytes front marks marked_now (drop (i + 1) columns) id (sym f.front_size) lc len apart lie f.shown) in
    let not_row_id : is_column 0x67F2 0x0003 (get_or columns i no_column) ≡ false = rw (not-true ((get_or columns i no_column).tag.id == 0x67F2) not_id) refl in
    record {
      filled = record {
        front_size = size ∙ f.front_size;
        marks_size = length-set marks (get_or columns i no_column).bit true ∙ f.marks_size;
        within = omega (arith, lt);
        covered = covered-match columns cells i l s.ids (omega (arith, lt)) match (λ k low. let q = f.covered k (omega (arith, low)) in (q.0, omega (arith, q.1), q.2));
        clear = λ k low. get_or-set_other marks (get_or columns i no_column).bit (get_or columns k no_column).bit true false (bit-apart (get_or columns k no_column) (get_or columns i no_column) (apart-two columns k i no_column s.apart low h))
            ∙ f.clear k (omega (arith, low));
        read = ap (cells_of (get_of new) (sub_of new) third now) whole
            ∙ cells-with new third now (get_or columns i no_column) (drop (i + 1) columns) (get_or cells l no_value) (drop (l + 1) cells) has (sym parts.0) (sym parts.1) fit here rest ∙ ap Some (sym values);
        shown = ap (λ (cs : List Column). shows_id cs id now) whole ∙ shows-other (get_or columns i no_column) (drop (i + 1) columns) id now not_row_id shown_there;
      };
      added = added;
      grows = p.grows;
      names = ap (λ (cs : List Column). row_names third cs now) whole ∙ names-with third now (get_or columns i no_column) (drop (i + 1) columns) has
          ∙ ap (λ (ns : List ℕ). ns ++ row_names third (drop (i + 1) columns) now)
          (names-put there now (get_or columns i no_column).at (in_cell (get_or columns i no_column).tag.kind) bytes ∙ ap (names there (get_or columns i no_column).at) (sym kind))
          ∙ ap (λ (ns : List ℕ). added ++ ns) (names-same old new third row now (drop (i + 1) columns) same);
      weighs = omega (arith, p.weighs, ap cells_bytes values);
      count = omega (arith, p.count, ap long_values values);
      loads = omega (arith, p.loads, ap values_bytes values);
      blocks = omega (arith, p.blocks, ap values_blocks values);
    }

-- the row id has its place in the row
pub id-at : (third n : ℕ) (columns : List Column) (cells : List Val) (i : ℕ) → Suited third n columns cells → i < length columns → is_column 0x67F2 0x0003 (get_or columns i no_column) ≡ true
    → ((get_or columns i no_column).at ≡ 0) × (4 ≤ third)
id-at third n columns cells i s h t =
    let lc = all-at (lies third (third + n)) columns i no_column s.lie h in
    let l = lies-parts third (third + n) (get_or columns i no_column) lc in
    let p = id-placed third (third + n) (get_or columns i no_column) lc t in
    (p.0, omega (arith, l.cell, p.0, p.1))

-- a value that suits its column
pub value-cell : (columns : List Column) (cells : List Val) (l : ℕ) → list_all (value_suits columns) cells ≡ true → l < length cells → suits_cell (get_or cells l no_value).kind (length (get_or cells l no_value).bytes) ≡ true
unfolding value_suits
value-cell columns cells l suit lt =
    let p = all-at (value_suits columns) cells l no_value suit lt in
    let q = and_parts (has_column columns (get_or cells l no_value).id (get_or cells l no_value).kind) (not ((get_or cells l no_value).id == 0x67F2) && suits_cell (get_or cells l no_value).kind (length (get_or cells l no_value).bytes)) p in
    (and_parts (not ((get_or cells l no_value).id == 0x67F2)) (suits_cell (get_or cells l no_value).kind (length (get_or cells l no_value).bytes)) q.1).1

pub get-any : {X : Type 0} (xs : List X) (i : ℕ) (a b : X) → i < length xs → get_or xs i a ≡ get_or xs i b
get-any [] i a b h = absurd (omega (arith, h))
get-any (x ∷ xs) zero a b h = refl
get-any (x ∷ xs) (suc i) a b h = get-any xs i a b (omega (arith, h))

-- a value's column, by the value that was read
pub match-at : (cells : List Val) (l id kind : ℕ) (v : Val) (c : Column) (b : Bool) → v ≡ get_or cells l no_value → id ≡ v.id → kind ≡ v.kind → is_column id kind c ≡ b
    → is_column (get_or cells l no_value).id (get_or cells l no_value).kind c ≡ b
match-at cells l id kind v c b e i k h =
    ap (λ (w : Val). is_column w.id w.kind c) (sym e) ∙ ap (λ (n : ℕ). is_column n v.kind c) (sym i) ∙ ap (λ (n : ℕ). is_column id n c) (sym k) ∙ h
