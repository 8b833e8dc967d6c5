-- Rows in a matrix: each is read back by its number.
use Rattle.std.proofs.Common.{◌≡◌, ◌∙◌, ◌≤◌, ◌<◌, ◌+◌, ◌-◌, ◌*◌, ◌/◌, ◌%◌, ◌++◌, ◌∷◌, [], ℕ, zero, suc, List, length, get_or, take, drop, Option, Some, Result, Ok, Err, IfOk, refl, sym, ap, inl, inr, arith, length-append, append_assoc, length-drop}
use Rattle.std.specs.List.{concat}
use Rattle.std.specs.Option.{option_and_then}
use Rattle.std.proofs.lemmas.Bool.{cases_lt, eq-eqb, ne_eqb, le-leb, le-ltb, lt-ltb}
use Rattle.std.proofs.lemmas.List.{append-nil, drop_at, drop-drop, get_or_append_left, get_or-drop, get_or-take, take_all, take_at}
use Rattle.std.proofs.lemmas.Nat.{div-add-mod', div_below, le-div, mod_below}
use Rattle.std.proofs.lemmas.Option.{slice_get-get_or}
use Rattle.heap_on_node.specs.Packing.{Adds, item_in, spread}
use Rattle.heap_on_node.proofs.PackingLaws.{kept-by_adds}
use Rattle.node_port.specs.Stops.{subs_size}
use Rattle.pst_base.specs.Subs.{flattened}
use Rattle.pst_base.specs.declared.subs.Sub.{Sub}
use Rattle.table_writer.specs.declared.value.Made.{Made}
use Rattle.table_writer.specs.Making.{IsMade, get_of, missing, sub_of, weight}
use Rattle.table_context.specs.Rows.{piece, row_in, subnode}
use Rattle.node_values.specs.Subnodes.{data_of}
use Rattle.table_context.specs.Rows.{others}
use Rattle.table_writer.specs.Woven.{Weaves, all_woven}
use Rattle.table_writer.specs.Writing.{HaveLength, PutsRows, matrix_blocks, matrix_load, row_among}
use Rattle.table_writer.proofs.ColumnFillLaws.{grows-none}
use Rattle.table_writer.proofs.MakingLaws.{grows-along, subnode-none, subnode-one, weave-size}
use Rattle.table_writer.proofs.PackLaws.{adds-weigh, valid-hid}
use Rattle.table_writer.proofs.WovenLaws.{weave-here, weave-keeps, weave-left}

pub suc-times : (j size : ℕ) → suc j * size ≡ size + j * size
suc-times j size = omega arith

pub length-rows : (size : ℕ) (xs : List (List ℕ)) → HaveLength size xs → length (concat xs) ≡ length xs * size
length-rows size [] h = omega arith
length-rows size (x ∷ xs) h = omega (arith, length-append x (concat xs), h.0, length-rows size xs h.1, suc-times (length xs) size)

piece-bytes : (size : ℕ) (xs : List (List ℕ)) (z : List ℕ) (j : ℕ) → HaveLength size xs → j < length xs → (take size (drop (j * size) (concat xs ++ z)) ≡ get_or xs j []) × (j * size + size ≤ length (concat xs ++ z))
piece-bytes size [] z j h lt = absurd (omega (arith, lt))
piece-bytes size (x ∷ xs) z zero h lt =
    let none : 0 * size ≡ 0 = omega arith in (
      ap (λ (k : ℕ). take size (drop k ((x ++ concat xs) ++ z))) none ∙ ap (take size) (append_assoc x (concat xs) z) ∙ take_at x (concat xs ++ z) size h.0,
      omega (arith, none, h.0, ap length (append_assoc x (concat xs) z), length-append x (concat xs ++ z)),
    )
piece-bytes size (x ∷ xs) z (suc j) h lt =
    let p = piece-bytes size xs z j h.1 (omega (arith, lt)) in
    let skip : drop (suc j * size) ((x ++ concat xs) ++ z) ≡ drop (j * size) (concat xs ++ z) =
    ap (λ (k : ℕ). drop k ((x ++ concat xs) ++ z)) (suc-times j size) ∙ sym (drop-drop (j * size) size ((x ++ concat xs) ++ z))
    ∙ ap (drop (j * size)) (ap (drop size) (append_assoc x (concat xs) z) ∙ drop_at x (concat xs ++ z) size h.0) in
    (ap (take size) skip ∙ p.0, omega (arith, suc-times j size, p.1, h.0, ap length (append_assoc x (concat xs) z), length-append x (concat xs ++ z)))

-- row j of rows one behind the other
pub piece-there : (size : ℕ) (xs : List (List ℕ)) (z : List ℕ) (j : ℕ) → HaveLength size xs → j < length xs → piece size j (concat xs ++ z) ≡ Some (get_or xs j [])
unfolding piece
piece-there size xs z j h lt =
    let p = piece-bytes size xs z j h lt in
    rw (le-leb (j * size + size) (length (concat xs ++ z)) p.1) (ap Some p.0)

pub have-drop : (size n : ℕ) (xs : List (List ℕ)) → HaveLength size xs → HaveLength size (drop n xs)
have-drop size zero xs h = h
have-drop size (suc n) [] h = h
have-drop size (suc n) (x ∷ xs) h = have-drop size n xs h.1

pub have-take : (size n : ℕ) (xs : List (List ℕ)) → HaveLength size xs → HaveLength size (take n xs)
have-take size zero xs h = tt
have-take size (suc n) [] h = tt
have-take size (suc n) (x ∷ xs) h = (h.0, have-take size n xs h.1)

-- ---- blocks of so many rows

-- block k begins with the rows that are its own
abbrev pub Begins : ℕ → List (List ℕ) → List (List ℕ) → ℕ → Type 0
Begins per rows blocks k = (z : List ℕ) × (get_or blocks k [] ≡ concat (take per (drop (k * per) rows)) ++ z)

-- blocks of so many rows each, and the rows that are left
pub record Cuts (per : ℕ) (rows blocks rest : List (List ℕ)) : Type 0 where
  pub rest_is : rest ≡ drop (length blocks * per) rows
  pub low : length blocks * per ≤ length rows
  pub left : length blocks * per ≤ length rows - 1
  pub each : (k : ℕ) → k < length blocks → Begins per rows blocks k

pub cuts-start : (per : ℕ) (rows : List (List ℕ)) → Cuts per rows [] rows
cuts-start per rows =
    let none : 0 * per ≡ 0 = omega arith in
    record {
      rest_is = sym (ap (λ (k : ℕ). drop k rows) none);
      low = omega (arith, none);
      left = omega (arith, none);
      each = λ k lt. absurd (omega (arith, lt));
    }

begins-push : (per : ℕ) (rows blocks : List (List ℕ)) (b : List ℕ) (k : ℕ) → k < length blocks → Begins per rows blocks k → Begins per rows (blocks ++ b ∷ []) k
begins-push per rows blocks b k lt p = (p.0, get_or_append_left blocks (b ∷ []) [] k lt ∙ p.1)

last-is : (blocks : List (List ℕ)) (b : List ℕ) → get_or (blocks ++ b ∷ []) (length blocks) [] ≡ b
last-is [] b = refl
last-is (x ∷ xs) b = last-is xs b

begins-last : (per : ℕ) (rows blocks rest : List (List ℕ)) (some z b : List ℕ) (k : ℕ) → Cuts per rows blocks rest → some ≡ concat (take per rest) → b ≡ some ++ z → k < length (blocks ++ b ∷ [])
    → Begins per rows (blocks ++ b ∷ []) k
begins-last per rows blocks rest some z b k c s e lt = elim (cases_lt k (length blocks)) [
  | inl low ↦ begins-push per rows blocks b k low (c.each k low)
  | inr high ↦
      let at : k ≡ length blocks = omega (arith, lt, high, length-append blocks (b ∷ [])) in (
        z,
        ap (λ (n : ℕ). get_or (blocks ++ b ∷ []) n []) at ∙ last-is blocks b ∙ e
            ∙ ap (λ (xs : List ℕ). xs ++ z) (s ∙ ap (λ (ys : List (List ℕ)). concat (take per ys)) (c.rest_is ∙ ap (λ (n : ℕ). drop (n * per) rows) (sym at))),
      )
]

pub cuts-step : (per : ℕ) (rows blocks rest some others : List (List ℕ)) (b z : List ℕ) → Cuts per rows blocks rest → per < length rest → some ≡ take per rest → others ≡ drop per rest → b ≡ concat some ++ z
    → Cuts per rows (blocks ++ b ∷ []) others
cuts-step per rows blocks rest some others b z c more s o e =
    let count : length (blocks ++ b ∷ []) ≡ suc (length blocks) = omega (arith, length-append blocks (b ∷ [])) in
    let place : length (blocks ++ b ∷ []) * per ≡ length blocks * per + per = ap (λ (n : ℕ). n * per) count ∙ omega (arith, suc-times (length blocks) per) in
    let left : length rest ≡ length rows - length blocks * per = ap length c.rest_is ∙ length-drop (length blocks * per) rows in
    record {
      rest_is = o ∙ ap (drop per) c.rest_is ∙ drop-drop per (length blocks * per) rows ∙ ap (λ (n : ℕ). drop n rows) (sym place);
      low = omega (arith, place, left, more);
      left = omega (arith, place, left, more);
      each = λ k lt. begins-last per rows blocks rest (concat some) z b k c (ap concat s) e lt;
    }

-- no more blocks than the rows need
pub cuts-count : (per : ℕ) (rows blocks rest : List (List ℕ)) (b : List ℕ) → Cuts per rows blocks rest → 0 < per → length (blocks ++ b ∷ []) ≤ (length rows - 1) / per + 1
cuts-count per rows blocks rest b c pos = omega (arith, length-append blocks (b ∷ []), le-div (length blocks) (length rows - 1) per pos c.left)

within-take : (per : ℕ) (xs : List (List ℕ)) (j : ℕ) → j < per → j < length xs → j < length (take per xs)
within-take zero xs j a b = absurd (omega (arith, a))
within-take (suc per) [] j a b = b
within-take (suc per) (x ∷ xs) zero a b = omega arith
within-take (suc per) (x ∷ xs) (suc j) a b = omega (arith, within-take per xs j (omega (arith, a)) (omega (arith, b)))

-- row n is read back from the blocks
pub cuts-done : (per : ℕ) (rows blocks rest : List (List ℕ)) (b z : List ℕ) → Cuts per rows blocks rest → 0 < per → length rest ≤ per → b ≡ concat rest ++ z
    → (size : ℕ) → HaveLength size rows → (n : ℕ) → n < length rows → row_among size per (blocks ++ b ∷ []) n ≡ Some (get_or rows n [])
cuts-done per rows blocks rest b z c pos few e size h n lt =
    let all = blocks ++ b ∷ [] in
    let k = n / per in
    let j = n % per in
    let count : length (blocks ++ b ∷ []) ≡ suc (length blocks) = omega (arith, length-append blocks (b ∷ [])) in
    let left : length rest ≡ length rows - length blocks * per = ap length c.rest_is ∙ length-drop (length blocks * per) rows in
    let below : n / per < length (blocks ++ b ∷ []) = div_below n per (length (blocks ++ b ∷ [])) pos (omega (arith, lt, left, few, ap (λ (m : ℕ). m * per) count, suc-times (length blocks) per)) in
    let q = begins-last per rows blocks rest (concat rest) z b (n / per) c (ap concat (sym (take_all per rest few))) e below in
    let whole : n / per * per + n % per ≡ n = div-add-mod' n per in
    let low : n % per < per = mod_below n per pos in
    let have : HaveLength size (take per (drop (n / per * per) rows)) = have-take size per (drop (n / per * per) rows) (have-drop size (n / per * per) rows h) in
    let within : n % per < length (take per (drop (n / per * per) rows)) =
    within-take per (drop (n / per * per) rows) (n % per) low (omega (arith, whole, lt, length-drop (n / per * per) rows)) in
    let row_is : get_or (take per (drop (n / per * per) rows)) (n % per) [] ≡ get_or rows n [] =
    get_or-take per (drop (n / per * per) rows) (n % per) [] low ∙ get_or-drop (n / per * per) rows (n % per) [] ∙ ap (λ (m : ℕ). get_or rows m []) whole in
    ap (option_and_then (piece size (n % per))) (slice_get-get_or (blocks ++ b ∷ []) (n / per) [] below ∙ ap Some q.1)
    ∙ piece-there size (take per (drop (n / per * per) rows)) q.0 (n % per) have within
    ∙ ap Some row_is

-- ---- the matrix among the items or the subnodes

item-row : (get : ℕ → Option (List ℕ)) (sub : ℕ → Option (List (List ℕ))) (size hnid n : ℕ) (x y : List ℕ) → hnid % 32 ≡ 0 → get hnid ≡ Some x → piece size n x ≡ Some y → row_in get sub size hnid n ≡ Some y
unfolding row_in
item-row get sub size hnid n x y e h p = rw (eq-eqb (hnid % 32) 0 e, h) p

sub-row : (get : ℕ → Option (List ℕ)) (sub : ℕ → Option (List (List ℕ))) (size hnid n : ℕ) (blocks : List (List ℕ)) (y : List ℕ) → hnid % 32 ≡ 31 → sub hnid ≡ Some blocks
    → row_among size (8176 / size) blocks n ≡ Some y → row_in get sub size hnid n ≡ Some y
unfolding row_in
sub-row get sub size hnid n blocks y e h p = rw (ne_eqb (hnid % 32) 0 (λ z. absurd (omega (arith, e, z))), h) p

load-item : (n size : ℕ) → n * size ≤ 3580 → matrix_load n size ≡ 2 * (n * size) + 4
load-item n size few = rw (le-ltb 3580 (n * size) few) refl

load-sub : (n size : ℕ) → 3580 < n * size → matrix_load n size ≡ 0
load-sub n size many = rw (lt-ltb 3580 (n * size) many) refl

blocks-sub : (n size : ℕ) → 3580 < n * size → matrix_blocks n size ≡ (n - 1) / (8176 / size) + 2
blocks-sub n size many = rw (lt-ltb 3580 (n * size) many) refl

pub no-rows : (made : Made) (size : ℕ) (rows : List (List ℕ)) → IsMade made → length rows ≡ 0 → PutsRows made made size rows 0
no-rows made size rows m none = record {
  made = m;
  grows = grows-along made made (subnode 0) [] (subnode-none 0 refl) (grows-none made);
  here = λ n lt. absurd (omega (arith, none, lt));
  weighs = omega arith;
  loads = omega arith;
  blocks = omega arith;
}

pub item-rows : {E : Type 0} (r : Result (Made × ℕ) E) (old : Made) (size : ℕ) (rows : List (List ℕ)) (x z : List ℕ) → HaveLength size rows → x ≡ concat rows ++ z → length x ≡ length rows * size → length rows * size ≤ 3580 → IsMade old
    → IfOk r (λ (s : Made × ℕ). IsMade s.0) → IfOk r (λ (s : Made × ℕ). Adds old.maker x s.0.maker s.1) → IfOk r (λ (s : Made × ℕ). all_woven s.0.subs ≡ all_woven old.subs)
    → IfOk r (λ (s : Made × ℕ). s.0.singles.items ≡ old.singles.items) → IfOk r (λ (s : Made × ℕ). PutsRows old s.0 size rows s.1)
item-rows (Err e) old size rows x z h is len high made a b c d = tt
item-rows (Ok s) old size rows x z h is len high made a b c d =
    let v = valid-hid s.0.maker s.1 x b.here in
    record {
      made = a;
      grows = grows-along old s.0 (subnode s.1) [] (subnode-none s.1 v.0) (record {
        items = kept-by_adds old.maker s.0.maker x s.1 b;
        subs = λ n y e. ap (λ (ss : List Sub). data_of (flattened ss) n) c ∙ e;
        left = λ ids. ap (λ (ss : List Sub). others ids (flattened ss)) c;
      });
      here = λ n lt. item-row (get_of s.0) (sub_of s.0) size s.1 n x (get_or rows n []) v.0 b.here (ap (piece size n) is ∙ piece-there size rows z n h lt);
      weighs = omega (arith, adds-weigh old.maker s.0.maker x s.1 made.packed a.packed b, len, high);
      loads = omega (arith, b.spent, ap missing d, len, load-item (length rows) size high);
      blocks = omega (arith, ap (λ (ss : List Sub). subs_size (flattened ss)) c);
    }

pub sub-rows : {E : Type 0} (r : Result (Made × ℕ) E) (old : Made) (size : ℕ) (rows blocks : List (List ℕ)) → ((n : ℕ) → n < length rows → row_among size (8176 / size) blocks n ≡ Some (get_or rows n []))
    → length blocks ≤ (length rows - 1) / (8176 / size) + 1 → 3580 < length rows * size → IfOk r (λ (s : Made × ℕ). IsMade s.0) → IfOk r (λ (s : Made × ℕ). Weaves (all_woven old.subs) blocks (all_woven s.0.subs) s.1) → IfOk r (λ (s : Made × ℕ). s.0.maker ≡ old.maker)
    → IfOk r (λ (s : Made × ℕ). s.0.singles.items ≡ old.singles.items) → IfOk r (λ (s : Made × ℕ). PutsRows old s.0 size rows s.1)
sub-rows (Err e) old size rows blocks each few many made w m d = tt
sub-rows (Ok s) old size rows blocks each few many made w m d = record {
  made = made;
  grows = grows-along old s.0 (subnode s.1) (s.1 ∷ []) (subnode-one s.1 w.kind) (record {
    items = λ h x e. ap (λ (g : List (List (List ℕ))). item_in g h) m ∙ e;
    subs = weave-keeps (all_woven old.subs) (all_woven s.0.subs) blocks s.1 w;
    left = weave-left (all_woven old.subs) (all_woven s.0.subs) blocks s.1 w;
  });
  here = λ n lt. sub-row (get_of s.0) (sub_of s.0) size s.1 n blocks (get_or rows n []) w.kind (weave-here (all_woven old.subs) (all_woven s.0.subs) blocks s.1 w) (each n lt);
  weighs = omega (arith, ap weight m);
  loads = omega (arith, ap spread m, ap missing d, load-sub (length rows) size many);
  blocks = omega (arith, weave-size (all_woven old.subs) (all_woven s.0.subs) blocks s.1 w, few, blocks-sub (length rows) size many);
}

pub concat-push : (xs : List (List ℕ)) (x : List ℕ) → concat (xs ++ x ∷ []) ≡ concat xs ++ x
concat-push [] x = append-nil x
concat-push (y ∷ ys) x = ap (λ (zs : List ℕ). y ++ zs) (concat-push ys x) ∙ sym (append_assoc y (concat ys) x)
