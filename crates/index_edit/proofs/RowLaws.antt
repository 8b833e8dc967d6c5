-- Records of 8 bytes, one behind the other.
use Rattle.std.proofs.Common.{◌≡◌, ◌≤◌, ◌<◌, ◌+◌, ◌-◌, ◌*◌, ◌/◌, ◌^◌, inl, inr, ◌⊎◌, ℕ, suc, List, [], ◌∷◌, ◌++◌, length, take, drop, Some, None, refl, sym, ap, ◌∙◌, subst, append_assoc, length-append, length-drop, length-take, arith}
use Rattle.std.proofs.lemmas.Bool.{cases_lt, eq-eqb, ne_eqb}
use Rattle.std.proofs.lemmas.List.{drop-append-le, drop-drop, drop-take, length_push, nil_from_length, take_at, take-append-le}
use Rattle.std.proofs.Math.Nat.{div-eq_of_lt}
use Rattle.std.proofs.Math.Seq.{take-add, get_or-take}
use Rattle.std.specs.Option.{option_and_then}
use Rattle.byteorder.specs.Endian.{little_bytes, little_number}
use Rattle.byteorder.specs.Numbers.{little_number-reads_back}
use Rattle.pst_base.specs.Fields.{number_at}
use Rattle.pst_base.proofs.Numbers.{number_at-same}
use Rattle.bth_tree.specs.Records.{entry_of, record_of, records, whole}
use Rattle.bth_tree.proofs.OptionLaws.{bind-some, none-some, some-injective}
use Rattle.bth_tree.proofs.RecordLaws.{whole-none, whole-short, whole-step}
use Rattle.index_edit.specs.Rows.{as_number, AreBelow, BeginsAbove, IsPlaceOf, IsSpan, rows}

-- the bytes are those of these records, one behind the other
abbrev pub Spells : List ℕ → List (ℕ × List ℕ) → Type 0
Spells x [] = x ≡ []
Spells x (r ∷ rs) = (8 ≤ length x) × (record_of 4 (take 8 x) ≡ r) × Spells (drop 8 x) rs

pub rows-short : (x : List ℕ) → length x < 8 → rows x ≡ []
unfolding rows
rows-short x h = ap (λ (n : ℕ). records 4 4 n x) (div-eq_of_lt h)

pub rows-step : (x : List ℕ) → 8 ≤ length x → rows x ≡ record_of 4 (take 8 x) ∷ rows (drop 8 x)
unfolding rows
rows-step x h =
    let back : length x / 8 ≡ suc (length (drop 8 x) / 8) = omega (arith, length-drop 8 x) in
    ap (λ (n : ℕ). records 4 4 n x) back

whole-nil : (x : List ℕ) → whole 4 4 x ≡ Some [] → x ≡ []
whole-nil x h = elim (cases_lt (length x) 8) [
  | inl short ↦ elim (cases_lt 0 (length x)) [
    | inl some ↦ absurd (none-some [] (sym (whole-short 4 4 x some short) ∙ h))
    | inr none ↦ nil_from_length x (omega arith)
  ]
  | inr room ↦
      let b = bind-some (λ (rs : List (ℕ × List ℕ)). Some (record_of 4 (take 8 x) ∷ rs)) (whole 4 4 (drop 8 x)) [] (sym (whole-step 4 4 x (omega arith) room) ∙ h) in
      absurd (omega (arith, ap length (some-injective (record_of 4 (take 8 x) ∷ b.0) [] b.2)))
]

abbrev head : List (ℕ × List ℕ) → ℕ × List ℕ
head [] = (0, [])
head (r ∷ rs) = r

abbrev others : List (ℕ × List ℕ) → List (ℕ × List ℕ)
others [] = []
others (r ∷ rs) = rs

pub from-whole : (x : List ℕ) (rs : List (ℕ × List ℕ)) → whole 4 4 x ≡ Some rs → Spells x rs
from-whole x [] h = whole-nil x h
from-whole x (r ∷ rs) h = elim (cases_lt (length x) 8) [
  | inl short ↦ elim (cases_lt 0 (length x)) [
    | inl some ↦ absurd (none-some (r ∷ rs) (sym (whole-short 4 4 x some short) ∙ h))
    | inr none ↦
        let e : x ≡ [] = nil_from_length x (omega arith) in
        absurd (omega (arith, ap length (some-injective [] (r ∷ rs) (sym (whole-none 4 4 (omega arith)) ∙ ap (whole 4 4) (sym e) ∙ h))))
  ]
  | inr room ↦
      let b = bind-some (λ (ws : List (ℕ × List ℕ)). Some (record_of 4 (take 8 x) ∷ ws)) (whole 4 4 (drop 8 x)) (r ∷ rs) (sym (whole-step 4 4 x (omega arith) room) ∙ h) in
      let e = some-injective (record_of 4 (take 8 x) ∷ b.0) (r ∷ rs) b.2 in
      (room, ap head e, from-whole (drop 8 x) rs (b.1 ∙ ap (λ (ws : List (ℕ × List ℕ)). Some (others ws)) e))
]

pub to-whole : (x : List ℕ) (rs : List (ℕ × List ℕ)) → Spells x rs → whole 4 4 x ≡ Some rs
to-whole x [] h = ap (whole 4 4) h ∙ whole-none 4 4 (omega arith)
to-whole x (r ∷ rs) h =
    whole-step 4 4 x (omega arith) h.0
    ∙ ap (option_and_then (λ (ws : List (ℕ × List ℕ)). Some (record_of 4 (take 8 x) ∷ ws))) (to-whole (drop 8 x) rs h.2)
    ∙ ap (λ (q : ℕ × List ℕ). Some (q ∷ rs)) h.1

pub spells-rows : (x : List ℕ) (rs : List (ℕ × List ℕ)) → Spells x rs → rows x ≡ rs
spells-rows x [] h = rows-short x (omega (arith, ap length h))
spells-rows x (r ∷ rs) h = rows-step x h.0 ∙ ap (λ (q : ℕ × List ℕ). q ∷ rows (drop 8 x)) h.1 ∙ ap (λ (ws : List (ℕ × List ℕ)). r ∷ ws) (spells-rows (drop 8 x) rs h.2)

pub rows-whole : (x : List ℕ) (rs : List (ℕ × List ℕ)) → whole 4 4 x ≡ Some rs → rows x ≡ rs
rows-whole x rs h = spells-rows x rs (from-whole x rs h)

pub spells-length : (x : List ℕ) (rs : List (ℕ × List ℕ)) → Spells x rs → length x ≡ 8 * length rs
spells-length x [] h = ap length h
spells-length x (r ∷ rs) h = omega (arith, h.0, length-drop 8 x, spells-length (drop 8 x) rs h.2)

pub spells-append : (x y : List ℕ) (rs ss : List (ℕ × List ℕ)) → Spells x rs → Spells y ss → Spells (x ++ y) (rs ++ ss)
spells-append x y [] ss h g = subst (λ (z : List ℕ). Spells (z ++ y) ss) (sym h) g
spells-append x y (r ∷ rs) ss h g = (
  omega (arith, h.0, length-append x y),
  ap (record_of 4) (take-append-le 8 x y h.0) ∙ h.1,
  subst (λ (z : List ℕ). Spells z (rs ++ ss)) (sym (drop-append-le 8 x y h.0)) (spells-append (drop 8 x) y rs ss h.2 g),
)

-- the bytes of the first records, and those of the others
pub spells-split : (x : List ℕ) (n : ℕ) (rs ss : List (ℕ × List ℕ)) → length rs ≡ n → Spells x (rs ++ ss) → Spells (take (8 * n) x) rs × Spells (drop (8 * n) x) ss
spells-split x n [] ss len h =
    let z : 8 * n ≡ 0 = omega (arith, len) in
    (ap (λ (m : ℕ). take m x) z, subst (λ (m : ℕ). Spells (drop m x) ss) (sym z) h)
spells-split x n (r ∷ rs) ss len h =
    let next = spells-split (drop 8 x) (n - 1) rs ss (omega (arith, len)) h.2 in
    let e : 8 * n ≡ 8 + 8 * (n - 1) = omega (arith, len) in
    let back : drop (8 * n) x ≡ drop (8 * (n - 1)) (drop 8 x) = ap (λ (m : ℕ). drop m x) e ∙ sym (drop-drop (8 * (n - 1)) 8 x) in
    let front : drop 8 (take (8 * n) x) ≡ take (8 * (n - 1)) (drop 8 x) = ap (λ (m : ℕ). drop 8 (take m x)) e ∙ drop-take 8 (8 * (n - 1)) x in
    let first : take 8 (take (8 * n) x) ≡ take 8 x =
    ap (λ (m : ℕ). take 8 (take m x)) e ∙ ap (take 8) (take-add 8 (8 * (n - 1)) x) ∙ take_at (take 8 x) (take (8 * (n - 1)) (drop 8 x)) 8 (omega (arith, length-take 8 x, h.0)) in (
      (omega (arith, length-take (8 * n) x, h.0, len), ap (record_of 4) first ∙ h.1, subst (λ (y : List ℕ). Spells y rs) (sym front) next.0),
      subst (λ (y : List ℕ). Spells y ss) (sym back) next.1,
    )

-- one record's bytes
pub spells-row : (key e : ℕ) → key < 2 ^ 32 → Spells (little_bytes 4 key ++ little_bytes 4 e) ((key, little_bytes 4 e) ∷ [])
spells-row key e fits = (omega arith, ap (λ (n : ℕ). (n, little_bytes 4 e)) (little_number-reads_back 4 key (little_bytes 4 e) fits), refl)

-- the numbers at the front of bytes are those of the first record
pub front-key : (x : List ℕ) → 8 ≤ length x → number_at 4 0 x ≡ (record_of 4 (take 8 x)).0
unfolding number_at
front-key x h = number_at-same 4 0 0 x (take 8 x) (λ k less. let e : 0 + k ≡ k = omega arith in rw e (sym (get_or-take 8 x k 0 (omega arith))))

pub front-entry : (x : List ℕ) → 8 ≤ length x → number_at 4 4 x ≡ little_number 4 (record_of 4 (take 8 x)).1
unfolding number_at
front-entry x h = number_at-same 4 4 4 x (take 8 x) (λ k less. sym (get_or-take 8 x (4 + k) 0 (omega arith)))

pub next-key : (x : List ℕ) → 16 ≤ length x → number_at 4 8 x ≡ number_at 4 0 (drop 8 x)
unfolding number_at
next-key x h = refl

pub below-push : (key : ℕ) (rs : List (ℕ × List ℕ)) (r : ℕ × List ℕ) → AreBelow key rs → r.0 < key → AreBelow key (rs ++ r ∷ [])
below-push key [] r h less = (less, tt)
below-push key (q ∷ rs) r h less = (h.0, below-push key rs r h.1 less)

-- one more record is passed
pub passed : (before all : List (ℕ × List ℕ)) (x : List ℕ) → 8 ≤ length x → before ++ rows x ≡ all → (before ++ record_of 4 (take 8 x) ∷ []) ++ rows (drop 8 x) ≡ all
passed before all x room h =
    append_assoc before (record_of 4 (take 8 x) ∷ []) (rows (drop 8 x)) ∙ ap (λ (ws : List (ℕ × List ℕ)). before ++ ws) (sym (rows-step x room)) ∙ h

-- what a scan has passed
pub record Scanned (key : ℕ) (x rest : List ℕ) (n : ℕ) : Type 0 where
  pub before : List (ℕ × List ℕ)
  pub parts : before ++ rows rest ≡ rows x
  pub count : length before ≡ n
  pub below : AreBelow key before
  pub room : 8 * n + length rest ≡ length x

pub scanned-next : (key : ℕ) (x rest : List ℕ) (n : ℕ) → Scanned key x rest n → 8 ≤ length rest → number_at 4 0 rest < key → Scanned key x (drop 8 rest) (n + 1)
scanned-next key x rest n s room less = record {
  before = s.before ++ record_of 4 (take 8 rest) ∷ [];
  parts = passed s.before (rows x) rest room s.parts;
  count = length_push s.before (record_of 4 (take 8 rest)) ∙ ap (λ (m : ℕ). m + 1) s.count;
  below = below-push key s.before (record_of 4 (take 8 rest)) s.below (omega (arith, less, front-key rest room));
  room = omega (arith, s.room, length-drop 8 rest, room);
}

pub scanned-here : (key : ℕ) (x rest : List ℕ) (n : ℕ) → Scanned key x rest n → 8 ≤ length rest → number_at 4 0 rest ≡ key → IsSpan key (rows x) n (n + 1)
scanned-here key x rest n s room same = record {
  before = s.before;
  here = record_of 4 (take 8 rest) ∷ [];
  after = rows (drop 8 rest);
  parts = sym s.parts ∙ ap (λ (ws : List (ℕ × List ℕ)). s.before ++ ws) (rows-step rest room);
  starts = s.count;
  ends = refl;
  below = s.below;
  is = sym (front-key rest room) ∙ same;
}

pub scanned-above : (key : ℕ) (x rest : List ℕ) (n : ℕ) → Scanned key x rest n → 8 ≤ length rest → key < number_at 4 0 rest → IsSpan key (rows x) n n
scanned-above key x rest n s room more = record {
  before = s.before;
  here = [];
  after = rows rest;
  parts = sym s.parts;
  starts = s.count;
  ends = omega arith;
  below = s.below;
  is = subst (BeginsAbove key) (sym (rows-step rest room)) (omega (arith, more, front-key rest room));
}

pub scanned-end : (key : ℕ) (x rest : List ℕ) (n : ℕ) → Scanned key x rest n → length rest < 8 → IsSpan key (rows x) n n
scanned-end key x rest n s short = record {
  before = s.before;
  here = [];
  after = [];
  parts = sym s.parts ∙ ap (λ (ws : List (ℕ × List ℕ)). s.before ++ ws) (rows-short rest short);
  starts = s.count;
  ends = omega arith;
  below = s.below;
  is = tt;
}

-- the entry of a key, looked for record by record
pub entry-here : (key : ℕ) (x : List ℕ) → 8 ≤ length x → number_at 4 0 x ≡ key → as_number (entry_of key (rows x)) ≡ Some (number_at 4 4 x)
entry-here key x room same =
    rw (rows-step x room, eq-eqb (record_of 4 (take 8 x)).0 key (sym (front-key x room) ∙ same)) (ap Some (sym (front-entry x room)))

pub entry-next : (key : ℕ) (x : List ℕ) → 8 ≤ length x → (number_at 4 0 x ≡ key → ⊥) → entry_of key (rows x) ≡ entry_of key (rows (drop 8 x))
entry-next key x room other =
    rw (rows-step x room, ne_eqb (record_of 4 (take 8 x)).0 key (λ e. other (front-key x room ∙ e))) refl

pub entry-end : (key : ℕ) (x : List ℕ) → length x < 8 → as_number (entry_of key (rows x)) ≡ None
entry-end key x short = ap (λ (rs : List (ℕ × List ℕ)). as_number (entry_of key rs)) (rows-short x short)

-- how far a scan of pairs has come: its own key isn't above, unless it is the first
pub record Reached (key : ℕ) (x rest : List ℕ) (n : ℕ) : Type 0 where
  pub before : List (ℕ × List ℕ)
  pub parts : before ++ rows rest ≡ rows x
  pub count : length before ≡ n
  pub low : (before ≡ []) ⊎ (number_at 4 0 rest ≤ key)
  pub some : 8 ≤ length rest
  pub room : 8 * n + length rest ≡ length x

pub reached-start : (key : ℕ) (x : List ℕ) → 8 ≤ length x → Reached key x x 0
reached-start key x some = record { before = []; parts = refl; count = refl; low = inl refl; some = some; room = omega arith }

pub reached-next : (key : ℕ) (x rest : List ℕ) (n : ℕ) → Reached key x rest n → 16 ≤ length rest → number_at 4 8 rest ≤ key → Reached key x (drop 8 rest) (n + 1)
reached-next key x rest n s room low = record {
  before = s.before ++ record_of 4 (take 8 rest) ∷ [];
  parts = passed s.before (rows x) rest s.some s.parts;
  count = length_push s.before (record_of 4 (take 8 rest)) ∙ ap (λ (m : ℕ). m + 1) s.count;
  low = inr (omega (arith, low, next-key rest room));
  some = omega (arith, room, length-drop 8 rest);
  room = omega (arith, s.room, length-drop 8 rest, room);
}

reached-place : (key : ℕ) (x rest : List ℕ) (n : ℕ) (c : ℕ) → Reached key x rest n → BeginsAbove key (rows (drop 8 rest)) → c ≡ number_at 4 4 rest → IsPlaceOf key (rows x) n c
reached-place key x rest n c s above is = record {
  before = s.before;
  pair = record_of 4 (take 8 rest);
  after = rows (drop 8 rest);
  parts = sym s.parts ∙ ap (λ (ws : List (ℕ × List ℕ)). s.before ++ ws) (rows-step rest s.some);
  place = s.count;
  names = sym (front-entry rest s.some) ∙ sym is;
  low = elim s.low [ inl none ↦ inl none | inr less ↦ inr (omega (arith, less, front-key rest s.some)) ];
  next = above;
}

pub reached-above : (key : ℕ) (x rest : List ℕ) (n c : ℕ) → Reached key x rest n → 16 ≤ length rest → key < number_at 4 8 rest → c ≡ number_at 4 4 rest → IsPlaceOf key (rows x) n c
reached-above key x rest n c s room more is =
    let next : 8 ≤ length (drop 8 rest) = omega (arith, room, length-drop 8 rest) in
    reached-place key x rest n c s (subst (BeginsAbove key) (sym (rows-step (drop 8 rest) next)) (omega (arith, more, next-key rest room, front-key (drop 8 rest) next))) is

pub reached-end : (key : ℕ) (x rest : List ℕ) (n c : ℕ) → Reached key x rest n → length rest < 16 → c ≡ number_at 4 4 rest → IsPlaceOf key (rows x) n c
reached-end key x rest n c s short is =
    reached-place key x rest n c s (subst (BeginsAbove key) (sym (rows-short (drop 8 rest) (omega (arith, short, length-drop 8 rest)))) tt) is

-- bytes with those of other records in place of some
pub spliced-whole : (x b : List ℕ) (from to : ℕ) (before here after qs : List (ℕ × List ℕ)) → whole 4 4 x ≡ Some (before ++ (here ++ after)) → whole 4 4 b ≡ Some qs
    → length before ≡ from → from + length here ≡ to → whole 4 4 (take (8 * from) x ++ (b ++ drop (8 * to) x)) ≡ Some (before ++ (qs ++ after))
spliced-whole x b from to before here after qs h g starts ends =
    let all = from-whole x (before ++ (here ++ after)) h in
    let front = spells-split x from before (here ++ after) starts all in
    let joined : before ++ (here ++ after) ≡ (before ++ here) ++ after = sym (append_assoc before here after) in
    let back = spells-split x to (before ++ here) after (omega (arith, length-append before here, starts, ends)) (subst (Spells x) joined all) in
    to-whole (take (8 * from) x ++ (b ++ drop (8 * to) x)) (before ++ (qs ++ after))
    (spells-append (take (8 * from) x) (b ++ drop (8 * to) x) before (qs ++ after) front.0 (spells-append b (drop (8 * to) x) qs after (from-whole b qs g) back.1))

pub whole-append : (x y : List ℕ) (rs ss : List (ℕ × List ℕ)) → whole 4 4 x ≡ Some rs → whole 4 4 y ≡ Some ss → whole 4 4 (x ++ y) ≡ Some (rs ++ ss)
whole-append x y rs ss h g = to-whole (x ++ y) (rs ++ ss) (spells-append x y rs ss (from-whole x rs h) (from-whole y ss g))
