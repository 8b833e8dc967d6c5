-- Columns that are laid out anew have places of their own.
use Rattle.std.proofs.Common.{◌≡◌, ℕ, ◌+◌, ◌*◌, ◌/◌, ◌≤◌, ◌<◌, ◌⊎◌, ◌==◌, ◌&&◌, Bool, true, false, not, nat_le, nat_lt, List, [], ◌∷◌, length, map, get_or, drop, zero, suc, Option, None, Some, is_some, add-one, drop-cons, arith, refl, sym, ap, subst, ◌∙◌, inl, inr, ◌||◌}
use Rattle.std.proofs.lemmas.Bool.{cases_Bool, cases_lt, cases_eq, false≢true, and_parts, and_from, eqb-true, eq-eqb, ne_eqb, leb-true, le-leb, ltb-true, lt-ltb}
use Rattle.std.proofs.lemmas.Option.{none-some}
use Rattle.std.specs.List.{list_all}
use Rattle.mapi_values.specs.declared.column.Column.{Column}
use Rattle.mapi_values.specs.declared.value.Tag.{Tag}
use Rattle.mapi_values.specs.Columns.{all_apart, cell_width, ends_rise, has_column, in_cell, is_apart, is_column, is_layout, is_placed, lies, tag_number}
use Rattle.mapi_values.specs.Keyed.{find_key, keys_ascend, put_key}
use Rattle.mapi_values.proofs.KeyedLaws.{put-ascends}
use Rattle.mapi_values.specs.Tables.{IsTable, Tab, cells_suit, row_suits, value_suits}
use Rattle.mapi_values.specs.Properties.{all_fit, ascend_from}
use Rattle.mapi_values.specs.Values.{Val, in_field}
use Rattle.column_layout.specs.Layout.{IsOneOf, bits_of, count_where, first_bit, group, group_end, has_tag, is_row_column, is_row_id, is_row_version, laid_out, placed, placed_ends, precedes, unplaced, width_of, widths_where, with_column, with_columns, within_group}
use Rattle.column_layout.proofs.Sums.{Implies, count-both, count-grow, count-has, one-has, widths-grow, widths-le}

-- what the tests say
pub record Precedes (c d : Column) : Type 0 where
  pub free : is_row_column d ≡ false
  pub before : (group d < group c) ⊎ ((group d ≡ group c) × (tag_number d < tag_number c))

not-false : (b : Bool) → not b ≡ true → b ≡ false
not-false true e = absurd (false≢true e)
not-false false e = refl

pub precedes-true : (c d : Column) → precedes c d ≡ true → Precedes c d
unfolding precedes
precedes-true c d e =
    let p = and_parts (not (is_row_column d)) _ e in
    record {
      free = not-false (is_row_column d) p.0;
      before = elim (cases_Bool (nat_lt (group d) (group c))) [
        | inl t ↦ inl (ltb-true (group d) (group c) t)
        | inr f ↦
            let q = and_parts (group d == group c) (nat_lt (tag_number d) (tag_number c)) (subst (λ b. (b || ((group d == group c) && nat_lt (tag_number d) (tag_number c))) ≡ true) f p.1) in
            inr (eqb-true (group d) (group c) q.0, ltb-true (tag_number d) (tag_number c) q.1)
      ];
    }

pub precedes-from : (c d : Column) → Precedes c d → precedes c d ≡ true
unfolding precedes
precedes-from c d p = let free = p.free in elim p.before [
  | inl less ↦ rw (free, lt-ltb (group d) (group c) less) refl
  | inr same ↦
      let s : group d ≡ group c = same.0 in let l = same.1 in
      elim (cases_Bool (nat_lt (group d) (group c))) [
        | inl t ↦ rw (free, t) refl
        | inr f ↦ rw (free, f, eq-eqb (group d) (group c) s, lt-ltb (tag_number d) (tag_number c) l) refl
      ]
]

-- no column precedes itself
precedes-not : (c : Column) → precedes c c ≡ false
precedes-not c = elim (cases_Bool (precedes c c)) [
  | inr f ↦ f
  | inl t ↦ let p = precedes-true c c t in absurd (elim p.before [ inl less ↦ omega (arith, less) | inr same ↦ omega (arith, same.1) ])
]

-- what precedes a column that precedes another precedes that
precedes-then : (c d : Column) → Precedes d c → Implies (precedes c) (precedes d)
precedes-then c d p = record {
  implies = λ x e.
      let q = precedes-true c x e in
      precedes-from d x (record {
        free = q.free;
        before = elim p.before [
          | inl less ↦ elim q.before [ inl less' ↦ inl (omega (arith, less, less')) | inr same' ↦ inl (omega (arith, less, same'.0)) ]
          | inr same ↦ elim q.before [ inl less' ↦ inl (omega (arith, same.0, less')) | inr same' ↦ inr (same'.0 ∙ same.0, omega (arith, same.1, same'.1)) ]
        ];
      });
}

pub within-from : (last : ℕ) (c : Column) → is_row_column c ≡ false → group c ≤ last → within_group last c ≡ true
unfolding within_group
within-from last c free le = rw (free, le-leb (group c) last le) refl

pub within-true : (last : ℕ) (c : Column) → within_group last c ≡ true → (is_row_column c ≡ false) × (group c ≤ last)
unfolding within_group
within-true last c e = let p = and_parts (not (is_row_column c)) (nat_le (group c) last) e in (not-false (is_row_column c) p.0, leb-true (group c) last p.1)

group-small : (c : Column) → group c ≤ 2
unfolding group
group-small c = grind arith

-- all that precede a column stand in some group
precedes-within : (c : Column) → Implies (precedes c) (within_group 2)
precedes-within c = record { implies = λ x e. within-from 2 x (precedes-true c x e).free (group-small x) }

within-more : (a b : ℕ) → a ≤ b → Implies (within_group a) (within_group b)
within-more a b le = record { implies = λ x e. let p = within-true a x e in within-from b x p.0 (omega (arith, p.1)) }

row-from : (c : Column) → is_row_id c ≡ false → is_row_version c ≡ false → is_row_column c ≡ false
unfolding is_row_column
row-from c a b = rw (a, b) refl

version-is-row : (c : Column) → is_row_version c ≡ true → is_row_column c ≡ true
unfolding is_row_column
version-is-row c e = elim (cases_Bool (is_row_id c)) [ inl t ↦ rw t refl | inr f ↦ rw (f, e) refl ]

-- where they are there, the others begin behind them
id-first : (cs : List Column) → has_column cs 0x67F2 0x0003 ≡ true → 1 ≤ first_bit cs
unfolding first_bit
id-first cs e = elim (cases_Bool (has_column cs 0x67F3 0x0003)) [ inl t ↦ rw t (omega arith) | inr f ↦ rw (f, e) (omega arith) ]

version-first : (cs : List Column) → has_column cs 0x67F3 0x0003 ≡ true → first_bit cs ≡ 2
unfolding first_bit
version-first cs e = rw e refl

first-few : (cs : List Column) → first_bit cs ≤ count_where is_row_column cs + 1
unfolding first_bit
first-few cs = elim (cases_Bool (has_column cs 0x67F3 0x0003)) [
  | inl t ↦ let some = count-has is_row_column 0x67F3 0x0003 cs t version-is-row in rw t (omega arith)
  | inr f ↦ rw f (elim (cases_Bool (has_column cs 0x67F2 0x0003)) [ inl t ↦ rw t (omega arith) | inr g ↦ rw g (omega arith) ])
]

-- the existence bits of up to 255 columns are numbered in one byte
pub bit-small : (cs : List Column) (c : Column) → length cs ≤ 255 → IsOneOf cs c → is_row_id c ≡ false → is_row_version c ≡ false → first_bit cs + count_where (precedes c) cs ≤ 255
bit-small cs c few one not_id not_version =
    let both = count-both (precedes c) is_row_column c cs (λ d e. (precedes-true c d e).free) one (precedes-not c) (row-from c not_id not_version) in
    omega (arith, both, first-few cs)

-- a placed column
pub id-placed : (cs : List Column) (c : Column) → is_row_id c ≡ true → placed cs c ≡ record { tag = c.tag; at = 0; width = 4; bit = 0 }
unfolding placed
id-placed cs c e = rw e refl

pub version-placed : (cs : List Column) (c : Column) → is_row_id c ≡ false → is_row_version c ≡ true → placed cs c ≡ record { tag = c.tag; at = 4; width = 4; bit = 1 }
unfolding placed
version-placed cs c n e = rw (n, e) refl

pub other-placed : (cs : List Column) (c : Column) → is_row_id c ≡ false → is_row_version c ≡ false
    → placed cs c ≡ record { tag = c.tag; at = 4 * first_bit cs + widths_where (precedes c) cs; width = width_of c; bit = first_bit cs + count_where (precedes c) cs }
unfolding placed
other-placed cs c n m = rw (n, m) refl

-- which of the three a column is
data Sort (c : Column) : Type 0 where
  RowId : is_row_id c ≡ true → Sort c
  RowVersion : is_row_id c ≡ false → is_row_version c ≡ true → Sort c
  Other : is_row_id c ≡ false → is_row_version c ≡ false → Sort c

sort_of : (c : Column) → Sort c
sort_of c = elim (cases_Bool (is_row_id c)) [
  | inl t ↦ RowId t
  | inr f ↦ elim (cases_Bool (is_row_version c)) [ inl t ↦ RowVersion f t | inr g ↦ Other f g ]
]

tag-placed : (cs : List Column) (c : Column) → (placed cs c).tag ≡ c.tag
tag-placed cs c = elim (sort_of c) [
  | RowId t ↦ rw (id-placed cs c t) refl
  | RowVersion f t ↦ rw (version-placed cs c f t) refl
  | Other f g ↦ rw (other-placed cs c f g) refl
]

-- columns keep their tags
pub placed-has : (cs ds : List Column) (id kind : ℕ) → has_column (map (placed cs) ds) id kind ≡ has_column ds id kind
placed-has cs [] id kind = refl
placed-has cs (d ∷ ds) id kind = rw (tag-placed cs d, placed-has cs ds id kind) refl

placed-ascend : (cs ds : List Column) (low : ℕ) → keys_ascend tag_number low (map (placed cs) ds) ≡ keys_ascend tag_number low ds
placed-ascend cs [] low = refl
placed-ascend cs (d ∷ ds) low = rw (tag-placed cs d, placed-ascend cs ds (suc (tag_number d))) refl

-- where a column's cell and bit lie
pub record LiesIn (cs : List Column) (d : Column) : Type 0 where
  pub cell : d.at + d.width ≤ group_end cs 2
  pub bit : d.bit + 1 ≤ bits_of cs

lies-in : (cs : List Column) (c : Column) → IsOneOf cs c → LiesIn cs (placed cs c)
lies-in cs c one = elim (sort_of c) [
  | RowId t ↦
      let first = id-first cs (one-has 0x67F2 0x0003 c cs one t) in
      rw (id-placed cs c t) (record { cell = omega (arith, first); bit = omega (arith, first) })
  | RowVersion f t ↦
      let first = version-first cs (one-has 0x67F3 0x0003 c cs one t) in
      rw (version-placed cs c f t) (record { cell = omega (arith, first); bit = omega (arith, first) })
  | Other f g ↦
      let in_group = within-from 2 c (row-from c f g) (group-small c) in
      let wide = widths-grow (precedes c) (within_group 2) c cs (precedes-within c) one (precedes-not c) in_group in
      let many = count-grow (precedes c) (within_group 2) c cs (precedes-within c) one (precedes-not c) in_group in
      rw (other-placed cs c f g) (record { cell = omega (arith, wide); bit = omega (arith, many) })
]

kind-width : cell_width 0x0003 ≡ 4
unfolding cell_width in_cell in_field
kind-width = refl

is-kind : (id kind : ℕ) (c : Column) → is_column id kind c ≡ true → (c.tag.id ≡ id) × (c.tag.kind ≡ kind)
is-kind id kind c e = let p = and_parts (c.tag.id == id) (c.tag.kind == kind) e in (eqb-true c.tag.id id p.0, eqb-true c.tag.kind kind p.1)

-- the cell has the width of its kind
placed-width : (cs : List Column) (c : Column) → (placed cs c).width ≡ cell_width c.tag.kind
placed-width cs c = elim (sort_of c) [
  | RowId t ↦ rw (id-placed cs c t) (sym kind-width ∙ ap cell_width (sym (is-kind 0x67F2 0x0003 c t).1))
  | RowVersion f t ↦ rw (version-placed cs c f t) (sym kind-width ∙ ap cell_width (sym (is-kind 0x67F3 0x0003 c t).1))
  | Other f g ↦ rw (other-placed cs c f g) refl
]

placed-placed : (cs : List Column) (c : Column) → is_placed (placed cs c) ≡ true
unfolding is_placed
placed-placed cs c = elim (sort_of c) [
  | RowId t ↦ rw (id-placed cs c t, t) refl
  | RowVersion f t ↦ rw (version-placed cs c f t, f, t) refl
  | Other f g ↦ rw (other-placed cs c f g, f, g) refl
]

eighths : (third bit bits : ℕ) → bit + 1 ≤ bits → third + bit / 8 < third + (bits + 7) / 8
eighths third bit bits le = omega arith

placed-lies : (cs : List Column) (c : Column) → IsOneOf cs c → lies (group_end cs 2) (group_end cs 2 + (bits_of cs + 7) / 8) (placed cs c) ≡ true
unfolding lies
placed-lies cs c one =
    let l = lies-in cs c one in
    let d = placed cs c in
    let third = group_end cs 2 in
    let width : d.width ≡ cell_width d.tag.kind = placed-width cs c ∙ ap (λ (t : Tag). cell_width t.kind) (sym (tag-placed cs c)) in
    and_from (d.width == cell_width d.tag.kind) _ (eq-eqb d.width (cell_width d.tag.kind) width)
    (and_from (nat_le (d.at + d.width) third) _ (le-leb (d.at + d.width) third l.cell)
    (and_from (nat_lt (third + d.bit / 8) (third + (bits_of cs + 7) / 8)) (is_placed d) (lt-ltb (third + d.bit / 8) (third + (bits_of cs + 7) / 8) (eighths third d.bit (bits_of cs) l.bit)) (placed-placed cs c)))

-- two columns stand apart
record Apart (a b : Column) : Type 0 where
  bits : a.bit ≡ b.bit → ⊥
  cells : (a.at + a.width ≤ b.at) ⊎ (b.at + b.width ≤ a.at)

apart-true : (a b : Column) → Apart a b → is_apart a b ≡ true
unfolding is_apart
apart-true a b h = let bits = h.bits in elim h.cells [
  | inl le ↦ rw (ne_eqb a.bit b.bit bits, le-leb (a.at + a.width) b.at le) refl
  | inr le ↦ rw (ne_eqb a.bit b.bit bits) (either (nat_le (a.at + a.width) b.at) (nat_le (b.at + b.width) a.at) (le-leb (b.at + b.width) a.at le))
]
  where
    either : (x y : Bool) → y ≡ true → (x || y) ≡ true
    either x y e = elim (cases_Bool x) [ inl t ↦ rw t refl | inr f ↦ rw (f, e) refl ]

-- the one precedes the other
precedes-apart : (cs : List Column) (c d : Column) → IsOneOf cs c → is_row_id c ≡ false → is_row_version c ≡ false → is_row_id d ≡ false → is_row_version d ≡ false → Precedes d c
    → ((placed cs c).bit < (placed cs d).bit) × ((placed cs c).at + (placed cs c).width ≤ (placed cs d).at)
precedes-apart cs c d one c_id c_version d_id d_version p =
    let wide = widths-grow (precedes c) (precedes d) c cs (precedes-then c d p) one (precedes-not c) (precedes-from d c p) in
    let many = count-grow (precedes c) (precedes d) c cs (precedes-then c d p) one (precedes-not c) (precedes-from d c p) in
    rw (other-placed cs c c_id c_version, other-placed cs d d_id d_version) (omega (arith, many), omega (arith, wide))

same-tags : (id kind : ℕ) (c d : Column) → is_column id kind c ≡ true → is_column id kind d ≡ true → tag_number c ≡ tag_number d
same-tags id kind c d e f = let a = is-kind id kind c e in let b = is-kind id kind d f in rw (a.0, a.1, b.0, b.1) refl

-- columns of different tags stand apart
placed-apart : (cs : List Column) (c d : Column) → IsOneOf cs c → IsOneOf cs d → tag_number c < tag_number d → Apart (placed cs c) (placed cs d)
placed-apart cs c d one_c one_d less = elim (sort_of c) [
  | RowId t ↦
      let first = id-first cs (one-has 0x67F2 0x0003 c cs one_c t) in
      elim (sort_of d) [
        | RowId u ↦ absurd (omega (arith, less, same-tags 0x67F2 0x0003 c d t u))
        | RowVersion g u ↦ rw (id-placed cs c t, version-placed cs d g u) (record { bits = λ e. omega arith; cells = inl (omega arith) })
        | Other g h ↦ rw (id-placed cs c t, other-placed cs d g h) (record { bits = λ e. omega (arith, first); cells = inl (omega (arith, first)) })
      ]
  | RowVersion f t ↦
      let first = version-first cs (one-has 0x67F3 0x0003 c cs one_c t) in
      elim (sort_of d) [
        | RowId u ↦ rw (version-placed cs c f t, id-placed cs d u) (record { bits = λ e. omega arith; cells = inr (omega arith) })
        | RowVersion g u ↦ absurd (omega (arith, less, same-tags 0x67F3 0x0003 c d t u))
        | Other g h ↦ rw (version-placed cs c f t, other-placed cs d g h) (record { bits = λ e. omega (arith, first); cells = inl (omega (arith, first)) })
      ]
  | Other f g ↦ elim (sort_of d) [
    | RowId u ↦
        let first = id-first cs (one-has 0x67F2 0x0003 d cs one_d u) in
        rw (other-placed cs c f g, id-placed cs d u) (record { bits = λ e. omega (arith, first); cells = inr (omega (arith, first)) })
    | RowVersion h u ↦
        let first = version-first cs (one-has 0x67F3 0x0003 d cs one_d u) in
        rw (other-placed cs c f g, version-placed cs d h u) (record { bits = λ e. omega (arith, first); cells = inr (omega (arith, first)) })
    | Other h i ↦ elim (cases_lt (group d) (group c)) [
      | inl lower ↦
          let q = precedes-apart cs d c one_d h i f g (record { free = row-from d h i; before = inl lower }) in
          record { bits = λ e. omega (arith, q.0, e); cells = inr q.1 }
      | inr higher ↦
          let q = precedes-apart cs c d one_c f g h i (record { free = row-from c f g; before = elim (cases_eq (group c) (group d)) [ inl e ↦ inr (e, less) | inr n ↦ inl (omega (arith, higher, n)) ] }) in
          record { bits = λ e. omega (arith, q.0, e); cells = inl q.1 }
    ]
  ]
]

-- all of these are among those
abbrev Among : List Column → List Column → Type 0
Among cs [] = Unit {0}
Among cs (d ∷ ds) = IsOneOf cs d × Among cs ds

among-more : (c : Column) (cs ds : List Column) → Among cs ds → Among (c ∷ cs) ds
among-more c cs [] h = tt
among-more c cs (d ∷ ds) h = (inr h.0, among-more c cs ds h.1)

among-itself : (cs : List Column) → Among cs cs
among-itself [] = tt
among-itself (c ∷ cs) = (inl refl, among-more c cs cs (among-itself cs))

-- a column whose tag is below all of these stands apart from them
apart-from : (cs ds : List Column) (c : Column) (low : ℕ) → IsOneOf cs c → Among cs ds → tag_number c < low → keys_ascend tag_number low ds ≡ true → list_all (is_apart (placed cs c)) (map (placed cs) ds) ≡ true
apart-from cs [] c low one among less ascend = refl
apart-from cs (d ∷ ds) c low one among less ascend =
    let p = and_parts (nat_le low (tag_number d)) (keys_ascend tag_number (suc (tag_number d)) ds) ascend in
    let more : tag_number c < tag_number d = omega (arith, less, leb-true low (tag_number d) p.0) in
    and_from (is_apart (placed cs c) (placed cs d)) _ (apart-true (placed cs c) (placed cs d) (placed-apart cs c d one among.0 more))
    (apart-from cs ds c (suc (tag_number d)) one among.1 (omega (arith, more)) p.1)

all-placed-apart : (cs ds : List Column) (low : ℕ) → Among cs ds → keys_ascend tag_number low ds ≡ true → all_apart (map (placed cs) ds) ≡ true
all-placed-apart cs [] low among ascend = refl
all-placed-apart cs (d ∷ ds) low among ascend =
    let p = and_parts (nat_le low (tag_number d)) (keys_ascend tag_number (suc (tag_number d)) ds) ascend in
    and_from (list_all (is_apart (placed cs d)) (map (placed cs) ds)) (all_apart (map (placed cs) ds))
    (apart-from cs ds d (suc (tag_number d)) among.0 among.1 (omega arith) p.1)
    (all-placed-apart cs ds (suc (tag_number d)) among.1 p.1)

all-placed-lie : (cs ds : List Column) → Among cs ds → list_all (lies (group_end cs 2) (group_end cs 2 + (bits_of cs + 7) / 8)) (map (placed cs) ds) ≡ true
all-placed-lie cs [] among = refl
all-placed-lie cs (d ∷ ds) among =
    and_from (lies (group_end cs 2) (group_end cs 2 + (bits_of cs + 7) / 8) (placed cs d)) _ (placed-lies cs d among.0) (all-placed-lie cs ds among.1)

ends-rise : (cs : List Column) → ends_rise (placed_ends cs) ≡ true
unfolding ends_rise placed_ends
ends-rise cs =
    let first = widths-le (within_group 0) (within_group 1) cs (within-more 0 1 (omega arith)) in
    let second = widths-le (within_group 1) (within_group 2) cs (within-more 1 2 (omega arith)) in
    and_from (nat_le (group_end cs 0) (group_end cs 1)) _ (le-leb (group_end cs 0) (group_end cs 1) (omega (arith, first)))
    (and_from (nat_le (group_end cs 1) (group_end cs 2)) _ (le-leb (group_end cs 1) (group_end cs 2) (omega (arith, second)))
    (le-leb (group_end cs 2) (group_end cs 2 + (bits_of cs + 7) / 8) (omega arith)))

-- the columns have a layout
pub placed-layout : (cs : List Column) → keys_ascend tag_number 0 cs ≡ true → is_layout (map (placed cs) cs) (placed_ends cs) ≡ true
unfolding is_layout placed_ends
placed-layout cs ascend =
    and_from (ends_rise (placed_ends cs)) _ (ends-rise cs)
    (and_from (keys_ascend tag_number 0 (map (placed cs) cs)) _ (placed-ascend cs cs 0 ∙ ascend)
    (and_from (list_all (lies (group_end cs 2) (group_end cs 2 + (bits_of cs + 7) / 8)) (map (placed cs) cs)) _ (all-placed-lie cs cs (among-itself cs))
    (all-placed-apart cs cs 0 (among-itself cs) ascend)))

-- cells suit columns that are more
abbrev pub HasMore : List Column → List Column → Type 0
HasMore old new = (id kind : ℕ) → has_column old id kind ≡ true → has_column new id kind ≡ true

all-weaker : {X : Type 0} (p q : X → Bool) (xs : List X) → ((x : X) → p x ≡ true → q x ≡ true) → list_all p xs ≡ true → list_all q xs ≡ true
all-weaker p q [] weaker all = refl
all-weaker p q (x ∷ xs) weaker all = let h = and_parts (p x) (list_all p xs) all in and_from (q x) (list_all q xs) (weaker x h.0) (all-weaker p q xs weaker h.1)

value-suits-more : (old new : List Column) → HasMore old new → (v : Val) → value_suits old v ≡ true → value_suits new v ≡ true
unfolding value_suits
value-suits-more old new more v e = let p = and_parts (has_column old v.id v.kind) _ e in and_from (has_column new v.id v.kind) _ (more v.id v.kind p.0) p.1

row-suits-more : (old new : List Column) → HasMore old new → (row : ℕ × List Val) → row_suits old row ≡ true → row_suits new row ≡ true
unfolding cells_suit
row-suits-more old new more row e =
    let p = and_parts (ascend_from 0 row.1) _ e in
    let q = and_parts (all_fit row.1) _ p.1 in
    and_from (ascend_from 0 row.1) _ p.0 (and_from (all_fit row.1) _ q.0 (all-weaker (value_suits old) (value_suits new) row.1 (value-suits-more old new more) q.1))

-- a table that is laid out anew with more columns is a table
pub laid-out-table : (cs : List Column) (t : Tab) → keys_ascend tag_number 0 cs ≡ true → HasMore t.columns cs → IsTable t → IsTable (laid_out cs t)
laid-out-table cs t ascend more is = record {
  layout = placed-layout cs ascend;
  ascend = is.ascend;
  suit = all-weaker (row_suits t.columns) (row_suits (map (placed cs) cs)) t.rows (row-suits-more t.columns (map (placed cs) cs) (λ id kind e. placed-has cs cs id kind ∙ more id kind e)) is.suit;
}

-- a column that is put among columns that have none of its tag leaves all others
put-more : (tag : Tag) (cs : List Column) (id kind : ℕ) → find_key tag_number (tag_number (unplaced tag)) cs ≡ None → has_column cs id kind ≡ true → has_column (put_key tag_number (unplaced tag) cs) id kind ≡ true
put-more tag [] id kind none has = absurd (false≢true has)
put-more tag (c ∷ cs) id kind none has =
    let k = tag_number (unplaced tag) in
    elim (cases_Bool (tag_number c == k)) [
      | inl e ↦ absurd (none-some c (sym none ∙ (rw e refl)))
      | inr n ↦
          let later : find_key tag_number k cs ≡ None = (sym (rw n refl)) ∙ none in
          elim (cases_Bool (nat_lt (tag_number c) k)) [
            | inl t ↦ rw t (elim (cases_Bool (is_column id kind c)) [
              | inl here ↦ rw here refl
              | inr other ↦ rw other (put-more tag cs id kind later (subst (λ b. (b || has_column cs id kind) ≡ true) other has))
            ])
            | inr f ↦ rw (f, n) (second (is_column id kind (unplaced tag)) (is_column id kind c || has_column cs id kind) has)
          ]
    ]
  where
    second : (x y : Bool) → y ≡ true → (x || y) ≡ true
    second x y e = elim (cases_Bool x) [ inl t ↦ rw t refl | inr f ↦ rw (f, e) refl ]

none_there : {X : Type 0} (o : Option X) → is_some o ≡ false → o ≡ None
none_there None e = refl
none_there (Some x) e = cc

pub with-more : (cs : List Column) (tag : Tag) → HasMore cs (with_column cs tag)
with-more cs tag id kind has = elim (cases_Bool (has_tag cs tag)) [
  | inl t ↦ rw t has
  | inr f ↦ rw f (put-more tag cs id kind (none_there (find_key tag_number (tag_number (unplaced tag)) cs) f) has)
]

pub with-ascends : (cs : List Column) (tag : Tag) → keys_ascend tag_number 0 cs ≡ true → keys_ascend tag_number 0 (with_column cs tag) ≡ true
with-ascends cs tag a = elim (cases_Bool (has_tag cs tag)) [
  | inl t ↦ rw t a
  | inr f ↦ rw f (put-ascends tag_number 0 (unplaced tag) cs (omega arith) a)
]

-- one tag after another
pub with-step : (tags : List Tag) (cs : List Column) (i : ℕ) (d : Tag) → i < length tags → with_columns (drop i tags) cs ≡ with_columns (drop (i + 1) tags) (with_column cs (get_or tags i d))
with-step tags cs i d less = rw (add-one, drop-cons tags i d) refl

-- the columns of a layout ascend
pub layout-ascends : (cs : List Column) (ends : List ℕ) → is_layout cs ends ≡ true → keys_ascend tag_number 0 cs ≡ true
unfolding is_layout
layout-ascends cs ends e = (and_parts (keys_ascend tag_number 0 cs) _ (and_parts (ends_rise ends) _ e).1).0

-- the column at an index is one of them
pub one-at : (cs : List Column) (i : ℕ) (d : Column) → i < length cs → IsOneOf cs (get_or cs i d)
one-at [] i d less = absurd (omega arith)
one-at (c ∷ cs) zero d less = inl refl
one-at (c ∷ cs) (suc i) d less = inr (one-at cs i d (omega arith))
