-- What is printed of units reads as the same units.
use Rattle.std.proofs.Common.{◌≡◌, ℕ, ◌+◌, ◌-◌, ◌/◌, ◌%◌, ◌<◌, ◌≤◌, true, false, List, [], ◌∷◌, ◌++◌, refl, ap, sym, ◌∙◌, subst, inl, inr, arith, Some, append_assoc, append-nil, chars, ◌||◌}
use Rattle.std.specs.Prelude.{◌&&◌, ◌==◌, nat_lt, IsTrue}
use Rattle.std.specs.Char.{IsScalar, encode_utf8, digit_char, digit_value, is_digit}
use Rattle.std.specs.Char.Escape.{encode_utf16, hex_digit_at}
use Rattle.std.specs.Char.Utf16.{is_high_surrogate, is_low_surrogate, surrogate_pair_char}
use Rattle.std.specs.Str.{IsAscii}
use Rattle.std.proofs.lemmas.Bool.{cases_Bool, cases_lt, eqb-true, ltb-true, leb-true, lt-ltb, le-ltb, le-leb, lt-leb, and_parts, and_from, or_cases, not-false, true≢false}
use Rattle.std.proofs.lemmas.Str.{chars-nil, chars-encodes, chars-append, chars-IsAscii, IsUtf8-encode, IsUtf8-from_ascii, digit_value-digit_char}
use Rattle.std.proofs.lemmas.Str.Ascii.{IsAscii-nil, IsAscii-cons}
use Rattle.mapi_values.specs.declared.characters.Character.{Character}
use Rattle.mapi_values.specs.declared.characters.Character.TheVariants.{Scalar, Unpaired}
use Rattle.mapi_values.specs.Characters.{lone, characters}
use Rattle.mapi_values.specs.Range.{all_units}
use Rattle.mapi_values.specs.Spelling.{before, is_escape, unit_of, units_of, is_plain, escape, spelled_character, spelled, quoted}
use Rattle.mapi_values.proofs.SpellingLaws.{units_of-plain}

-- one more character printed, and none left
pub spelled-more : (done next us rest : List ℕ) (ch : Character) → characters us ≡ ch ∷ characters rest
    → next ≡ done ++ spelled_character ch → next ++ spelled rest ≡ done ++ spelled us
unfolding spelled
spelled-more done next us rest ch e is = rw (is, e) (append_assoc done _ _)

pub spelled-nil : spelled [] ≡ []
unfolding spelled characters
spelled-nil = refl

-- the printed text, put together
pub quoted-parts : (old opened closed done us : List ℕ) → opened ≡ old ++ 34 ∷ [] → done ≡ opened ++ spelled us → closed ≡ done ++ 34 ∷ []
    → closed ≡ old ++ quoted us
unfolding quoted
quoted-parts old opened closed done us e1 e2 e3 =
    rw (e3, e2, e1) (append_assoc (old ++ 34 ∷ []) (spelled us) (34 ∷ []) ∙ append_assoc old (34 ∷ []) (spelled us ++ 34 ∷ []))

-- the units that a character came from
abbrev pub own : Character → List ℕ
own (Scalar c) = encode_utf16 c
own (Unpaired u) = u ∷ []

-- a character that units can spell
abbrev pub IsSound : Character → Type 0
IsSound (Scalar c) = IsScalar c
IsSound (Unpaired u) = u < 0x1_0000

-- hex digits
digit_char-ascii : (d : ℕ) → d < 16 → digit_char d < 128
digit_char-ascii d h = elim (cases_lt d 10) [
  | inl l ↦ rw (lt-ltb d 10 l) (omega arith)
  | inr g ↦ rw (le-ltb d 10 g) (omega arith)
]

hex_place : (p u : ℕ) → hex_digit_at p u < 128
hex_place p u = digit_char-ascii (u / p % 16) (omega arith)

hex_value : (p u : ℕ) → digit_value (hex_digit_at p u) ≡ u / p % 16
hex_value p u = digit_value-digit_char (u / p % 16) (omega arith)

hex_is : (p u : ℕ) → is_digit (hex_digit_at p u) 16 ≡ true
hex_is p u = let small : u / p % 16 < 16 = omega arith in lt-ltb _ 16 (subst (λ (x : ℕ). x < 16) (sym (hex_value p u)) small)

six-ascii : (a b c d : ℕ) → a < 128 → b < 128 → c < 128 → d < 128 → IsAscii (92 ∷ 117 ∷ a ∷ b ∷ c ∷ d ∷ [])
six-ascii a b c d ha hb hc hd =
    IsAscii-cons 92 (117 ∷ a ∷ b ∷ c ∷ d ∷ []) (omega arith) (IsAscii-cons 117 (a ∷ b ∷ c ∷ d ∷ []) (omega arith)
    (IsAscii-cons a (b ∷ c ∷ d ∷ []) ha (IsAscii-cons b (c ∷ d ∷ []) hb (IsAscii-cons c (d ∷ []) hc (IsAscii-cons d [] hd IsAscii-nil)))))

escape-ascii : (u : ℕ) → IsAscii (escape u)
unfolding escape
escape-ascii u = six-ascii _ _ _ _ (hex_place 4096 u) (hex_place 256 u) (hex_place 16 u) (hex_place 1 u)

escape-digits : (u : ℕ) → is_escape 117 (hex_digit_at 4096 u) (hex_digit_at 256 u) (hex_digit_at 16 u) (hex_digit_at 1 u) ≡ true
unfolding is_escape
escape-digits u =
    and_from _ _ refl (and_from _ _ (hex_is 4096 u) (and_from _ _ (hex_is 256 u) (and_from _ _ (hex_is 16 u) (hex_is 1 u))))

escape-unit : (u : ℕ) → u < 0x1_0000 → unit_of (hex_digit_at 4096 u) (hex_digit_at 256 u) (hex_digit_at 16 u) (hex_digit_at 1 u) ≡ u
escape-unit u small = rw (hex_value 4096 u, hex_value 256 u, hex_value 16 u, hex_value 1 u) (omega arith)

-- an escape reads as its unit
read_escape : (u : ℕ) (zs : List ℕ) → u < 0x1_0000 → units_of (escape u ++ zs) ≡ before (u ∷ []) (units_of zs)
unfolding units_of escape
read_escape u zs small = rw (escape-digits u, escape-unit u small) refl

escape_reads : (u : ℕ) (ys : List ℕ) → u < 0x1_0000 → units_of (chars (escape u ++ ys)) ≡ before (u ∷ []) (units_of (chars ys))
escape_reads u ys small =
    ap units_of (chars-append (escape u) ys (IsUtf8-from_ascii (escape u) (escape-ascii u)) ∙ ap (λ x. x ++ chars ys) (chars-IsAscii (escape u) (escape-ascii u)))
    ∙ read_escape u (chars ys) small

-- the tests of `is_plain`
one_of : (c : ℕ) → (nat_lt c 32 || (c == 127 || (c == 34 || c == 92))) ≡ true → c < 128
one_of c some =
    elim (or_cases (nat_lt c 32) (c == 127 || (c == 34 || c == 92)) some) [
      | inl low ↦ omega (arith, ltb-true c 32 low)
      | inr more ↦ elim (or_cases (c == 127) (c == 34 || c == 92) more) [
        | inl a ↦ omega (arith, eqb-true c 127 a)
        | inr most ↦ elim (or_cases (c == 34) (c == 92) most) [
          | inl b ↦ omega (arith, eqb-true c 34 b)
          | inr d ↦ omega (arith, eqb-true c 92 d)
        ]
      ]
    ]

plain-apart : (c : ℕ) → is_plain c ≡ true → c ≡ 92 → ⊥
unfolding is_plain
plain-apart c plain e = true≢false (sym plain ∙ rw e refl)

escaped-small : (c : ℕ) → is_plain c ≡ false → c < 128
unfolding is_plain
escaped-small c escaped = one_of c (not-false _ escaped)

-- a character that stands as it is reads as its units
plain_reads : (c : ℕ) (ys : List ℕ) → IsScalar c → is_plain c ≡ true → units_of (chars (encode_utf8 c ++ ys)) ≡ before (encode_utf16 c) (units_of (chars ys))
plain_reads c ys scalar plain =
    let one : chars (encode_utf8 c) ≡ c ∷ [] =
    ap chars (sym (append-nil (encode_utf8 c))) ∙ chars-encodes (c ∷ []) (and_from _ _ scalar refl) in
    ap units_of (chars-append (encode_utf8 c) ys (IsUtf8-encode c scalar) ∙ ap (λ x. x ++ chars ys) one)
    ∙ units_of-plain c (chars ys) (plain-apart c plain)

-- what is printed of one character reads as its units
character_reads : (ch : Character) (ys : List ℕ) → IsSound ch → units_of (chars (spelled_character ch ++ ys)) ≡ before (own ch) (units_of (chars ys))
unfolding spelled_character
character_reads (Unpaired u) ys small = escape_reads u ys small
character_reads (Scalar c) ys scalar =
    elim (cases_Bool (is_plain c)) [
      | inl t ↦ rw t (plain_reads c ys scalar t)
      | inr f ↦ rw f (escape_reads c ys (omega (arith, escaped-small c f)) ∙ ap (λ x. before x (units_of (chars ys))) (sym (single c (omega (arith, escaped-small c f)))))
    ]
  where
    single : (d : ℕ) → d < 0x1_0000 → encode_utf16 d ≡ d ∷ []
    single d small = rw (lt-ltb d 0x1_0000 small) refl

-- a unit alone
lone-sound : (u : ℕ) → u < 0x1_0000 → IsSound (lone u) × (own (lone u) ≡ u ∷ [])
unfolding lone
lone-sound u small =
    elim (cases_lt u 0xD800) [
      | inl below ↦ rw (lt-leb 0xD800 u below) (rw (lt-ltb u 0xD800 below) refl, rw (lt-ltb u 0x1_0000 small) refl)
      | inr from ↦ elim (cases_lt u 0xE000) [
        | inl inside ↦ rw (le-leb 0xD800 u from, lt-ltb u 0xE000 inside) (small, refl)
        | inr above ↦ rw (le-leb 0xD800 u from, le-ltb u 0xE000 above)
            (rw (le-ltb u 0xD800 from, le-leb 0xE000 u above, lt-ltb u 0x11_0000 (omega arith)) refl, rw (lt-ltb u 0x1_0000 small) refl)
      ]
    ]

-- two units that are a pair
pair-sound : (u v : ℕ) → (is_high_surrogate u && is_low_surrogate v) ≡ true
    → IsScalar (surrogate_pair_char u v) × (encode_utf16 (surrogate_pair_char u v) ≡ u ∷ v ∷ [])
pair-sound u v pair =
    let parts = and_parts _ _ pair in
    let high = and_parts _ _ parts.0 in
    let low = and_parts _ _ parts.1 in
    let h0 : 0xD800 ≤ u = leb-true _ _ high.0 in
    let h1 : u < 0xDC00 = ltb-true _ _ high.1 in
    let l0 : 0xDC00 ≤ v = leb-true _ _ low.0 in
    let l1 : v < 0xE000 = ltb-true _ _ low.1 in
    let c = surrogate_pair_char u v in
    let first : 0xD800 + (c - 0x1_0000) / 0x400 ≡ u = omega arith in
    let second : 0xDC00 + (c - 0x1_0000) % 0x400 ≡ v = omega arith in (
      rw (le-ltb c 0xD800 (omega arith), le-leb 0xE000 c (omega arith), lt-ltb c 0x11_0000 (omega arith)) refl,
      rw (le-ltb c 0x1_0000 (omega arith), first, second) refl,
    )

-- the units that are printed come back
pub spelled-reads : (us : List ℕ) → IsTrue (all_units us) → units_of (chars (spelled us)) ≡ Some us
unfolding spelled characters units_of
spelled-reads [] small = ap units_of chars-nil
spelled-reads (u ∷ []) small =
    let sound = lone-sound u (ltb-true _ _ (and_parts _ _ small).0) in
    character_reads (lone u) [] sound.0 ∙ (ap (λ x. before (own (lone u)) (units_of x)) chars-nil ∙ ap (λ x. Some (x ++ [])) sound.1)
spelled-reads (u ∷ v ∷ us) small =
    let parts = and_parts _ _ small in
    elim (cases_Bool (is_high_surrogate u && is_low_surrogate v)) [
      | inl t ↦
          let sound = pair-sound u v t in
          rw t (character_reads (Scalar (surrogate_pair_char u v)) (spelled us) sound.0
          ∙ (ap (before (encode_utf16 (surrogate_pair_char u v))) (spelled-reads us (and_parts (nat_lt v 0x1_0000) (all_units us) parts.1).1) ∙ ap (λ x. Some (x ++ us)) sound.1))
      | inr f ↦
          let sound = lone-sound u (ltb-true _ _ parts.0) in
          rw f (character_reads (lone u) (spelled (v ∷ us)) sound.0
          ∙ (ap (before (own (lone u))) (spelled-reads (v ∷ us) parts.1) ∙ ap (λ x. Some (x ++ v ∷ us)) sound.1))
    ]
