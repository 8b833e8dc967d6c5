-- Values that are written and read again, and values that are read and what was written there.
use Rattle.std.proofs.Common.{◌≡◌, ◌≤◌, ◌<◌, ◌∙◌, inl, inr, ℕ, zero, suc, ◌+◌, ◌*◌, ◌/◌, ◌%◌, true, false, not, ◌&&◌, List, [], ◌∷◌, ◌++◌, length, take, drop, Option, None, Some, Ok, refl, sym, ap, subst, arith, nat_eq, nat_lt, append_assoc, length-append}
use Rattle.std.specs.Prelude.{is_some}
use Rattle.std.specs.List.{flat_map, list_all}
use Rattle.std.proofs.lemmas.Bool.{and_from, and_parts, cases_Bool, eqb-true, eq-eqb, le-leb, lt-ltb, ltb-true, not-true}
use Rattle.std.proofs.lemmas.List.{drop_at, take_at}
use Rattle.byteorder.specs.Endian.{little_bytes}
use Rattle.mapi_values.specs.Values.{Val, fits, value_fits}
use Rattle.mapi_values.specs.declared.value.Tag.{Tag}
use Rattle.restr_codec.specs.declared.fields.Tags.{Tags}
use Rattle.restr_codec.specs.declared.fields.Tags.TheVariants.{Just, OfValues}
use Rattle.restr_codec.specs.Kinds.{has_width, is_sound, is_value_kind, value_width}
use Rattle.restr_codec.specs.Reading.{allows, binary_front, front, longer, next, tag, tagged, tagged_values, text_front, text_len, text_up_to, truth_front, value, value_front, valued, width_front}
use Rattle.restr_codec.specs.Spelling.{is_tag, is_tagged_value, is_text, is_truth, is_written, kind_bytes, tag_bytes, tag_of, tagged_bytes}
use Rattle.restr_codec.proofs.FieldLaws.{AreBytes, Field, Finds, field, finds_less, finds_next, tag_finds, tag_read}
use Rattle.restr_codec.proofs.ValueLaws.{front_parts, some_both, sound_front}
use Rattle.restr_codec.proofs.WriteLaws.{tagged_value}

-- ---- written and read again

front_back : (n : ℕ) (xs rest : List ℕ) → length xs ≡ n → front n (xs ++ rest) ≡ Some (xs, rest)
front_back n xs rest len =
    let enough : n ≤ length (xs ++ rest) = omega (arith, length-append xs rest, len) in
    rw (le-leb n (length (xs ++ rest)) enough, take_at xs rest n len, drop_at xs rest n len) refl

text_back : (xs rest : List ℕ) → is_text xs ≡ true → text_len (xs ++ 0 ∷ 0 ∷ rest) ≡ Some (length xs)
text_back [] rest h = refl
text_back (a ∷ []) rest h = absurd cc
text_back (a ∷ b ∷ xs) rest h =
    let parts = and_parts (not (nat_eq a 0 && nat_eq b 0)) (is_text xs) h in
    let some = not-true (nat_eq a 0 && nat_eq b 0) parts.0 in
    rw (some, text_back xs rest parts.1) (ap Some (omega arith))

text_front_back : (xs rest : List ℕ) → is_text xs ≡ true → text_front (xs ++ 0 ∷ 0 ∷ rest) ≡ Some (xs, rest)
text_front_back xs rest h =
    let bytes : List ℕ = xs ++ 0 ∷ 0 ∷ rest in
    let two : length (xs ++ 0 ∷ 0 ∷ []) ≡ length xs + 2 = omega (arith, length-append xs (0 ∷ 0 ∷ [])) in
    let first : take (length xs) bytes ≡ xs = take_at xs (0 ∷ 0 ∷ rest) (length xs) refl in
    let behind : drop (length xs + 2) bytes ≡ rest = ap (drop (length xs + 2)) (sym (append_assoc xs (0 ∷ 0 ∷ []) rest)) ∙ drop_at (xs ++ 0 ∷ 0 ∷ []) rest (length xs + 2) two in
    ap (text_up_to bytes) (text_back xs rest h) ∙ rw (first, behind) refl

binary_back : (xs rest : List ℕ) → length xs < 65536 → binary_front (little_bytes 2 (length xs) ++ (xs ++ rest)) ≡ Some (xs, rest)
binary_back xs rest few =
    let len : length xs % 256 + 256 * (length xs / 256 % 256) ≡ length xs = omega arith in
    ap (λ n. front n (xs ++ rest)) len ∙ front_back (length xs) xs rest refl

truth_back : (xs rest : List ℕ) → is_truth xs ≡ true → length xs ≡ 1 → truth_front (xs ++ rest) ≡ Some (xs, rest)
truth_back [] rest h len = absurd cc
truth_back (a ∷ []) rest h len = rw h (front_back 1 (a ∷ []) rest refl)
truth_back (a ∷ b ∷ xs) rest h len = absurd (omega (arith, len))

width_back : (width : Option ℕ) (xs rest : List ℕ) → is_some width ≡ true → has_width width (length xs) ≡ true → width_front width (xs ++ rest) ≡ Some (xs, rest)
width_back None xs rest some h = absurd cc
width_back (Some n) xs rest some h = front_back n xs rest (eqb-true (length xs) n h)

at_text : (kind : ℕ) (xs rest : List ℕ) → nat_eq kind 0x001F ≡ true → is_written kind xs ≡ true → value_front kind (kind_bytes kind xs ++ rest) ≡ Some (xs, rest)
unfolding value_front kind_bytes is_written
at_text kind xs rest y h =
    let text : is_text xs ≡ true = rw y at h in
    rw y (ap text_front (append_assoc xs (0 ∷ 0 ∷ []) rest) ∙ text_front_back xs rest text)

at_binary : (kind : ℕ) (xs rest : List ℕ) → nat_eq kind 0x001F ≡ false → nat_eq kind 0x0102 ≡ true → is_written kind xs ≡ true → value_front kind (kind_bytes kind xs ++ rest) ≡ Some (xs, rest)
unfolding value_front kind_bytes is_written
at_binary kind xs rest n y h =
    let few : nat_lt (length xs) 65536 ≡ true = rw (n, y) at h in
    rw (n, y) (ap binary_front (append_assoc (little_bytes 2 (length xs)) xs rest) ∙ binary_back xs rest (ltb-true (length xs) 65536 few))

truth_width : (kind len : ℕ) → nat_eq kind 0x000B ≡ true → has_width (value_width kind) len ≡ true → len ≡ 1
unfolding value_width
truth_width kind len y h = eqb-true len 1 (rw (eqb-true kind 0x000B y) at h)

at_truth : (kind : ℕ) (xs rest : List ℕ) → nat_eq kind 0x001F ≡ false → nat_eq kind 0x0102 ≡ false → nat_eq kind 0x000B ≡ true → is_written kind xs ≡ true → has_width (value_width kind) (length xs) ≡ true
    → value_front kind (kind_bytes kind xs ++ rest) ≡ Some (xs, rest)
unfolding value_front kind_bytes is_written
at_truth kind xs rest n1 n2 y h w =
    let truth : is_truth xs ≡ true = rw (n1, n2, y) at h in
    rw (n1, n2, y) (truth_back xs rest truth (truth_width kind (length xs) y w))

at_width : (kind : ℕ) (xs rest : List ℕ) → nat_eq kind 0x001F ≡ false → nat_eq kind 0x0102 ≡ false → nat_eq kind 0x000B ≡ false → is_value_kind kind ≡ true → has_width (value_width kind) (length xs) ≡ true
    → value_front kind (kind_bytes kind xs ++ rest) ≡ Some (xs, rest)
unfolding value_front kind_bytes
at_width kind xs rest n1 n2 n3 k w =
    let some : is_some (value_width kind) ≡ true = rw (n1, n2) at k in
    rw (n1, n2, n3) (width_back (value_width kind) xs rest some w)

front_written : (kind : ℕ) (xs rest : List ℕ) → is_value_kind kind ≡ true → is_written kind xs ≡ true → has_width (value_width kind) (length xs) ≡ true → value_front kind (kind_bytes kind xs ++ rest) ≡ Some (xs, rest)
front_written kind xs rest k h w = elim (cases_Bool (nat_eq kind 0x001F)) [
  | inl y ↦ at_text kind xs rest y h
  | inr n1 ↦ elim (cases_Bool (nat_eq kind 0x0102)) [
    | inl y ↦ at_binary kind xs rest n1 y h
    | inr n2 ↦ elim (cases_Bool (nat_eq kind 0x000B)) [
      | inl y ↦ at_truth kind xs rest n1 n2 y h w
      | inr n3 ↦ at_width kind xs rest n1 n2 n3 k w
    ]
  ]
]

value_read : (v : Val) (rest : List ℕ) → is_tagged_value v ≡ true → value (tag_of v) (kind_bytes v.kind v.bytes ++ rest) ≡ Ok (v, rest)
value_read v rest h =
    let t = tagged_value v h in
    let fit : fits v.kind (length v.bytes) ≡ true = t.fit in
    ap (valued (tag_of v) (kind_bytes v.kind v.bytes ++ rest)) (front_written v.kind v.bytes rest t.kind t.written t.sound) ∙ rw fit refl

pub tagged_read : (tags : Tags) (v : Val) (rest : List ℕ) → is_tagged_value v ≡ true → allows tags (tag_of v) ≡ true → tagged tags (tagged_bytes v ++ rest) ≡ Ok (v, rest)
tagged_read tags v rest h allowed =
    ap (tagged tags) (append_assoc (tag_bytes (tag_of v)) (kind_bytes v.kind v.bytes) rest)
    ∙ ap (λ a. next a value) (tag_read tags (tag_of v) (kind_bytes v.kind v.bytes ++ rest) (tagged_value v h).tag allowed)
    ∙ value_read v rest h

pub tagged_values_read : (vs : List Val) (rest : List ℕ) → list_all is_tagged_value vs ≡ true → tagged_values (length vs) (flat_map tagged_bytes vs ++ rest) ≡ Ok (vs, rest)
tagged_values_read [] rest h = refl
tagged_values_read (v ∷ vs) rest h =
    let parts = and_parts (is_tagged_value v) (list_all is_tagged_value vs) h in
    let first : tagged OfValues (tagged_bytes v ++ (flat_map tagged_bytes vs ++ rest)) ≡ Ok (v, flat_map tagged_bytes vs ++ rest) = tagged_read OfValues v (flat_map tagged_bytes vs ++ rest) parts.0 (tagged_value v parts.0).kind in
    ap (tagged_values (suc (length vs))) (append_assoc (tagged_bytes v) (flat_map tagged_bytes vs) rest)
    ∙ rw (first, tagged_values_read vs rest parts.1) refl

pub just_itself : (t : Tag) → allows (Just t) t ≡ true
just_itself t = and_from (nat_eq t.id t.id) (nat_eq t.kind t.kind) (eq-eqb t.id t.id refl) (eq-eqb t.kind t.kind refl)

-- ---- read, and so written

-- where text ends, and what stands behind it
pub record TextParts (bytes : List ℕ) (n : ℕ) : Type 0 where
  pub text : List ℕ
  pub rest : List ℕ
  pub spelled : bytes ≡ text ++ 0 ∷ 0 ∷ rest
  pub len : length text ≡ n
  pub whole : is_text text ≡ true

same_zeros : (a b : ℕ) → (nat_eq a 0 && nat_eq b 0) ≡ true → (a ≡ 0) × (b ≡ 0)
same_zeros a b h = let parts = and_parts (nat_eq a 0) (nat_eq b 0) h in (eqb-true a 0 parts.0, eqb-true b 0 parts.1)

longer_some : (k : ℕ) (o : Option ℕ) (n : ℕ) → longer k o ≡ Some n → (m : ℕ) × (o ≡ Some m) × (n ≡ m + k)
longer_some k None n e = absurd cc
longer_some k (Some m) n e = (m, refl, let e' : m + k ≡ n = cc in sym e')

text_ends : (a b : ℕ) (bytes : List ℕ) (n : ℕ) → (a ≡ 0) × (b ≡ 0) → 0 ≡ n → TextParts (a ∷ b ∷ bytes) n
text_ends a b bytes n z e = record { text = []; rest = bytes; spelled = ap (λ x. x ∷ b ∷ bytes) z.0 ∙ ap (λ x. 0 ∷ x ∷ bytes) z.1; len = e; whole = refl }

text_more : (a b : ℕ) (bytes : List ℕ) (n : ℕ) → (nat_eq a 0 && nat_eq b 0) ≡ false → ((m : ℕ) × (text_len bytes ≡ Some m) × (n ≡ m + 2)) → ((m : ℕ) → text_len bytes ≡ Some m → TextParts bytes m)
    → TextParts (a ∷ b ∷ bytes) n
text_more a b bytes n f p parts =
    let t = parts p.0 p.1 in
    record {
      text = a ∷ b ∷ t.text;
      rest = t.rest;
      spelled = ap (λ xs. a ∷ b ∷ xs) t.spelled;
      len = omega (arith, t.len, p.2);
      whole = rw f t.whole;
    }

text_parts : (bytes : List ℕ) (n : ℕ) → text_len bytes ≡ Some n → TextParts bytes n
text_parts [] n e = absurd cc
text_parts (a ∷ []) n e = absurd cc
text_parts (a ∷ b ∷ bytes) n e = elim (cases_Bool (nat_eq a 0 && nat_eq b 0)) [
  | inl y ↦ text_ends a b bytes n (same_zeros a b y) (let e' : Some 0 ≡ Some n = rw y at e in cc)
  | inr f ↦ text_more a b bytes n f (longer_some 2 (text_len bytes) n (rw f at e)) (λ m. text_parts bytes m)
]

-- how a value of this kind was written whose bytes are x
pub record Front (kind : ℕ) (bytes x rest : List ℕ) : Type 0 where
  pub spelled : bytes ≡ kind_bytes kind x ++ rest
  pub written : is_written kind x ≡ true

text_front_is : (kind : ℕ) (bytes x rest : List ℕ) → nat_eq kind 0x001F ≡ true → bytes ≡ x ++ 0 ∷ 0 ∷ rest → is_text x ≡ true → Front kind bytes x rest
unfolding kind_bytes is_written
text_front_is kind bytes x rest y e h = record { spelled = rw y (e ∙ sym (append_assoc x (0 ∷ 0 ∷ []) rest)); written = rw y h }

binary_front_is : (kind : ℕ) (bytes x rest : List ℕ) → nat_eq kind 0x001F ≡ false → nat_eq kind 0x0102 ≡ true → length x < 65536 → bytes ≡ little_bytes 2 (length x) ++ (x ++ rest) → Front kind bytes x rest
unfolding kind_bytes is_written
binary_front_is kind bytes x rest n y few e = record { spelled = rw (n, y) (e ∙ sym (append_assoc (little_bytes 2 (length x)) x rest)); written = rw (n, y) (lt-ltb (length x) 65536 few) }

truth_front_is : (kind : ℕ) (bytes x rest : List ℕ) → nat_eq kind 0x001F ≡ false → nat_eq kind 0x0102 ≡ false → nat_eq kind 0x000B ≡ true → bytes ≡ x ++ rest → is_truth x ≡ true → Front kind bytes x rest
unfolding kind_bytes is_written
truth_front_is kind bytes x rest n1 n2 y e h = record { spelled = rw (n1, n2) e; written = rw (n1, n2, y) h }

other_front_is : (kind : ℕ) (bytes x rest : List ℕ) → nat_eq kind 0x001F ≡ false → nat_eq kind 0x0102 ≡ false → nat_eq kind 0x000B ≡ false → bytes ≡ x ++ rest → Front kind bytes x rest
unfolding kind_bytes is_written
other_front_is kind bytes x rest n1 n2 n3 e = record { spelled = rw (n1, n2) e; written = rw (n1, n2, n3) refl }

first_is : (a : ℕ) (bytes x rest : List ℕ) → a ∷ bytes ≡ x ++ rest → length x ≡ 1 → nat_lt a 2 ≡ true → is_truth x ≡ true
first_is a bytes [] rest e len h = absurd cc
first_is a bytes (b ∷ x) rest e len h = let same : a ≡ b = cc in subst (λ c. nat_lt c 2 ≡ true) same h

text_found : (kind : ℕ) (bytes x rest : List ℕ) → nat_eq kind 0x001F ≡ true → (len : Option ℕ) → text_len bytes ≡ len → text_up_to bytes len ≡ Some (x, rest) → Front kind bytes x rest
text_found kind bytes x rest y None l e = absurd cc
text_found kind bytes x rest y (Some n) l e =
    let t = text_parts bytes n l in
    let is = some_both {A = List ℕ} {B = List ℕ} (take n bytes, drop (n + 2) bytes) (x, rest) e in
    let two : length (t.text ++ 0 ∷ 0 ∷ []) ≡ n + 2 = omega (arith, length-append t.text (0 ∷ 0 ∷ []), t.len) in
    let first : take n bytes ≡ t.text = ap (take n) t.spelled ∙ take_at t.text (0 ∷ 0 ∷ t.rest) n t.len in
    let behind : drop (n + 2) bytes ≡ t.rest = ap (drop (n + 2)) (t.spelled ∙ sym (append_assoc t.text (0 ∷ 0 ∷ []) t.rest)) ∙ drop_at (t.text ++ 0 ∷ 0 ∷ []) t.rest (n + 2) two in
    let is_x : t.text ≡ x = sym first ∙ is.0 in
    let is_rest : t.rest ≡ rest = sym behind ∙ is.1 in
    text_front_is kind bytes x rest y (t.spelled ∙ ap (λ xs. xs ++ 0 ∷ 0 ∷ t.rest) is_x ∙ ap (λ xs. x ++ 0 ∷ 0 ∷ xs) is_rest) (subst (λ xs. is_text xs ≡ true) is_x t.whole)

binary_found : (kind : ℕ) (bytes x rest : List ℕ) → AreBytes bytes → nat_eq kind 0x001F ≡ false → nat_eq kind 0x0102 ≡ true → binary_front bytes ≡ Some (x, rest) → Front kind bytes x rest
binary_found kind [] x rest are n y e = absurd cc
binary_found kind (a ∷ []) x rest are n y e = absurd cc
binary_found kind (a ∷ b ∷ bytes) x rest are n y e =
    let f = front_parts (a + 256 * b) bytes x rest e in
    let low : a < 256 = are 0 in
    let high : b < 256 = are 1 in
    let len = f.len in
    let one : length x % 256 ≡ a = omega arith in
    let two : length x / 256 % 256 ≡ b = omega arith in
    binary_front_is kind (a ∷ b ∷ bytes) x rest n y (omega arith)
    (sym (ap (λ c. c ∷ b ∷ bytes) one) ∙ sym (ap (λ c. length x % 256 ∷ c ∷ bytes) two) ∙ ap (λ xs. length x % 256 ∷ length x / 256 % 256 ∷ xs) f.parts)

truth_found : (kind : ℕ) (bytes x rest : List ℕ) → nat_eq kind 0x001F ≡ false → nat_eq kind 0x0102 ≡ false → nat_eq kind 0x000B ≡ true → truth_front bytes ≡ Some (x, rest) → Front kind bytes x rest
truth_found kind [] x rest n1 n2 y e = absurd cc
truth_found kind (a ∷ bytes) x rest n1 n2 y e = elim (cases_Bool (nat_lt a 2)) [
  | inl small ↦
      let f = front_parts 1 (a ∷ bytes) x rest (rw small at e) in
      truth_front_is kind (a ∷ bytes) x rest n1 n2 y f.parts (first_is a bytes x rest f.parts f.len small)
  | inr large ↦ absurd (let e' = rw large at e in cc)
]

width_found : (kind : ℕ) (bytes x rest : List ℕ) → nat_eq kind 0x001F ≡ false → nat_eq kind 0x0102 ≡ false → nat_eq kind 0x000B ≡ false → (width : Option ℕ) → width_front width bytes ≡ Some (x, rest) → Front kind bytes x rest
width_found kind bytes x rest n1 n2 n3 None e = absurd cc
width_found kind bytes x rest n1 n2 n3 (Some n) e = other_front_is kind bytes x rest n1 n2 n3 (front_parts n bytes x rest e).parts

front_found : (kind : ℕ) (bytes x rest : List ℕ) → AreBytes bytes → value_front kind bytes ≡ Some (x, rest) → Front kind bytes x rest
unfolding value_front
front_found kind bytes x rest are e = elim (cases_Bool (nat_eq kind 0x001F)) [
  | inl y ↦ text_found kind bytes x rest y (text_len bytes) refl (rw y at e)
  | inr n1 ↦ elim (cases_Bool (nat_eq kind 0x0102)) [
    | inl y ↦ binary_found kind bytes x rest are n1 y (rw (n1, y) at e)
    | inr n2 ↦ elim (cases_Bool (nat_eq kind 0x000B)) [
      | inl y ↦ truth_found kind bytes x rest n1 n2 y (rw (n1, n2, y) at e)
      | inr n3 ↦ width_found kind bytes x rest n1 n2 n3 (value_width kind) (rw (n1, n2, n3) at e)
    ]
  ]
]

-- what is known of a value that was read with this tag
pub record IsValueOf (t : Tag) (v : Val) : Type 0 where
  pub tag : tag_of v ≡ t
  pub sound : is_sound v ≡ true
  pub fit : value_fits v ≡ true
  pub written : is_written v.kind v.bytes ≡ true

value_finds : (t : Tag) (bytes : List ℕ) → AreBytes bytes → Finds (Field (λ (v : Val). kind_bytes v.kind v.bytes) (IsValueOf t) bytes) (length bytes) (value t bytes)
value_finds t bytes are = found (value_front t.kind bytes) refl
  where
    found : (o : Option (List ℕ × List ℕ)) → value_front t.kind bytes ≡ o → Finds (Field (λ (v : Val). kind_bytes v.kind v.bytes) (IsValueOf t) bytes) (length bytes) (valued t bytes o)
    found None e = omega arith
    found (Some p) e = elim (cases_Bool (fits t.kind (length p.0))) [
      | inl y ↦ rw y (let f = front_found t.kind bytes p.0 p.1 are e in
          field (λ (v : Val). kind_bytes v.kind v.bytes) (IsValueOf t) bytes (record { id = t.id; kind = t.kind; bytes = p.0 }) p.1 are f.spelled
          (record { tag = refl; sound = sound_front t.kind bytes p.0 p.1 e; fit = y; written = f.written }))
      | inr n ↦ rw n (omega arith)
    ]

value_is : (v : Val) → is_tag (tag_of v) ≡ true → is_value_kind v.kind ≡ true → is_sound v ≡ true → value_fits v ≡ true → is_written v.kind v.bytes ≡ true → is_tagged_value v ≡ true
unfolding is_tagged_value
value_is v tag kind sound fit written =
    and_from (is_tag (tag_of v)) (is_value_kind v.kind && (is_sound v && (value_fits v && is_written v.kind v.bytes))) tag
    (and_from (is_value_kind v.kind) (is_sound v && (value_fits v && is_written v.kind v.bytes)) kind
    (and_from (is_sound v) (value_fits v && is_written v.kind v.bytes) sound (and_from (value_fits v) (is_written v.kind v.bytes) fit written)))

-- a tagged value that may stand there
pub record IsTagged (tags : Tags) (v : Val) : Type 0 where
  pub value : is_tagged_value v ≡ true
  pub allowed : allows tags (tag_of v) ≡ true

pub tagged_finds : (tags : Tags) (bytes : List ℕ) → AreBytes bytes → ((t : Tag) → allows tags t ≡ true → is_value_kind t.kind ≡ true) → Finds (Field tagged_bytes (IsTagged tags) bytes) (length bytes) (tagged tags bytes)
tagged_finds tags bytes are kinds =
    finds_next (Field tag_bytes (λ t. (is_tag t ≡ true) × (allows tags t ≡ true)) bytes) (Field tagged_bytes (IsTagged tags) bytes) (length bytes) (length bytes) (tag tags bytes) value (omega arith) (tag_finds tags bytes are)
    (λ t rest q. finds_less (Field (λ (v : Val). kind_bytes v.kind v.bytes) (IsValueOf t) rest) (Field tagged_bytes (IsTagged tags) bytes) (length rest) (length bytes) (value t rest) q.less (value_finds t rest q.are)
    (λ v behind w. field tagged_bytes (IsTagged tags) bytes v behind are
    (q.spelled ∙ ap (λ xs. tag_bytes t ++ xs) w.spelled ∙ ap (λ s. tag_bytes s ++ (kind_bytes v.kind v.bytes ++ behind)) (sym w.holds.tag) ∙ sym (append_assoc (tag_bytes (tag_of v)) (kind_bytes v.kind v.bytes) behind))
    (record {
      value = value_is v (subst (λ s. is_tag s ≡ true) (sym w.holds.tag) q.holds.0) (subst (λ (s : Tag). is_value_kind s.kind ≡ true) (sym w.holds.tag) (kinds t q.holds.1)) w.holds.sound w.holds.fit w.holds.written;
      allowed = subst (λ s. allows tags s ≡ true) (sym w.holds.tag) q.holds.1;
    })))

pub tagged_values_find : (n : ℕ) (bytes : List ℕ) → AreBytes bytes → Finds (Field (flat_map tagged_bytes) (λ vs. (list_all is_tagged_value vs ≡ true) × (length vs ≡ n)) bytes) (length bytes) (tagged_values n bytes)
tagged_values_find zero bytes are = field (flat_map tagged_bytes) (λ vs. (list_all is_tagged_value vs ≡ true) × (length vs ≡ 0)) bytes [] bytes are refl (refl, refl)
tagged_values_find (suc n) bytes are =
    finds_next (Field tagged_bytes (IsTagged OfValues) bytes) (Field (flat_map tagged_bytes) (λ vs. (list_all is_tagged_value vs ≡ true) × (length vs ≡ suc n)) bytes) (length bytes) (length bytes) (tagged OfValues bytes)
    (λ v bytes1. next (tagged_values n bytes1) (λ vs bytes2. Ok (v ∷ vs, bytes2))) (omega arith) (tagged_finds OfValues bytes are (λ t h. h))
    (λ v bytes1 q. finds_next (Field (flat_map tagged_bytes) (λ vs. (list_all is_tagged_value vs ≡ true) × (length vs ≡ n)) bytes1) (Field (flat_map tagged_bytes) (λ vs. (list_all is_tagged_value vs ≡ true) × (length vs ≡ suc n)) bytes)
    (length bytes1) (length bytes) (tagged_values n bytes1) (λ vs bytes2. Ok (v ∷ vs, bytes2)) q.less (tagged_values_find n bytes1 q.are)
    (λ vs bytes2 w. field (flat_map tagged_bytes) (λ vs. (list_all is_tagged_value vs ≡ true) × (length vs ≡ suc n)) bytes (v ∷ vs) bytes2 are
    (q.spelled ∙ ap (λ xs. tagged_bytes v ++ xs) w.spelled ∙ sym (append_assoc (tagged_bytes v) (flat_map tagged_bytes vs) bytes2))
    (and_from (is_tagged_value v) (list_all is_tagged_value vs) q.holds.value w.holds.0, ap suc w.holds.1)))
