-- Fields that are written and read again, and fields that are read and what was written there.
use Rattle.std.proofs.Common.{◌≡◌, ◌≤◌, ◌<◌, ◌∙◌, ◌⊎◌, inl, inr, ℕ, zero, suc, ◌+◌, ◌*◌, ◌/◌, ◌%◌, ◌^◌, ◌==◌, Bool, true, false, List, [], ◌∷◌, ◌++◌, length, take, drop, get_or, Option, None, Some, Ok, Err, if◌then◌else◌, refl, sym, ap, subst, arith, nat_le, nat_lt, length-append}
use Rattle.std.proofs.lemmas.Bool.{and_from, and_parts, cases_Bool, eqb-true, le-leb, leb-true, lt-ltb, ltb-true}
use Rattle.std.proofs.lemmas.List.{drop_at, ext_get_or, get_or-append-add, get_or-take, length-take-le, take-append-drop}
use Rattle.byteorder.specs.Endian.{little_bytes}
use Rattle.byteorder.specs.Numbers.{length-bytes_low_first}
use Rattle.pst_base.specs.Fields.{number_at}
use Rattle.pst_base.proofs.CoverLaws.{byte_put_back}
use Rattle.pst_base.proofs.Numbers.{number_at-first, number_at-fits}
use Rattle.mapi_values.specs.declared.value.Tag.{Tag}
use Rattle.restr_codec.specs.declared.fields.Tags.{Tags}
use Rattle.restr_codec.specs.declared.restriction.BitTest.{BitTest}
use Rattle.restr_codec.specs.declared.restriction.BitTest.TheVariants.{Zero, NotZero}
use Rattle.restr_codec.specs.declared.restriction.FuzzyFlags.{FuzzyFlags}
use Rattle.restr_codec.specs.declared.restriction.FuzzyLevel.{FuzzyLevel}
use Rattle.restr_codec.specs.declared.restriction.FuzzyLevel.TheVariants.{FullString, Substring, Prefix}
use Rattle.restr_codec.specs.declared.restriction.Relation.{Relation}
use Rattle.restr_codec.specs.declared.restriction.Relation.TheVariants.{Less, AtMost, Greater, AtLeast, Equal, NotEqual}
use Rattle.restr_codec.specs.declared.restriction.SubTable.{SubTable}
use Rattle.restr_codec.specs.declared.restriction.SubTable.TheVariants.{Recipients, Attachments}
use Rattle.restr_codec.specs.Reading.{Read, allows, code, flags_of, held, level_of, next, number, numbered, relation_of, table_of, tag, tag_in, test_of, truth_of}
use Rattle.restr_codec.specs.Spelling.{flags_code, is_tag, level_code, relation_code, table_tag, tag_bytes, tag_number, test_code}

-- ---- written and read again

pub number_back : (n x : ℕ) (rest : List ℕ) → x < 256 ^ n → number n (little_bytes n x ++ rest) ≡ Ok (x, rest)
unfolding number
number_back n x rest fit =
    let len = length-bytes_low_first 0 n x in
    let enough : n ≤ length (little_bytes n x ++ rest) = omega (arith, length-append (little_bytes n x) rest, len) in
    rw (le-leb n (length (little_bytes n x ++ rest)) enough, number_at-first n x rest fit, drop_at (little_bytes n x) rest n len) refl

one_byte : (x : ℕ) (rest : List ℕ) → number_at 1 0 (x ∷ rest) ≡ x
unfolding number_at
one_byte x rest = omega arith

pub byte_back : (x : ℕ) (rest : List ℕ) → number 1 (x ∷ rest) ≡ Ok (x, rest)
unfolding number
byte_back x rest =
    let enough : 1 ≤ length (x ∷ rest) = omega arith in
    rw (le-leb 1 (length (x ∷ rest)) enough, one_byte x rest) refl

pub code_back : {A : Type 0} (n : ℕ) (meaning : ℕ → Option A) (bytes : List ℕ) (x : ℕ) (rest : List ℕ) (a : A) → number n bytes ≡ Ok (x, rest) → meaning x ≡ Some a → code n meaning bytes ≡ Ok (a, rest)
code_back n meaning bytes x rest a e m = rw (e, m) refl

relation_back : (r : Relation) → relation_of (relation_code r) ≡ Some r
unfolding relation_of
relation_back Less = refl
relation_back AtMost = refl
relation_back Greater = refl
relation_back AtLeast = refl
relation_back Equal = refl
relation_back NotEqual = refl

pub relation_read : (r : Relation) (rest : List ℕ) → code 1 relation_of (relation_code r ∷ rest) ≡ Ok (r, rest)
relation_read r rest = code_back 1 relation_of (relation_code r ∷ rest) (relation_code r) rest r (byte_back (relation_code r) rest) (relation_back r)

level_back : (l : FuzzyLevel) → (level_of (level_code l) ≡ Some l) × (level_code l < 256 ^ 2)
unfolding level_of
level_back FullString = (refl, omega arith)
level_back Substring = (refl, omega arith)
level_back Prefix = (refl, omega arith)

pub level_read : (l : FuzzyLevel) (rest : List ℕ) → code 2 level_of (little_bytes 2 (level_code l) ++ rest) ≡ Ok (l, rest)
level_read l rest = code_back 2 level_of (little_bytes 2 (level_code l) ++ rest) (level_code l) rest l (number_back 2 (level_code l) rest (level_back l).1) (level_back l).0

abbrev flags_at : Bool → Bool → Bool → FuzzyFlags
flags_at a b c = record { ignore_case = a; ignore_nonspace = b; loose = c }

flags_back : (a b c : Bool) → (flags_of (flags_code (flags_at a b c)) ≡ Some (flags_at a b c)) × (flags_code (flags_at a b c) < 256 ^ 2)
unfolding flags_of
flags_back true true true = (refl, omega arith)
flags_back true true false = (refl, omega arith)
flags_back true false true = (refl, omega arith)
flags_back true false false = (refl, omega arith)
flags_back false true true = (refl, omega arith)
flags_back false true false = (refl, omega arith)
flags_back false false true = (refl, omega arith)
flags_back false false false = (refl, omega arith)

pub flags_read : (f : FuzzyFlags) (rest : List ℕ) → code 2 flags_of (little_bytes 2 (flags_code f) ++ rest) ≡ Ok (f, rest)
flags_read f rest =
    let back = flags_back f.ignore_case f.ignore_nonspace f.loose in
    code_back 2 flags_of (little_bytes 2 (flags_code f) ++ rest) (flags_code f) rest f (number_back 2 (flags_code f) rest back.1) back.0

test_back : (t : BitTest) → test_of (test_code t) ≡ Some t
unfolding test_of
test_back Zero = refl
test_back NotZero = refl

pub test_read : (t : BitTest) (rest : List ℕ) → code 1 test_of (test_code t ∷ rest) ≡ Ok (t, rest)
test_read t rest = code_back 1 test_of (test_code t ∷ rest) (test_code t) rest t (byte_back (test_code t) rest) (test_back t)

pub absent_read : (rest : List ℕ) → code 1 truth_of (0 ∷ rest) ≡ Ok (false, rest)
unfolding truth_of
absent_read rest = code_back 1 truth_of (0 ∷ rest) 0 rest false (byte_back 0 rest) refl

pub present_read : (rest : List ℕ) → code 1 truth_of (1 ∷ rest) ≡ Ok (true, rest)
unfolding truth_of
present_read rest = code_back 1 truth_of (1 ∷ rest) 1 rest true (byte_back 1 rest) refl

table_back : (t : SubTable) → (table_of (tag_number (table_tag t)) ≡ Some t) × (tag_number (table_tag t) < 256 ^ 4)
unfolding table_of
table_back Recipients = (refl, omega arith)
table_back Attachments = (refl, omega arith)

pub table_read : (t : SubTable) (rest : List ℕ) → code 4 table_of (tag_bytes (table_tag t) ++ rest) ≡ Ok (t, rest)
unfolding tag_bytes
table_read t rest = code_back 4 table_of (little_bytes 4 (tag_number (table_tag t)) ++ rest) (tag_number (table_tag t)) rest t (number_back 4 (tag_number (table_tag t)) rest (table_back t).1) (table_back t).0

abbrev tag_at : ℕ → ℕ → Tag
tag_at id kind = record { id = id; kind = kind }

numbered_back : (t : Tag) → t.kind < 65536 → numbered (tag_number t) ≡ t
numbered_back t small =
    let id : (65536 * t.id + t.kind) / 65536 ≡ t.id = omega arith in
    let kind : (65536 * t.id + t.kind) % 65536 ≡ t.kind = omega arith in
    ap (λ x. tag_at x ((65536 * t.id + t.kind) % 65536)) id ∙ ap (λ y. tag_at t.id y) kind

tag_in_back : (tags : Tags) (t : Tag) → t.kind < 65536 → allows tags t ≡ true → tag_in tags (tag_number t) ≡ Some t
unfolding tag_in
tag_in_back tags t small allowed = rw (numbered_back t small, allowed) refl

pub tag_read : (tags : Tags) (t : Tag) (rest : List ℕ) → is_tag t ≡ true → allows tags t ≡ true → tag tags (tag_bytes t ++ rest) ≡ Ok (t, rest)
unfolding tag_bytes
tag_read tags t rest small allowed =
    let parts = and_parts (nat_lt t.id 65536) (nat_lt t.kind 65536) small in
    let id = ltb-true t.id 65536 parts.0 in
    let kind = ltb-true t.kind 65536 parts.1 in
    code_back 4 (tag_in tags) (little_bytes 4 (tag_number t) ++ rest) (tag_number t) rest t (number_back 4 (tag_number t) rest (omega (arith, id, kind))) (tag_in_back tags t kind allowed)

-- ---- read, and so written

-- each of these is a byte
abbrev pub AreBytes : List ℕ → Type 0
AreBytes bytes = (i : ℕ) → get_or bytes i 0 < 256

-- a was read of bytes, where it is written, and rest stands behind it
pub record Field {A : Type 0} (written : A → List ℕ) (Holds : A → Type 0) (bytes : List ℕ) (a : A) (rest : List ℕ) : Type 0 where
  pub spelled : bytes ≡ written a ++ rest
  pub holds : Holds a
  pub less : length rest ≤ length bytes
  pub are : AreBytes rest

behind : (front rest : List ℕ) → AreBytes (front ++ rest) → AreBytes rest
behind front rest are i = let e = get_or-append-add front rest i 0 in let h : get_or (front ++ rest) (length front + i) 0 < 256 = are (length front + i) in omega (arith, e, h)

pub field : {A : Type 0} (written : A → List ℕ) (Holds : A → Type 0) (bytes : List ℕ) (a : A) (rest : List ℕ) → AreBytes bytes → bytes ≡ written a ++ rest → Holds a → Field written Holds bytes a rest
field written Holds bytes a rest are e h = record {
  spelled = e;
  holds = h;
  less = omega (arith, ap length e, length-append (written a) rest);
  are = behind (written a) rest (subst AreBytes e are);
}

-- what is read has the property, and a fault lies within so many bytes
abbrev pub Finds : {A : Type 0} → (A → List ℕ → Type 0) → ℕ → Read A → Type 0
Finds Q n (Ok p) = Q p.0 p.1
Finds Q n (Err fault) = fault ≤ n

pub finds_next : {A B : Type 0} (Q : A → List ℕ → Type 0) (R : B → List ℕ → Type 0) (m n : ℕ) (first : Read A) (f : A → List ℕ → Read B) → m ≤ n → Finds Q m first
    → ((a : A) (rest : List ℕ) → Q a rest → Finds R n (f a rest)) → Finds R n (next first f)
finds_next Q R m n (Ok p) f less h after = after p.0 p.1 h
finds_next Q R m n (Err fault) f less h after = omega (arith, h, less)

pub finds_less : {A : Type 0} (Q R : A → List ℕ → Type 0) (m n : ℕ) (read : Read A) → m ≤ n → Finds Q m read → ((a : A) (rest : List ℕ) → Q a rest → R a rest) → Finds R n read
finds_less Q R m n (Ok p) less h after = after p.0 p.1 h
finds_less Q R m n (Err fault) less h after = omega (arith, h, less)

pub finds_if : {A : Type 0} (Q : A → List ℕ → Type 0) (n : ℕ) (b : Bool) (x y : Read A) → (b ≡ true → Finds Q n x) → (b ≡ false → Finds Q n y) → Finds Q n (if b then x else y)
finds_if Q n true x y h k = h refl
finds_if Q n false x y h k = k refl

put_back : (n : ℕ) (bytes : List ℕ) → n ≤ length bytes → AreBytes bytes → little_bytes n (number_at n 0 bytes) ≡ take n bytes
put_back n bytes enough are =
    let len = length-bytes_low_first 0 n (number_at n 0 bytes) in
    let from_zero : 0 + n ≤ length bytes = omega arith in
    ext_get_or 0 (little_bytes n (number_at n 0 bytes)) (take n bytes) (len ∙ sym (length-take-le n bytes enough))
    (λ i h. let lt : i < n = omega (arith, h, len) in let same : 0 + i ≡ i = omega arith in byte_put_back n 0 i bytes lt from_zero are ∙ ap (λ k. get_or bytes k 0) same ∙ sym (get_or-take n bytes i 0 lt))

pub number_finds : (n : ℕ) (bytes : List ℕ) → AreBytes bytes → Finds (Field (little_bytes n) (λ x. x < 256 ^ n) bytes) (length bytes) (number n bytes)
unfolding number
number_finds n bytes are = finds_if _ (length bytes) (nat_le n (length bytes)) (Ok (number_at n 0 bytes, drop n bytes)) (Err (length bytes))
    (λ y. let enough = leb-true n (length bytes) y in
    field (little_bytes n) (λ x. x < 256 ^ n) bytes (number_at n 0 bytes) (drop n bytes) are (sym (take-append-drop n bytes) ∙ ap (λ xs. xs ++ drop n bytes) (sym (put_back n bytes enough are))) (number_at-fits n 0 bytes are))
    (λ f. omega arith)

no_byte : number 1 [] ≡ Err 0
unfolding number
no_byte = refl

pub byte_finds : (bytes : List ℕ) → AreBytes bytes → Finds (Field (λ x. x ∷ []) (λ x. x < 256) bytes) (length bytes) (number 1 bytes)
byte_finds [] are = subst (Finds (Field (λ x. x ∷ []) (λ x. x < 256) []) 0) (sym no_byte) (omega arith)
byte_finds (x ∷ rest) are = subst (Finds (Field (λ x. x ∷ []) (λ x. x < 256) (x ∷ rest)) (length (x ∷ rest))) (sym (byte_back x rest)) (field (λ x. x ∷ []) (λ x. x < 256) (x ∷ rest) x rest are refl (are 0))

-- a code that means something is the code of what it means
pub code_finds : {A : Type 0} (n : ℕ) (written : ℕ → List ℕ) (Fits : ℕ → Type 0) (meaning : ℕ → Option A) (spelled : A → List ℕ) (Holds : A → Type 0) (bytes : List ℕ) → AreBytes bytes
    → Finds (Field written Fits bytes) (length bytes) (number n bytes) → ((x : ℕ) (a : A) → Fits x → meaning x ≡ Some a → (written x ≡ spelled a) × Holds a)
    → Finds (Field spelled Holds bytes) (length bytes) (code n meaning bytes)
code_finds {A = A} n written Fits meaning spelled Holds bytes are first means =
    finds_next (Field written Fits bytes) (Field spelled Holds bytes) (length bytes) (length bytes) (number n bytes) (λ x behind. held bytes behind (meaning x)) (omega arith) first
    (λ x rest q. given x rest q (meaning x) refl)
  where
    given : (x : ℕ) (rest : List ℕ) → Field written Fits bytes x rest → (o : Option A) → meaning x ≡ o → Finds (Field spelled Holds bytes) (length bytes) (held bytes rest o)
    given x rest q None e = omega arith
    given x rest q (Some a) e = let m = means x a q.holds e in field spelled Holds bytes a rest are (q.spelled ∙ ap (λ xs. xs ++ rest) m.0) m.1

pick : {A : Type 0} (c k : ℕ) (a b : A) (rest : Option A) → (if c == k then Some a else rest) ≡ Some b → ((c ≡ k) × (a ≡ b)) ⊎ (rest ≡ Some b)
pick c k a b rest e = elim (cases_Bool (c == k)) [
  | inl y ↦ inl (eqb-true c k y, let e' = rw y at e in cc)
  | inr f ↦ inr (rw f at e)
]

relation_means : (x : ℕ) (r : Relation) → relation_of x ≡ Some r → x ≡ relation_code r
unfolding relation_of
relation_means x r e = elim (pick x 0 Less r _ e) [
  | inl p ↦ p.0 ∙ ap relation_code p.1
  | inr e1 ↦ elim (pick x 1 AtMost r _ e1) [
    | inl p ↦ p.0 ∙ ap relation_code p.1
    | inr e2 ↦ elim (pick x 2 Greater r _ e2) [
      | inl p ↦ p.0 ∙ ap relation_code p.1
      | inr e3 ↦ elim (pick x 3 AtLeast r _ e3) [
        | inl p ↦ p.0 ∙ ap relation_code p.1
        | inr e4 ↦ elim (pick x 4 Equal r _ e4) [
          | inl p ↦ p.0 ∙ ap relation_code p.1
          | inr e5 ↦ elim (pick x 5 NotEqual r None e5) [
            | inl p ↦ p.0 ∙ ap relation_code p.1
            | inr e6 ↦ absurd cc
          ]
        ]
      ]
    ]
  ]
]

-- anything
abbrev pub Any : {A : Type 0} → A → Type 0
Any a = Unit {0}

pub relation_finds : (bytes : List ℕ) → AreBytes bytes → Finds (Field (λ r. relation_code r ∷ []) Any bytes) (length bytes) (code 1 relation_of bytes)
relation_finds bytes are = code_finds 1 (λ x. x ∷ []) (λ x. x < 256) relation_of (λ r. relation_code r ∷ []) Any bytes are (byte_finds bytes are) (λ x r h e. (ap (λ y. y ∷ []) (relation_means x r e), tt))

level_means : (x : ℕ) (l : FuzzyLevel) → level_of x ≡ Some l → x ≡ level_code l
unfolding level_of
level_means x l e = elim (pick x 0 FullString l _ e) [
  | inl p ↦ p.0 ∙ ap level_code p.1
  | inr e1 ↦ elim (pick x 1 Substring l _ e1) [
    | inl p ↦ p.0 ∙ ap level_code p.1
    | inr e2 ↦ elim (pick x 2 Prefix l None e2) [
      | inl p ↦ p.0 ∙ ap level_code p.1
      | inr e3 ↦ absurd cc
    ]
  ]
]

pub level_finds : (bytes : List ℕ) → AreBytes bytes → Finds (Field (λ l. little_bytes 2 (level_code l)) Any bytes) (length bytes) (code 2 level_of bytes)
level_finds bytes are = code_finds 2 (little_bytes 2) (λ x. x < 256 ^ 2) level_of (λ l. little_bytes 2 (level_code l)) Any bytes are (number_finds 2 bytes are) (λ x l h e. (ap (little_bytes 2) (level_means x l e), tt))

flags_put_back : (x : ℕ) → x < 8 → flags_code (flags_at (x % 2 == 1) (x / 2 % 2 == 1) (x / 4 == 1)) ≡ x
flags_put_back zero h = refl
flags_put_back (suc zero) h = refl
flags_put_back (suc (suc zero)) h = refl
flags_put_back (suc (suc (suc zero))) h = refl
flags_put_back (suc (suc (suc (suc zero)))) h = refl
flags_put_back (suc (suc (suc (suc (suc zero))))) h = refl
flags_put_back (suc (suc (suc (suc (suc (suc zero)))))) h = refl
flags_put_back (suc (suc (suc (suc (suc (suc (suc zero))))))) h = refl
flags_put_back (suc (suc (suc (suc (suc (suc (suc (suc x)))))))) h = absurd (omega arith)

flags_means : (x : ℕ) (f : FuzzyFlags) → flags_of x ≡ Some f → x ≡ flags_code f
unfolding flags_of
flags_means x f e = elim (cases_Bool (nat_lt x 8)) [
  | inl y ↦ let is : flags_at (x % 2 == 1) (x / 2 % 2 == 1) (x / 4 == 1) ≡ f = (let e' = rw y at e in cc) in sym (flags_put_back x (ltb-true x 8 y)) ∙ ap flags_code is
  | inr n ↦ absurd (let e' = rw n at e in cc)
]

pub flags_finds : (bytes : List ℕ) → AreBytes bytes → Finds (Field (λ f. little_bytes 2 (flags_code f)) Any bytes) (length bytes) (code 2 flags_of bytes)
flags_finds bytes are = code_finds 2 (little_bytes 2) (λ x. x < 256 ^ 2) flags_of (λ f. little_bytes 2 (flags_code f)) Any bytes are (number_finds 2 bytes are) (λ x f h e. (ap (little_bytes 2) (flags_means x f e), tt))

test_means : (x : ℕ) (t : BitTest) → test_of x ≡ Some t → x ≡ test_code t
unfolding test_of
test_means x t e = elim (pick x 0 Zero t _ e) [
  | inl p ↦ p.0 ∙ ap test_code p.1
  | inr e1 ↦ elim (pick x 1 NotZero t None e1) [
    | inl p ↦ p.0 ∙ ap test_code p.1
    | inr e2 ↦ absurd cc
  ]
]

pub test_finds : (bytes : List ℕ) → AreBytes bytes → Finds (Field (λ t. test_code t ∷ []) Any bytes) (length bytes) (code 1 test_of bytes)
test_finds bytes are = code_finds 1 (λ x. x ∷ []) (λ x. x < 256) test_of (λ t. test_code t ∷ []) Any bytes are (byte_finds bytes are) (λ x t h e. (ap (λ y. y ∷ []) (test_means x t e), tt))

-- the byte that says whether a restriction is present
abbrev pub truth_code : Bool → ℕ
truth_code false = 0
truth_code true = 1

truth_means : (x : ℕ) (t : Bool) → truth_of x ≡ Some t → x ≡ truth_code t
unfolding truth_of
truth_means x t e = elim (pick x 0 false t _ e) [
  | inl p ↦ p.0 ∙ ap truth_code p.1
  | inr e1 ↦ elim (pick x 1 true t None e1) [
    | inl p ↦ p.0 ∙ ap truth_code p.1
    | inr e2 ↦ absurd cc
  ]
]

pub truth_finds : (bytes : List ℕ) → AreBytes bytes → Finds (Field (λ t. truth_code t ∷ []) Any bytes) (length bytes) (code 1 truth_of bytes)
truth_finds bytes are = code_finds 1 (λ x. x ∷ []) (λ x. x < 256) truth_of (λ t. truth_code t ∷ []) Any bytes are (byte_finds bytes are) (λ x t h e. (ap (λ y. y ∷ []) (truth_means x t e), tt))

table_means : (x : ℕ) (t : SubTable) → table_of x ≡ Some t → x ≡ tag_number (table_tag t)
unfolding table_of
table_means x t e = elim (pick x (tag_number (table_tag Recipients)) Recipients t _ e) [
  | inl p ↦ p.0 ∙ ap (λ s. tag_number (table_tag s)) p.1
  | inr e1 ↦ elim (pick x (tag_number (table_tag Attachments)) Attachments t None e1) [
    | inl p ↦ p.0 ∙ ap (λ s. tag_number (table_tag s)) p.1
    | inr e2 ↦ absurd cc
  ]
]

pub table_finds : (bytes : List ℕ) → AreBytes bytes → Finds (Field (λ t. tag_bytes (table_tag t)) Any bytes) (length bytes) (code 4 table_of bytes)
unfolding tag_bytes
table_finds bytes are = code_finds 4 (little_bytes 4) (λ x. x < 256 ^ 4) table_of (λ t. little_bytes 4 (tag_number (table_tag t))) Any bytes are (number_finds 4 bytes are) (λ x t h e. (ap (little_bytes 4) (table_means x t e), tt))

tag_means : (tags : Tags) (x : ℕ) (t : Tag) → x < 256 ^ 4 → tag_in tags x ≡ Some t → (x ≡ tag_number t) × ((is_tag t ≡ true) × (allows tags t ≡ true))
unfolding tag_in
tag_means tags x t small e = elim (cases_Bool (allows tags (numbered x))) [
  | inl y ↦
      let is : numbered x ≡ t = (let e' = rw y at e in cc) in
      let whole : x ≡ tag_number (numbered x) = omega arith in
      let tag : is_tag (numbered x) ≡ true = and_from (nat_lt (x / 65536) 65536) (nat_lt (x % 65536) 65536) (lt-ltb (x / 65536) 65536 (omega (arith, small))) (lt-ltb (x % 65536) 65536 (omega arith)) in
      (whole ∙ ap tag_number is, (subst (λ s. is_tag s ≡ true) is tag, subst (λ s. allows tags s ≡ true) is y))
  | inr n ↦ absurd (let e' = rw n at e in cc)
]

pub tag_finds : (tags : Tags) (bytes : List ℕ) → AreBytes bytes → Finds (Field tag_bytes (λ t. (is_tag t ≡ true) × (allows tags t ≡ true)) bytes) (length bytes) (tag tags bytes)
unfolding tag_bytes
tag_finds tags bytes are = code_finds 4 (little_bytes 4) (λ x. x < 256 ^ 4) (tag_in tags) (λ t. little_bytes 4 (tag_number t)) (λ t. (is_tag t ≡ true) × (allows tags t ≡ true)) bytes are (number_finds 4 bytes are)
    (λ x t h e. let m = tag_means tags x t h e in (ap (little_bytes 4) m.0, m.1))
