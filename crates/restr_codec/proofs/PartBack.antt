-- What is written of a restriction reads as the same restriction.
use Rattle.std.proofs.Common.{Some, ◌≡◌, ◌≤◌, ◌<◌, ◌∙◌, ℕ, suc, ◌-◌, ◌^◌, Bool, true, false, ◌&&◌, List, [], ◌∷◌, ◌++◌, length, Ok, refl, sym, ap, arith, nat_eq, nat_le, nat_lt, append_assoc, append-nil}
use Rattle.std.specs.List.{flat_map, list_all}
use Rattle.std.proofs.lemmas.Bool.{and_parts, leb-true, ltb-true, ne_eqb}
use Rattle.byteorder.specs.Endian.{little_bytes}
use Rattle.mapi_values.specs.Values.{Val}
use Rattle.mapi_values.specs.declared.value.Tag.{Tag}
use Rattle.restr_codec.specs.declared.fields.Tags.TheVariants.{Any, Just, OfContent, OfKind, OfValues}
use Rattle.restr_codec.specs.declared.restriction.BitTest.{BitTest}
use Rattle.restr_codec.specs.declared.restriction.FuzzyFlags.{FuzzyFlags}
use Rattle.restr_codec.specs.declared.restriction.FuzzyLevel.{FuzzyLevel}
use Rattle.restr_codec.specs.declared.restriction.Relation.{Relation}
use Rattle.restr_codec.specs.Kinds.{is_content_kind, is_value_kind}
use Rattle.restr_codec.specs.Restr.{Restr, Restrs, and_of, or_of, not_of, content, property, compare, bit_mask, size_of, exist, sub_object, remark, comment, none, more, count, count_all, depth, depth_of_all, how_many}
use Rattle.restr_codec.specs.Reading.{Part, bit_mask_read, by_code, code, code_in, comment_read, commented, compare_read, content_read, ended, exist_read, flags_of, group_read, grouped, held, level_of, next, number, part, placed, property_read, reading, relation_of, several, size_read, started, sub_object_read, tag, tagged, tagged_values, test_of, truth_of}
use Rattle.restr_codec.specs.Spelling.{are_allowed, are_tagged_values, content_bytes, flags_code, group_bytes, has_spelling, is_allowed, is_tag, is_tagged_value, level_code, relation_code, spelling, spelling_of_all, table_tag, tag_bytes, tag_of, tagged_bytes, test_code}
use Rattle.restr_codec.proofs.Counts.{count_some}
use Rattle.restr_codec.proofs.FieldLaws.{absent_read, byte_back, flags_read, level_read, number_back, present_read, relation_read, table_read, tag_read, test_read}
use Rattle.restr_codec.proofs.ReadLaws.{deeper}
use Rattle.restr_codec.proofs.ValueBack.{just_itself, tagged_read, tagged_values_read}
use Rattle.restr_codec.proofs.WriteLaws.{tagged_value}

three : (a b c rest : List ℕ) → (a ++ (b ++ c)) ++ rest ≡ a ++ (b ++ (c ++ rest))
three a b c rest = append_assoc a (b ++ c) rest ∙ ap (λ xs. a ++ xs) (append_assoc b c rest)

content_back : (level : FuzzyLevel) (flags : FuzzyFlags) (v : Val) (rest : List ℕ) → is_content_kind v.kind ≡ true → is_tagged_value v ≡ true → content_read (content_bytes level flags v ++ rest) ≡ Ok (content level flags v, rest)
content_back level flags v rest kind h =
    let b4 : List ℕ = tagged_bytes v ++ rest in
    let b3 : List ℕ = tag_bytes (tag_of v) ++ b4 in
    let b2 : List ℕ = little_bytes 2 (flags_code flags) ++ b3 in
    let b1 : List ℕ = little_bytes 2 (level_code level) ++ b2 in
    let apart : content_bytes level flags v ++ rest ≡ b1 =
    append_assoc (little_bytes 2 (level_code level)) (little_bytes 2 (flags_code flags) ++ (tag_bytes (tag_of v) ++ tagged_bytes v)) rest
    ∙ ap (λ xs. little_bytes 2 (level_code level) ++ xs) (three (little_bytes 2 (flags_code flags)) (tag_bytes (tag_of v)) (tagged_bytes v) rest) in
    let e1 : code 2 level_of b1 ≡ Ok (level, b2) = level_read level b2 in
    let e2 : code 2 flags_of b2 ≡ Ok (flags, b3) = flags_read flags b3 in
    let e3 : tag OfContent b3 ≡ Ok (tag_of v, b4) = tag_read OfContent (tag_of v) b4 (tagged_value v h).tag kind in
    let e4 : tagged (Just (tag_of v)) b4 ≡ Ok (v, rest) = tagged_read (Just (tag_of v)) v rest h (just_itself (tag_of v)) in
    ap content_read apart
    ∙ ap (λ a. next a (λ level bytes1. next (code 2 flags_of bytes1) (λ flags bytes2. next (tag OfContent bytes2) (λ t bytes3. next (tagged (Just t) bytes3) (λ v bytes4. Ok (content level flags v, bytes4)))))) e1
    ∙ ap (λ a. next a (λ flags bytes2. next (tag OfContent bytes2) (λ t bytes3. next (tagged (Just t) bytes3) (λ v bytes4. Ok (content level flags v, bytes4))))) e2
    ∙ ap (λ a. next a (λ t bytes3. next (tagged (Just t) bytes3) (λ v bytes4. Ok (content level flags v, bytes4)))) e3
    ∙ ap (λ a. next a (λ v bytes4. Ok (content level flags v, bytes4))) e4

property_back : (relation : Relation) (v : Val) (rest : List ℕ) → is_tagged_value v ≡ true → property_read (relation_code relation ∷ ((tag_bytes (tag_of v) ++ tagged_bytes v) ++ rest)) ≡ Ok (property relation v, rest)
property_back relation v rest h =
    let b2 : List ℕ = tagged_bytes v ++ rest in
    let b1 : List ℕ = tag_bytes (tag_of v) ++ b2 in
    let e1 : code 1 relation_of (relation_code relation ∷ b1) ≡ Ok (relation, b1) = relation_read relation b1 in
    let e2 : tag OfValues b1 ≡ Ok (tag_of v, b2) = tag_read OfValues (tag_of v) b2 (tagged_value v h).tag (tagged_value v h).kind in
    let e3 : tagged (Just (tag_of v)) b2 ≡ Ok (v, rest) = tagged_read (Just (tag_of v)) v rest h (just_itself (tag_of v)) in
    ap (λ xs. property_read (relation_code relation ∷ xs)) (append_assoc (tag_bytes (tag_of v)) (tagged_bytes v) rest)
    ∙ ap (λ a. next a (λ relation bytes1. next (tag OfValues bytes1) (λ t bytes2. next (tagged (Just t) bytes2) (λ v bytes3. Ok (property relation v, bytes3))))) e1
    ∙ ap (λ a. next a (λ t bytes2. next (tagged (Just t) bytes2) (λ v bytes3. Ok (property relation v, bytes3)))) e2
    ∙ ap (λ a. next a (λ v bytes3. Ok (property relation v, bytes3))) e3

compare_back : (relation : Relation) (a b : Tag) (rest : List ℕ) → is_tag a ≡ true → is_tag b ≡ true → is_value_kind a.kind ≡ true → nat_eq b.kind a.kind ≡ true
    → compare_read (relation_code relation ∷ ((tag_bytes a ++ tag_bytes b) ++ rest)) ≡ Ok (compare relation a b, rest)
compare_back relation a b rest ta tb kind same =
    let b2 : List ℕ = tag_bytes b ++ rest in
    let b1 : List ℕ = tag_bytes a ++ b2 in
    let e1 : code 1 relation_of (relation_code relation ∷ b1) ≡ Ok (relation, b1) = relation_read relation b1 in
    let e2 : tag OfValues b1 ≡ Ok (a, b2) = tag_read OfValues a b2 ta kind in
    let e3 : tag (OfKind a.kind) b2 ≡ Ok (b, rest) = tag_read (OfKind a.kind) b rest tb same in
    ap (λ xs. compare_read (relation_code relation ∷ xs)) (append_assoc (tag_bytes a) (tag_bytes b) rest)
    ∙ ap (λ x. next x (λ relation bytes1. next (tag OfValues bytes1) (λ a bytes2. next (tag (OfKind a.kind) bytes2) (λ b bytes3. Ok (compare relation a b, bytes3))))) e1
    ∙ ap (λ x. next x (λ a bytes2. next (tag (OfKind a.kind) bytes2) (λ b bytes3. Ok (compare relation a b, bytes3)))) e2
    ∙ ap (λ x. next x (λ b bytes3. Ok (compare relation a b, bytes3))) e3

bit_mask_back : (test : BitTest) (t : Tag) (mask : ℕ) (rest : List ℕ) → is_tag t ≡ true → nat_eq t.kind 0x0003 ≡ true → mask < 256 ^ 4
    → bit_mask_read (test_code test ∷ ((tag_bytes t ++ little_bytes 4 mask) ++ rest)) ≡ Ok (bit_mask test t mask, rest)
bit_mask_back test t mask rest tt' kind small =
    let b2 : List ℕ = little_bytes 4 mask ++ rest in
    let b1 : List ℕ = tag_bytes t ++ b2 in
    let e1 : code 1 test_of (test_code test ∷ b1) ≡ Ok (test, b1) = test_read test b1 in
    let e2 : tag (OfKind 0x0003) b1 ≡ Ok (t, b2) = tag_read (OfKind 0x0003) t b2 tt' kind in
    let e3 : number 4 b2 ≡ Ok (mask, rest) = number_back 4 mask rest small in
    ap (λ xs. bit_mask_read (test_code test ∷ xs)) (append_assoc (tag_bytes t) (little_bytes 4 mask) rest)
    ∙ ap (λ x. next x (λ test bytes1. next (tag (OfKind 0x0003) bytes1) (λ t bytes2. next (number 4 bytes2) (λ mask bytes3. Ok (bit_mask test t mask, bytes3))))) e1
    ∙ ap (λ x. next x (λ t bytes2. next (number 4 bytes2) (λ mask bytes3. Ok (bit_mask test t mask, bytes3)))) e2
    ∙ ap (λ x. next x (λ mask bytes3. Ok (bit_mask test t mask, bytes3))) e3

size_back : (relation : Relation) (t : Tag) (n : ℕ) (rest : List ℕ) → is_tag t ≡ true → n < 256 ^ 4 → size_read (relation_code relation ∷ ((tag_bytes t ++ little_bytes 4 n) ++ rest)) ≡ Ok (size_of relation t n, rest)
size_back relation t n rest tt' small =
    let b2 : List ℕ = little_bytes 4 n ++ rest in
    let b1 : List ℕ = tag_bytes t ++ b2 in
    let e1 : code 1 relation_of (relation_code relation ∷ b1) ≡ Ok (relation, b1) = relation_read relation b1 in
    let e2 : tag Any b1 ≡ Ok (t, b2) = tag_read Any t b2 tt' refl in
    let e3 : number 4 b2 ≡ Ok (n, rest) = number_back 4 n rest small in
    ap (λ xs. size_read (relation_code relation ∷ xs)) (append_assoc (tag_bytes t) (little_bytes 4 n) rest)
    ∙ ap (λ x. next x (λ relation bytes1. next (tag Any bytes1) (λ t bytes2. next (number 4 bytes2) (λ n bytes3. Ok (size_of relation t n, bytes3))))) e1
    ∙ ap (λ x. next x (λ t bytes2. next (number 4 bytes2) (λ n bytes3. Ok (size_of relation t n, bytes3)))) e2
    ∙ ap (λ x. next x (λ n bytes3. Ok (size_of relation t n, bytes3))) e3

exist_back : (t : Tag) (rest : List ℕ) → is_tag t ≡ true → exist_read (tag_bytes t ++ rest) ≡ Ok (exist t, rest)
exist_back t rest tt' = ap (λ x. next x (λ t bytes1. Ok (exist t, bytes1))) (tag_read Any t rest tt' refl)

-- the values of a comment, behind which stands what follows
values_back : (one : Part) (vs : List Val) (left : ℕ) (tail rest : List ℕ) (present : Bool) → are_tagged_values vs ≡ true → code 1 truth_of tail ≡ Ok (present, rest)
    → comment_read one left (length vs ∷ (flat_map tagged_bytes vs ++ tail)) ≡ commented one vs present left rest
values_back one vs left tail rest present h e =
    let parts = and_parts (nat_lt (length vs) 256) (list_all is_tagged_value vs) h in
    let e1 : number 1 (length vs ∷ (flat_map tagged_bytes vs ++ tail)) ≡ Ok (length vs, flat_map tagged_bytes vs ++ tail) = byte_back (length vs) (flat_map tagged_bytes vs ++ tail) in
    let e2 : tagged_values (length vs) (flat_map tagged_bytes vs ++ tail) ≡ Ok (vs, tail) = tagged_values_read vs tail parts.1 in
    ap (λ x. next x (λ n bytes1. next (tagged_values n bytes1) (λ vs bytes2. next (code 1 truth_of bytes2) (λ present bytes3. commented one vs present left bytes3)))) e1
    ∙ ap (λ x. next x (λ vs bytes2. next (code 1 truth_of bytes2) (λ present bytes3. commented one vs present left bytes3))) e2
    ∙ ap (λ x. next x (λ present bytes3. commented one vs present left bytes3)) e

-- the first byte is read, and what follows is read one level deeper
code_any : (inner : Bool) (c : ℕ) → nat_le c 10 ≡ true → nat_eq c 9 ≡ false → code_in inner c ≡ Some c
unfolding code_in
code_any true c small other = rw (small, other) refl
code_any false c small other = rw small refl

enter : (deep : ℕ) (inner : Bool) (left c : ℕ) (bytes : List ℕ) → (deep ≡ 0 → ⊥) → (left ≡ 0 → ⊥) → code_in inner c ≡ Some c → part deep inner left (c ∷ bytes) ≡ by_code (part (deep - 1)) inner c (left - 1) bytes
enter deep inner left c bytes some room may =
    deeper deep inner left (c ∷ bytes) some
    ∙ ap (λ x. next x (λ c bytes1. by_code (part (deep - 1)) inner c (left - 1) bytes1)) (first ∙ ap (λ o. held (c ∷ bytes) bytes o) may)
  where
    first : started inner left (c ∷ bytes) ≡ held (c ∷ bytes) bytes (code_in inner c)
    first = rw (ne_eqb left 0 room, byte_back c bytes) refl

sub_code : code_in false 9 ≡ Some 9
unfolding code_in
sub_code = refl

how_many_count : (rs : Restrs) → how_many rs ≤ count_all rs
how_many_count none = omega arith
how_many_count (more r rs) = omega (arith, count_some r, how_many_count rs)

group_back : (or : Bool) (rs : Restrs) (deep : ℕ) (inner : Bool) (left : ℕ) (rest : List ℕ)
    → several (part deep inner) (how_many rs) (left - 1) (spelling_of_all rs ++ rest) ≡ Ok ((rs, left - 1 - count_all rs), rest) → how_many rs < 256 ^ 2
    → group_read (grouped or) (part deep inner) (left - 1) (group_bytes rs ++ rest) ≡ Ok ((grouped or rs, left - suc (count_all rs)), rest)
group_back or rs deep inner left rest e few =
    ap (λ xs. group_read (grouped or) (part deep inner) (left - 1) xs) (append_assoc (little_bytes 2 (how_many rs)) (spelling_of_all rs) rest)
    ∙ ap (λ x. next x (λ n bytes1. next (several (part deep inner) n (left - 1) bytes1) (λ p bytes2. Ok ((grouped or p.0, p.1), bytes2)))) (number_back 2 (how_many rs) (spelling_of_all rs ++ rest) few)
    ∙ ap (λ x. next x (λ p bytes2. Ok ((grouped or p.0, p.1), bytes2))) e
    ∙ ap (λ n. Ok ((grouped or rs, n), rest)) (omega arith)

mutual
  part_back : (r : Restr) (deep : ℕ) (inner : Bool) (left : ℕ) (rest : List ℕ) → is_allowed inner r ≡ true → depth r ≤ deep → count r ≤ left → left ≤ 256 → part deep inner left (spelling r ++ rest) ≡ Ok ((r, left - count r), rest)
  part_back (and_of rs) deep inner left rest h d c few =
      enter deep inner left 0 (group_bytes rs ++ rest) (λ e. omega (arith, d, e)) (λ e. omega (arith, c, e)) (code_any inner 0 refl refl)
      ∙ group_back false rs (deep - 1) inner left rest (all_back rs (deep - 1) inner (left - 1) rest h (omega (arith, d)) (omega (arith, c)) (omega (arith, few))) (omega (arith, how_many_count rs, c, few))
  part_back (or_of rs) deep inner left rest h d c few =
      enter deep inner left 1 (group_bytes rs ++ rest) (λ e. omega (arith, d, e)) (λ e. omega (arith, c, e)) (code_any inner 1 refl refl)
      ∙ group_back true rs (deep - 1) inner left rest (all_back rs (deep - 1) inner (left - 1) rest h (omega (arith, d)) (omega (arith, c)) (omega (arith, few))) (omega (arith, how_many_count rs, c, few))
  part_back (not_of r) deep inner left rest h d c few =
      enter deep inner left 2 (spelling r ++ rest) (λ e. omega (arith, d, e)) (λ e. omega (arith, c, e)) (code_any inner 2 refl refl)
      ∙ ap (λ x. next x (λ p bytes1. Ok ((not_of p.0, p.1), bytes1))) (part_back r (deep - 1) inner (left - 1) rest h (omega (arith, d)) (omega (arith, c)) (omega (arith, few)))
      ∙ ap (λ n. Ok ((not_of r, n), rest)) (omega arith)
  part_back (content level flags v) deep inner left rest h d c few =
      let parts = and_parts (is_content_kind v.kind) (is_tagged_value v) h in
      enter deep inner left 3 (content_bytes level flags v ++ rest) (λ e. omega (arith, d, e)) (λ e. omega (arith, c, e)) (code_any inner 3 refl refl)
      ∙ ap (λ x. next x (λ r bytes1. Ok ((r, left - 1), bytes1))) (content_back level flags v rest parts.0 parts.1)
  part_back (property relation v) deep inner left rest h d c few =
      enter deep inner left 4 (relation_code relation ∷ ((tag_bytes (tag_of v) ++ tagged_bytes v) ++ rest)) (λ e. omega (arith, d, e)) (λ e. omega (arith, c, e)) (code_any inner 4 refl refl)
      ∙ ap (λ x. next x (λ r bytes1. Ok ((r, left - 1), bytes1))) (property_back relation v rest h)
  part_back (compare relation a b) deep inner left rest h d c few =
      let parts = and_parts (is_tag a && is_tag b) (is_value_kind a.kind && nat_eq b.kind a.kind) h in
      let tags = and_parts (is_tag a) (is_tag b) parts.0 in
      let kinds = and_parts (is_value_kind a.kind) (nat_eq b.kind a.kind) parts.1 in
      enter deep inner left 5 (relation_code relation ∷ ((tag_bytes a ++ tag_bytes b) ++ rest)) (λ e. omega (arith, d, e)) (λ e. omega (arith, c, e)) (code_any inner 5 refl refl)
      ∙ ap (λ x. next x (λ r bytes1. Ok ((r, left - 1), bytes1))) (compare_back relation a b rest tags.0 tags.1 kinds.0 kinds.1)
  part_back (bit_mask test t mask) deep inner left rest h d c few =
      let parts = and_parts (is_tag t) (nat_eq t.kind 0x0003 && nat_lt mask 0x1_0000_0000) h in
      let more' = and_parts (nat_eq t.kind 0x0003) (nat_lt mask 0x1_0000_0000) parts.1 in
      let small = ltb-true mask 0x1_0000_0000 more'.1 in
      enter deep inner left 6 (test_code test ∷ ((tag_bytes t ++ little_bytes 4 mask) ++ rest)) (λ e. omega (arith, d, e)) (λ e. omega (arith, c, e)) (code_any inner 6 refl refl)
      ∙ ap (λ x. next x (λ r bytes1. Ok ((r, left - 1), bytes1))) (bit_mask_back test t mask rest parts.0 more'.0 small)
  part_back (size_of relation t n) deep inner left rest h d c few =
      let parts = and_parts (is_tag t) (nat_lt n 0x1_0000_0000) h in
      let small = ltb-true n 0x1_0000_0000 parts.1 in
      enter deep inner left 7 (relation_code relation ∷ ((tag_bytes t ++ little_bytes 4 n) ++ rest)) (λ e. omega (arith, d, e)) (λ e. omega (arith, c, e)) (code_any inner 7 refl refl)
      ∙ ap (λ x. next x (λ r bytes1. Ok ((r, left - 1), bytes1))) (size_back relation t n rest parts.0 small)
  part_back (exist t) deep inner left rest h d c few =
      enter deep inner left 8 (tag_bytes t ++ rest) (λ e. omega (arith, d, e)) (λ e. omega (arith, c, e)) (code_any inner 8 refl refl)
      ∙ ap (λ x. next x (λ r bytes1. Ok ((r, left - 1), bytes1))) (exist_back t rest h)
  part_back (sub_object table r) deep true left rest h d c few = absurd cc
  part_back (sub_object table r) deep false left rest h d c few =
      enter deep false left 9 ((tag_bytes (table_tag table) ++ spelling r) ++ rest) (λ e. omega (arith, d, e)) (λ e. omega (arith, c, e)) sub_code
      ∙ ap (λ xs. sub_object_read (part (deep - 1) true) (left - 1) xs) (append_assoc (tag_bytes (table_tag table)) (spelling r) rest)
      ∙ ap (λ x. next x (λ table bytes1. next (part (deep - 1) true (left - 1) bytes1) (λ p bytes2. Ok ((sub_object table p.0, p.1), bytes2)))) (table_read table (spelling r ++ rest))
      ∙ ap (λ x. next x (λ p bytes1. Ok ((sub_object table p.0, p.1), bytes1))) (part_back r (deep - 1) true (left - 1) rest h (omega (arith, d)) (omega (arith, c)) (omega (arith, few)))
      ∙ ap (λ n. Ok ((sub_object table r, n), rest)) (omega arith)
  part_back (remark vs) deep inner left rest h d c few =
      enter deep inner left 10 (length vs ∷ ((flat_map tagged_bytes vs ++ 0 ∷ []) ++ rest)) (λ e. omega (arith, d, e)) (λ e. omega (arith, c, e)) (code_any inner 10 refl refl)
      ∙ ap (λ xs. comment_read (part (deep - 1) inner) (left - 1) (length vs ∷ xs)) (append_assoc (flat_map tagged_bytes vs) (0 ∷ []) rest)
      ∙ values_back (part (deep - 1) inner) vs (left - 1) (0 ∷ rest) rest false h (absent_read rest)
  part_back (comment vs r) deep inner left rest h d c few =
      let parts = and_parts (are_tagged_values vs) (is_allowed inner r) h in
      enter deep inner left 10 (length vs ∷ ((flat_map tagged_bytes vs ++ 1 ∷ spelling r) ++ rest)) (λ e. omega (arith, d, e)) (λ e. omega (arith, c, e)) (code_any inner 10 refl refl)
      ∙ ap (λ xs. comment_read (part (deep - 1) inner) (left - 1) (length vs ∷ xs)) (append_assoc (flat_map tagged_bytes vs) (1 ∷ spelling r) rest)
      ∙ values_back (part (deep - 1) inner) vs (left - 1) (1 ∷ (spelling r ++ rest)) (spelling r ++ rest) true parts.0 (present_read (spelling r ++ rest))
      ∙ ap (λ x. next x (λ p bytes1. Ok ((comment vs p.0, p.1), bytes1))) (part_back r (deep - 1) inner (left - 1) rest parts.1 (omega (arith, d)) (omega (arith, c)) (omega (arith, few)))
      ∙ ap (λ n. Ok ((comment vs r, n), rest)) (omega arith)

  all_back : (rs : Restrs) (deep : ℕ) (inner : Bool) (left : ℕ) (rest : List ℕ) → are_allowed inner rs ≡ true → depth_of_all rs ≤ deep → count_all rs ≤ left → left ≤ 256
      → several (part deep inner) (how_many rs) left (spelling_of_all rs ++ rest) ≡ Ok ((rs, left - count_all rs), rest)
  all_back none deep inner left rest h d c few = ap (λ n. Ok ((none, n), rest)) (omega arith)
  all_back (more r rs) deep inner left rest h d c few =
      let parts = and_parts (is_allowed inner r) (are_allowed inner rs) h in
      ap (several (part deep inner) (suc (how_many rs)) left) (append_assoc (spelling r) (spelling_of_all rs) rest)
      ∙ ap (λ x. next x (λ p bytes1. next (several (part deep inner) (how_many rs) p.1 bytes1) (λ q bytes2. Ok ((more p.0 q.0, q.1), bytes2))))
      (part_back r deep inner left (spelling_of_all rs ++ rest) parts.0 (omega (arith, d)) (omega (arith, c)) few)
      ∙ ap (λ x. next x (λ q bytes2. Ok ((more r q.0, q.1), bytes2))) (all_back rs deep inner (left - count r) rest parts.1 (omega (arith, d)) (omega (arith, c)) (omega (arith, few)))
      ∙ ap (λ n. Ok ((more r rs, n), rest)) (omega arith)

-- what is written reads as what was written
pub reading_back : (r : Restr) → has_spelling r ≡ true → reading (spelling r) ≡ Ok r
unfolding reading has_spelling
reading_back r h =
    let parts = and_parts (is_allowed false r) (nat_le (count r) 256 && nat_le (depth r) 16) h in
    let limits = and_parts (nat_le (count r) 256) (nat_le (depth r) 16) parts.1 in
    let read : part 16 false 256 (spelling r) ≡ Ok ((r, 256 - count r), []) =
    ap (part 16 false 256) (sym (append-nil (spelling r)))
    ∙ part_back r 16 false 256 [] parts.0 (leb-true (depth r) 16 limits.1) (leb-true (count r) 256 limits.0) (omega arith) in
    ap (λ x. placed (length (spelling r)) (next x ended)) read
