-- What is read of bytes is spelled by them.
use Rattle.std.proofs.Common.{inl, inr, ◌≡◌, ◌≤◌, ◌<◌, ◌∙◌, ℕ, zero, suc, ◌+◌, ◌-◌, ◌^◌, ◌==◌, Bool, true, false, not, ◌&&◌, List, [], ◌∷◌, ◌++◌, length, Some, Ok, refl, sym, ap, subst, arith, nat_eq, nat_le, nat_lt, append_assoc, append-nil}
use Rattle.std.specs.List.{flat_map, list_all}
use Rattle.std.proofs.lemmas.Bool.{and_from, and_parts, cases_Bool, eqb-true, eqb-false, eq-eqb, le-leb, leb-true, lt-ltb}
use Rattle.byteorder.specs.Endian.{little_bytes}
use Rattle.mapi_values.specs.Values.{Val}
use Rattle.mapi_values.specs.declared.value.Tag.{Tag}
use Rattle.restr_codec.specs.declared.fields.Tags.{Tags}
use Rattle.restr_codec.specs.declared.fields.Tags.TheVariants.{Any, Just, OfContent, OfKind, OfValues}
use Rattle.restr_codec.specs.Kinds.{is_content_kind, is_value_kind}
use Rattle.restr_codec.specs.Restr.{Restr, Restrs, not_of, content, property, compare, bit_mask, size_of, exist, sub_object, comment, more, count, count_all, depth, depth_of_all, how_many}
use Rattle.restr_codec.specs.Reading.{Part, Read, allows, bit_mask_read, by_code, code, code_in, comment_read, commented, compare_read, content_read, ended, exist_read, flags_of, group_read, grouped, leaf_by_code, leaf_read, level_of, next, not_read, number, part, property_read, relation_of, several, size_read, started, sub_object_read, table_of, tag, tagged, tagged_values, test_of, truth_of, whole}
use Rattle.restr_codec.specs.Spelling.{are_allowed, are_tagged_values, flags_code, group_bytes, has_spelling, is_allowed, is_tag, is_tagged_value, level_code, relation_code, spelling, spelling_of_all, table_tag, tag_bytes, tag_of, tagged_bytes, test_code}
use Rattle.restr_codec.proofs.FieldLaws as fields
use Rattle.restr_codec.proofs.FieldLaws.{AreBytes, Field, Finds, byte_finds, code_finds, finds_if, finds_next, flags_finds, level_finds, number_finds, relation_finds, table_finds, tag_finds, test_finds, truth_code, truth_finds}
use Rattle.restr_codec.proofs.ValueBack.{IsTagged, tagged_finds, tagged_values_find}

-- the tag of a value that was read with just that tag
same_tag : (t : Tag) (v : Val) → allows (Just t) (tag_of v) ≡ true → t ≡ tag_of v
same_tag t v h =
    let parts = and_parts (nat_eq v.id t.id) (nat_eq v.kind t.kind) h in
    ap (λ x. tag_at x t.kind) (sym (eqb-true v.id t.id parts.0)) ∙ ap (λ y. tag_at v.id y) (sym (eqb-true v.kind t.kind parts.1))
  where
    tag_at : ℕ → ℕ → Tag
    tag_at id kind = record { id = id; kind = kind }

content_value_kind : (kind : ℕ) → is_content_kind kind ≡ true → is_value_kind kind ≡ true
content_value_kind kind h = rw h refl

just_kind : (t : Tag) → is_value_kind t.kind ≡ true → (s : Tag) → allows (Just t) s ≡ true → is_value_kind s.kind ≡ true
just_kind t k s h = let parts = and_parts (nat_eq s.id t.id) (nat_eq s.kind t.kind) h in subst (λ kind. is_value_kind kind ≡ true) (sym (eqb-true s.kind t.kind parts.1)) k

joined2 : (a b x x1 rest : List ℕ) → x ≡ a ++ x1 → x1 ≡ b ++ rest → x ≡ (a ++ b) ++ rest
joined2 a b x x1 rest e1 e2 = e1 ∙ (ap (λ xs. a ++ xs) e2 ∙ sym (append_assoc a b rest))

joined3 : (a b c x x1 x2 rest : List ℕ) → x ≡ a ++ x1 → x1 ≡ b ++ x2 → x2 ≡ c ++ rest → x ≡ (a ++ (b ++ c)) ++ rest
joined3 a b c x x1 x2 rest e1 e2 e3 = joined2 a (b ++ c) x x1 rest e1 (joined2 b c x1 x2 rest e2 e3)

joined4 : (a b c d x x1 x2 x3 rest : List ℕ) → x ≡ a ++ x1 → x1 ≡ b ++ x2 → x2 ≡ c ++ x3 → x3 ≡ d ++ rest → x ≡ (a ++ (b ++ (c ++ d))) ++ rest
joined4 a b c d x x1 x2 x3 rest e1 e2 e3 e4 = joined2 a (b ++ (c ++ d)) x x1 rest e1 (joined3 b c d x1 x2 x3 rest e2 e3 e4)

-- a restriction with no other within it, read behind its first byte c
pub record LeafFound (c : ℕ) (bytes : List ℕ) (r : Restr) (rest : List ℕ) : Type 0 where
  pub spelled : c ∷ bytes ≡ spelling r ++ rest
  pub allowed : (inner : Bool) → is_allowed inner r ≡ true
  pub one : count r ≡ 1
  pub flat : depth r ≡ 1
  pub less : length rest ≤ length bytes
  pub are : AreBytes rest

Tagged : Tags → Tag → Type 0
Tagged tags t = (is_tag t ≡ true) × (allows tags t ≡ true)

content_found : (bytes : List ℕ) → AreBytes bytes → Finds (LeafFound 3 bytes) (length bytes) (content_read bytes)
unfolding Tagged
content_found bytes are =
    finds_next (Field (λ l. little_bytes 2 (level_code l)) fields.Any bytes) (LeafFound 3 bytes) (length bytes) (length bytes) (code 2 level_of bytes)
    (λ level bytes1. next (code 2 flags_of bytes1) (λ flags bytes2. next (tag OfContent bytes2) (λ t bytes3. next (tagged (Just t) bytes3) (λ v bytes4. Ok (content level flags v, bytes4)))))
    (omega arith) (level_finds bytes are)
    (λ level bytes1 q1. finds_next (Field (λ f. little_bytes 2 (flags_code f)) fields.Any bytes1) (LeafFound 3 bytes) (length bytes1) (length bytes) (code 2 flags_of bytes1)
    (λ flags bytes2. next (tag OfContent bytes2) (λ t bytes3. next (tagged (Just t) bytes3) (λ v bytes4. Ok (content level flags v, bytes4))))
    q1.less (flags_finds bytes1 q1.are)
    (λ flags bytes2 q2. finds_next (Field tag_bytes (Tagged OfContent) bytes2) (LeafFound 3 bytes) (length bytes2) (length bytes) (tag OfContent bytes2)
    (λ t bytes3. next (tagged (Just t) bytes3) (λ v bytes4. Ok (content level flags v, bytes4)))
    (omega (arith, q1.less, q2.less)) (tag_finds OfContent bytes2 q2.are)
    (λ t bytes3 q3. finds_next (Field tagged_bytes (IsTagged (Just t)) bytes3) (LeafFound 3 bytes) (length bytes3) (length bytes) (tagged (Just t) bytes3)
    (λ v bytes4. Ok (content level flags v, bytes4))
    (omega (arith, q1.less, q2.less, q3.less)) (tagged_finds (Just t) bytes3 q3.are (just_kind t (content_value_kind t.kind q3.holds.1)))
    (λ v rest q4. let same = same_tag t v q4.holds.allowed in record {
      spelled = ap (λ xs. 3 ∷ xs) (joined4 (little_bytes 2 (level_code level)) (little_bytes 2 (flags_code flags)) (tag_bytes (tag_of v)) (tagged_bytes v) bytes bytes1 bytes2 bytes3 rest
          q1.spelled q2.spelled (q3.spelled ∙ ap (λ s. tag_bytes s ++ bytes3) same) q4.spelled);
      allowed = λ inner. and_from (is_content_kind v.kind) (is_tagged_value v) (subst (λ (s : Tag). is_content_kind s.kind ≡ true) same q3.holds.1) q4.holds.value;
      one = refl;
      flat = refl;
      less = omega (arith, q1.less, q2.less, q3.less, q4.less);
      are = q4.are;
    }))))

property_found : (bytes : List ℕ) → AreBytes bytes → Finds (LeafFound 4 bytes) (length bytes) (property_read bytes)
unfolding Tagged
property_found bytes are =
    finds_next (Field (λ r. relation_code r ∷ []) fields.Any bytes) (LeafFound 4 bytes) (length bytes) (length bytes) (code 1 relation_of bytes)
    (λ relation bytes1. next (tag OfValues bytes1) (λ t bytes2. next (tagged (Just t) bytes2) (λ v bytes3. Ok (property relation v, bytes3))))
    (omega arith) (relation_finds bytes are)
    (λ relation bytes1 q1. finds_next (Field tag_bytes (Tagged OfValues) bytes1) (LeafFound 4 bytes) (length bytes1) (length bytes) (tag OfValues bytes1)
    (λ t bytes2. next (tagged (Just t) bytes2) (λ v bytes3. Ok (property relation v, bytes3)))
    q1.less (tag_finds OfValues bytes1 q1.are)
    (λ t bytes2 q2. finds_next (Field tagged_bytes (IsTagged (Just t)) bytes2) (LeafFound 4 bytes) (length bytes2) (length bytes) (tagged (Just t) bytes2)
    (λ v bytes3. Ok (property relation v, bytes3))
    (omega (arith, q1.less, q2.less)) (tagged_finds (Just t) bytes2 q2.are (just_kind t q2.holds.1))
    (λ v rest q3. let same = same_tag t v q3.holds.allowed in record {
      spelled = ap (λ xs. 4 ∷ xs) (joined3 (relation_code relation ∷ []) (tag_bytes (tag_of v)) (tagged_bytes v) bytes bytes1 bytes2 rest
          q1.spelled (q2.spelled ∙ ap (λ s. tag_bytes s ++ bytes2) same) q3.spelled);
      allowed = λ inner. q3.holds.value;
      one = refl;
      flat = refl;
      less = omega (arith, q1.less, q2.less, q3.less);
      are = q3.are;
    })))

compare_found : (bytes : List ℕ) → AreBytes bytes → Finds (LeafFound 5 bytes) (length bytes) (compare_read bytes)
unfolding Tagged
compare_found bytes are =
    finds_next (Field (λ r. relation_code r ∷ []) fields.Any bytes) (LeafFound 5 bytes) (length bytes) (length bytes) (code 1 relation_of bytes)
    (λ relation bytes1. next (tag OfValues bytes1) (λ a bytes2. next (tag (OfKind a.kind) bytes2) (λ b bytes3. Ok (compare relation a b, bytes3))))
    (omega arith) (relation_finds bytes are)
    (λ relation bytes1 q1. finds_next (Field tag_bytes (Tagged OfValues) bytes1) (LeafFound 5 bytes) (length bytes1) (length bytes) (tag OfValues bytes1)
    (λ a bytes2. next (tag (OfKind a.kind) bytes2) (λ b bytes3. Ok (compare relation a b, bytes3)))
    q1.less (tag_finds OfValues bytes1 q1.are)
    (λ a bytes2 q2. finds_next (Field tag_bytes (Tagged (OfKind a.kind)) bytes2) (LeafFound 5 bytes) (length bytes2) (length bytes) (tag (OfKind a.kind) bytes2)
    (λ b bytes3. Ok (compare relation a b, bytes3))
    (omega (arith, q1.less, q2.less)) (tag_finds (OfKind a.kind) bytes2 q2.are)
    (λ b rest q3. record {
      spelled = ap (λ xs. 5 ∷ xs) (joined3 (relation_code relation ∷ []) (tag_bytes a) (tag_bytes b) bytes bytes1 bytes2 rest q1.spelled q2.spelled q3.spelled);
      allowed = λ inner. and_from (is_tag a && is_tag b) (is_value_kind a.kind && nat_eq b.kind a.kind) (and_from (is_tag a) (is_tag b) q2.holds.0 q3.holds.0)
          (and_from (is_value_kind a.kind) (nat_eq b.kind a.kind) q2.holds.1 q3.holds.1);
      one = refl;
      flat = refl;
      less = omega (arith, q1.less, q2.less, q3.less);
      are = q3.are;
    })))

bit_mask_found : (bytes : List ℕ) → AreBytes bytes → Finds (LeafFound 6 bytes) (length bytes) (bit_mask_read bytes)
unfolding Tagged
bit_mask_found bytes are =
    finds_next (Field (λ t. test_code t ∷ []) fields.Any bytes) (LeafFound 6 bytes) (length bytes) (length bytes) (code 1 test_of bytes)
    (λ test bytes1. next (tag (OfKind 0x0003) bytes1) (λ t bytes2. next (number 4 bytes2) (λ mask bytes3. Ok (bit_mask test t mask, bytes3))))
    (omega arith) (test_finds bytes are)
    (λ test bytes1 q1. finds_next (Field tag_bytes (Tagged (OfKind 0x0003)) bytes1) (LeafFound 6 bytes) (length bytes1) (length bytes) (tag (OfKind 0x0003) bytes1)
    (λ t bytes2. next (number 4 bytes2) (λ mask bytes3. Ok (bit_mask test t mask, bytes3)))
    q1.less (tag_finds (OfKind 0x0003) bytes1 q1.are)
    (λ t bytes2 q2. finds_next (Field (little_bytes 4) (λ x. x < 256 ^ 4) bytes2) (LeafFound 6 bytes) (length bytes2) (length bytes) (number 4 bytes2)
    (λ mask bytes3. Ok (bit_mask test t mask, bytes3))
    (omega (arith, q1.less, q2.less)) (number_finds 4 bytes2 q2.are)
    (λ mask rest q3. let small : mask < 256 ^ 4 = q3.holds in record {
      spelled = ap (λ xs. 6 ∷ xs) (joined3 (test_code test ∷ []) (tag_bytes t) (little_bytes 4 mask) bytes bytes1 bytes2 rest q1.spelled q2.spelled q3.spelled);
      allowed = λ inner. and_from (is_tag t) (nat_eq t.kind 0x0003 && nat_lt mask 0x1_0000_0000) q2.holds.0 (and_from (nat_eq t.kind 0x0003) (nat_lt mask 0x1_0000_0000) q2.holds.1 (lt-ltb mask 0x1_0000_0000 small));
      one = refl;
      flat = refl;
      less = omega (arith, q1.less, q2.less, q3.less);
      are = q3.are;
    })))

size_found : (bytes : List ℕ) → AreBytes bytes → Finds (LeafFound 7 bytes) (length bytes) (size_read bytes)
unfolding Tagged
size_found bytes are =
    finds_next (Field (λ r. relation_code r ∷ []) fields.Any bytes) (LeafFound 7 bytes) (length bytes) (length bytes) (code 1 relation_of bytes)
    (λ relation bytes1. next (tag Any bytes1) (λ t bytes2. next (number 4 bytes2) (λ n bytes3. Ok (size_of relation t n, bytes3))))
    (omega arith) (relation_finds bytes are)
    (λ relation bytes1 q1. finds_next (Field tag_bytes (Tagged Any) bytes1) (LeafFound 7 bytes) (length bytes1) (length bytes) (tag Any bytes1)
    (λ t bytes2. next (number 4 bytes2) (λ n bytes3. Ok (size_of relation t n, bytes3)))
    q1.less (tag_finds Any bytes1 q1.are)
    (λ t bytes2 q2. finds_next (Field (little_bytes 4) (λ x. x < 256 ^ 4) bytes2) (LeafFound 7 bytes) (length bytes2) (length bytes) (number 4 bytes2)
    (λ n bytes3. Ok (size_of relation t n, bytes3))
    (omega (arith, q1.less, q2.less)) (number_finds 4 bytes2 q2.are)
    (λ n rest q3. let small : n < 256 ^ 4 = q3.holds in record {
      spelled = ap (λ xs. 7 ∷ xs) (joined3 (relation_code relation ∷ []) (tag_bytes t) (little_bytes 4 n) bytes bytes1 bytes2 rest q1.spelled q2.spelled q3.spelled);
      allowed = λ inner. and_from (is_tag t) (nat_lt n 0x1_0000_0000) q2.holds.0 (lt-ltb n 0x1_0000_0000 small);
      one = refl;
      flat = refl;
      less = omega (arith, q1.less, q2.less, q3.less);
      are = q3.are;
    })))

exist_found : (bytes : List ℕ) → AreBytes bytes → Finds (LeafFound 8 bytes) (length bytes) (exist_read bytes)
unfolding Tagged
exist_found bytes are =
    finds_next (Field tag_bytes (Tagged Any) bytes) (LeafFound 8 bytes) (length bytes) (length bytes) (tag Any bytes) (λ t bytes1. Ok (exist t, bytes1)) (omega arith) (tag_finds Any bytes are)
    (λ t rest q. record {
      spelled = ap (λ xs. 8 ∷ xs) q.spelled;
      allowed = λ inner. q.holds.0;
      one = refl;
      flat = refl;
      less = q.less;
      are = q.are;
    })

-- c is one of the codes of restrictions with no other within them
pub record IsLeafCode (c : ℕ) : Type 0 where
  pub low : 3 ≤ c
  pub high : c ≤ 8

at_code : (c k : ℕ) (bytes : List ℕ) (read : Read Restr) → (c == k) ≡ true → Finds (LeafFound k bytes) (length bytes) read → Finds (LeafFound c bytes) (length bytes) read
at_code c k bytes read y h = subst (λ j. Finds (LeafFound j bytes) (length bytes) read) (sym (eqb-true c k y)) h

leaf_found : (c : ℕ) (bytes : List ℕ) → AreBytes bytes → IsLeafCode c → Finds (LeafFound c bytes) (length bytes) (leaf_by_code c bytes)
leaf_found c bytes are code' =
    finds_if (LeafFound c bytes) (length bytes) (c == 3) _ _ (λ y. at_code c 3 bytes (content_read bytes) y (content_found bytes are))
    (λ n3. finds_if (LeafFound c bytes) (length bytes) (c == 4) _ _ (λ y. at_code c 4 bytes (property_read bytes) y (property_found bytes are))
    (λ n4. finds_if (LeafFound c bytes) (length bytes) (c == 5) _ _ (λ y. at_code c 5 bytes (compare_read bytes) y (compare_found bytes are))
    (λ n5. finds_if (LeafFound c bytes) (length bytes) (c == 6) _ _ (λ y. at_code c 6 bytes (bit_mask_read bytes) y (bit_mask_found bytes are))
    (λ n6. finds_if (LeafFound c bytes) (length bytes) (c == 7) _ _ (λ y. at_code c 7 bytes (size_read bytes) y (size_found bytes are))
    (λ n7. at_code c 8 bytes (exist_read bytes)
    (let e3 = eqb-false c 3 n3 in let e4 = eqb-false c 4 n4 in let e5 = eqb-false c 5 n5 in let e6 = eqb-false c 6 n6 in let e7 = eqb-false c 7 n7 in
    let low = code'.low in let high = code'.high in
    eq-eqb c 8 (omega arith))
    (exist_found bytes are))))))

-- ---- restrictions with others within them

pub record PartFound (deep : ℕ) (inner : Bool) (left : ℕ) (bytes : List ℕ) (p : Restr × ℕ) (rest : List ℕ) : Type 0 where
  pub spelled : bytes ≡ spelling p.0 ++ rest
  pub allowed : is_allowed inner p.0 ≡ true
  pub few : count p.0 + p.1 ≡ left
  pub flat : depth p.0 ≤ deep
  pub less : length rest ≤ length bytes
  pub are : AreBytes rest

pub record AllFound (n deep : ℕ) (inner : Bool) (left : ℕ) (bytes : List ℕ) (q : Restrs × ℕ) (rest : List ℕ) : Type 0 where
  pub spelled : bytes ≡ spelling_of_all q.0 ++ rest
  pub many : how_many q.0 ≡ n
  pub allowed : are_allowed inner q.0 ≡ true
  pub few : count_all q.0 + q.1 ≡ left
  pub flat : depth_of_all q.0 ≤ deep
  pub less : length rest ≤ length bytes
  pub are : AreBytes rest

-- what one gives, for whatever room there is, is found so
Founds : ℕ → (Bool → Part) → Type 0
Founds deep one = (inner : Bool) (left : ℕ) (bytes : List ℕ) → AreBytes bytes → Finds (PartFound deep inner left bytes) (length bytes) (one inner left bytes)

several_found : (deep : ℕ) (one : Bool → Part) → Founds deep one → (inner : Bool) (n left : ℕ) (bytes : List ℕ) → AreBytes bytes → Finds (AllFound n deep inner left bytes) (length bytes) (several (one inner) n left bytes)
unfolding Founds
several_found deep one found inner zero left bytes are = record { spelled = refl; many = refl; allowed = refl; few = omega arith; flat = omega arith; less = omega arith; are = are }
several_found deep one found inner (suc n) left bytes are =
    finds_next (PartFound deep inner left bytes) (AllFound (suc n) deep inner left bytes) (length bytes) (length bytes) (one inner left bytes)
    (λ p bytes1. next (several (one inner) n p.1 bytes1) (λ q bytes2. Ok ((more p.0 q.0, q.1), bytes2))) (omega arith) (found inner left bytes are)
    (λ p bytes1 a. finds_next (AllFound n deep inner p.1 bytes1) (AllFound (suc n) deep inner left bytes) (length bytes1) (length bytes) (several (one inner) n p.1 bytes1)
    (λ q bytes2. Ok ((more p.0 q.0, q.1), bytes2)) a.less (several_found deep one found inner n p.1 bytes1 a.are)
    (λ q rest b. record {
      spelled = joined2 (spelling p.0) (spelling_of_all q.0) bytes bytes1 rest a.spelled b.spelled;
      many = ap suc b.many;
      allowed = and_from (is_allowed inner p.0) (are_allowed inner q.0) a.allowed b.allowed;
      few = omega (arith, a.few, b.few);
      flat = omega (arith, a.flat, b.flat);
      less = omega (arith, a.less, b.less);
      are = b.are;
    }))

-- the first byte of an And or an Or
abbrev group_code : Bool → ℕ
group_code false = 0
group_code true = 1

grouped_spelling : (or : Bool) (rs : Restrs) → spelling (grouped or rs) ≡ group_code or ∷ group_bytes rs
grouped_spelling false rs = refl
grouped_spelling true rs = refl

grouped_allowed : (or inner : Bool) (rs : Restrs) → is_allowed inner (grouped or rs) ≡ are_allowed inner rs
grouped_allowed false inner rs = refl
grouped_allowed true inner rs = refl

grouped_count : (or : Bool) (rs : Restrs) → count (grouped or rs) ≡ suc (count_all rs)
grouped_count false rs = refl
grouped_count true rs = refl

grouped_depth : (or : Bool) (rs : Restrs) → depth (grouped or rs) ≡ suc (depth_of_all rs)
grouped_depth false rs = refl
grouped_depth true rs = refl

group_found : (deep : ℕ) (one : Bool → Part) → Founds deep one → (or inner : Bool) (left : ℕ) (bytes : List ℕ) → AreBytes bytes
    → Finds (PartFound (suc deep) inner (suc left) (group_code or ∷ bytes)) (suc (length bytes)) (group_read (grouped or) (one inner) left bytes)
group_found deep one found or inner left bytes are =
    finds_next (Field (little_bytes 2) (λ x. x < 256 ^ 2) bytes) (PartFound (suc deep) inner (suc left) (group_code or ∷ bytes)) (length bytes) (suc (length bytes)) (number 2 bytes)
    (λ n bytes1. next (several (one inner) n left bytes1) (λ p bytes2. Ok ((grouped or p.0, p.1), bytes2))) (omega arith) (number_finds 2 bytes are)
    (λ n bytes1 a. finds_next (AllFound n deep inner left bytes1) (PartFound (suc deep) inner (suc left) (group_code or ∷ bytes)) (length bytes1) (suc (length bytes)) (several (one inner) n left bytes1)
    (λ p bytes2. Ok ((grouped or p.0, p.1), bytes2)) (omega (arith, a.less)) (several_found deep one found inner n left bytes1 a.are)
    (λ q rest b. record {
      spelled = ap (λ xs. group_code or ∷ xs) (joined2 (little_bytes 2 (how_many q.0)) (spelling_of_all q.0) bytes bytes1 rest (a.spelled ∙ ap (λ k. little_bytes 2 k ++ bytes1) (sym b.many)) b.spelled)
          ∙ ap (λ xs. xs ++ rest) (sym (grouped_spelling or q.0));
      allowed = grouped_allowed or inner q.0 ∙ b.allowed;
      few = omega (arith, grouped_count or q.0, b.few);
      flat = omega (arith, grouped_depth or q.0, b.flat);
      less = omega (arith, a.less, b.less);
      are = b.are;
    }))

not_found : (deep : ℕ) (one : Bool → Part) → Founds deep one → (inner : Bool) (left : ℕ) (bytes : List ℕ) → AreBytes bytes
    → Finds (PartFound (suc deep) inner (suc left) (2 ∷ bytes)) (suc (length bytes)) (not_read (one inner) left bytes)
unfolding Founds
not_found deep one found inner left bytes are =
    finds_next (PartFound deep inner left bytes) (PartFound (suc deep) inner (suc left) (2 ∷ bytes)) (length bytes) (suc (length bytes)) (one inner left bytes) (λ p bytes1. Ok ((not_of p.0, p.1), bytes1))
    (omega arith) (found inner left bytes are)
    (λ p rest a. record {
      spelled = ap (λ xs. 2 ∷ xs) a.spelled;
      allowed = a.allowed;
      few = omega (arith, a.few);
      flat = omega (arith, a.flat);
      less = omega (arith, a.less);
      are = a.are;
    })

sub_object_found : (deep : ℕ) (one : Bool → Part) → Founds deep one → (left : ℕ) (bytes : List ℕ) → AreBytes bytes
    → Finds (PartFound (suc deep) false (suc left) (9 ∷ bytes)) (suc (length bytes)) (sub_object_read (one true) left bytes)
unfolding Founds
sub_object_found deep one found left bytes are =
    finds_next (Field (λ t. tag_bytes (table_tag t)) fields.Any bytes) (PartFound (suc deep) false (suc left) (9 ∷ bytes)) (length bytes) (suc (length bytes)) (code 4 table_of bytes)
    (λ table bytes1. next (one true left bytes1) (λ p bytes2. Ok ((sub_object table p.0, p.1), bytes2))) (omega arith) (table_finds bytes are)
    (λ table bytes1 a. finds_next (PartFound deep true left bytes1) (PartFound (suc deep) false (suc left) (9 ∷ bytes)) (length bytes1) (suc (length bytes)) (one true left bytes1)
    (λ p bytes2. Ok ((sub_object table p.0, p.1), bytes2)) (omega (arith, a.less)) (found true left bytes1 a.are)
    (λ p rest b. record {
      spelled = ap (λ xs. 9 ∷ xs) (joined2 (tag_bytes (table_tag table)) (spelling p.0) bytes bytes1 rest a.spelled b.spelled);
      allowed = b.allowed;
      few = omega (arith, b.few);
      flat = omega (arith, b.flat);
      less = omega (arith, a.less, b.less);
      are = b.are;
    }))

few_values : (vs : List Val) (n : ℕ) → n < 256 → (list_all is_tagged_value vs ≡ true) × (length vs ≡ n) → are_tagged_values vs ≡ true
few_values vs n small h = and_from (nat_lt (length vs) 256) (list_all is_tagged_value vs) (lt-ltb (length vs) 256 (omega (arith, small, h.1))) h.0

comment_found : (deep : ℕ) (one : Bool → Part) → Founds deep one → (inner : Bool) (left : ℕ) (bytes : List ℕ) → AreBytes bytes
    → Finds (PartFound (suc deep) inner (suc left) (10 ∷ bytes)) (suc (length bytes)) (comment_read (one inner) left bytes)
unfolding Founds
comment_found deep one found inner left bytes are =
    finds_next (Field (λ x. x ∷ []) (λ x. x < 256) bytes) Goal (length bytes) (suc (length bytes)) (number 1 bytes)
    (λ n bytes1. next (tagged_values n bytes1) (λ vs bytes2. next (code 1 truth_of bytes2) (λ present bytes3. commented (one inner) vs present left bytes3))) (omega arith) (byte_finds bytes are)
    (λ n bytes1 a. finds_next (Values n bytes1) Goal (length bytes1) (suc (length bytes)) (tagged_values n bytes1)
    (λ vs bytes2. next (code 1 truth_of bytes2) (λ present bytes3. commented (one inner) vs present left bytes3)) (omega (arith, a.less)) (tagged_values_find n bytes1 a.are)
    (λ vs bytes2 b. finds_next (Field (λ t. truth_code t ∷ []) fields.Any bytes2) Goal (length bytes2) (suc (length bytes)) (code 1 truth_of bytes2)
    (λ present bytes3. commented (one inner) vs present left bytes3) (omega (arith, a.less, b.less)) (truth_finds bytes2 b.are)
    (λ present bytes3 c. ends n vs bytes1 bytes2 bytes3 a b present c)))
  where
    Goal : Restr × ℕ → List ℕ → Type 0
    Goal = PartFound (suc deep) inner (suc left) (10 ∷ bytes)

    Values : ℕ → List ℕ → List Val → List ℕ → Type 0
    Values n bytes1 = Field (flat_map tagged_bytes) (λ vs. (list_all is_tagged_value vs ≡ true) × (length vs ≡ n)) bytes1

    ends : (n : ℕ) (vs : List Val) (bytes1 bytes2 bytes3 : List ℕ) → Field (λ x. x ∷ []) (λ x. x < 256) bytes n bytes1 → Values n bytes1 vs bytes2 → (present : Bool) → Field (λ t. truth_code t ∷ []) fields.Any bytes2 present bytes3
        → Finds Goal (suc (length bytes)) (commented (one inner) vs present left bytes3)
    ends n vs bytes1 bytes2 bytes3 a b false c = record {
      spelled = ap (λ xs. 10 ∷ xs) (joined3 (length vs ∷ []) (flat_map tagged_bytes vs) (0 ∷ []) bytes bytes1 bytes2 bytes3 (a.spelled ∙ ap (λ k. k ∷ bytes1) (sym b.holds.1)) b.spelled c.spelled);
      allowed = few_values vs n a.holds b.holds;
      few = omega arith;
      flat = omega arith;
      less = omega (arith, a.less, b.less, c.less);
      are = c.are;
    }
    ends n vs bytes1 bytes2 bytes3 a b true c =
        finds_next (PartFound deep inner left bytes3) Goal (length bytes3) (suc (length bytes)) (one inner left bytes3) (λ p bytes4. Ok ((comment vs p.0, p.1), bytes4))
        (omega (arith, a.less, b.less, c.less)) (found inner left bytes3 c.are)
        (λ p rest d. record {
          spelled = ap (λ xs. 10 ∷ xs) (joined4 (length vs ∷ []) (flat_map tagged_bytes vs) (1 ∷ []) (spelling p.0) bytes bytes1 bytes2 bytes3 rest (a.spelled ∙ ap (λ k. k ∷ bytes1) (sym b.holds.1)) b.spelled c.spelled d.spelled);
          allowed = and_from (are_tagged_values vs) (is_allowed inner p.0) (few_values vs n a.holds b.holds) d.allowed;
          few = omega (arith, d.few);
          flat = omega (arith, d.flat);
          less = omega (arith, a.less, b.less, c.less, d.less);
          are = d.are;
        })

leaf_part : (deep : ℕ) (inner : Bool) (left c : ℕ) (bytes : List ℕ) → AreBytes bytes → IsLeafCode c → Finds (PartFound (suc deep) inner (suc left) (c ∷ bytes)) (suc (length bytes)) (leaf_read (leaf_by_code c) left bytes)
leaf_part deep inner left c bytes are code' =
    finds_next (LeafFound c bytes) (PartFound (suc deep) inner (suc left) (c ∷ bytes)) (length bytes) (suc (length bytes)) (leaf_by_code c bytes) (λ r bytes1. Ok ((r, left), bytes1)) (omega arith) (leaf_found c bytes are code')
    (λ r rest a. record {
      spelled = a.spelled;
      allowed = a.allowed inner;
      few = omega (arith, a.one);
      flat = omega (arith, a.flat);
      less = omega (arith, a.less);
      are = a.are;
    })

-- the first byte of a restriction that may stand there
pub record MayBegin (inner : Bool) (c : ℕ) : Type 0 where
  pub small : c ≤ 10
  pub free : not (inner && (c == 9)) ≡ true

by_code_found : (deep : ℕ) (one : Bool → Part) → Founds deep one → (inner : Bool) (c left : ℕ) (bytes : List ℕ) → AreBytes bytes → MayBegin inner c
    → Finds (PartFound (suc deep) inner (suc left) (c ∷ bytes)) (suc (length bytes)) (by_code one inner c left bytes)
by_code_found deep one found inner c left bytes are may =
    finds_if (Goal c) n (c == 0) _ _ (λ y. at c 0 (group_read (grouped false) (one inner) left bytes) y (group_found deep one found false inner left bytes are))
    (λ n0. finds_if (Goal c) n (c == 1) _ _ (λ y. at c 1 (group_read (grouped true) (one inner) left bytes) y (group_found deep one found true inner left bytes are))
    (λ n1. finds_if (Goal c) n (c == 2) _ _ (λ y. at c 2 (not_read (one inner) left bytes) y (not_found deep one found inner left bytes are))
    (λ n2. finds_if (Goal c) n (c == 9) _ _ (λ y. at c 9 (sub_object_read (one true) left bytes) y (sub inner (subst (λ b. not (inner && b) ≡ true) y may.free)))
    (λ n9. finds_if (Goal c) n (c == 10) _ _ (λ y. at c 10 (comment_read (one inner) left bytes) y (comment_found deep one found inner left bytes are))
    (λ n10. leaf_part deep inner left c bytes are
    (let e0 = eqb-false c 0 n0 in let e1 = eqb-false c 1 n1 in let e2 = eqb-false c 2 n2 in let e9 = eqb-false c 9 n9 in let e10 = eqb-false c 10 n10 in let small = may.small in
    record { low = omega arith; high = omega arith }))))))
  where
    n : ℕ
    n = suc (length bytes)

    Goal : ℕ → Restr × ℕ → List ℕ → Type 0
    Goal k = PartFound (suc deep) inner (suc left) (k ∷ bytes)

    at : (c k : ℕ) (read : Read (Restr × ℕ)) → (c == k) ≡ true → Finds (Goal k) n read → Finds (Goal c) n read
    at c k read y h = subst (λ j. Finds (Goal j) n read) (sym (eqb-true c k y)) h

    sub : (within : Bool) → not (within && true) ≡ true → Finds (PartFound (suc deep) within (suc left) (9 ∷ bytes)) n (sub_object_read (one true) left bytes)
    sub true h = absurd cc
    sub false h = sub_object_found deep one found left bytes are

code_means : (inner : Bool) (x c : ℕ) → code_in inner x ≡ Some c → (x ∷ [] ≡ c ∷ []) × MayBegin inner c
unfolding code_in
code_means inner x c e = elim (cases_Bool (nat_le x 10 && not (inner && (x == 9)))) [
  | inl y ↦
      let same : x ≡ c = (let e' = rw y at e in cc) in
      let parts = and_parts (nat_le x 10) (not (inner && (x == 9))) y in
      (ap (λ k. k ∷ []) same, subst (MayBegin inner) same (record { small = leb-true x 10 parts.0; free = parts.1 }))
  | inr n ↦ absurd (let e' = rw n at e in cc)
]

part_found : (deep : ℕ) → Founds deep (part deep)
unfolding part Founds
part_found zero inner left bytes are = omega arith
part_found (suc deep) inner left bytes are =
    finds_next (Field (λ c. c ∷ []) (λ c. MayBegin inner c × (left ≡ 0 → ⊥)) bytes) (PartFound (suc deep) inner left bytes) (length bytes) (length bytes) (started inner left bytes)
    (λ c bytes1. by_code (part deep) inner c (left - 1) bytes1) (omega arith)
    (finds_if (Field (λ c. c ∷ []) (λ c. MayBegin inner c × (left ≡ 0 → ⊥)) bytes) (length bytes) (left == 0) _ _ (λ y. omega arith)
    (λ some. code_finds 1 (λ x. x ∷ []) (λ x. x < 256) (code_in inner) (λ c. c ∷ []) (λ c. MayBegin inner c × (left ≡ 0 → ⊥)) bytes are (byte_finds bytes are)
    (λ x c small e. let m = code_means inner x c e in (m.0, (m.1, eqb-false left 0 some)))))
    (λ c bytes1 a.
    let room = a.holds.1 in
    let left_is : suc (left - 1) ≡ left = omega arith in
    let len : suc (length bytes1) ≡ length bytes = ap length (sym a.spelled) in
    subst (λ k. Finds (PartFound (suc deep) inner left bytes) k (by_code (part deep) inner c (left - 1) bytes1)) len
    (subst (λ xs. Finds (PartFound (suc deep) inner left xs) (suc (length bytes1)) (by_code (part deep) inner c (left - 1) bytes1)) (sym a.spelled)
    (subst (λ k. Finds (PartFound (suc deep) inner k (c ∷ bytes1)) (suc (length bytes1)) (by_code (part deep) inner c (left - 1) bytes1)) left_is
    (by_code_found deep (part deep) (part_found deep) inner c (left - 1) bytes1 a.are a.holds.0))))

-- the bytes are those of a restriction that has a spelling
pub record WholeFound (bytes : List ℕ) (r : Restr) (rest : List ℕ) : Type 0 where
  pub spelled : bytes ≡ spelling r
  pub has : has_spelling r ≡ true

all_of : (r : Restr) → is_allowed false r ≡ true → count r ≤ 256 → depth r ≤ 16 → has_spelling r ≡ true
unfolding has_spelling
all_of r h few flat = and_from (is_allowed false r) (nat_le (count r) 256 && nat_le (depth r) 16) h (and_from (nat_le (count r) 256) (nat_le (depth r) 16) (le-leb (count r) 256 few) (le-leb (depth r) 16 flat))

ends_found : (bytes : List ℕ) (p : Restr × ℕ) (rest : List ℕ) → PartFound 16 false 256 bytes p rest → Finds (WholeFound bytes) (length bytes) (ended p rest)
ends_found bytes p [] a = record { spelled = a.spelled ∙ append-nil (spelling p.0); has = all_of p.0 a.allowed (omega (arith, a.few)) a.flat }
ends_found bytes p (x ∷ rest) a = a.less

-- a whole reading finds what the bytes spell, or a fault in them
pub whole_found : (bytes : List ℕ) → AreBytes bytes → Finds (WholeFound bytes) (length bytes) (whole bytes)
unfolding Founds
whole_found bytes are =
    finds_next (PartFound 16 false 256 bytes) (WholeFound bytes) (length bytes) (length bytes) (part 16 false 256 bytes) ended (omega arith) (part_found 16 false 256 bytes are) (λ p rest a. ends_found bytes p rest a)
