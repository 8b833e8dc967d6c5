-- How a restriction is written ([MS-OXCDATA] 2.12), and which restrictions are.
use Rattle.std.specs.Prelude.{ℕ, ◌+◌, ◌*◌, ◌==◌, ◌&&◌, Bool, true, false, not, nat_le, nat_lt, List, [], ◌∷◌, ◌++◌, length, if◌then◌else◌}
use Rattle.std.specs.List.{flat_map, list_all}
use Rattle.byteorder.specs.Endian.{little_bytes}
use Rattle.mapi_values.specs.Kinds.{ptyp_binary, ptyp_boolean, ptyp_integer_32, ptyp_string}
use Rattle.mapi_values.specs.Tags.{pid_tag_message_attachments, pid_tag_message_recipients}
use Rattle.mapi_values.specs.Values.{Val, value_fits}
use Rattle.mapi_values.specs.declared.value.Tag.{Tag}
use Rattle.restr_codec.specs.declared.restriction.BitTest.{BitTest}
use Rattle.restr_codec.specs.declared.restriction.BitTest.TheVariants.{Zero, NotZero}
use Rattle.restr_codec.specs.declared.restriction.FuzzyLevel.{FuzzyLevel}
use Rattle.restr_codec.specs.declared.restriction.FuzzyLevel.TheVariants.{FullString, Substring, Prefix}
use Rattle.restr_codec.specs.declared.restriction.FuzzyFlags.{FuzzyFlags}
use Rattle.restr_codec.specs.declared.restriction.Relation.{Relation}
use Rattle.restr_codec.specs.declared.restriction.Relation.TheVariants.{Less, AtMost, Greater, AtLeast, Equal, NotEqual}
use Rattle.restr_codec.specs.declared.restriction.SubTable.{SubTable}
use Rattle.restr_codec.specs.declared.restriction.SubTable.TheVariants.{Recipients, Attachments}
use Rattle.restr_codec.specs.Kinds.{is_content_kind, is_sound, is_value_kind}
use Rattle.restr_codec.specs.Restr.{Restr, Restrs, and_of, or_of, not_of, content, property, compare, bit_mask, size_of, exist, sub_object, remark, comment, none, more, count, depth, how_many}

-- the byte of a relation
abbrev pub relation_code : Relation → ℕ
relation_code Less = 0
relation_code AtMost = 1
relation_code Greater = 2
relation_code AtLeast = 3
relation_code Equal = 4
relation_code NotEqual = 5

-- the number of a level
abbrev pub level_code : FuzzyLevel → ℕ
level_code FullString = 0
level_code Substring = 1
level_code Prefix = 2

-- a bit that is worth so much where it is set
abbrev pub bit : Bool → ℕ → ℕ
bit set worth = if set then worth else 0

-- the number of flags, a bit for each
abbrev pub flags_code : FuzzyFlags → ℕ
flags_code i = bit i.ignore_case 1 + (bit i.ignore_nonspace 2 + bit i.loose 4)

-- the byte of a test of bits
abbrev pub test_code : BitTest → ℕ
test_code Zero = 0
test_code NotZero = 1

-- the tag of the table that holds the objects
abbrev pub table_tag : SubTable → Tag
table_tag Recipients = pid_tag_message_recipients
table_tag Attachments = pid_tag_message_attachments

-- a tag as one number, the kind in its low half
abbrev pub tag_number : Tag → ℕ
tag_number t = 65536 * t.id + t.kind

-- a tag is written as its number, and so as its kind and then its id
unfoldable pub tag_bytes : Tag → List ℕ
tag_bytes t = little_bytes 4 (tag_number t)

-- the tag of a value
abbrev pub tag_of : Val → Tag
tag_of v = record { id = v.id; kind = v.kind }

-- the bytes of a value of this kind: text ends with a unit 0, and bytes begin with their number
unfoldable pub kind_bytes : ℕ → List ℕ → List ℕ
kind_bytes kind bytes = if kind == ptyp_string then bytes ++ 0 ∷ 0 ∷ [] else if kind == ptyp_binary then little_bytes 2 (length bytes) ++ bytes else bytes

-- a tag and a value
abbrev pub tagged_bytes : Val → List ℕ
tagged_bytes v = tag_bytes (tag_of v) ++ kind_bytes v.kind v.bytes

-- a Content behind its first byte
abbrev pub content_bytes : FuzzyLevel → FuzzyFlags → Val → List ℕ
content_bytes level flags v = little_bytes 2 (level_code level) ++ (little_bytes 2 (flags_code flags) ++ (tag_bytes (tag_of v) ++ tagged_bytes v))

abbrev mutual
  -- the bytes of a restriction
  pub spelling : Restr → List ℕ
  spelling (and_of rs) = 0 ∷ (little_bytes 2 (how_many rs) ++ spelling_of_all rs)
  spelling (or_of rs) = 1 ∷ (little_bytes 2 (how_many rs) ++ spelling_of_all rs)
  spelling (not_of r) = 2 ∷ spelling r
  spelling (content level flags v) = 3 ∷ content_bytes level flags v
  spelling (property relation v) = 4 ∷ relation_code relation ∷ (tag_bytes (tag_of v) ++ tagged_bytes v)
  spelling (compare relation a b) = 5 ∷ relation_code relation ∷ (tag_bytes a ++ tag_bytes b)
  spelling (bit_mask test t mask) = 6 ∷ test_code test ∷ (tag_bytes t ++ little_bytes 4 mask)
  spelling (size_of relation t n) = 7 ∷ relation_code relation ∷ (tag_bytes t ++ little_bytes 4 n)
  spelling (exist t) = 8 ∷ tag_bytes t
  spelling (sub_object table r) = 9 ∷ (tag_bytes (table_tag table) ++ spelling r)
  spelling (remark vs) = 10 ∷ length vs ∷ (flat_map tagged_bytes vs ++ 0 ∷ [])
  spelling (comment vs r) = 10 ∷ length vs ∷ (flat_map tagged_bytes vs ++ 1 ∷ spelling r)

  -- the bytes of some restrictions, one after the other
  pub spelling_of_all : Restrs → List ℕ
  spelling_of_all none = []
  spelling_of_all (more r rs) = spelling r ++ spelling_of_all rs

-- an And or an Or behind its first byte
abbrev pub group_bytes : Restrs → List ℕ
group_bytes rs = little_bytes 2 (how_many rs) ++ spelling_of_all rs

-- whole UTF-16 units, none of them 0
abbrev pub is_text : List ℕ → Bool
is_text [] = true
is_text (a ∷ []) = false
is_text (a ∷ b ∷ bs) = not ((a == 0) && (b == 0)) && is_text bs

-- a byte that is 0 or 1
abbrev pub is_truth : List ℕ → Bool
is_truth [] = false
is_truth (a ∷ bs) = nat_lt a 2

-- the bytes of a value of this kind can be written so that they are read again
unfoldable pub is_written : ℕ → List ℕ → Bool
is_written kind bytes = if kind == ptyp_string then is_text bytes else if kind == ptyp_binary then nat_lt (length bytes) 65536 else if kind == ptyp_boolean then is_truth bytes else true

-- the id and the kind have two bytes each
abbrev pub is_tag : Tag → Bool
is_tag t = nat_lt t.id 65536 && nat_lt t.kind 65536

-- the tagged value has a spelling
unfoldable pub is_tagged_value : Val → Bool
is_tagged_value v = is_tag (tag_of v) && (is_value_kind v.kind && (is_sound v && (value_fits v && is_written v.kind v.bytes)))

-- so few values that their number has one byte, each of which has a spelling
abbrev pub are_tagged_values : List Val → Bool
are_tagged_values vs = nat_lt (length vs) 256 && list_all is_tagged_value vs

abbrev mutual
  -- what stands in each restriction may stand there; inner says whether the whole stands within a SubObject
  pub is_allowed : Bool → Restr → Bool
  is_allowed inner (and_of rs) = are_allowed inner rs
  is_allowed inner (or_of rs) = are_allowed inner rs
  is_allowed inner (not_of r) = is_allowed inner r
  is_allowed inner (content level flags v) = is_content_kind v.kind && is_tagged_value v
  is_allowed inner (property relation v) = is_tagged_value v
  is_allowed inner (compare relation a b) = (is_tag a && is_tag b) && (is_value_kind a.kind && (b.kind == a.kind))
  is_allowed inner (bit_mask test t mask) = is_tag t && ((t.kind == ptyp_integer_32) && nat_lt mask 0x1_0000_0000)
  is_allowed inner (size_of relation t n) = is_tag t && nat_lt n 0x1_0000_0000
  is_allowed inner (exist t) = is_tag t
  is_allowed inner (sub_object table r) = not inner && is_allowed true r
  is_allowed inner (remark vs) = are_tagged_values vs
  is_allowed inner (comment vs r) = are_tagged_values vs && is_allowed inner r

  -- the same of each of some restrictions
  pub are_allowed : Bool → Restrs → Bool
  are_allowed inner none = true
  are_allowed inner (more r rs) = is_allowed inner r && are_allowed inner rs

-- how many restrictions a restriction has at most, and how many of them stand within one another
abbrev pub most_restrictions : ℕ
most_restrictions = 256

abbrev pub most_deep : ℕ
most_deep = 16

-- the restriction can be written so that it is read again
unfoldable pub has_spelling : Restr → Bool
has_spelling r = is_allowed false r && (nat_le (count r) most_restrictions && nat_le (depth r) most_deep)
