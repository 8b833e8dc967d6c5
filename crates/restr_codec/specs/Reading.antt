-- How a restriction is read, and where the fault stands in bytes that spell none. A field is at fault at its first byte where it is cut short or holds what it may not.
use Rattle.std.specs.Prelude.{◌≡◌, ℕ, zero, suc, ◌+◌, ◌-◌, ◌*◌, ◌/◌, ◌%◌, ◌==◌, ◌&&◌, Bool, true, false, not, nat_le, nat_lt, List, [], ◌∷◌, length, take, drop, Option, None, Some, Result, Ok, Err, if◌then◌else◌}
use Rattle.std.specs.Borrow.{Bor}
use Rattle.pst_base.specs.Fields.{number_at}
use Rattle.pst_base.specs.declared.stops.MemOr.{MemOr}
use Rattle.pst_base.specs.declared.stops.MemOr.TheVariants.{Memory, Refused}
use Rattle.mapi_values.specs.Kinds.{ptyp_binary, ptyp_boolean, ptyp_integer_32, ptyp_string}
use Rattle.mapi_values.specs.Values.{Val, fits}
use Rattle.mapi_values.specs.declared.value.Tag.{Tag}
use Rattle.restr_codec.specs.declared.fields.Fault.{Fault}
use Rattle.restr_codec.specs.declared.reading.BadRestriction.{BadRestriction}
use Rattle.restr_codec.specs.declared.fields.Tags.{Tags}
use Rattle.restr_codec.specs.declared.fields.Tags.TheVariants as tags
use Rattle.restr_codec.specs.declared.restriction.BitTest.{BitTest}
use Rattle.restr_codec.specs.declared.restriction.BitTest.TheVariants.{Zero, NotZero}
use Rattle.restr_codec.specs.declared.restriction.FuzzyLevel.{FuzzyLevel}
use Rattle.restr_codec.specs.declared.restriction.FuzzyLevel.TheVariants.{FullString, Substring, Prefix}
use Rattle.restr_codec.specs.declared.restriction.FuzzyFlags.{FuzzyFlags}
use Rattle.restr_codec.specs.declared.restriction.Relation.{Relation}
use Rattle.restr_codec.specs.declared.restriction.Relation.TheVariants.{Less, AtMost, Greater, AtLeast, Equal, NotEqual}
use Rattle.restr_codec.specs.declared.restriction.SubTable.{SubTable}
use Rattle.restr_codec.specs.declared.restriction.SubTable.TheVariants.{Recipients, Attachments}
use Rattle.restr_codec.specs.Kinds.{is_content_kind, is_value_kind, value_width}
use Rattle.restr_codec.specs.Restr.{Restr, Restrs, and_of, or_of, not_of, content, property, compare, bit_mask, size_of, exist, sub_object, remark, comment, none, more}
use Rattle.restr_codec.specs.Spelling.{most_deep, most_restrictions, table_tag, tag_number}

-- what was read and the bytes behind it, or how many bytes there are from the fault on
abbrev pub Read : Type 0 → Type 0
Read A = Result (A × List ℕ) ℕ

-- what comes next, if there was no fault
abbrev pub next : {A B : Type 0} → Read A → (A → List ℕ → Read B) → Read B
next (Ok p) f = f p.0 p.1
next (Err fault) f = Err fault

-- what a field holds, if that may stand there
abbrev pub held : {A : Type 0} → List ℕ → List ℕ → Option A → Read A
held bytes behind None = Err (length bytes)
held bytes behind (Some x) = Ok (x, behind)

-- a number of n bytes
unfoldable pub number : ℕ → List ℕ → Read ℕ
number n bytes = if nat_le n (length bytes) then Ok (number_at n 0 bytes, drop n bytes) else Err (length bytes)

-- a number of n bytes that means something
abbrev pub code : {A : Type 0} → ℕ → (ℕ → Option A) → List ℕ → Read A
code n meaning bytes = next (number n bytes) (λ x behind. held bytes behind (meaning x))

-- what a byte or a number means, if it means anything: a relation
unfoldable pub relation_of : ℕ → Option Relation
relation_of c = if c == 0 then Some Less else if c == 1 then Some AtMost else if c == 2 then Some Greater else if c == 3 then Some AtLeast
    else if c == 4 then Some Equal else if c == 5 then Some NotEqual else None

-- a level
unfoldable pub level_of : ℕ → Option FuzzyLevel
level_of c = if c == 0 then Some FullString else if c == 1 then Some Substring else if c == 2 then Some Prefix else None

-- flags
unfoldable pub flags_of : ℕ → Option FuzzyFlags
flags_of c = if nat_lt c 8 then Some (record { ignore_case = c % 2 == 1; ignore_nonspace = c / 2 % 2 == 1; loose = c / 4 == 1 }) else None

-- a test of bits
unfoldable pub test_of : ℕ → Option BitTest
test_of c = if c == 0 then Some Zero else if c == 1 then Some NotZero else None

-- a truth value
unfoldable pub truth_of : ℕ → Option Bool
truth_of c = if c == 0 then Some false else if c == 1 then Some true else None

-- a table, by the number of its tag
unfoldable pub table_of : ℕ → Option SubTable
table_of c = if c == tag_number (table_tag Recipients) then Some Recipients else if c == tag_number (table_tag Attachments) then Some Attachments else None

-- the tag with this number
abbrev pub numbered : ℕ → Tag
numbered n = record { id = n / 65536; kind = n % 65536 }

-- the tag may stand in the field
abbrev pub allows : Tags → Tag → Bool
allows tags.Any t = true
allows tags.OfValues t = is_value_kind t.kind
allows tags.OfContent t = is_content_kind t.kind
allows (tags.OfKind kind) t = t.kind == kind
allows (tags.Just tag) t = (t.id == tag.id) && (t.kind == tag.kind)

-- the tag with this number, if it may stand there
unfoldable pub tag_in : Tags → ℕ → Option Tag
tag_in tags n = if allows tags (numbered n) then Some (numbered n) else None

-- a tag, if it may stand there
abbrev pub tag : Tags → List ℕ → Read Tag
tag tags bytes = code 4 (tag_in tags) bytes

-- a length with n more
abbrev pub longer : ℕ → Option ℕ → Option ℕ
longer n None = None
longer n (Some len) = Some (len + n)

-- the number of bytes before a unit 0
abbrev pub text_len : List ℕ → Option ℕ
text_len [] = None
text_len (a ∷ []) = None
text_len (a ∷ b ∷ bytes) = if (a == 0) && (b == 0) then Some 0 else longer 2 (text_len bytes)

-- the first n bytes, and what stands behind them
abbrev pub front : ℕ → List ℕ → Option (List ℕ × List ℕ)
front n bytes = if nat_le n (length bytes) then Some (take n bytes, drop n bytes) else None

-- the text before a unit 0 at this place, and what stands behind that unit
abbrev pub text_up_to : List ℕ → Option ℕ → Option (List ℕ × List ℕ)
text_up_to bytes None = None
text_up_to bytes (Some len) = Some (take len bytes, drop (len + 2) bytes)

-- text without its unit 0, and what stands behind that
abbrev pub text_front : List ℕ → Option (List ℕ × List ℕ)
text_front bytes = text_up_to bytes (text_len bytes)

-- bytes whose number stands before them
abbrev pub binary_front : List ℕ → Option (List ℕ × List ℕ)
binary_front [] = None
binary_front (a ∷ []) = None
binary_front (a ∷ b ∷ bytes) = front (a + 256 * b) bytes

-- a truth value
abbrev pub truth_front : List ℕ → Option (List ℕ × List ℕ)
truth_front [] = None
truth_front (a ∷ bytes) = if nat_lt a 2 then front 1 (a ∷ bytes) else None

-- as many bytes as a kind always has
abbrev pub width_front : Option ℕ → List ℕ → Option (List ℕ × List ℕ)
width_front None bytes = None
width_front (Some width) bytes = front width bytes

-- the bytes of a value of this kind, and those behind it
unfoldable pub value_front : ℕ → List ℕ → Option (List ℕ × List ℕ)
value_front kind bytes = if kind == ptyp_string then text_front bytes else if kind == ptyp_binary then binary_front bytes
    else if kind == ptyp_boolean then truth_front bytes else width_front (value_width kind) bytes

-- the value with these bytes, if its kind may have as many
abbrev pub valued : Tag → List ℕ → Option (List ℕ × List ℕ) → Read Val
valued t bytes None = Err (length bytes)
valued t bytes (Some p) = if fits t.kind (length p.0) then Ok (record { id = t.id; kind = t.kind; bytes = p.0 }, p.1) else Err (length bytes)

-- a value of this tag's kind
abbrev pub value : Tag → List ℕ → Read Val
value t bytes = valued t bytes (value_front t.kind bytes)

-- a tag, and a value of its kind
abbrev pub tagged : Tags → List ℕ → Read Val
tagged tags bytes = next (tag tags bytes) value

-- so many of them
abbrev pub tagged_values : ℕ → List ℕ → Read (List Val)
tagged_values zero bytes = Ok ([], bytes)
tagged_values (suc n) bytes = next (tagged tags.OfValues bytes) (λ v bytes1. next (tagged_values n bytes1) (λ vs bytes2. Ok (v ∷ vs, bytes2)))

-- a Content, behind its first byte: level, flags, tag and tagged value
abbrev pub content_read : List ℕ → Read Restr
content_read bytes = next (code 2 level_of bytes) (λ level bytes1. next (code 2 flags_of bytes1) (λ flags bytes2.
    next (tag tags.OfContent bytes2) (λ t bytes3. next (tagged (tags.Just t) bytes3) (λ v bytes4. Ok (content level flags v, bytes4)))))

-- a Property: relation, tag and tagged value
abbrev pub property_read : List ℕ → Read Restr
property_read bytes = next (code 1 relation_of bytes) (λ relation bytes1.
    next (tag tags.OfValues bytes1) (λ t bytes2. next (tagged (tags.Just t) bytes2) (λ v bytes3. Ok (property relation v, bytes3))))

-- a CompareProps: relation and two tags of one kind
abbrev pub compare_read : List ℕ → Read Restr
compare_read bytes = next (code 1 relation_of bytes) (λ relation bytes1.
    next (tag tags.OfValues bytes1) (λ a bytes2. next (tag (tags.OfKind a.kind) bytes2) (λ b bytes3. Ok (compare relation a b, bytes3))))

-- a BitMask: test, tag and mask
abbrev pub bit_mask_read : List ℕ → Read Restr
bit_mask_read bytes = next (code 1 test_of bytes) (λ test bytes1.
    next (tag (tags.OfKind ptyp_integer_32) bytes1) (λ t bytes2. next (number 4 bytes2) (λ mask bytes3. Ok (bit_mask test t mask, bytes3))))

-- a Size: relation, tag and size
abbrev pub size_read : List ℕ → Read Restr
size_read bytes = next (code 1 relation_of bytes) (λ relation bytes1.
    next (tag tags.Any bytes1) (λ t bytes2. next (number 4 bytes2) (λ n bytes3. Ok (size_of relation t n, bytes3))))

-- an Exist: a tag
abbrev pub exist_read : List ℕ → Read Restr
exist_read bytes = next (tag tags.Any bytes) (λ t bytes1. Ok (exist t, bytes1))

-- a restriction is read with the number of restrictions that may still come: before it, and behind it
abbrev pub Part : Type 0
Part = ℕ → List ℕ → Read (Restr × ℕ)

-- so many restrictions
abbrev pub several : Part → ℕ → ℕ → List ℕ → Read (Restrs × ℕ)
several one zero left bytes = Ok ((none, left), bytes)
several one (suc n) left bytes = next (one left bytes) (λ p bytes1. next (several one n p.1 bytes1) (λ q bytes2. Ok ((more p.0 q.0, q.1), bytes2)))

-- their number, and the restrictions
abbrev pub group_read : (Restrs → Restr) → Part → Part
group_read f one left bytes = next (number 2 bytes) (λ n bytes1. next (several one n left bytes1) (λ p bytes2. Ok ((f p.0, p.1), bytes2)))

-- a Not: a restriction
abbrev pub not_read : Part → Part
not_read one left bytes = next (one left bytes) (λ p bytes1. Ok ((not_of p.0, p.1), bytes1))

-- a restriction with no other within it
abbrev pub leaf_read : (List ℕ → Read Restr) → Part
leaf_read leaf left bytes = next (leaf bytes) (λ r bytes1. Ok ((r, left), bytes1))

-- a SubObject: the tag of a table, and a restriction
abbrev pub sub_object_read : Part → Part
sub_object_read one left bytes = next (code 4 table_of bytes) (λ table bytes1. next (one left bytes1) (λ p bytes2. Ok ((sub_object table p.0, p.1), bytes2)))

-- the restriction of a comment, where it has one
abbrev pub commented : Part → List Val → Bool → Part
commented one vs false left bytes = Ok ((remark vs, left), bytes)
commented one vs true left bytes = next (one left bytes) (λ p bytes1. Ok ((comment vs p.0, p.1), bytes1))

-- a Comment: a number of tagged values, these, whether a restriction is present, and that
abbrev pub comment_read : Part → Part
comment_read one left bytes = next (number 1 bytes) (λ n bytes1. next (tagged_values n bytes1) (λ vs bytes2.
    next (code 1 truth_of bytes2) (λ present bytes3. commented one vs present left bytes3)))

-- And, or Or
abbrev pub grouped : Bool → Restrs → Restr
grouped true rs = or_of rs
grouped false rs = and_of rs

-- a restriction with no other within it, behind its first byte
abbrev pub leaf_by_code : ℕ → List ℕ → Read Restr
leaf_by_code c bytes = if c == 3 then content_read bytes else if c == 4 then property_read bytes else if c == 5 then compare_read bytes
    else if c == 6 then bit_mask_read bytes else if c == 7 then size_read bytes else exist_read bytes

-- what follows the first byte; one reads what stands within the restriction, and inner says whether that is within a SubObject
abbrev pub by_code : (Bool → Part) → Bool → ℕ → Part
by_code one inner c left bytes = if c == 0 then group_read (grouped false) (one inner) left bytes else if c == 1 then group_read (grouped true) (one inner) left bytes
    else if c == 2 then not_read (one inner) left bytes else if c == 9 then sub_object_read (one true) left bytes
    else if c == 10 then comment_read (one inner) left bytes else leaf_read (leaf_by_code c) left bytes

-- the first byte of a restriction: 0 to 10, and no second SubObject within one
unfoldable pub code_in : Bool → ℕ → Option ℕ
code_in inner c = if nat_le c 10 && not (inner && (c == 9)) then Some c else None

-- the first byte, if another restriction may come
abbrev pub started : Bool → ℕ → List ℕ → Read ℕ
started inner left bytes = if left == 0 then Err (length bytes) else code 1 (code_in inner) bytes

-- a restriction with so many within one another at most
unfoldable pub part : ℕ → Bool → Part
part zero inner left bytes = Err (length bytes)
part (suc deep) inner left bytes = next (started inner left bytes) (λ c bytes1. by_code (part deep) inner c (left - 1) bytes1)

-- a restriction with nothing behind it
abbrev pub ended : Restr × ℕ → List ℕ → Read Restr
ended p [] = Ok (p.0, [])
ended p (byte ∷ bytes) = Err (length (byte ∷ bytes))

-- the restriction, or the offset of the fault in so many bytes
abbrev pub placed : ℕ → Read Restr → Result Restr BadRestriction
placed len (Ok p) = Ok p.0
placed len (Err fault) = Err (record { at = len - fault })

-- a restriction and all bytes behind it
abbrev pub whole : List ℕ → Read Restr
whole bytes = next (part most_deep false most_restrictions bytes) ended

-- the restriction that bytes spell, or where the first fault is
unfoldable pub reading : List ℕ → Result Restr BadRestriction
reading bytes = placed (length bytes) (whole bytes)

-- unless memory ran out, what a call gives, seen by view, and its fault are those of the definition
abbrev pub Reads : {A B : Type 0} → (B → A) → Result (B × Bor (List ℕ)) (MemOr Fault) → Read A → Type 0
Reads view (Ok p) read = read ≡ Ok (view p.0, p.1.now)
Reads view (Err Memory) read = Unit {0}
Reads view (Err (Refused fault)) read = read ≡ Err fault.remaining

-- the front and the rest that a call gives, if it gives any, are those of the definition
abbrev pub Splits : Option (Bor (List ℕ) × Bor (List ℕ)) → Option (List ℕ × List ℕ) → Type 0
Splits None split = split ≡ None
Splits (Some p) split = split ≡ Some (p.0.now, p.1.now)
