-- What the data of a node tells of a value of its property context, without its subnodes.
use Rattle.std.specs.Prelude.{ℕ, ◌≡◌, ◌%◌, ◌==◌, Bool, true, false, not, List, Option, Some, None, Result, Ok, Err}
use denote.Bor.{Bor}
use Rattle.pst_base.specs.Flat.{Flat}
use Rattle.pst_base.specs.Fields.{number_at}
use Rattle.mapi_values.specs.Values.{Val, in_field}
use Rattle.mapi_values.specs.Properties.{find}
use Rattle.bth_tree.specs.Records.{entry_of}
use Rattle.property_context.specs.Context.{IsPropertyContext, names, value_of}
use Rattle.content_glance.specs.declared.content.Glance.{Glance}
use Rattle.content_glance.specs.declared.content.Glance.TheVariants.{Held, Absent, Below}
use Rattle.content_glance.specs.declared.held.Away.{Away}
use Rattle.content_glance.specs.declared.held.Away.TheVariants as away

-- what is told of the value with an id is so of these values; one that stands below is of a kind that doesn't stand in the field itself
abbrev pub IsTold : ℕ → List Val → Option Glance → Type 0
IsTold id values None = ⊥
IsTold id values (Some (Held v)) = find id values ≡ Some v
IsTold id values (Some Absent) = find id values ≡ None
IsTold id values (Some Below) = (v : Val) × (find id values ≡ Some v) × (in_field v.kind ≡ None)

-- whatever the subnodes are with which the blocks are a property context, what is told is so of its values; nothing is told only where there are none
abbrev pub Tells : List (List ℕ) → ℕ → Option Glance → Type 0
Tells blocks id told = (subs : List Flat) (values : List Val) (rest : List Flat) → IsPropertyContext blocks subs values rest → IsTold id values told

-- the record with an id names a subnode
abbrev pub HasBelow : ℕ → List (ℕ × List ℕ) → Type 0
HasBelow id records = (entry : List ℕ) × (nid : ℕ) × (entry_of id records ≡ Some entry) × (names nid (id, entry) ≡ true)

-- a value is told to stand below only where its record names a subnode
abbrev pub NamesSubnode : List (List ℕ) → ℕ → Option Glance → Type 0
NamesSubnode blocks id None = Unit {0}
NamesSubnode blocks id (Some (Held v)) = Unit {0}
NamesSubnode blocks id (Some Absent) = Unit {0}
NamesSubnode blocks id (Some Below) = (subs : List Flat) (values : List Val) (rest : List Flat) (c : IsPropertyContext blocks subs values rest) → HasBelow id c.records

-- the bytes are those of the reading whatever the subnodes are; or they stand in one, which a test tells; or they are nowhere
abbrev pub Holds : ((ℕ → Option (List (List ℕ))) → Option (List ℕ)) → Bool → Result (Bor (List ℕ)) Away → Type 0
Holds read below (Ok bytes) = (sub : ℕ → Option (List (List ℕ))) → read sub ≡ Some bytes.now
Holds read below (Err away.Below) = below ≡ true
Holds read below (Err away.Nowhere) = (sub : ℕ → Option (List (List ℕ))) → read sub ≡ None

-- a field of a kind without a width names a subnode
abbrev pub names_below : Option ℕ → List ℕ → Bool
names_below (Some width) field = false
names_below None field = not (number_at 4 0 field % 32 == 0)

-- what is told of a record's value is so whatever the subnodes are
abbrev pub RecordTells : (ℕ → Option (List ℕ)) → ℕ × List ℕ → Option Glance → Type 0
RecordTells get r None = (sub : ℕ → Option (List (List ℕ))) → value_of get sub r ≡ None
RecordTells get r (Some (Held v)) = (sub : ℕ → Option (List (List ℕ))) → value_of get sub r ≡ Some v
RecordTells get r (Some Absent) = ⊥
RecordTells get r (Some Below) = (nid : ℕ) × (names nid r ≡ true)
