-- What adding a name makes of the names.
use Rattle.std.specs.Prelude.{◌≡◌, ℕ, ◌+◌, ◌*◌, ◌%◌, ◌^◌, ◌&&◌, Bool, true, false, List, [], ◌∷◌, ◌++◌, bit_xor, length, max, nat_le, nat_lt, take, Option, None, Some, if◌then◌else◌, ◌||◌}
use Rattle.std.specs.List.{position}
use Rattle.std.specs.Option.{is_none, is_some, option_map, unwrap_or}
use Rattle.std.specs.Str.{bytes_eq}
use Rattle.mapi_values.specs.Properties.{put}
use Rattle.mapi_values.specs.Values.{Val}
use Rattle.pst_base.specs.declared.stops.MemOr.{MemOr}
use Rattle.pst_base.specs.declared.stops.MemOr.TheVariants.{Memory, Refused}
use Rattle.named_props.specs.declared.add.NamesFull.{NamesFull}
use Rattle.named_props.specs.declared.entry.NameEntry.{NameEntry}
use Rattle.named_props.specs.declared.guids.TheConstants.{PS_MAPI, PS_PUBLIC_STRINGS}
use Rattle.named_props.specs.declared.names.Names.{Names}
use Rattle.named_props.specs.Entries.{bytes_of, greatest_guid, greatest_index, word_of}
use Rattle.named_props.specs.Finding.{name_at}
use Rattle.named_props.specs.Holding.{binary, bytes_at}

-- the index of a GUID that has one: the two that every file knows, or the first place in the stream where it stands, counted from 3
unfoldable pub index_in : List (List ℕ) → List ℕ → Option ℕ
index_in guids guid = if bytes_eq PS_MAPI guid then Some 1 else if bytes_eq PS_PUBLIC_STRINGS guid then Some 2 else option_map (λ i. 3 + i) (position (λ g. bytes_eq g guid) guids)

-- the index that a GUID has, or gets at the end of the stream
abbrev pub guid_index : List (List ℕ) → List ℕ → ℕ
guid_index guids guid = unwrap_or (index_in guids guid) (3 + length guids)

-- the stream with the GUID, at its end where it had no index
abbrev pub with_guid : List (List ℕ) → List ℕ → List (List ℕ)
with_guid guids guid = if is_some (index_in guids guid) then guids else guids ++ guid ∷ []

-- the index after the greatest of a property, or 0 where there is none
abbrev pub next_index : List NameEntry → ℕ
next_index [] = 0
next_index (e ∷ es) = max (e.index + 1) (next_index es)

-- the entry that a new name of a number gets
abbrev pub new_entry : Names → List ℕ → ℕ → NameEntry
new_entry n guid number = record { id = number; string = false; guid = guid_index n.guids guid; index = next_index n.entries }

-- the id of the value that is the bucket of an entry
abbrev pub bucket_of : NameEntry → ℕ
bucket_of e = 0x1000 + bit_xor e.id (word_of e) % 251

-- the values with the entry at the end of its bucket
abbrev pub with_entry : NameEntry → List Val → List Val
with_entry e vs = put (binary (bucket_of e) (bytes_at (bucket_of e) vs ++ bytes_of e)) vs

-- the names with an entry, under a GUID, at their end
abbrev pub with_name : Names → List ℕ → NameEntry → Names
with_name n guid e = record { guids = with_guid n.guids guid; entries = n.entries ++ e ∷ []; props = with_entry e n.props }

-- the names after a new one of a number was added
abbrev pub added : Names → List ℕ → ℕ → Names
added n guid number = with_name n guid (new_entry n guid number)

-- the lists begin as they did, and the other values are the same
pub record Begins (old new : Names) : Type 0 where
  pub guids_begin : take (length old.guids) new.guids ≡ old.guids
  pub entries_begin : take (length old.entries) new.entries ≡ old.entries
  pub props_same : new.props ≡ old.props

-- a value of so many bytes is too long
abbrev pub is_too_long : ℕ → Bool
is_too_long len = nat_le (2 ^ 32) len

-- one of the values that adding an entry lengthens would be too long: the stream of GUIDs where the GUID is new, that of entries, the bucket
unfoldable pub lengthens_past : Names → List ℕ → NameEntry → Bool
lengthens_past n guid e = (is_none (index_in n.guids guid) && is_too_long (16 * (length n.guids + 1)))
    || (is_too_long (8 * (length n.entries + 1)) || is_too_long (length (bytes_at (bucket_of e) n.props) + 8))

-- there is no room for a new name of a number: an index would be above the greatest, or a value would be too long
unfoldable pub is_full : Names → List ℕ → ℕ → Bool
is_full n guid number = nat_lt greatest_index (next_index n.entries) || (nat_lt greatest_guid (guid_index n.guids guid) || lengthens_past n guid (new_entry n guid number))

-- a name that was there has its property, and nothing changed; another one was added, for which there was room
abbrev pub FindsOrAdds : Option ℕ → Names → List ℕ → ℕ → ℕ → Names → Type 0
FindsOrAdds (Some found) old guid number property new = (property ≡ found) × (new ≡ old)
FindsOrAdds None old guid number property new = (is_full old guid number ≡ false) × (property ≡ 0x8000 + next_index old.entries) × (new ≡ added old guid number)

-- unless memory ran out, there is no such name, and no room for it
abbrev pub RefusesFull : MemOr NamesFull → Names → List ℕ → ℕ → Type 0
RefusesFull Memory n guid number = Unit {0}
RefusesFull (Refused fault) n guid number = (name_at n.guids n.entries guid number ≡ None) × (is_full n guid number ≡ true)
