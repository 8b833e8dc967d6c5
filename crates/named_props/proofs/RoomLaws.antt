-- What room for a new name means for the values that it lengthens.
use Rattle.std.proofs.Common.{◌≡◌, ℕ, ◌+◌, ◌*◌, ◌^◌, ◌<◌, ◌≤◌, true, false, List, [], ◌∷◌, ◌++◌, length, Option, Some, None, refl, arith, length-append}
use Rattle.std.specs.Prelude.{◌&&◌, if◌then◌else◌, nat_lt, not}
use Rattle.std.specs.Option.{is_none, is_some}
use Rattle.std.proofs.lemmas.Bool.{leb-false, ne_eqb, or_parts, or_right}
use Rattle.mapi_values.specs.Values.{Val}
use Rattle.mapi_values.proofs.KeyedLaws.{put-all}
use Rattle.named_props.specs.declared.entry.NameEntry.{NameEntry}
use Rattle.named_props.specs.declared.names.Names.{Names}
use Rattle.named_props.specs.Adding.{bucket_of, guid_index, index_in, is_full, is_too_long, lengthens_past, new_entry, next_index, with_entry, with_name}
use Rattle.named_props.specs.Entries.{bytes_of, greatest_guid, greatest_index}
use Rattle.named_props.specs.Holding.{IsWritable, binary, binary_buckets, bytes_at, is_binary_if, is_bucket, is_stream}

pub room-entry : (n : Names) (guid : List ℕ) (number : ℕ) → is_full n guid number ≡ false → lengthens_past n guid (new_entry n guid number) ≡ false
unfolding is_full
room-entry n guid number h =
    (or_parts (nat_lt greatest_guid (guid_index n.guids guid)) (lengthens_past n guid (new_entry n guid number))
    (or_parts (nat_lt greatest_index (next_index n.entries)) _ h).1).1

room-values : (n : Names) (guid : List ℕ) (e : NameEntry) → lengthens_past n guid e ≡ false
    → (is_none (index_in n.guids guid) && is_too_long (16 * (length n.guids + 1))) ≡ false
    × (is_too_long (8 * (length n.entries + 1)) ≡ false) × (is_too_long (length (bytes_at (bucket_of e) n.props) + 8) ≡ false)
unfolding lengthens_past
room-values n guid e h =
    let guids = or_parts (is_none (index_in n.guids guid) && is_too_long (16 * (length n.guids + 1))) _ h in
    let others = or_parts (is_too_long (8 * (length n.entries + 1))) _ guids.1 in
    (guids.0, others.0, others.1)

-- the bucket of an entry that there is room for
pub room-bucket : (n : Names) (guid : List ℕ) (e : NameEntry) → lengthens_past n guid e ≡ false → is_too_long (length (bytes_at (bucket_of e) n.props) + 8) ≡ false
room-bucket n guid e h = (room-values n guid e h).2

-- the stream of GUIDs with one that there is room for
guids-fit : (guids : List (List ℕ)) (guid : List ℕ) (o : Option ℕ) → (is_none o && is_too_long (16 * (length guids + 1))) ≡ false → 16 * length guids < 2 ^ 32
    → 16 * length (if is_some o then guids else guids ++ guid ∷ []) < 2 ^ 32
guids-fit guids guid None room old = omega (arith, leb-false (2 ^ 32) (16 * (length guids + 1)) room, length-append guids (guid ∷ []))
guids-fit guids guid (Some i) room old = old

-- a bucket is no stream
bucket-apart : (e : NameEntry) → not (is_stream (bucket_of e)) ≡ true
bucket-apart e = apart (bucket_of e) (omega arith)
  where
    apart : (b : ℕ) → 0x1000 ≤ b → not (is_stream b) ≡ true
    apart b high = rw (ne_eqb b 2 (λ e. omega arith), ne_eqb b 3 (λ e. omega arith)) refl

-- the values with an entry are those that names may have
pub with_entry-buckets : (e : NameEntry) (vs : List Val) → binary_buckets vs ≡ true → binary_buckets (with_entry e vs) ≡ true
with_entry-buckets e vs h = put-all (λ v. v.id) (is_binary_if is_bucket) (binary (bucket_of e) (bytes_at (bucket_of e) vs ++ bytes_of e)) vs (or_right (not (is_bucket (bucket_of e))) true refl) h

pub with_name-writable : (n : Names) (guid : List ℕ) (e : NameEntry) → lengthens_past n guid e ≡ false → IsWritable n → IsWritable (with_name n guid e)
with_name-writable n guid e room w =
    let values = room-values n guid e room in
    record {
      buckets = with_entry-buckets e n.props w.buckets;
      others = put-all (λ v. v.id) (λ v. not (is_stream v.id)) (binary (bucket_of e) (bytes_at (bucket_of e) n.props ++ bytes_of e)) n.props (bucket-apart e) w.others;
      guids_fit = guids-fit n.guids guid (index_in n.guids guid) values.0 w.guids_fit;
      entries_fit = omega (arith, leb-false (2 ^ 32) (8 * (length n.entries + 1)) values.1, length-append n.entries (e ∷ []));
    }
