-- Names that were read can be written.
use Rattle.std.proofs.Common.{◌≡◌, ℕ, ◌/◌, ◌^◌, ◌<◌, ◌==◌, Bool, true, false, List, length, map, Option, Some, None, refl, sym, ap, subst, get_or, arith, inl, inr, ◌||◌}
use Rattle.std.specs.Prelude.{nat_le, nat_lt, not}
use Rattle.std.specs.List.{list_all}
use Rattle.std.proofs.lemmas.Bool.{cases_Bool, eqb-true, lt-leb, ltb-true, or_cases, true≢false}
use Rattle.std.proofs.Math.Bool.{and-false}
use Rattle.mapi_values.specs.Properties.{IsProps, all_fit, ascend_from, find, remove_id}
use Rattle.mapi_values.specs.Values.{Val, fits, in_field, value_fits}
use Rattle.mapi_values.proofs.KeyedLaws.{drop-all, drop-ascends}
use Rattle.named_props.specs.declared.entry.NameEntry.{NameEntry}
use Rattle.named_props.specs.declared.names.Names.{Names}
use Rattle.named_props.specs.Entries.{all_in_range, entry_of, greatest_guid, greatest_index, in_range}
use Rattle.named_props.specs.Holding.{IsWritable, binary_buckets, bytes_at, bytes_or_none, entry_stream, guid_stream, is_binary_if, is_bucket, is_stream}
use Rattle.named_props.proofs.KeyLaws.{drop-gone, find-passes}
use Rattle.named_props.proofs.ListLaws.{all-both, not-all}

-- an entry with an index above the greatest
pub none-in_range : (bss : List (List ℕ)) (i : ℕ) (d : List ℕ) (e : NameEntry) → i < length bss → e ≡ entry_of (get_or bss i d) → greatest_index < e.index → all_in_range (map entry_of bss) ≡ None
none-in_range bss i d e within is above =
    let out : in_range e ≡ false = rw (lt-leb e.index greatest_index above) (and-false (nat_le e.guid greatest_guid)) in
    rw (not-all in_range entry_of bss i d within (subst (λ (x : NameEntry). in_range x ≡ false) is out)) refl

-- a binary value is shorter than 2^32 bytes
binary-short : (kind len : ℕ) → kind ≡ 258 → fits kind len ≡ true → len < 2 ^ 32
unfolding fits in_field
binary-short kind len is fit = let fit2 : nat_lt len (2 ^ 32) ≡ true = rw is at fit in ltb-true len (2 ^ 32) fit2

-- a value of these ids is binary
kind-binary : (ids : ℕ → Bool) (v : Val) → ids v.id ≡ true → is_binary_if ids v ≡ true → v.kind ≡ 258
kind-binary ids v one test =
    elim (or_cases (not (ids v.id)) (v.kind == 258) test) [
      | inl other ↦ absurd (true≢false (sym (rw one at other)))
      | inr same ↦ eqb-true v.kind 258 same
    ]

-- the bytes of a value that is binary if it is there
bytes-short : (ids : ℕ → Bool) (id : ℕ) (vs : List Val) → ids id ≡ true → list_all (is_binary_if ids) vs ≡ true → all_fit vs ≡ true → length (bytes_at id vs) < 2 ^ 32
bytes-short ids id vs one kinds fit = found (find id vs) refl
  where
    found : (o : Option Val) → find id vs ≡ o → length (bytes_or_none o) < 2 ^ 32
    found None is = omega arith
    found (Some v) is =
        let kind = find-passes (λ w. w.id) (is_binary_if ids) id v vs kinds is in
        let fit2 = find-passes (λ w. w.id) value_fits id v vs fit is in
        binary-short v.kind (length v.bytes) (kind-binary ids v (subst (λ (n : ℕ). ids n ≡ true) (sym kind.1) one) kind.0) fit2.0

-- one that is binary if it is a stream or a bucket is so if it is a bucket
buckets-only : (vs : List Val) → list_all (is_binary_if (λ id. is_stream id || is_bucket id)) vs ≡ true → binary_buckets vs ≡ true
buckets-only vs kinds = all-both (is_binary_if (λ id. is_stream id || is_bucket id)) (is_binary_if (λ id. is_stream id || is_bucket id)) (is_binary_if is_bucket) vs (λ v a b. weaker (is_stream v.id) (is_bucket v.id) (v.kind == 258) a) kinds kinds
  where
    weaker : (s b k : Bool) → (not (s || b) || k) ≡ true → (not b || k) ≡ true
    weaker true true k h = h
    weaker true false k h = refl
    weaker false b k h = h

-- where the two streams were taken away, no value is one
others-only : (vs : List Val) → ascend_from 0 vs ≡ true → list_all (λ v. not (is_stream v.id)) (remove_id 3 (remove_id 2 vs)) ≡ true
others-only vs ascend =
    all-both (λ v. not (v.id == 2)) (λ v. not (v.id == 3)) (λ v. not (is_stream v.id)) (remove_id 3 (remove_id 2 vs)) (λ v a b. both (v.id == 2) (v.id == 3) a b)
    (drop-all (λ v. v.id) (λ v. not (v.id == 2)) 3 (remove_id 2 vs) (drop-gone (λ v. v.id) 0 2 vs ascend))
    (drop-gone (λ v. v.id) 0 3 (remove_id 2 vs) (drop-ascends (λ v. v.id) 0 2 vs ascend))
  where
    both : (a b : Bool) → not a ≡ true → not b ≡ true → not (a || b) ≡ true
    both true b h k = h
    both false b h k = k

pub found-writable : (vs : List Val) (n : Names) → IsProps vs → list_all (is_binary_if (λ id. is_stream id || is_bucket id)) vs ≡ true
    → length n.guids ≡ length (guid_stream vs) / 16 → length n.entries ≡ length (entry_stream vs) / 8 → n.props ≡ remove_id 3 (remove_id 2 vs) → IsWritable n
found-writable vs n props kinds guids entries others =
    let ids : ℕ → Bool = λ id. is_stream id || is_bucket id in
    let guids_short = bytes-short ids 2 vs refl kinds props.fit in
    let entries_short = bytes-short ids 3 vs refl kinds props.fit in
    record {
      buckets = rw others (drop-all (λ v. v.id) (is_binary_if is_bucket) 3 (remove_id 2 vs) (drop-all (λ v. v.id) (is_binary_if is_bucket) 2 vs (buckets-only vs kinds)));
      others = rw others (others-only vs props.ascend);
      guids_fit = omega (arith, guids_short);
      entries_fit = omega (arith, entries_short);
    }

-- entries that are in range are read
pub all_in_range-length : (es fs : List NameEntry) → all_in_range es ≡ Some fs → length fs ≡ length es
all_in_range-length es fs h =
    elim (cases_Bool (list_all in_range es)) [
      | inl t ↦ let here : Some es ≡ Some fs = rw t at h in let same : fs ≡ es = cc in ap length same
      | inr f ↦ let gone : None ≡ Some fs = rw f at h in cc
    ]
