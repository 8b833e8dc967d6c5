-- Names that were written are read again.
use Rattle.std.proofs.Common.{◌≡◌, ℕ, ◌/◌, ◌%◌, ◌^◌, ◌<◌, ◌==◌, Bool, true, false, List, [], ◌∷◌, length, map, Some, refl, ap, ◌∙◌, arith, ◌||◌}
use Rattle.std.specs.Prelude.{not}
use Rattle.std.specs.List.{flat_map, list_all}
use Rattle.std.specs.Simd.{first_chunks}
use Rattle.std.proofs.lemmas.Bool.{and_from, and_parts, eq-eqb, ltb-true}
use Rattle.mapi_values.specs.Properties.{put, remove_id}
use Rattle.mapi_values.specs.Values.{Val}
use Rattle.mapi_values.proofs.KeyedLaws.{put-all}
use Rattle.named_props.specs.declared.entry.NameEntry.{NameEntry}
use Rattle.named_props.specs.declared.names.Names.{Names}
use Rattle.named_props.specs.Entries.{bytes_of, entries_of, entry_of, fits_id, guids_of, in_range}
use Rattle.named_props.specs.Holding.{IsWritable, binary, bytes_or_none, entry_stream, guid_stream, is_binary_if, is_bucket, is_form, is_stream, names_in, names_of, written}
use Rattle.named_props.proofs.EntryLaws.{entry_of-bytes_of, length-bytes_of}
use Rattle.named_props.proofs.KeyLaws.{drop-put_new, find-put_other, find-put_same}
use Rattle.named_props.proofs.ListLaws.{all-both, chunks-pieces, have_length, length-pieces}

-- the two values that are written beside the others
abbrev pub guid_value : Names → Val
guid_value n = binary 2 (flat_map (λ g. g) n.guids)

abbrev pub entry_value : Names → Val
entry_value n = binary 3 (flat_map bytes_of n.entries)

abbrev pub id_of : Val → ℕ
id_of v = v.id

guid_stream-written : (n : Names) → guid_stream (written n) ≡ flat_map (λ g. g) n.guids
unfolding written
guid_stream-written n = ap bytes_or_none (find-put_same id_of (guid_value n) (put (entry_value n) n.props))

entry_stream-written : (n : Names) → entry_stream (written n) ≡ flat_map bytes_of n.entries
unfolding written
entry_stream-written n =
    ap bytes_or_none (find-put_other id_of 3 (guid_value n) (put (entry_value n) n.props) (λ e. omega arith) ∙ find-put_same id_of (entry_value n) n.props)

-- joined pieces of k bytes are cut into the same pieces
cut-pieces : {X : Type 0} (f : X → List ℕ) (k : ℕ) (xs : List X) → 0 < k → have_length f k xs ≡ true → length (flat_map f xs) / k ≡ length xs
    → first_chunks k (length (flat_map f xs) / k) (flat_map f xs) ≡ map f xs
cut-pieces f k xs pos all count = ap (λ n. first_chunks k n (flat_map f xs)) count ∙ chunks-pieces f k xs all

guids-back : (guids : List (List ℕ)) → have_length (λ g. g) 16 guids ≡ true → guids_of (flat_map (λ g. g) guids) ≡ guids
guids-back guids all =
    let len = length-pieces (λ g. g) 16 guids all in
    cut-pieces (λ g. g) 16 guids (omega arith) all (omega (arith, len)) ∙ same guids
  where
    same : (xs : List (List ℕ)) → map (λ g. g) xs ≡ xs
    same [] = refl
    same (x ∷ xs) = ap (λ ys. x ∷ ys) (same xs)

pub entries-long : (es : List NameEntry) → have_length bytes_of 8 es ≡ true
entries-long [] = refl
entries-long (e ∷ es) = and_from (length (bytes_of e) == 8) (have_length bytes_of 8 es) (eq-eqb (length (bytes_of e)) 8 (length-bytes_of e)) (entries-long es)

each-back : (es : List NameEntry) → list_all in_range es ≡ true → list_all fits_id es ≡ true → map entry_of (map bytes_of es) ≡ es
each-back [] range fit = refl
each-back (e ∷ es) range fit =
    let ranges = and_parts (in_range e) (list_all in_range es) range in
    let fits = and_parts (fits_id e) (list_all fits_id es) fit in
    let first : entry_of (bytes_of e) ≡ e = entry_of-bytes_of e (ltb-true e.id (2 ^ 32) fits.0) ranges.0 in
    let rest = each-back es ranges.1 fits.1 in
    cc

entries-back : (es : List NameEntry) → list_all in_range es ≡ true → list_all fits_id es ≡ true → entries_of (flat_map bytes_of es) ≡ es
entries-back es range fit =
    let len = length-pieces bytes_of 8 es (entries-long es) in
    ap (map entry_of) (cut-pieces bytes_of 8 es (omega arith) (entries-long es) (omega (arith, len))) ∙ each-back es range fit

-- the other values are left when both streams are taken away
others-back : (n : Names) → IsWritable n → remove_id 3 (remove_id 2 (written n)) ≡ n.props
unfolding written
others-back n w =
    ap (remove_id 3) (drop-put_new id_of (guid_value n) (put (entry_value n) n.props)
    (put-all id_of (λ v. not (v.id == 2)) (entry_value n) n.props refl (apart (λ id. id == 2) (λ v. left (v.id == 2) (v.id == 3)))))
    ∙ drop-put_new id_of (entry_value n) n.props (apart (λ id. id == 3) (λ v. right (v.id == 2) (v.id == 3)))
  where
    left : (a b : Bool) → not (a || b) ≡ true → not a ≡ true
    left true b h = h
    left false b h = refl

    right : (a b : Bool) → not (a || b) ≡ true → not b ≡ true
    right true true h = h
    right true false h = refl
    right false b h = h

    apart : (one : ℕ → Bool) → ((v : Val) → not (is_stream v.id) ≡ true → not (one v.id) ≡ true) → list_all (λ v. not (one v.id)) n.props ≡ true
    apart one each = all-both (λ v. not (is_stream v.id)) (λ v. not (is_stream v.id)) (λ v. not (one v.id)) n.props (λ v a b. each v a) w.others w.others

kinds-written : (n : Names) → IsWritable n → list_all (is_binary_if (λ id. is_stream id || is_bucket id)) (written n) ≡ true
unfolding written
kinds-written n w =
    let test : Val → Bool = is_binary_if (λ id. is_stream id || is_bucket id) in
    put-all id_of test (guid_value n) (put (entry_value n) n.props) refl (put-all id_of test (entry_value n) n.props refl
    (all-both (λ v. not (is_stream v.id)) (is_binary_if is_bucket) test n.props (λ v a b. both (is_stream v.id) (is_bucket v.id) (v.kind == 258) a b) w.others w.buckets))
  where
    both : (s b k : Bool) → not s ≡ true → (not b || k) ≡ true → (not (s || b) || k) ≡ true
    both true b k none h = cc
    both false b k none h = h

same-names : (n m : Names) → n.guids ≡ m.guids → n.entries ≡ m.entries → n.props ≡ m.props → n ≡ m
same-names n m g e p = same n.guids m.guids n.entries m.entries n.props m.props g e p
  where
    same : (a b : List (List ℕ)) (c d : List NameEntry) (x y : List Val) → a ≡ b → c ≡ d → x ≡ y
        → let k : Names = record { guids = a; entries = c; props = x } in let l : Names = record { guids = b; entries = d; props = y } in k ≡ l
    same a b c d x y p q r = cc

form-written : (n : Names) → IsWritable n → have_length (λ g. g) 16 n.guids ≡ true → list_all in_range n.entries ≡ true → list_all fits_id n.entries ≡ true
    → is_form (written n) ≡ true
unfolding is_form
form-written n w long range fit =
    let guids = ap length (guid_stream-written n) ∙ length-pieces (λ g. g) 16 n.guids long in
    let entries = ap length (entry_stream-written n) ∙ length-pieces bytes_of 8 n.entries (entries-long n.entries) in
    and_from (list_all (is_binary_if (λ id. is_stream id || is_bucket id)) (written n)) _ (kinds-written n w)
    (and_from (length (guid_stream (written n)) % 16 == 0) _ (eq-eqb (length (guid_stream (written n)) % 16) 0 (omega (arith, guids)))
    (and_from (length (entry_stream (written n)) % 8 == 0) _ (eq-eqb (length (entry_stream (written n)) % 8) 0 (omega (arith, entries)))
    (ap (list_all in_range) (ap entries_of (entry_stream-written n) ∙ entries-back n.entries range fit) ∙ range)))

pub names_of-written : (n : Names) → IsWritable n → have_length (λ g. g) 16 n.guids ≡ true → list_all in_range n.entries ≡ true → list_all fits_id n.entries ≡ true
    → names_of (written n) ≡ Some n
unfolding names_of
names_of-written n w long range fit =
    rw (form-written n w long range fit) (ap Some (same-names (names_in (written n)) n (ap guids_of (guid_stream-written n) ∙ guids-back n.guids long)
    (ap entries_of (entry_stream-written n) ∙ entries-back n.entries range fit) (others-back n w)))
