-- What was set, where it is said by the values in which it was written, is what an object can hold.
use Rattle.std.proofs.Common.{◌≡◌, ◌∙◌, ℕ, zero, suc, ◌/◌, ◌%◌, ◌^◌, ◌<◌, true, List, [], ◌∷◌, ◌++◌, get_or, length, map, take, drop, Some, refl, sym, subst, ap, arith}
use Rattle.std.specs.List.{list_all}
use Rattle.std.specs.Int.{byte_at}
use Rattle.std.specs.Option.{option_and_then}
use Rattle.std.specs.Simd.{first_chunks}
use Rattle.std.proofs.lemmas.Bool.{and_from, eq-eqb, lt-ltb}
use Rattle.std.proofs.lemmas.List.{drop_at, take_at}
use Rattle.std.proofs.lemmas.Option.{same_Some}
use Rattle.mapi_values.specs.Properties.{put}
use Rattle.mapi_values.specs.Values.{Val}
use Rattle.mapi_values.specs.declared.value.Tag.{Tag}
use Rattle.pst_base.proofs.Numbers.{number_at-fits}
use Rattle.mail_tree.proofs.KeyedFinds.{find-drop_other, find-put_other, find-put_same}
use Rattle.restr_codec.specs.Spelling.{has_spelling, spelling}
use Rattle.search_obj.specs.declared.criteria.Version.{Version}
use Rattle.search_obj.specs.declared.criteria.Version.TheVariants.{First, Second}
use Rattle.search_obj.specs.Crits.{Crit, CritSet}
use Rattle.search_obj.specs.Flags.{are_allowed, number_of_flags}
use Rattle.search_obj.specs.Objects.{Says, bytes_at, ids_in, mark, number_in, of_kind, search_builds, search_flags, search_mark, search_restriction, search_scope}
use Rattle.search_obj.specs.Writing.{id_bytes, is_id, number_value, value_of, with_builds, written}
use Rattle.search_obj.proofs.WriteLaws.{length_ids}
use Rattle.mail_searches.specs.Criteria.{can_hold}

abbrev id_of : Val → ℕ
id_of v = v.id

-- ---- ids that are read back have 4 bytes

abbrev id_value : ℕ → List ℕ
id_value n = (number_value search_flags n).bytes

byte-fits : (i n : ℕ) → byte_at i n < 256
byte-fits zero n = omega arith
byte-fits (suc i) n = below (n / 256 ^ suc i)
  where
    below : (x : ℕ) → x % 256 < 256
    below x = omega arith

bytes-fit : (n i : ℕ) → get_or (id_value n) i 0 < 256
bytes-fit n zero = byte-fits 0 n
bytes-fit n (suc zero) = byte-fits 1 n
bytes-fit n (suc (suc zero)) = byte-fits 2 n
bytes-fit n (suc (suc (suc zero))) = byte-fits 3 n
bytes-fit n (suc (suc (suc (suc i)))) = omega arith

pieces-ids : (ids : List ℕ) → map number_in (first_chunks 4 (length ids) (id_bytes ids)) ≡ ids → list_all is_id ids ≡ true
pieces-ids [] e = refl
pieces-ids (i ∷ is) e =
    let front : take 4 (id_value i ++ id_bytes is) ≡ id_value i = take_at (id_value i) (id_bytes is) 4 refl in
    let back : drop 4 (id_value i ++ id_bytes is) ≡ id_bytes is = drop_at (id_value i) (id_bytes is) 4 refl in
    let whole : number_in (id_value i) ∷ map number_in (first_chunks 4 (length is) (id_bytes is)) ≡ i ∷ is = sym (ap (λ (x : List ℕ). number_in x ∷ map number_in (first_chunks 4 (length is) (drop 4 (id_value i ++ id_bytes is)))) front ∙ ap (λ (x : List ℕ). number_in (id_value i) ∷ map number_in (first_chunks 4 (length is) x)) back) ∙ e in
    let one : number_in (id_value i) ≡ i = cc in
    let fits : number_in (id_value i) < 2 ^ 32 = number_at-fits 4 0 (id_value i) (bytes-fit i) in
    let rest : map number_in (first_chunks 4 (length is) (id_bytes is)) ≡ is = cc in
    and_from (is_id i) (list_all is_id is) (lt-ltb i (2 ^ 32) (subst (λ x. x < 2 ^ 32) one fits)) (pieces-ids is rest)

read-ids : (ids : List ℕ) → ids_in (id_bytes ids) ≡ Some ids → list_all is_id ids ≡ true
read-ids ids e =
    let len = length_ids ids in
    let count : length (id_bytes ids) / 4 ≡ length ids = omega (arith, len) in
    pieces-ids ids (same_Some (map number_in (first_chunks 4 (length ids) (id_bytes ids))) ids (rw (eq-eqb (length (id_bytes ids) % 4) 0 (omega (arith, len)), count) at e))

-- ---- the scope that was written

put-apart : (t u : Tag) (b : List ℕ) (vs : List Val) → (t.id ≡ u.id → ⊥) → bytes_at t (put (value_of u b) vs) ≡ bytes_at t vs
put-apart t u b vs other = ap (option_and_then (of_kind t.kind)) (find-put_other id_of t.id (value_of u b) vs other)

builds-apart : (t : Tag) (version : Version) (n : ℕ) (vs : List Val) → (t.id ≡ search_builds.id → ⊥) → bytes_at t (with_builds version n vs) ≡ bytes_at t vs
builds-apart t First n vs other = ap (option_and_then (of_kind t.kind)) (find-drop_other id_of t.id search_builds.id vs other)
builds-apart t Second n vs other = put-apart t search_builds (id_value n) vs other

scope-at : (version : Version) (set : CritSet) (vs : List Val) → bytes_at search_scope (written (record { version = version; set = Some set }) vs) ≡ Some (id_bytes set.scope)
unfolding written
scope-at version set vs =
    let one = put (number_value search_flags (number_of_flags set.flags)) vs in
    let two = put (value_of search_scope (id_bytes set.scope)) one in
    let three = put (value_of search_restriction (spelling set.restriction)) two in
    let here : bytes_at search_scope two ≡ Some (id_bytes set.scope) = rw (find-put_same id_of (value_of search_scope (id_bytes set.scope)) one) refl in
    put-apart search_scope search_mark (mark version) (with_builds version set.builds three) (λ e. omega arith) ∙ builds-apart search_scope version set.builds three (λ e. omega arith)
    ∙ put-apart search_scope search_restriction (spelling set.restriction) two (λ e. omega arith) ∙ here

holds-set : (version : Version) (set : CritSet) (vs : List Val) → Says (written (record { version = version; set = Some set }) vs) (record { version = version; set = Some set }) → can_hold set ≡ true
holds-set version set vs says =
    let sound = says.sound.set in
    let ids = read-ids set.scope (sym (ap (option_and_then ids_in) (scope-at version set vs)) ∙ says.set.scope) in
    and_from (are_allowed set.flags) _ sound.allowed (and_from (list_all is_id set.scope) _ ids (and_from (has_spelling set.restriction) _ sound.spelled (lt-ltb set.builds (2 ^ 31) sound.builds_fit)))

-- what was set can be held, where values say it in which it was written
pub written_holds : (k : Crit) (set : CritSet) (vs : List Val) → k.set ≡ Some set → Says (written k vs) k → can_hold set ≡ true
written_holds k set vs e says = holds-set k.version set vs (subst (λ x. Says (written x vs) x) (λ i. record { version = k.version; set = e i }) says)
