-- What is written is said.
use Rattle.std.proofs.Common.{◌≡◌, ℕ, ◌*◌, ◌/◌, ◌%◌, ◌^◌, ◌<◌, ◌≤◌, ◌==◌, Bool, true, false, List, [], ◌∷◌, ◌++◌, length, map, take, drop, Option, None, Some, refl, sym, ap, subst, ◌∙◌, arith, append-nil, length-append}
use Rattle.std.specs.Prelude.{not}
use Rattle.std.specs.List.{list_all}
use Rattle.std.specs.Option.{is_none, option_and_then, option_map}
use Rattle.std.specs.Simd.{first_chunks}
use Rattle.std.proofs.lemmas.Bool.{and_parts, eq-eqb, eqb-true, ltb-true}
use Rattle.std.proofs.lemmas.List.{drop_at, take_at}
use Rattle.byteorder.specs.Endian.{little_bytes}
use Rattle.byteorder.specs.Numbers.{length-bytes_low_first}
use Rattle.pst_base.proofs.Numbers.{number_at-first}
use Rattle.mapi_values.specs.Properties.{IsProps, ascend_from, find, put, remove_id}
use Rattle.mapi_values.specs.Values.{Val}
use Rattle.mapi_values.specs.declared.value.Tag.{Tag}
use Rattle.mapi_values.proofs.KeyedLaws.{drop-ascends, put-ascends}
use Rattle.restr_codec.specs.Spelling.{spelling}
use Rattle.search_obj.specs.declared.flags.SearchFlags.{SearchFlags}
use Rattle.search_obj.specs.declared.criteria.Version.{Version}
use Rattle.search_obj.specs.declared.criteria.Version.TheVariants.{First, Second}
use Rattle.search_obj.specs.Flags.{number_of_flags, one_if}
use Rattle.search_obj.specs.Crits.{Crit, CritSet, IsSound, IsSoundIfSet, IsSoundSet, suits}
use Rattle.search_obj.specs.Objects.{Says, SaysBuilds, SaysIfSet, SaysSet, bytes_at, ids_in, lacks, lacks_criteria, mark, number_in, of_kind, search_builds, search_flags, search_mark, search_restriction, search_scope, text_bytes}
use Rattle.search_obj.specs.Writing.{are_ids, id_bytes, is_criteria_id, is_id, number_value, value_of, with_builds, with_set, written}
use Rattle.search_obj.proofs.PropLaws.{find_drop_other, find_drop_same, find_put_other, find_put_same}

abbrev pub id_of : Val → ℕ
id_of v = v.id

-- ---- numbers and ids read back

pub number_back : (n : ℕ) → n < 2 ^ 32 → number_in (little_bytes 4 n) ≡ n
number_back n fit = ap number_in (sym (append-nil (little_bytes 4 n))) ∙ number_at-first 4 n [] (omega arith)

pub length_ids : (ids : List ℕ) → length (id_bytes ids) ≡ 4 * length ids
length_ids [] = omega arith
length_ids (i ∷ is) = omega (arith, length-append (little_bytes 4 i) (id_bytes is), length-bytes_low_first 0 4 i, length_ids is)

pieces_back : (ids : List ℕ) → list_all is_id ids ≡ true → map number_in (first_chunks 4 (length ids) (id_bytes ids)) ≡ ids
pieces_back [] all = refl
pieces_back (i ∷ is) all =
    let parts = and_parts (is_id i) (list_all is_id is) all in
    let front : take 4 (little_bytes 4 i ++ id_bytes is) ≡ little_bytes 4 i = take_at (little_bytes 4 i) (id_bytes is) 4 (length-bytes_low_first 0 4 i) in
    let back : drop 4 (little_bytes 4 i ++ id_bytes is) ≡ id_bytes is = drop_at (little_bytes 4 i) (id_bytes is) 4 (length-bytes_low_first 0 4 i) in
    let one = number_back i (ltb-true i (2 ^ 32) parts.0) in
    let rest = pieces_back is parts.1 in
    rw (front, back, one, rest) refl

pub ids_back : (ids : List ℕ) → list_all is_id ids ≡ true → ids_in (id_bytes ids) ≡ Some ids
ids_back ids all =
    let len = length_ids ids in
    let count : length (id_bytes ids) / 4 ≡ length ids = omega (arith, len) in
    rw (eq-eqb (length (id_bytes ids) % 4) 0 (omega (arith, len)), count, pieces_back ids all) refl

one_if_most : (b : Bool) → one_if b ≤ 1
one_if_most true = omega arith
one_if_most false = omega arith

flags_fit : (f : SearchFlags) → number_of_flags f < 2 ^ 32
unfolding number_of_flags
flags_fit f =
    omega (arith, one_if_most f.stop, one_if_most f.restart, one_if_most f.recursive, one_if_most f.shallow, one_if_most f.content_indexed, one_if_most f.non_content_indexed, one_if_most f.static_search)

-- ---- what stands under a tag

at_put : (t : Tag) (b : List ℕ) (vs : List Val) → bytes_at t (put (value_of t b) vs) ≡ Some b
at_put t b vs = rw (find_put_same id_of t.id (value_of t b) vs refl, eq-eqb t.kind t.kind refl) refl

other_put : (t u : Tag) (b : List ℕ) (vs : List Val) → (u.id ≡ t.id → ⊥) → bytes_at t (put (value_of u b) vs) ≡ bytes_at t vs
other_put t u b vs other = ap (option_and_then (of_kind t.kind)) (find_put_other id_of t.id (value_of u b) vs other)

other_builds : (id : ℕ) (version : Version) (n : ℕ) (vs : List Val) → (search_builds.id ≡ id → ⊥) → find id (with_builds version n vs) ≡ find id vs
other_builds id First n vs other = find_drop_other id_of id search_builds.id vs other
other_builds id Second n vs other = find_put_other id_of id (number_value search_builds n) vs other

-- the values beside the number of builds, from the mark inwards
abbrev pub set_values : CritSet → List Val → List Val
set_values s vs = put (value_of search_restriction (spelling s.restriction)) (put (value_of search_scope (id_bytes s.scope)) (put (number_value search_flags (number_of_flags s.flags)) vs))

-- under a mark and the number of builds stand the other values
beneath : (t : Tag) (b : List ℕ) (version : Version) (n : ℕ) (vs : List Val) → (search_mark.id ≡ t.id → ⊥) → (search_builds.id ≡ t.id → ⊥)
    → bytes_at t (put (value_of search_mark b) (with_builds version n vs)) ≡ bytes_at t vs
beneath t b version n vs marks builds = other_put t search_mark b (with_builds version n vs) marks ∙ ap (option_and_then (of_kind t.kind)) (other_builds t.id version n vs builds)

-- values ascend after those of criteria were put
set_ascends : (s : CritSet) (vs : List Val) → IsProps vs → ascend_from 0 (set_values s vs) ≡ true
set_ascends s vs props =
    let flags = put (number_value search_flags (number_of_flags s.flags)) vs in
    let scope = put (value_of search_scope (id_bytes s.scope)) flags in
    let flags_ascend : ascend_from 0 flags ≡ true = put-ascends id_of 0 (number_value search_flags (number_of_flags s.flags)) vs (omega arith) props.ascend in
    let scope_ascends : ascend_from 0 scope ≡ true = put-ascends id_of 0 (value_of search_scope (id_bytes s.scope)) flags (omega arith) flags_ascend in
    put-ascends id_of 0 (value_of search_restriction (spelling s.restriction)) scope (omega arith) scope_ascends

builds_written : (b : List ℕ) (version : Version) (s : CritSet) (vs : List Val) → IsProps vs → s.builds < 2 ^ 31 → suits version (Some s) ≡ true
    → SaysBuilds (put (value_of search_mark b) (with_builds version s.builds (set_values s vs))) version s.builds
builds_written b First s vs props fit suit = (
  ap is_none (find_put_other id_of search_builds.id (value_of search_mark b) (remove_id search_builds.id (set_values s vs)) (λ e. omega arith)
      ∙ find_drop_same id_of 0 search_builds.id (set_values s vs) (set_ascends s vs props)),
  eqb-true s.builds 1 (and_parts (not s.flags.static_search) (s.builds == 1) (and_parts (not s.flags.stop) _ suit).1).1,
)
builds_written b Second s vs props fit suit =
    ap (option_map number_in) (other_put search_builds search_mark b (with_builds Second s.builds (set_values s vs)) (λ e. omega arith) ∙ at_put search_builds (little_bytes 4 s.builds) (set_values s vs))
    ∙ ap Some (number_back s.builds (omega arith))

set_written : (b : List ℕ) (version : Version) (s : CritSet) (vs : List Val) → IsProps vs → IsSoundSet s.flags s.scope s.restriction s.builds → suits version (Some s) ≡ true → list_all is_id s.scope ≡ true
    → SaysSet (put (value_of search_mark b) (with_set version (Some s) vs)) version s
set_written b version s vs props sound suit ids =
    let flags = put (number_value search_flags (number_of_flags s.flags)) vs in
    let scope = put (value_of search_scope (id_bytes s.scope)) flags in
    record {
      flags = ap (option_map number_in) (beneath search_flags b version s.builds (set_values s vs) (λ e. omega arith) (λ e. omega arith)
          ∙ other_put search_flags search_restriction (spelling s.restriction) scope (λ e. omega arith)
          ∙ other_put search_flags search_scope (id_bytes s.scope) flags (λ e. omega arith)
          ∙ at_put search_flags (little_bytes 4 (number_of_flags s.flags)) vs)
          ∙ ap Some (number_back (number_of_flags s.flags) (flags_fit s.flags));
      scope = ap (option_and_then ids_in) (beneath search_scope b version s.builds (set_values s vs) (λ e. omega arith) (λ e. omega arith)
          ∙ other_put search_scope search_restriction (spelling s.restriction) scope (λ e. omega arith)
          ∙ at_put search_scope (id_bytes s.scope) flags)
          ∙ ids_back s.scope ids;
      restriction = beneath search_restriction b version s.builds (set_values s vs) (λ e. omega arith) (λ e. omega arith)
          ∙ at_put search_restriction (spelling s.restriction) scope;
      builds = builds_written b version s vs props sound.builds_fit suit;
    }

-- the values of criteria are gone
none_written : (b : List ℕ) (version : Version) (vs : List Val) → IsProps vs → lacks_criteria (put (value_of search_mark b) (with_set version None vs)) ≡ true
none_written b version vs props =
    let one = remove_id search_flags.id vs in let two = remove_id search_scope.id one in let three = remove_id search_restriction.id two in
    let four = remove_id search_builds.id three in
    let one_ascends = drop-ascends id_of 0 search_flags.id vs props.ascend in
    let two_ascends = drop-ascends id_of 0 search_scope.id one one_ascends in
    let three_ascends = drop-ascends id_of 0 search_restriction.id two two_ascends in
    let flags : lacks search_flags.id (put (value_of search_mark b) four) ≡ true = ap is_none (find_put_other id_of search_flags.id (value_of search_mark b) four (λ e. omega arith)
    ∙ find_drop_other id_of search_flags.id search_builds.id three (λ e. omega arith) ∙ find_drop_other id_of search_flags.id search_restriction.id two (λ e. omega arith)
    ∙ find_drop_other id_of search_flags.id search_scope.id one (λ e. omega arith) ∙ find_drop_same id_of 0 search_flags.id vs props.ascend) in
    let scope : lacks search_scope.id (put (value_of search_mark b) four) ≡ true = ap is_none (find_put_other id_of search_scope.id (value_of search_mark b) four (λ e. omega arith)
    ∙ find_drop_other id_of search_scope.id search_builds.id three (λ e. omega arith) ∙ find_drop_other id_of search_scope.id search_restriction.id two (λ e. omega arith)
    ∙ find_drop_same id_of 0 search_scope.id one one_ascends) in
    let restriction : lacks search_restriction.id (put (value_of search_mark b) four) ≡ true = ap is_none (find_put_other id_of search_restriction.id (value_of search_mark b) four (λ e. omega arith)
    ∙ find_drop_other id_of search_restriction.id search_builds.id three (λ e. omega arith) ∙ find_drop_same id_of 0 search_restriction.id two two_ascends) in
    let builds : lacks search_builds.id (put (value_of search_mark b) four) ≡ true = ap is_none (find_put_other id_of search_builds.id (value_of search_mark b) four (λ e. omega arith)
    ∙ find_drop_same id_of 0 search_builds.id three three_ascends) in
    rw (flags, scope, restriction, builds) refl

said_written : (b : List ℕ) (version : Version) (set : Option CritSet) (vs : List Val) → IsProps vs → IsSoundIfSet set → suits version set ≡ true → are_ids set ≡ true
    → SaysIfSet (put (value_of search_mark b) (with_set version set vs)) version set
said_written b version None vs props sound suit ids = none_written b version vs props
said_written b version (Some s) vs props sound suit ids = set_written b version s vs props sound suit ids

-- a mark has whole units
whole : (v : Version) → text_bytes (mark v) ≡ mark v
whole First = refl
whole Second = refl

-- criteria that are written are said
pub says_written : (c : Crit) (vs : List Val) → IsProps vs → IsSound c → are_ids c.set ≡ true → Says (written c vs) c
unfolding written
says_written c vs props sound ids = record {
  marked = ap (option_map text_bytes) (at_put search_mark (mark c.version) (with_set c.version c.set vs)) ∙ ap Some (whole c.version);
  set = said_written (mark c.version) c.version c.set vs props sound.set sound.suits ids;
  sound = sound;
}

-- ---- the other values

apart : (k id : ℕ) → is_criteria_id k ≡ true → is_criteria_id id ≡ false → k ≡ id → ⊥
apart k id is other e = let same : is_criteria_id id ≡ true = subst (λ (i : ℕ). is_criteria_id i ≡ true) e is in let gone : true ≡ false = sym same ∙ other in cc

others_set : (id : ℕ) (version : Version) (set : Option CritSet) (vs : List Val) → is_criteria_id id ≡ false → find id (with_set version set vs) ≡ find id vs
others_set id version None vs other =
    find_drop_other id_of id search_builds.id _ (apart search_builds.id id refl other) ∙ find_drop_other id_of id search_restriction.id _ (apart search_restriction.id id refl other)
    ∙ find_drop_other id_of id search_scope.id _ (apart search_scope.id id refl other) ∙ find_drop_other id_of id search_flags.id vs (apart search_flags.id id refl other)
others_set id version (Some s) vs other =
    other_builds id version s.builds (set_values s vs) (apart search_builds.id id refl other)
    ∙ find_put_other id_of id (value_of search_restriction (spelling s.restriction)) _ (apart search_restriction.id id refl other)
    ∙ find_put_other id_of id (value_of search_scope (id_bytes s.scope)) _ (apart search_scope.id id refl other)
    ∙ find_put_other id_of id (number_value search_flags (number_of_flags s.flags)) vs (apart search_flags.id id refl other)

pub others_written : (c : Crit) (vs : List Val) (id : ℕ) → is_criteria_id id ≡ false → find id (written c vs) ≡ find id vs
unfolding written
others_written c vs id other =
    find_put_other id_of id (value_of search_mark (mark c.version)) (with_set c.version c.set vs) (apart search_mark.id id refl other) ∙ others_set id c.version c.set vs other
