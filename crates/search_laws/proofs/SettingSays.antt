-- Criteria that were written are said.
use Rattle.std.proofs.Common.{◌≡◌, ◌∙◌, ℕ, ◌^◌, ◌<◌, ◌≤◌, ◌&&◌, Bool, true, false, List, Option, None, Some, refl, ap, arith}
use Rattle.std.specs.Prelude.{nat_lt}
use Rattle.std.specs.List.{list_all}
use Rattle.std.specs.Option.{is_none, option_and_then}
use Rattle.std.proofs.lemmas.Bool.{and_parts, eq-eqb, ltb-true}
use Rattle.mapi_values.specs.Properties.{find, put}
use Rattle.mapi_values.specs.Values.{Val}
use Rattle.mapi_values.specs.declared.value.Tag.{Tag}
use Rattle.mail_tree.proofs.KeyedFinds.{find-put_other, find-put_same}
use Rattle.restr_codec.specs.Spelling.{has_spelling, spelling}
use Rattle.restr_codec.proofs.PartBack.{reading_back}
use Rattle.search_obj.specs.declared.flags.SearchFlags.{SearchFlags}
use Rattle.search_obj.specs.declared.criteria.Version.TheVariants.{Second}
use Rattle.search_obj.specs.Flags.{are_allowed, number_of_flags, one_if}
use Rattle.search_obj.specs.Crits.{CritSet}
use Rattle.search_obj.specs.Objects.{bytes_at, lacks, lacks_criteria, mark, of_kind, search_builds, search_flags, search_mark, search_restriction, search_scope}
use Rattle.search_obj.specs.Found.{builds_found, crit_found, flags_found, restriction_found, scope_found, set_found, version_found}
use Rattle.search_obj.specs.Writing.{id_bytes, is_id, number_value, value_of, written}
use Rattle.search_obj.proofs.FlagLaws.{flags_of-number}
use Rattle.search_obj.proofs.WriteLaws.{ids_back, number_back}
use Rattle.mail_searches.specs.Criteria.{can_hold}
use Rattle.mail_searches.specs.Searches.{criteria_of}

abbrev id_of : Val → ℕ
id_of v = v.id

-- ---- what stands under a tag

at-put : (t : Tag) (b : List ℕ) (vs : List Val) → bytes_at t (put (value_of t b) vs) ≡ Some b
at-put t b vs = rw (find-put_same id_of (value_of t b) vs, eq-eqb t.kind t.kind refl) refl

other-put : (t u : Tag) (b : List ℕ) (vs : List Val) → (t.id ≡ u.id → ⊥) → bytes_at t (put (value_of u b) vs) ≡ bytes_at t vs
other-put t u b vs other = ap (option_and_then (of_kind t.kind)) (find-put_other id_of t.id (value_of u b) vs other)

one_if-most : (b : Bool) → one_if b ≤ 1
one_if-most true = omega arith
one_if-most false = omega arith

flags-fit : (f : SearchFlags) → number_of_flags f < 2 ^ 32
unfolding number_of_flags
flags-fit f =
    omega (arith, one_if-most f.stop, one_if-most f.restart, one_if-most f.recursive, one_if-most f.shallow, one_if-most f.content_indexed, one_if-most f.non_content_indexed, one_if-most f.static_search)

-- what an object can hold has each part so
pub record IsHeld (set : CritSet) : Type 0 where
  pub allowed : are_allowed set.flags ≡ true
  pub ids : list_all is_id set.scope ≡ true
  pub spelled : has_spelling set.restriction ≡ true
  pub builds : nat_lt set.builds (2 ^ 31) ≡ true

pub held_parts : (set : CritSet) → can_hold set ≡ true → IsHeld set
held_parts set e =
    let a = and_parts (are_allowed set.flags) _ e in let b = and_parts (list_all is_id set.scope) _ a.1 in let c = and_parts (has_spelling set.restriction) _ b.1 in
    record { allowed = a.0; ids = b.0; spelled = c.0; builds = c.1 }

module _ (set : CritSet) (held : IsHeld set) (vs : List Val) where
  abbrev with_flags : List Val
  with_flags = put (number_value search_flags (number_of_flags set.flags)) vs

  abbrev with_scope : List Val
  with_scope = put (value_of search_scope (id_bytes set.scope)) with_flags

  abbrev with_restriction : List Val
  with_restriction = put (value_of search_restriction (spelling set.restriction)) with_scope

  abbrev with_builds : List Val
  with_builds = put (number_value search_builds set.builds) with_restriction

  abbrev all : List Val
  all = put (value_of search_mark (mark Second)) with_builds

  -- under the mark and the number of builds stand the others
  beneath : (t : Tag) → (t.id ≡ search_mark.id → ⊥) → (t.id ≡ search_builds.id → ⊥) → bytes_at t all ≡ bytes_at t with_restriction
  beneath t marks builds = other-put t search_mark (mark Second) with_builds marks ∙ other-put t search_builds (number_value search_builds set.builds).bytes with_restriction builds

  version-said : version_found all ≡ Some Second
  unfolding version_found
  version-said = rw (at-put search_mark (mark Second) with_builds) refl

  flags-at : bytes_at search_flags all ≡ Some (number_value search_flags (number_of_flags set.flags)).bytes
  flags-at =
      beneath search_flags (λ e. omega arith) (λ e. omega arith) ∙ other-put search_flags search_restriction (spelling set.restriction) with_scope (λ e. omega arith)
      ∙ other-put search_flags search_scope (id_bytes set.scope) with_flags (λ e. omega arith) ∙ at-put search_flags (number_value search_flags (number_of_flags set.flags)).bytes vs

  flags-said : flags_found all ≡ Some set.flags
  unfolding flags_found
  flags-said = rw (flags-at, number_back (number_of_flags set.flags) (flags-fit set.flags)) (flags_of-number set.flags held.allowed)

  scope-said : scope_found all ≡ Some set.scope
  unfolding scope_found
  scope-said = rw (
      beneath search_scope (λ e. omega arith) (λ e. omega arith) ∙ other-put search_scope search_restriction (spelling set.restriction) with_scope (λ e. omega arith)
      ∙ at-put search_scope (id_bytes set.scope) with_flags
      ) (ids_back set.scope held.ids)

  restriction-said : restriction_found all ≡ Some set.restriction
  unfolding restriction_found
  restriction-said = rw (
    beneath search_restriction (λ e. omega arith) (λ e. omega arith) ∙ at-put search_restriction (spelling set.restriction) with_scope,
    reading_back set.restriction held.spelled,
  ) refl

  builds-said : builds_found Second all ≡ Some set.builds
  unfolding builds_found
  builds-said = rw (
    other-put search_builds search_mark (mark Second) with_builds (λ e. omega arith) ∙ at-put search_builds (number_value search_builds set.builds).bytes with_restriction,
    number_back set.builds (omega (arith, ltb-true set.builds (2 ^ 31) held.builds)),
    held.builds,
  ) refl

  set-said : set_found Second all ≡ Some set
  unfolding set_found
  set-said = rw (flags-said, scope-said, restriction-said, builds-said) refl

  abbrev lacks_others : Bool
  lacks_others = lacks search_scope.id all && (lacks search_restriction.id all && lacks search_builds.id all)

  some-said : lacks_criteria all ≡ false
  some-said = by-flags (find search_flags.id all) flags-at
    where
      by-flags : (o : Option Val) → option_and_then (of_kind search_flags.kind) o ≡ Some (number_value search_flags (number_of_flags set.flags)).bytes → (is_none o && lacks_others) ≡ false
      by-flags None e = cc
      by-flags (Some v) e = refl

  -- criteria of the second version that an object can hold are said where they were written
  pub says_written : criteria_of (written (record { version = Second; set = Some set }) vs) ≡ Some (record { version = Second; set = Some set })
  unfolding criteria_of crit_found written
  says_written = rw (version-said, some-said, set-said) refl
