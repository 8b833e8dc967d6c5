-- A criteria object that was turned says in the second version what it said in the first.
use Rattle.std.proofs.Common.{◌≡◌, ◌∙◌, ℕ, ◌==◌, ◌&&◌, Bool, true, false, List, [], ◌∷◌, Option, None, Some, ap, arith, refl, subst, sym, inl, inr, if◌then◌else◌}
use Rattle.std.specs.Option.{is_none, option_and_then, option_map}
use Rattle.std.proofs.lemmas.Bool.{and_from, and_parts, cases_Bool, eq-eqb}
use Rattle.std.proofs.lemmas.Option.{none-some}
use Rattle.mapi_values.specs.Keyed.{drop_key, find_key}
use Rattle.mapi_values.specs.Properties.{find, put, remove_id}
use Rattle.mapi_values.specs.Values.{Val}
use Rattle.mapi_values.specs.declared.value.Tag.{Tag}
use Rattle.mail_tree.proofs.KeyedFinds.{find-put_other, find-put_same}
use Rattle.search_obj.specs.Changing.{migrated}
use Rattle.search_obj.specs.Crits.{Crit, CritSet}
use Rattle.search_obj.specs.Found.{crit_found, set_found, version_found}
use Rattle.search_obj.specs.Objects.{bytes_at, lacks, lacks_criteria, mark, of_kind, search_builds, search_flags, search_mark, search_restriction, search_scope}
use Rattle.search_obj.specs.Writing.{value_of, with_set, written}
use Rattle.search_obj.specs.declared.criteria.Version.{Version}
use Rattle.search_obj.specs.declared.criteria.Version.TheVariants.{First, Second}
use Rattle.mail_searches.specs.Searches.{criteria_of}
use Rattle.search_laws.proofs.SettingSays.{held_parts, says_written}
use Rattle.search_mending.specs.Mending.{can_hold_any}

abbrev id_of : Val → ℕ
id_of v = v.id

-- ---- where nothing was set

-- what isn't there isn't there once something was removed
still-none : (k d : ℕ) (vs : List Val) → find_key id_of k vs ≡ None → find_key id_of k (drop_key id_of d vs) ≡ None
still-none k d [] e = refl
still-none k d (v ∷ vs) e = elim (cases_Bool (v.id == k)) [
  | inl t ↦ absurd (none-some v (sym (rw t at e)))
  | inr f ↦ elim (cases_Bool (v.id == d)) [
    | inl t ↦ rw t (rw f at e)
    | inr g ↦ rw (g, f) (still-none k d vs (rw f at e))
  ]
]

none-is : (o : Option Val) → is_none o ≡ true → o ≡ None
none-is None e = refl
none-is (Some v) e = cc

lacks-removed : (k d : ℕ) (vs : List Val) → lacks k vs ≡ true → lacks k (remove_id d vs) ≡ true
lacks-removed k d vs e = ap is_none (still-none k d vs (none-is (find k vs) e))

lacks-put : (k : ℕ) (v : Val) (vs : List Val) → (k ≡ v.id → ⊥) → lacks k vs ≡ true → lacks k (put v vs) ≡ true
lacks-put k v vs other e = ap is_none (find-put_other id_of k v vs other) ∙ e

at-put : (t : Tag) (b : List ℕ) (vs : List Val) → bytes_at t (put (value_of t b) vs) ≡ Some b
at-put t b vs = rw (find-put_same id_of (value_of t b) vs, eq-eqb t.kind t.kind refl) refl

module _ (vs : List Val) (none : lacks_criteria vs ≡ true) where
  abbrev cleared : List Val
  cleared = with_set Second None vs

  abbrev marked : List Val
  marked = put (value_of search_mark (mark Second)) cleared

  lacks-marked : (k : ℕ) → (k ≡ search_mark.id → ⊥) → lacks k vs ≡ true → lacks k marked ≡ true
  lacks-marked k other e =
      lacks-put k (value_of search_mark (mark Second)) cleared other (lacks-removed k search_builds.id _ (lacks-removed k search_restriction.id _ (lacks-removed k search_scope.id _ (lacks-removed k search_flags.id vs e))))

  still-lacks : lacks_criteria marked ≡ true
  still-lacks =
      let a = and_parts (lacks search_flags.id vs) _ none in let b = and_parts (lacks search_scope.id vs) _ a.1 in let c = and_parts (lacks search_restriction.id vs) _ b.1 in
      and_from (lacks search_flags.id marked) _ (lacks-marked search_flags.id (λ e. omega arith) a.0) (and_from (lacks search_scope.id marked) _ (lacks-marked search_scope.id (λ e. omega arith) b.0)
      (and_from (lacks search_restriction.id marked) (lacks search_builds.id marked) (lacks-marked search_restriction.id (λ e. omega arith) c.0) (lacks-marked search_builds.id (λ e. omega arith) c.1)))

  mark-at : bytes_at search_mark marked ≡ Some (mark Second)
  mark-at = at-put search_mark (mark Second) cleared

  version-marked : version_found marked ≡ Some Second
  unfolding version_found
  version-marked = rw mark-at refl

  none-said : criteria_of (written (record { version = Second; set = None }) vs) ≡ Some (record { version = Second; set = None })
  unfolding criteria_of crit_found written
  none-said = rw (version-marked, still-lacks) refl

-- values that say that nothing was set have none of the criteria
none-found : (k : Crit) (vs : List Val) → criteria_of vs ≡ Some k → k.set ≡ None → lacks_criteria vs ≡ true
unfolding criteria_of crit_found
none-found k vs e none = by-version (version_found vs) e
  where
    by-set : (version : Version) (o : Option CritSet) → option_map (λ s. record { version = version; set = Some s }) o ≡ Some k → ⊥
    by-set version None e = cc
    by-set version (Some s) e = none-some s (sym none ∙ sym (ap (λ (x : Option Crit). option_and_then (λ (y : Crit). y.set) x) e))

    by-lacks : (version : Version) (b : Bool) → (if b then Some (record { version = version; set = None }) else option_map (λ s. record { version = version; set = Some s }) (set_found version vs)) ≡ Some k → b ≡ true
    by-lacks version true e = refl
    by-lacks version false e = absurd (by-set version (set_found version vs) e)

    by-version : (o : Option Version) → option_and_then (λ version. crit_found version vs) o ≡ Some k → lacks_criteria vs ≡ true
    by-version None e = cc
    by-version (Some version) e = by-lacks version (lacks_criteria vs) e

-- ---- in both cases

pub says_turned : (k : Crit) (vs : List Val) → criteria_of vs ≡ Some k → can_hold_any k.set ≡ true → criteria_of (written (migrated k) vs) ≡ Some (migrated k)
says_turned k vs said holds = by-set k.set refl
  where
    by-set : (set : Option CritSet) → k.set ≡ set → criteria_of (written (migrated k) vs) ≡ Some (migrated k)
    by-set None e = subst (λ (x : Option CritSet). criteria_of (written (record { version = Second; set = x }) vs) ≡ Some (record { version = Second; set = x })) (sym e) (none-said vs (none-found k vs said e))
    by-set (Some set) e = subst (λ (x : Option CritSet). criteria_of (written (record { version = Second; set = x }) vs) ≡ Some (record { version = Second; set = x })) (sym e)
        (says_written set (held_parts set (subst (λ x. can_hold_any x ≡ true) e holds)) vs)
