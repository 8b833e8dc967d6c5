-- What is found is what an object says.
use Rattle.std.proofs.Common.{◌≡◌, ℕ, ◌^◌, ◌<◌, true, List, Option, None, Some, Result, Ok, Err, IfErr, refl, sym, ap, subst, ◌∙◌, inl, inr}
use Rattle.std.specs.Prelude.{nat_lt}
use Rattle.std.specs.Option.{is_none, option_and_then, option_map}
use Rattle.std.specs.Result.{IsErrAnd}
use Rattle.std.specs.Str.{bytes_eq}
use Rattle.pst_base.specs.Stops.{StopsAtNone}
use Rattle.pst_base.specs.declared.stops.MemOr.{MemOr}
use Rattle.pst_base.specs.declared.stops.MemOr.TheVariants.{Memory, Refused}
use Rattle.std.proofs.lemmas.Bool.{and_parts, cases_Bool, lt-ltb}
use Rattle.std.proofs.lemmas.Slice.Eq.{bytes_eq-Decides}
use Rattle.mapi_values.specs.Properties.{find}
use Rattle.mapi_values.specs.Values.{Val}
use Rattle.restr_codec.specs.Restr.{Restr}
use Rattle.restr_codec.specs.Spelling.{has_spelling, spelling}
use Rattle.restr_codec.proofs.PartBack.{reading_back}
use Rattle.search_obj.specs.declared.criteria.Version.{Version}
use Rattle.search_obj.specs.declared.criteria.Version.TheVariants.{First, Second}
use Rattle.search_obj.specs.declared.flags.SearchFlags.{SearchFlags}
use Rattle.search_obj.specs.declared.reading.CriteriaFault.{CriteriaFault}
use Rattle.search_obj.specs.declared.values.TheConstants.{FIRST_MARK, SECOND_MARK}
use Rattle.search_obj.specs.Flags.{are_allowed, flags_of, number_of_flags}
use Rattle.search_obj.specs.Crits.{Crit, CritSet, IsSoundIfSet, IsSoundSet, suits}
use Rattle.search_obj.specs.Objects.{IsFaulty, IsForeign, IsMarked, Says, SaysBuilds, SaysIfSet, SaysSet, bytes_at, ids_in, lacks, lacks_criteria, mark, mark_at, number_in, number_with, of_kind, search_builds, search_flags, search_restriction, search_scope}
use Rattle.search_obj.specs.Found.{StopsAtFault, builds_found, crit_found, flags_found, if_positive, restriction_found, scope_found, set_found, set_with, version_found, version_marked}
use Rattle.search_obj.proofs.FlagLaws.{flags_of-Some, flags_of-number}

-- ---- marks

marked_back : (v : Version) → version_marked (mark v) ≡ Some v
marked_back First = refl
marked_back Second = refl

pub version_back : (vs : List Val) (v : Version) → IsMarked vs v → version_found vs ≡ Some v
unfolding version_found
version_back vs v m = rw m (marked_back v)

mark_of : (b : List ℕ) (v : Version) → version_marked b ≡ Some v → b ≡ mark v
mark_of b v is =
    elim (cases_Bool (bytes_eq b FIRST_MARK)) [
      | inl t ↦
          let here : Some First ≡ Some v = rw t at is in
          let same : First ≡ v = cc in
          subst (λ w. b ≡ mark w) same ((bytes_eq-Decides b FIRST_MARK).0 t)
      | inr f ↦ elim (cases_Bool (bytes_eq b SECOND_MARK)) [
        | inl t ↦
            let here : Some Second ≡ Some v = rw (f, t) at is in
            let same : Second ≡ v = cc in
            subst (λ w. b ≡ mark w) same ((bytes_eq-Decides b SECOND_MARK).0 t)
        | inr g ↦ let gone : None ≡ Some v = rw (f, g) at is in cc
      ]
    ]

marked_at : (o : Option (List ℕ)) (v : Version) → option_and_then version_marked o ≡ Some v → o ≡ Some (mark v)
marked_at None v is = cc
marked_at (Some b) v is = ap Some (mark_of b v is)

pub marked_found : (vs : List Val) (v : Version) → version_found vs ≡ Some v → IsMarked vs v
unfolding version_found
marked_found vs v is = marked_at (mark_at vs) v is

pub foreign_found : (vs : List Val) → version_found vs ≡ None → IsForeign vs
foreign_found vs is = λ v m. let back = version_back vs v m in let gone : None ≡ Some v = sym is ∙ back in cc

-- ---- what was set

flags_said : (o : Option ℕ) (f : SearchFlags) → option_and_then flags_of o ≡ Some f → o ≡ Some (number_of_flags f)
flags_said None f is = cc
flags_said (Some n) f is = ap Some (sym (flags_of-Some n f is).0)

positive_said : (o : Option ℕ) (n : ℕ) → option_and_then if_positive o ≡ Some n → o ≡ Some n
positive_said None n is = cc
positive_said (Some m) n is =
    elim (cases_Bool (nat_lt m (2 ^ 31))) [
      | inl t ↦ rw t at is
      | inr f ↦ let gone : None ≡ Some n = rw f at is in cc
    ]

builds_said : (version : Version) (vs : List Val) (n : ℕ) → builds_found version vs ≡ Some n → SaysBuilds vs version n
unfolding builds_found
builds_said First vs n is =
    elim (cases_Bool (lacks search_builds.id vs)) [
      | inl t ↦ let here : Some 1 ≡ Some n = rw t at is in let same : n ≡ 1 = cc in (t, same)
      | inr f ↦ let gone : None ≡ Some n = rw f at is in cc
    ]
builds_said Second vs n is = positive_said (number_with search_builds vs) n is

-- the parts that are found are said
pub says_set : (version : Version) (vs : List Val) (f : SearchFlags) (scope : List ℕ) (r : Restr) (n : ℕ) → flags_found vs ≡ Some f → scope_found vs ≡ Some scope
    → bytes_at search_restriction vs ≡ Some (spelling r) → builds_found version vs ≡ Some n → SaysSet vs version (set_with f scope r n)
unfolding flags_found scope_found
says_set version vs f scope r n flags ids bytes builds = record {
  flags = flags_said (number_with search_flags vs) f flags;
  scope = ids;
  restriction = bytes;
  builds = builds_said version vs n builds;
}

flags_back : (vs : List Val) (f : SearchFlags) → number_with search_flags vs ≡ Some (number_of_flags f) → are_allowed f ≡ true → flags_found vs ≡ Some f
unfolding flags_found
flags_back vs f is allowed = rw is (flags_of-number f allowed)

scope_back : (vs : List Val) (scope : List ℕ) → option_and_then ids_in (bytes_at search_scope vs) ≡ Some scope → scope_found vs ≡ Some scope
unfolding scope_found
scope_back vs scope is = is

restriction_back : (vs : List Val) (r : Restr) → bytes_at search_restriction vs ≡ Some (spelling r) → has_spelling r ≡ true → restriction_found vs ≡ Some r
unfolding restriction_found
restriction_back vs r is spelled = rw (is, reading_back r spelled) refl

builds_back : (version : Version) (vs : List Val) (n : ℕ) → SaysBuilds vs version n → n < 2 ^ 31 → builds_found version vs ≡ Some n
unfolding builds_found
builds_back First vs n is fit = rw (is.0, is.1) refl
builds_back Second vs n is fit = rw (is, lt-ltb n (2 ^ 31) fit) refl

-- what is said is found
set_back : (version : Version) (vs : List Val) (s : CritSet) → SaysSet vs version s → IsSoundSet s.flags s.scope s.restriction s.builds → suits version (Some s) ≡ true
    → set_found version vs ≡ Some s
unfolding set_found
set_back version vs s is sound suit =
    let flags = flags_back vs s.flags is.flags sound.allowed in
    let scope = scope_back vs s.scope is.scope in
    let restriction = restriction_back vs s.restriction is.restriction sound.spelled in
    let builds = builds_back version vs s.builds is.builds sound.builds_fit in
    rw (flags, scope, restriction, builds, suit) refl

-- where no value has the id none is found
lacking : (o : Option Val) (kind : ℕ) (n : ℕ) → is_none o ≡ true → option_map number_in (option_and_then (of_kind kind) o) ≡ Some n → ⊥
lacking None kind n t is = cc
lacking (Some v) kind n t is = cc

crit_back_set : (version : Version) (vs : List Val) (set : Option CritSet) → SaysIfSet vs version set → IsSoundIfSet set → suits version set ≡ true
    → crit_found version vs ≡ Some (record { version = version; set = set })
unfolding crit_found
crit_back_set version vs None is sound suit = rw is refl
crit_back_set version vs (Some s) is sound suit =
    elim (cases_Bool (lacks_criteria vs)) [
      | inl t ↦ absurd (lacking (find search_flags.id vs) search_flags.kind (number_of_flags s.flags) (and_parts (lacks search_flags.id vs) _ t).0 is.flags)
      | inr f ↦ rw (f, set_back version vs s is sound suit) refl
    ]

pub crit_back : (vs : List Val) (c : Crit) → Says vs c → crit_found c.version vs ≡ Some c
crit_back vs c says = crit_back_set c.version vs c.set says.set says.sound.set says.sound.suits

-- an object of a version of which nothing is found is faulty
pub faulty_found : (vs : List Val) (version : Version) → version_found vs ≡ Some version → crit_found version vs ≡ None → IsFaulty vs
faulty_found vs version is none = record {
  own = (version, marked_found vs version is);
  says_none = λ c says.
      let back = version_back vs c.version says.marked in
      let here : Some version ≡ Some c.version = sym is ∙ back in
      let same : c.version ≡ version = cc in
      let found : crit_found version vs ≡ Some c = subst (λ w. crit_found w vs ≡ Some c) same (crit_back vs c says) in
      let gone : None ≡ Some c = sym none ∙ found in
      cc;
}

-- flags that were found are ones that a search may have
allowed_at : (o : Option ℕ) (f : SearchFlags) → option_and_then flags_of o ≡ Some f → are_allowed f ≡ true
allowed_at None f is = cc
allowed_at (Some n) f is = (flags_of-Some n f is).1

pub allowed_found : (vs : List Val) (f : SearchFlags) → flags_found vs ≡ Some f → are_allowed f ≡ true
unfolding flags_found
allowed_found vs f is = allowed_at (number_with search_flags vs) f is

-- a refusal comes of a faulty object
pub fault_of : (vs : List Val) (version : Version) (e : MemOr CriteriaFault) → version_found vs ≡ Some version → StopsAtNone e (crit_found version vs) → StopsAtFault vs e
fault_of vs version Memory is none = tt
fault_of vs version (Refused f) is none = faulty_found vs version is none

-- the refusal that is given
pub fault_given : {T : Type 0} (vs : List Val) (e : MemOr CriteriaFault) (result : Result T (MemOr CriteriaFault)) → IsErrAnd result (λ x. x ≡ e) → StopsAtFault vs e → IfErr result (StopsAtFault vs)
fault_given vs e (Ok y) h fault = tt
fault_given vs e (Err x) h fault = subst (StopsAtFault vs) (sym h) fault

-- an object says one thing
pub unique : (vs : List Val) (c d : Crit) → Says vs c → Says vs d → c ≡ d
unique vs c d one other =
    let versions : Some c.version ≡ Some d.version = sym (version_back vs c.version one.marked) ∙ version_back vs d.version other.marked in
    let same : c.version ≡ d.version = cc in
    let found : Some c ≡ Some d = sym (subst (λ w. crit_found w vs ≡ Some c) same (crit_back vs c one)) ∙ crit_back vs d other in
    cc
