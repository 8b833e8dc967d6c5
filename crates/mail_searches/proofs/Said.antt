-- What is found in the values of a marked object is what they say.
use Rattle.std.proofs.Common.{◌≡◌, ℕ, zero, suc, ◌*◌, ◌^◌, ◌<◌, ◌/◌, ◌%◌, ◌==◌, true, List, drop, length, Option, None, Some, IsTrue, Result, Ok, Err, refl, sym, ap, subst, ◌∙◌, inl, inr, arith}
use Rattle.std.specs.Prelude.{nat_lt}
use Rattle.std.specs.Option.{option_and_then}
use Rattle.std.specs.Simd.{first_chunks}
use Rattle.std.proofs.lemmas.List.{length-map}
use Rattle.std.proofs.lemmas.Bool.{cases_Bool, ltb-true}
use Rattle.mapi_values.specs.Kinds.{ptyp_binary}
use Rattle.mapi_values.specs.Values.{Val, fits, in_field}
use Rattle.restr_codec.specs.Restr.{Restr}
use Rattle.restr_codec.specs.Reading.{Read, placed, reading, whole}
use Rattle.restr_codec.specs.Spelling.{has_spelling, spelling}
use Rattle.restr_codec.specs.declared.reading.BadRestriction.{BadRestriction}
use Rattle.restr_codec.proofs.FieldLaws.{AreBytes, Finds}
use Rattle.restr_codec.proofs.PartFound.{WholeFound, whole_found}
use Rattle.search_obj.specs.declared.criteria.Version.{Version}
use Rattle.search_obj.specs.declared.criteria.Version.TheVariants.{First, Second}
use Rattle.search_obj.specs.declared.flags.SearchFlags.{SearchFlags}
use Rattle.search_obj.specs.Crits.{Crit, CritSet, IsSoundSet, suits}
use Rattle.search_obj.specs.Found.{builds_found, crit_found, flags_found, if_positive, if_read, if_suits, restriction_found, scope_found, set_found, set_with, version_found}
use Rattle.search_obj.specs.Objects.{IsFaulty, IsForeign, Says, SaysSet, bytes_at, ids_in, ids_of, lacks, lacks_criteria, number_in, number_with, search_builds, search_restriction, search_scope}
use Rattle.search_obj.proofs.FoundLaws.{allowed_found, crit_back, marked_found, says_set, version_back}
use Rattle.mail_tree.proofs.FineLaws.{cases_Option}
use Rattle.mail_searches.specs.Searches.{criteria_of}

-- what is read of bytes is what they spell
spells : (b : List ℕ) (r : Restr) → AreBytes b → reading b ≡ Ok r → (b ≡ spelling r) × (has_spelling r ≡ true)
unfolding reading
spells b r are is = at (whole b) refl is
  where
    at : (w : Read Restr) → whole b ≡ w → placed (length b) w ≡ Ok r → (b ≡ spelling r) × (has_spelling r ≡ true)
    at (Ok p) e is' =
        let found = subst (Finds (WholeFound b) (length b)) e (whole_found b are) in
        let same : p.0 ≡ r = cc in
        subst (λ x. (b ≡ spelling x) × (has_spelling x ≡ true)) same (found.spelled, found.has)
    at (Err fault) e is' = cc

-- the bytes of the restriction
read_at : (o : Option (List ℕ)) (r : Restr) → option_and_then (λ b. if_read (reading b)) o ≡ Some r → (b : List ℕ) × (o ≡ Some b) × (reading b ≡ Ok r)
read_at None r is = cc
read_at (Some b) r is = (b, refl, ok (reading b) is)
  where
    ok : (x : Result Restr BadRestriction) → if_read x ≡ Some r → x ≡ Ok r
    ok (Ok y) e = let same : y ≡ r = cc in ap Ok same
    ok (Err fault) e = cc

-- how often the list was built is a number that isn't negative
positive : (o : Option ℕ) (n : ℕ) → option_and_then if_positive o ≡ Some n → n < 2 ^ 31
positive None n is = cc
positive (Some m) n is = elim (cases_Bool (nat_lt m (2 ^ 31))) [
  | inl t ↦ let here : Some m ≡ Some n = rw t at is in let same : m ≡ n = cc in subst (λ k. k < 2 ^ 31) same (ltb-true m (2 ^ 31) t)
  | inr f ↦ let gone : None ≡ Some n = rw f at is in cc
]

builds_fit : (version : Version) (vs : List Val) (n : ℕ) → builds_found version vs ≡ Some n → n < 2 ^ 31
unfolding builds_found
builds_fit First vs n is = elim (cases_Bool (lacks search_builds.id vs)) [
  | inl t ↦ let here : Some 1 ≡ Some n = rw t at is in let same : 1 ≡ n = cc in omega (arith, same)
  | inr f ↦ let gone : None ≡ Some n = rw f at is in cc
]
builds_fit Second vs n is = positive (number_with search_builds vs) n is

length_chunks : (n : ℕ) (bytes : List ℕ) → length (first_chunks 4 n bytes) ≡ n
length_chunks zero bytes = refl
length_chunks (suc n) bytes = ap suc (length_chunks n (drop 4 bytes))

length_ids : (bytes : List ℕ) → length (ids_of bytes) ≡ length bytes / 4
length_ids bytes = length-map (first_chunks 4 (length bytes / 4) bytes) number_in ∙ length_chunks (length bytes / 4) bytes

-- the ids of a scope are as many as its bytes have room for
ids_few : (o : Option (List ℕ)) (ids : List ℕ) → ((b : List ℕ) → o ≡ Some b → length b < 2 ^ 32) → option_and_then ids_in o ≡ Some ids → 4 * length ids < 2 ^ 32
ids_few None ids short is = cc
ids_few (Some b) ids short is = elim (cases_Bool (length b % 4 == 0)) [
  | inl t ↦ let here : Some (ids_of b) ≡ Some ids = rw t at is in let same : ids_of b ≡ ids = cc in
      subst (λ xs. 4 * length xs < 2 ^ 32) same (omega (arith, short b refl, length_ids b))
  | inr f ↦ let gone : None ≡ Some ids = rw f at is in cc
]

-- what these values may hold
pub record AreShort (vs : List Val) : Type 0 where
  pub bytes : (b : List ℕ) → bytes_at search_restriction vs ≡ Some b → AreBytes b × (length b < 2 ^ 32)
  pub scope : (b : List ℕ) → bytes_at search_scope vs ≡ Some b → length b < 2 ^ 32

-- a binary value has fewer bytes than a number of 4 bytes counts
short_binary : (n : ℕ) → IsTrue (fits ptyp_binary n) → n < 2 ^ 32
unfolding fits in_field
short_binary n fit = ltb-true n 0x1_0000_0000 fit

-- bytes that were looked at
pub looked : (s : List ℕ) (found : Option (List ℕ)) → Some s ≡ found → IsTrue (fits ptyp_binary (length s)) → AreBytes s → (b : List ℕ) → found ≡ Some b → AreBytes b × (length b < 2 ^ 32)
looked s found same fit are b is = let bytes : s ≡ b = cc in subst (λ x. AreBytes x × (length x < 2 ^ 32)) bytes (are, short_binary (length s) fit)

-- the parts of what was set
record Parts (version : Version) (vs : List Val) (s : CritSet) : Type 0 where
  flags : (f : SearchFlags) × (flags_found vs ≡ Some f)
  scope : (ids : List ℕ) × (scope_found vs ≡ Some ids)
  restriction : (r : Restr) × (restriction_found vs ≡ Some r)
  builds : (n : ℕ) × (builds_found version vs ≡ Some n)
  same : s ≡ set_with flags.0 scope.0 restriction.0 builds.0
  suit : suits version (Some s) ≡ true

suited : (version : Version) (t s : CritSet) → if_suits version t ≡ Some s → (s ≡ t) × (suits version (Some s) ≡ true)
suited version t s is = elim (cases_Bool (suits version (Some t))) [
  | inl y ↦ let here : Some t ≡ Some s = rw y at is in let same : t ≡ s = cc in (sym same, subst (λ x. suits version (Some x) ≡ true) same y)
  | inr n ↦ let gone : None ≡ Some s = rw n at is in cc
]

parts_of : (version : Version) (vs : List Val) (s : CritSet) → set_found version vs ≡ Some s → Parts version vs s
unfolding set_found
parts_of version vs s is = elim (cases_Option (flags_found vs)) [
  | inl e ↦ let gone : None ≡ Some s = rw e at is in cc
  | inr f ↦ elim (cases_Option (scope_found vs)) [
    | inl e ↦ let gone : None ≡ Some s = rw (f.1, e) at is in cc
    | inr ids ↦ elim (cases_Option (restriction_found vs)) [
      | inl e ↦ let gone : None ≡ Some s = rw (f.1, ids.1, e) at is in cc
      | inr r ↦ elim (cases_Option (builds_found version vs)) [
        | inl e ↦ let gone : None ≡ Some s = rw (f.1, ids.1, r.1, e) at is in cc
        | inr n ↦
            let here : if_suits version (set_with f.0 ids.0 r.0 n.0) ≡ Some s = rw (f.1, ids.1, r.1, n.1) at is in
            let suit = suited version (set_with f.0 ids.0 r.0 n.0) s here in
            record { flags = f; scope = ids; restriction = r; builds = n; same = suit.0; suit = suit.1 }
      ]
    ]
  ]
]

says_parts : (version : Version) (vs : List Val) (s : CritSet) → AreShort vs → Parts version vs s → SaysSet vs version s × IsSoundSet s.flags s.scope s.restriction s.builds
unfolding restriction_found scope_found
says_parts version vs s short p =
    let r = read_at (bytes_at search_restriction vs) p.restriction.0 p.restriction.1 in
    let spelled = spells r.0 p.restriction.0 (short.bytes r.0 r.1).0 r.2 in
    let says = says_set version vs p.flags.0 p.scope.0 p.restriction.0 p.builds.0 p.flags.1 p.scope.1 (r.1 ∙ ap Some spelled.0) p.builds.1 in
    let fit : length (spelling p.restriction.0) < 2 ^ 32 = subst (λ b. length b < 2 ^ 32) spelled.0 (short.bytes r.0 r.1).1 in
    let sound : IsSoundSet p.flags.0 p.scope.0 p.restriction.0 p.builds.0 = record {
      allowed = allowed_found vs p.flags.0 p.flags.1;
      scope_fits = ids_few (bytes_at search_scope vs) p.scope.0 short.scope p.scope.1;
      spelled = spelled.1;
      restriction_fits = fit;
      builds_fit = builds_fit version vs p.builds.0 p.builds.1;
    } in
    subst (λ x. SaysSet vs version x × IsSoundSet x.flags x.scope x.restriction x.builds) (sym p.same) (says, sound)

none_suits : (version : Version) → suits version None ≡ true
none_suits First = refl
none_suits Second = refl

abbrev with_set_of : Version → Option CritSet → Crit
with_set_of version set = record { version = version; set = set }

said : (version : Version) (vs : List Val) (c : Crit) → AreShort vs → version_found vs ≡ Some version → crit_found version vs ≡ Some c → Says vs c
unfolding crit_found
said version vs c short marked is = elim (cases_Bool (lacks_criteria vs)) [
  | inl t ↦
      let here : Some (with_set_of version None) ≡ Some c = rw t at is in
      let same : with_set_of version None ≡ c = cc in
      subst (Says vs) same (record { marked = marked_found vs version marked; set = t; sound = record { set = refl; suits = none_suits version } })
  | inr f ↦ elim (cases_Option (set_found version vs)) [
    | inl e ↦ let gone : None ≡ Some c = rw (f, e) at is in cc
    | inr s ↦
        let here : Some (with_set_of version (Some s.0)) ≡ Some c = rw (f, s.1) at is in
        let same : with_set_of version (Some s.0) ≡ c = cc in
        let p = parts_of version vs s.0 s.1 in
        let says = says_parts version vs s.0 short p in
        subst (Says vs) same (record { marked = marked_found vs version marked; set = says.0; sound = record { set = says.1; suits = p.suit } })
  ]
]

-- a marked object that says no criteria has none
pub none_of_faulty : (vs : List Val) → AreShort vs → IsFaulty vs → criteria_of vs ≡ None
unfolding criteria_of
none_of_faulty vs short faulty = elim (cases_Option (version_found vs)) [
  | inl e ↦ rw e refl
  | inr v ↦ rw v.1 (elim (cases_Option (crit_found v.0 vs)) [
    | inl e ↦ e
    | inr c ↦ absurd (faulty.says_none c.0 (said v.0 vs c.0 short v.1 c.1))
  ])
]

-- so has one without a mark
pub none_of_foreign : (vs : List Val) → IsForeign vs → criteria_of vs ≡ None
unfolding criteria_of
none_of_foreign vs foreign = elim (cases_Option (version_found vs)) [
  | inl e ↦ rw e refl
  | inr v ↦ absurd (foreign v.0 (marked_found vs v.0 v.1))
]

-- what an object says is found
pub some_of_said : (vs : List Val) (c : Crit) → Says vs c → criteria_of vs ≡ Some c
unfolding criteria_of
some_of_said vs c says = rw (version_back vs c.version says.marked) (crit_back vs c says)
