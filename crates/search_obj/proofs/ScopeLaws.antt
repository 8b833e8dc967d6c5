-- Sets of folders, and which of them are in a scope.
use Rattle.std.proofs.Common.{◌≡◌, ℕ, suc, ◌<◌, ◌==◌, ◌&&◌, Bool, true, false, List, [], ◌∷◌, ◌++◌, length, map, take, reverse, get_or, refl, sym, ap, subst, ◌∙◌, inl, inr, ◌||◌}
use Rattle.std.specs.Prelude.{not}
use Rattle.std.specs.List.{list_any}
use Rattle.std.specs.Option.{is_some}
use Rattle.std.proofs.Math.Seq.{take-suc}
use Rattle.std.proofs.lemmas.Bool.{and_parts, cases_Bool, eq-eqb, eqb-true, or_cases, true≢false}
use Rattle.std.proofs.lemmas.List.{map-append, reverse-append}
use Rattle.mapi_values.specs.Keyed.{keys_ascend, put_key}
use Rattle.pst_base.specs.declared.ids.Nid.{Nid}
use Rattle.search_obj.specs.declared.scoping.Member.{Member}
use Rattle.search_obj.specs.Crits.{CritSet}
use Rattle.search_obj.specs.Scope.{are_in_order, are_in_order_back, ids_of_pair, in_scope, in_scope_back, is_among, is_listed, is_member, is_plain, member_id}
use Rattle.search_obj.proofs.PropLaws.{find_put_other, find_put_same}

-- a folder that was put is in the set, beside those that were
pub member_put : (m : Member) (ms : List Member) (f : ℕ) → is_member (put_key member_id m ms) f ≡ ((member_id m == f) || is_member ms f)
member_put m ms f =
    elim (cases_Bool (member_id m == f)) [
      | inl t ↦ rw t (ap is_some (find_put_same member_id f m ms (eqb-true (member_id m) f t)))
      | inr n ↦ rw n (ap is_some (find_put_other member_id f m ms (λ e. true≢false (sym (eq-eqb (member_id m) f e) ∙ n))))
    ]

or_swap : (a b : Bool) → (a || b) ≡ (b || a)
or_swap true true = refl
or_swap true false = refl
or_swap false true = refl
or_swap false false = refl

any_snoc : {X : Type 0} (p : X → Bool) (xs : List X) (x : X) → list_any p (xs ++ x ∷ []) ≡ (p x || list_any p xs)
any_snoc p [] x = refl
any_snoc p (y ∷ ys) x = elim (cases_Bool (p y)) [
  | inl t ↦ rw t (sym (or_swap (p x) true))
  | inr n ↦ rw n (any_snoc p ys x)
]

-- one more folder of those that make a set
pub members_more : (folders : List Nid) (i j : ℕ) (x d : Nid) (m : Member) (ms : List Member) → j ≡ suc i → i < length folders → x ≡ get_or folders i d → m.nid ≡ x
    → ((f : ℕ) → is_member ms f ≡ is_among (map (λ n. n.bits) (take i folders)) f)
    → (f : ℕ) → is_member (put_key member_id m ms) f ≡ is_among (map (λ n. n.bits) (take j folders)) f
members_more folders i j x d m ms next within here same so_far f =
    let taken : take j folders ≡ take i folders ++ x ∷ [] = ap (λ k. take k folders) next ∙ take-suc folders i d within ∙ ap (λ y. take i folders ++ y ∷ []) (sym here) in
    let ids : map (λ (n : Nid). n.bits) (take j folders) ≡ map (λ n. n.bits) (take i folders) ++ x.bits ∷ [] = ap (map (λ (n : Nid). n.bits)) taken ∙ map-append (λ (n : Nid). n.bits) (take i folders) (x ∷ []) in
    let id : member_id m ≡ x.bits = ap (λ (n : Nid). n.bits) same in
    member_put m ms f ∙ ap (λ b. (member_id m == f) || b) (so_far f) ∙ ap (λ k. (k == f) || is_among (map (λ n. n.bits) (take i folders)) f) id
    ∙ sym (any_snoc (λ k. k == f) (map (λ n. n.bits) (take i folders)) x.bits) ∙ ap (λ ks. is_among ks f) (sym ids)

-- the folders listed so far, from the last back to the first
abbrev pub back : List (Nid × Nid) → ℕ → List (ℕ × ℕ)
back plain i = reverse (map ids_of_pair (take i plain))

pub back_more : (plain : List (Nid × Nid)) (i j : ℕ) (p d : Nid × Nid) → j ≡ suc i → i < length plain → p ≡ get_or plain i d → back plain j ≡ ids_of_pair p ∷ back plain i
back_more plain i j p d next within here =
    let taken : take j plain ≡ take i plain ++ p ∷ [] = ap (λ k. take k plain) next ∙ take-suc plain i d within ∙ ap (λ y. take i plain ++ y ∷ []) (sym here) in
    ap (λ ps. reverse (map ids_of_pair ps)) taken ∙ ap reverse (map-append ids_of_pair (take i plain) (p ∷ [])) ∙ reverse-append (map ids_of_pair (take i plain)) (ids_of_pair p ∷ [])

-- a listed folder that is in the scope is put into the set
pub scope_put : (deep : Bool) (given : ℕ → Bool) (before : List (ℕ × ℕ)) (q : ℕ × ℕ) (m : Member) (ms : List Member) → member_id m ≡ q.0
    → ((f : ℕ) → is_member ms f ≡ in_scope_back deep given before f) → ((deep && is_member ms q.1) || given q.0) ≡ true
    → (f : ℕ) → is_member (put_key member_id m ms) f ≡ in_scope_back deep given (q ∷ before) f
scope_put deep given before q m ms id so_far is f =
    let test : ((deep && in_scope_back deep given before q.1) || given q.0) ≡ true = ap (λ b. (deep && b) || given q.0) (sym (so_far q.1)) ∙ is in
    member_put m ms f ∙ ap (λ k. (k == f) || is_member ms f) id ∙ ap (λ b. (q.0 == f) || b) (so_far f) ∙ rw test (both (q.0 == f) (in_scope_back deep given before f))
  where
    both : (a b : Bool) → (a || b) ≡ ((a && true) || b)
    both true b = refl
    both false b = refl

-- one that isn't in the scope is left out
pub scope_left : (deep : Bool) (given : ℕ → Bool) (before : List (ℕ × ℕ)) (q : ℕ × ℕ) (ms : List Member)
    → ((f : ℕ) → is_member ms f ≡ in_scope_back deep given before f) → ((deep && is_member ms q.1) || given q.0) ≡ false
    → (f : ℕ) → is_member ms f ≡ in_scope_back deep given (q ∷ before) f
scope_left deep given before q ms so_far is f =
    let test : ((deep && in_scope_back deep given before q.1) || given q.0) ≡ false = ap (λ b. (deep && b) || given q.0) (sym (so_far q.1)) ∙ is in
    so_far f ∙ rw test (both (q.0 == f) (in_scope_back deep given before f))
  where
    both : (a b : Bool) → b ≡ ((a && false) || b)
    both true b = refl
    both false b = refl

-- what is asked of a folder, in the words of the scope
pub taken_is : (inner deep : Bool) (ids scope : List ℕ) (given given1 ms ms1 : List Member) (f p : ℕ) (taken : Bool) → inner ≡ deep → ids ≡ scope → given1 ≡ given → ms1 ≡ ms
    → ((g : ℕ) → is_member given g ≡ is_among ids g) → taken ≡ ((inner && is_member ms1 p) || is_member given1 f) → ((deep && is_member ms p) || is_among scope f) ≡ taken
taken_is inner deep ids scope given given1 ms ms1 f p taken same_deep same_ids same_given same_ms exact is =
    sym (is ∙ rw (same_deep, same_given, same_ms, exact f, same_ids) refl)

-- one more place
pub place_put : (deep : Bool) (scope : List ℕ) (plain : List (Nid × Nid)) (i j : ℕ) (p d : Nid × Nid) (m : Member) (ms : List Member) → j ≡ suc i → i < length plain → p ≡ get_or plain i d → m.nid ≡ p.0
    → ((f : ℕ) → is_member ms f ≡ in_scope_back deep (is_among scope) (back plain i) f) → ((deep && is_member ms p.1.bits) || is_among scope p.0.bits) ≡ true
    → (f : ℕ) → is_member (put_key member_id m ms) f ≡ in_scope_back deep (is_among scope) (back plain j) f
place_put deep scope plain i j p d m ms next within here same so_far test f =
    scope_put deep (is_among scope) (back plain i) (ids_of_pair p) m ms (ap (λ (n : Nid). n.bits) same) so_far test f
    ∙ ap (λ ps. in_scope_back deep (is_among scope) ps f) (sym (back_more plain i j p d next within here))

pub place_left : (deep : Bool) (scope : List ℕ) (plain : List (Nid × Nid)) (i j : ℕ) (p d : Nid × Nid) (ms : List Member) → j ≡ suc i → i < length plain → p ≡ get_or plain i d
    → ((f : ℕ) → is_member ms f ≡ in_scope_back deep (is_among scope) (back plain i) f) → ((deep && is_member ms p.1.bits) || is_among scope p.0.bits) ≡ false
    → (f : ℕ) → is_member ms f ≡ in_scope_back deep (is_among scope) (back plain j) f
place_left deep scope plain i j p d ms next within here so_far test f =
    scope_left deep (is_among scope) (back plain i) (ids_of_pair p) ms so_far test f
    ∙ ap (λ ps. in_scope_back deep (is_among scope) ps f) (sym (back_more plain i j p d next within here))

-- ---- which folders are in a scope

-- a test of all elements doesn't look at their order
any_reverse : {X : Type 0} (p : X → Bool) (xs : List X) → list_any p (reverse xs) ≡ list_any p xs
any_reverse p [] = refl
any_reverse p (x ∷ xs) = ap (list_any p) (reverse-append (x ∷ []) xs) ∙ any_snoc p (reverse xs) x ∙ ap (λ b. p x || b) (any_reverse p xs)

plain_back : (deep : Bool) (given : ℕ → Bool) (ps : List (ℕ × ℕ)) (f : ℕ) → in_scope_back deep given ps f ≡ true → is_plain ps f ≡ true
plain_back deep given [] f is = is
plain_back deep given (p ∷ ps) f is =
    elim (cases_Bool (p.0 == f)) [
      | inl t ↦ rw t refl
      | inr n ↦ rw n (plain_back deep given ps f (rw n at is))
    ]

given_back : (deep : Bool) (given : ℕ → Bool) (ps : List (ℕ × ℕ)) (f : ℕ) → given f ≡ true → is_plain ps f ≡ true → in_scope_back deep given ps f ≡ true
given_back deep given [] f is plain = plain
given_back deep given (p ∷ ps) f is plain =
    elim (cases_Bool (p.0 == f)) [
      | inl t ↦
          let here : given p.0 ≡ true = subst (λ (k : ℕ). given k ≡ true) (sym (eqb-true p.0 f t)) is in
          rw (t, here, or_swap (deep && in_scope_back deep given ps p.1) true) refl
      | inr n ↦ rw n (given_back deep given ps f is (rw n at plain))
    ]

shallow_back : (given : ℕ → Bool) (ps : List (ℕ × ℕ)) (f : ℕ) → in_scope_back false given ps f ≡ (is_plain ps f && given f)
shallow_back given [] f = refl
shallow_back given (p ∷ ps) f =
    elim (cases_Bool (p.0 == f)) [
      | inl t ↦
          let same : p.0 ≡ f = eqb-true p.0 f t in
          rw (t, shallow_back given ps f, same) (absorbed (given f) (is_plain ps f))
      | inr n ↦ rw n (shallow_back given ps f)
    ]
  where
    absorbed : (a b : Bool) → (a || (b && a)) ≡ a
    absorbed true b = refl
    absorbed false true = refl
    absorbed false false = refl

pub scope_plain : (s : CritSet) (plain : List (ℕ × ℕ)) (f : ℕ) → in_scope s plain f ≡ true → is_plain plain f ≡ true
unfolding in_scope
scope_plain s plain f is = sym (any_reverse (λ p. p.0 == f) plain) ∙ plain_back s.flags.recursive (is_among s.scope) (reverse plain) f is

pub scope_given : (s : CritSet) (plain : List (ℕ × ℕ)) (f : ℕ) → is_among s.scope f ≡ true → is_plain plain f ≡ true → in_scope s plain f ≡ true
unfolding in_scope
scope_given s plain f is listed = given_back s.flags.recursive (is_among s.scope) (reverse plain) f is (any_reverse (λ p. p.0 == f) plain ∙ listed)

pub scope_shallow : (s : CritSet) (plain : List (ℕ × ℕ)) (f : ℕ) → s.flags.recursive ≡ false → in_scope s plain f ≡ (is_plain plain f && is_among s.scope f)
unfolding in_scope
scope_shallow s plain f is = rw is (shallow_back (is_among s.scope) (reverse plain) f ∙ ap (λ b. b && is_among s.scope f) (any_reverse (λ p. p.0 == f) plain))

-- ---- what a parent decides

-- a folder that is listed isn't one that isn't
not_that : (k f : ℕ) (ps : List (ℕ × ℕ)) → is_plain ps f ≡ true → not (is_plain ps k) ≡ true → (k == f) ≡ false
not_that k f ps plain other =
    elim (cases_Bool (k == f)) [
      | inl t ↦
          let here : not (is_plain ps f) ≡ true = subst (λ (j : ℕ). not (is_plain ps j) ≡ true) (eqb-true k f t) other in
          let gone : false ≡ true = rw plain at here in
          cc
      | inr n ↦ n
    ]

listed_plain : (ps : List (ℕ × ℕ)) (f p : ℕ) → is_listed ps f p ≡ true → is_plain ps f ≡ true
listed_plain [] f p is = is
listed_plain (q ∷ ps) f p is =
    elim (cases_Bool (q.0 == f)) [
      | inl t ↦ rw t refl
      | inr n ↦ rw n (listed_plain ps f p (rw n at is))
    ]

-- the parent of a folder that is listed is listed
listed_parent : (ps : List (ℕ × ℕ)) (f p : ℕ) → are_in_order_back ps ≡ true → is_listed ps f p ≡ true → is_plain ps p ≡ true
listed_parent [] f p order is = is
listed_parent (q ∷ ps) f p order is =
    let rest = and_parts ((q.1 == q.0) || is_plain ps q.1) (are_in_order_back ps) (and_parts (not (is_plain ps q.0)) _ order).1 in
    elim (cases_Bool ((q.0 == f) && (q.1 == p))) [
      | inl t ↦
          let parent : q.1 ≡ p = eqb-true q.1 p (and_parts (q.0 == f) (q.1 == p) t).1 in
          elim (or_cases (q.1 == q.0) (is_plain ps q.1) rest.0) [
            | inl own ↦ rw (eq-eqb q.0 p (sym (eqb-true q.1 q.0 own) ∙ parent)) refl
            | inr there ↦ let here : is_plain ps p ≡ true = subst (λ (j : ℕ). is_plain ps j ≡ true) parent there in rw here (or_swap (q.0 == p) true)
          ]
      | inr n ↦ let here = listed_parent ps f p rest.1 (rw n at is) in rw here (or_swap (q.0 == p) true)
    ]

-- a folder that isn't listed isn't in the scope
left_out : (given : ℕ → Bool) (ps : List (ℕ × ℕ)) (k : ℕ) → not (is_plain ps k) ≡ true → in_scope_back true given ps k ≡ false
left_out given ps k other =
    elim (cases_Bool (in_scope_back true given ps k)) [
      | inl t ↦ let gone : false ≡ true = rw (plain_back true given ps k t) at other in cc
      | inr n ↦ n
    ]

both_ways : (x g e : Bool) → ((x || g) || false) ≡ (g || ((e && (x || g)) || x))
both_ways true true e = refl
both_ways true false true = refl
both_ways true false false = refl
both_ways false true e = refl
both_ways false false true = refl
both_ways false false false = refl

-- of the last folder that is listed
decides_last : (given : ℕ → Bool) (ps : List (ℕ × ℕ)) (q : ℕ × ℕ) (f p : ℕ) → q.0 ≡ f → q.1 ≡ p → not (is_plain ps q.0) ≡ true
    → in_scope_back true given (q ∷ ps) f ≡ (given f || in_scope_back true given (q ∷ ps) p)
decides_last given ps q f p folder parent other =
    rw (← folder, ← parent, eq-eqb q.0 q.0 refl, left_out given ps q.0 other) (both_ways (in_scope_back true given ps q.1) (given q.0) (q.0 == q.1))

decides_back : (given : ℕ → Bool) (ps : List (ℕ × ℕ)) (f p : ℕ) → are_in_order_back ps ≡ true → is_listed ps f p ≡ true
    → in_scope_back true given ps f ≡ (given f || in_scope_back true given ps p)
decides_back given [] f p order is = absurd (true≢false (sym is))
decides_back given (q ∷ ps) f p order is =
    let parts = and_parts (not (is_plain ps q.0)) _ order in
    let rest = and_parts ((q.1 == q.0) || is_plain ps q.1) (are_in_order_back ps) parts.1 in
    elim (cases_Bool ((q.0 == f) && (q.1 == p))) [
      | inl t ↦ let both = and_parts (q.0 == f) (q.1 == p) t in decides_last given ps q f p (eqb-true q.0 f both.0) (eqb-true q.1 p both.1) parts.0
      | inr n ↦
          let listed : is_listed ps f p ≡ true = rw n at is in
          rw (not_that q.0 f ps (listed_plain ps f p listed) parts.0, not_that q.0 p ps (listed_parent ps f p rest.1 listed) parts.0) (decides_back given ps f p rest.1 listed)
    ]

-- a folder of a recursive search is in the scope where it is given or its parent is in the scope
pub scope_decides : (s : CritSet) (plain : List (ℕ × ℕ)) (f p : ℕ) → are_in_order plain ≡ true → s.flags.recursive ≡ true → is_listed plain f p ≡ true
    → in_scope s plain f ≡ (is_among s.scope f || in_scope s plain p)
unfolding in_scope
scope_decides s plain f p order deep listed =
    rw deep (decides_back (is_among s.scope) (reverse plain) f p order (any_reverse (λ q. (q.0 == f) && (q.1 == p)) plain ∙ listed))

-- ---- the set as a list of folders

pub ascend_nids : (low : ℕ) (ms : List Member) → keys_ascend (λ n. n.bits) low (map (λ m. m.nid) ms) ≡ keys_ascend member_id low ms
ascend_nids low [] = refl
ascend_nids low (m ∷ ms) = rw (ascend_nids (suc m.nid.bits) ms) refl

pub among_nids : (ms : List Member) (f : ℕ) → is_among (map (λ n. n.bits) (map (λ m. m.nid) ms)) f ≡ is_member ms f
among_nids [] f = refl
among_nids (m ∷ ms) f =
    elim (cases_Bool (member_id m == f)) [
      | inl t ↦ rw t refl
      | inr n ↦ rw n (among_nids ms f)
    ]
