-- What stays of data.
use Rattle.std.proofs.Common.{Bool, true, false, cond, not, ◌&&◌, ◌≡◌, ◌⊎◌, inl, inr, ◌∙◌, ℕ, zero, suc, ◌+◌, ◌/◌, ◌%◌, ◌<◌, ◌≤◌, eqb, leb, ltb, List, [], ◌∷◌, ◌++◌, length, drop, get_or, min, append_assoc, append-nil, Option, Some, None, IsSome, refl, sym, ap, subst, arith, if◌then◌else◌, ◌||◌, Ordering, Less, Equal, Greater}
use Rattle.std.specs.BTreeSet.{BTreeSet, contains}
use Rattle.std.specs.Cmp.{nat_cmp_total, eq_by_cmp_equiv, ranked}
use Rattle.std.specs.Ordering.{nat_cmp, eq_by_cmp, is_eq}
use Rattle.std.proofs.lemmas.List.{drop_more}
use Rattle.std.proofs.lemmas.Bool.{and_parts, cases_eq, cases_lt, eq-eqb, ne_eqb, eqb-true, eqb-false, leb-true, ltb-true}
use Rattle.pst_base.specs.declared.ids.Bid.{Bid}
use Rattle.pst_base.specs.Ids.{key_of}
use Rattle.data_tree.specs.Keys.{count_of}
use Rattle.data_tree.specs.Plan.{AreFound, MayKeep}
use Rattle.data_tree.specs.Tree.{is_internal}
use Rattle.data_tree.proofs.KeyLaws.{count-append}
use Rattle.node_layout.specs.Joined.{kept_keys}
use Rattle.subnode_tree.proofs.PairLaws.{Pair}
use Rattle.content_plan.specs.Keep.{HasKeys, same_bytes, has_key, may_stay, kept_one, keys_with, kept_from, kept_list, Keeps}

-- ---- bytes and keys

pub bytes-same : (a b : List ℕ) → same_bytes a b ≡ true → a ≡ b
bytes-same [] [] h = refl
bytes-same [] (y ∷ b) h = absurd (cc)
bytes-same (x ∷ a) [] h = absurd (cc)
bytes-same (x ∷ a) (y ∷ b) h =
    let parts = and_parts (eqb x y) (same_bytes a b) h in
    ap (λ (n : ℕ). n ∷ a) (eqb-true x y parts.0) ∙ ap (λ (l : List ℕ). y ∷ l) (bytes-same a b parts.1)

none-there : (key : ℕ) (keys : List ℕ) → has_key key keys ≡ false → count_of key keys ≡ 0
none-there key [] h = refl
none-there key (k ∷ ks) h = by (eqb k key) (none-there key ks) h
  where
    by : (b : Bool) → (has_key key ks ≡ false → count_of key ks ≡ 0) → (b || has_key key ks) ≡ false → (if b then 1 else 0) + count_of key ks ≡ 0
    by true rest h = absurd (cc)
    by false rest h = let e = rest h in omega (arith, e)

count-one : (key k : ℕ) → k ≡ key → count_of key (k ∷ []) ≡ 1
count-one key k e = rw (eq-eqb k key e) refl

count-other : (key k : ℕ) → (k ≡ key → ⊥) → count_of key (k ∷ []) ≡ 0
count-other key k ne = rw (ne_eqb k key ne) refl

-- ---- one position

-- why the block of an id stays
record Stays (next : ℕ) (keys : List ℕ) (id : Option Bid) (was now : List ℕ) (bid : Bid) : Type 0 where
  here : id ≡ Some bid
  may : may_stay next bid ≡ true
  free : has_key (key_of bid.bits) keys ≡ false
  same : was ≡ now

not-true : (b : Bool) → not b ≡ true → b ≡ false
not-true true h = absurd (cc)
not-true false h = refl

stays : (next : ℕ) (keys : List ℕ) (id : Option Bid) (was now : List ℕ) (bid : Bid) → kept_one next keys id was now ≡ Some bid → Stays next keys id was now bid
stays next keys None was now bid e = absurd (cc)
stays next keys (Some x) was now bid e = by (may_stay next x && (not (has_key (key_of x.bits) keys) && same_bytes was now)) refl e
  where
    by : (t : Bool) → (may_stay next x && (not (has_key (key_of x.bits) keys) && same_bytes was now)) ≡ t → ◌≡◌ {A = Option Bid} (if t then Some x else None) (Some bid) → Stays next keys (Some x) was now bid
    by false is e = absurd (cc)
    by true is e =
        let same : x ≡ bid = cc in
        let one = and_parts (may_stay next x) (not (has_key (key_of x.bits) keys) && same_bytes was now) is in
        let two = and_parts (not (has_key (key_of x.bits) keys)) (same_bytes was now) one.1 in
        subst (λ (b : Bid). Stays next keys (Some x) was now b) same (record { here = refl; may = one.0; free = not-true (has_key (key_of x.bits) keys) two.0; same = bytes-same was now two.1 })

record May (next : ℕ) (bid : Bid) : Type 0 where
  plain : bid.bits / 2 % 2 ≡ 0
  low : 2 ≤ bid.bits
  high : bid.bits < next

may-is : (next : ℕ) (bid : Bid) → may_stay next bid ≡ true → May next bid
unfolding may_stay
may-is next bid h =
    let one = and_parts (not (is_internal bid)) (leb 2 bid.bits && ltb bid.bits next) h in
    let two = and_parts (leb 2 bid.bits) (ltb bid.bits next) one.1 in
    let other = eqb-false (bid.bits / 2 % 2) 1 (not-true (is_internal bid) one.0) in
    record { plain = zero-of (bid.bits / 2 % 2) (omega arith) other; low = leb-true 2 bid.bits two.0; high = ltb-true bid.bits next two.1 }
  where
    zero-of : (n : ℕ) → n < 2 → (n ≡ 1 → ⊥) → n ≡ 0
    zero-of n h ne = elim (cases_eq n 1) [ inl one ↦ absurd (ne one) | inr other ↦ omega (arith, h, other) ]

-- ---- all positions

pub kept-may : (next : ℕ) (keys : List ℕ) (ids : List (Option Bid)) (was now : List (List ℕ)) → MayKeep next (kept_from next keys ids was now)
kept-may next keys [] was now = tt
kept-may next keys (id ∷ ids) [] now = tt
kept-may next keys (id ∷ ids) (w ∷ was) [] = tt
kept-may next keys (id ∷ ids) (w ∷ was) (b ∷ now) = by (λ (ks : List ℕ). kept-may next ks ids was now) (kept_one next keys id w b) refl
  where
    by : ((ks : List ℕ) → MayKeep next (kept_from next ks ids was now)) → (o : Option Bid) → kept_one next keys id w b ≡ o → MayKeep next (o ∷ kept_from next (keys_with keys o) ids was now)
    by rest None e = rest keys
    by rest (Some bid) e = let m = may-is next bid (stays next keys id w b bid e).may in (m.plain, m.low, m.high, rest (keys ++ key_of bid.bits ∷ []))

pub kept-once : (key next : ℕ) (keys : List ℕ) (ids : List (Option Bid)) (was now : List (List ℕ)) → count_of key keys ≤ 1 → count_of key keys + count_of key (kept_keys (kept_from next keys ids was now)) ≤ 1
kept-once key next keys [] was now few = omega (arith, few)
kept-once key next keys (id ∷ ids) [] now few = omega (arith, few)
kept-once key next keys (id ∷ ids) (w ∷ was) [] few = omega (arith, few)
kept-once key next keys (id ∷ ids) (w ∷ was) (b ∷ now) few = by (λ (ks : List ℕ) (h : count_of key ks ≤ 1). kept-once key next ks ids was now h) (kept_one next keys id w b) refl
  where
    by : ((ks : List ℕ) → count_of key ks ≤ 1 → count_of key ks + count_of key (kept_keys (kept_from next ks ids was now)) ≤ 1) → (o : Option Bid) → kept_one next keys id w b ≡ o
        → count_of key keys + count_of key (kept_keys (o ∷ kept_from next (keys_with keys o) ids was now)) ≤ 1
    by rest None e = rest keys few
    by rest (Some bid) e =
        let k = key_of bid.bits in
        let more = keys ++ k ∷ [] in
        let sum = count-append key keys (k ∷ []) in
        let free = (stays next keys id w b bid e).free in
        elim (cases_eq k key) [
          | inl same ↦
              let none = none-there key keys (subst (λ (n : ℕ). has_key n keys ≡ false) same free) in
              let one = count-one key k same in
              let h = rest more (omega (arith, sum, none, one)) in
              omega (arith, h, sum, one)
          | inr other ↦
              let zero_more = count-other key k other in
              let h = rest more (omega (arith, sum, zero_more, few)) in
              omega (arith, h, sum, zero_more)
        ]

pub nothing-found : (find : ℕ → Option (List ℕ)) (bs : List (List ℕ)) → AreFound find [] bs
nothing-found find [] = tt
nothing-found find (b ∷ bs) = tt

pub kept-found : (find : ℕ → Option (List ℕ)) (next : ℕ) (keys : List ℕ) (ids : List (Option Bid)) (was now : List (List ℕ)) → AreFound find ids was → AreFound find (kept_from next keys ids was now) now
kept-found find next keys [] was now found = nothing-found find now
kept-found find next keys (id ∷ ids) [] now found = nothing-found find now
kept-found find next keys (id ∷ ids) (w ∷ was) [] found = tt
kept-found find next keys (id ∷ ids) (w ∷ was) (b ∷ now) found =
    by (λ (ks : List ℕ) (h : AreFound find ids was). kept-found find next ks ids was now h) (kept_one next keys id w b) refl
  where
    later : (o : Option Bid) → AreFound find (o ∷ ids) (w ∷ was) → AreFound find ids was
    later None f = f
    later (Some bid) f = f.1

    first : (o : Option Bid) (bid : Bid) → o ≡ Some bid → AreFound find (o ∷ ids) (w ∷ was) → find (key_of bid.bits) ≡ Some w
    first None bid e f = absurd (cc)
    first (Some x) bid e f = let same : x ≡ bid = cc in (subst (λ (y : Bid). find (key_of y.bits) ≡ Some w) same f.0)

    by : ((ks : List ℕ) → AreFound find ids was → AreFound find (kept_from next ks ids was now) now) → (o : Option Bid) → kept_one next keys id w b ≡ o → AreFound find (o ∷ kept_from next (keys_with keys o) ids was now) (b ∷ now)
    by rest None e = rest keys (later id found)
    by rest (Some bid) e =
        let s = stays next keys id w b bid e in
        (first id bid s.here found ∙ ap Some s.same, rest (keys ++ key_of bid.bits ∷ []) (later id found))

pub kept-short : (next : ℕ) (keys : List ℕ) (ids : List (Option Bid)) (was now : List (List ℕ)) → length (kept_from next keys ids was now) ≤ length now
kept-short next keys [] was now = omega arith
kept-short next keys (id ∷ ids) [] now = omega arith
kept-short next keys (id ∷ ids) (w ∷ was) [] = omega arith
kept-short next keys (id ∷ ids) (w ∷ was) (b ∷ now) = let h = kept-short next (keys_with keys (kept_one next keys id w b)) ids was now in omega (arith, h)

pub keeps-list : (next : ℕ) (ids : List (Option Bid)) (was now : List (List ℕ)) → Keeps next (kept_list next ids was now) now
keeps-list next ids was now = record {
  may = kept-may next [] ids was now;
  once = λ key. let h = kept-once key next [] ids was now (omega arith) in omega (arith, h);
  short = kept-short next [] ids was now;
}

-- ---- the loop

from-none : (next : ℕ) (keys : List ℕ) (ids : List (Option Bid)) (was : List (List ℕ)) → kept_from next keys ids was [] ≡ []
from-none next keys [] was = refl
from-none next keys (id ∷ ids) [] = refl
from-none next keys (id ∷ ids) (w ∷ was) = refl

from-no_bytes : (next : ℕ) (keys : List ℕ) (ids : List (Option Bid)) (now : List (List ℕ)) → kept_from next keys ids [] now ≡ []
from-no_bytes next keys [] now = refl
from-no_bytes next keys (id ∷ ids) now = refl

pub no-more : {A : Type 0} (xs : List A) (i : ℕ) → length xs ≤ i → drop i xs ≡ []
no-more [] zero h = refl
no-more [] (suc i) h = refl
no-more (x ∷ xs) zero h = absurd (omega (arith, h))
no-more (x ∷ xs) (suc i) h = no-more xs i (omega (arith, h))

pub kept-end : (next : ℕ) (keys : List ℕ) (ids : List (Option Bid)) (was now : List (List ℕ)) (i : ℕ) → ((length ids ≤ i) ⊎ ((length was ≤ i) ⊎ (length now ≤ i))) → kept_from next keys (drop i ids) (drop i was) (drop i now) ≡ []
kept-end next keys ids was now i (inl h) = rw (no-more ids i h) refl
kept-end next keys ids was now i (inr (inl h)) = rw (no-more was i h) (from-no_bytes next keys (drop i ids) (drop i now))
kept-end next keys ids was now i (inr (inr h)) = rw (no-more now i h) (from-none next keys (drop i ids) (drop i was))

pub kept-done : (next : ℕ) (keys : List ℕ) (keep whole : List (Option Bid)) (ids : List (Option Bid)) (was now : List (List ℕ)) (i n : ℕ) → n ≡ min (min (length ids) (length was)) (length now) → n ≤ i
    → keep ++ kept_from next keys (drop i ids) (drop i was) (drop i now) ≡ whole → keep ≡ whole
kept-done next keys keep whole ids was now i n is h so_far =
    let ends : (length ids ≤ i) ⊎ ((length was ≤ i) ⊎ (length now ≤ i)) = elim (cases_lt i (length ids)) [
      | inr a ↦ inl a
      | inl a ↦ elim (cases_lt i (length was)) [ inr b ↦ inr (inl b) | inl b ↦ inr (inr (omega (arith, is, h, a, b))) ]
    ] in
    let none = kept-end next keys ids was now i ends in
    sym (append-nil keep) ∙ ap (λ (l : List (Option Bid)). keep ++ l) (sym none) ∙ so_far

pub kept-step : (next : ℕ) (keys : List ℕ) (keep whole : List (Option Bid)) (ids : List (Option Bid)) (was now : List (List ℕ)) (i : ℕ) (one : Option Bid) (w b : List ℕ) → i < length ids → i < length was → i < length now
    → w ≡ get_or was i w → b ≡ get_or now i b → one ≡ kept_one next keys (get_or ids i None) w b → keep ++ kept_from next keys (drop i ids) (drop i was) (drop i now) ≡ whole
    → (keep ++ one ∷ []) ++ kept_from next (keys_with keys one) (drop (i + 1) ids) (drop (i + 1) was) (drop (i + 1) now) ≡ whole
kept-step next keys keep whole ids was now i one w b low lower lowest was-is now-is is so_far =
    let had : drop i was ≡ w ∷ drop (i + 1) was = drop_more was i w lower ∙ ap (λ (x : List ℕ). x ∷ drop (i + 1) was) (sym was-is) in
    let has : drop i now ≡ b ∷ drop (i + 1) now = drop_more now i b lowest ∙ ap (λ (x : List ℕ). x ∷ drop (i + 1) now) (sym now-is) in
    let rest = kept_from next (keys_with keys one) (drop (i + 1) ids) (drop (i + 1) was) (drop (i + 1) now) in
    let first : kept_from next keys (drop i ids) (drop i was) (drop i now) ≡ one ∷ rest = rw (drop_more ids i None low, had, has, is) refl in
    append_assoc keep (one ∷ []) rest ∙ ap (λ (l : List (Option Bid)). keep ++ l) (sym first) ∙ so_far

-- what is kept of some data may be
abbrev pub PairKeeps : ℕ → Pair → Type 0
PairKeeps next pair = Keeps next pair.0 pair.1

-- ---- keys that stay

-- the block of each key that stays is found
pub kept-known : (find : ℕ → Option (List ℕ)) (keep : List (Option Bid)) (bs : List (List ℕ)) (key : ℕ) → length keep ≤ length bs → AreFound find keep bs → 1 ≤ count_of key (kept_keys keep) → IsSome (find key)
kept-known find [] bs key short found some = absurd (omega (arith, some))
kept-known find (o ∷ keep) [] key short found some = absurd (omega (arith, short))
kept-known find (None ∷ keep) (b ∷ bs) key short found some = kept-known find keep bs key (omega (arith, short)) found some
kept-known find (Some bid ∷ keep) (b ∷ bs) key short found some = by (kept-known find keep bs key (omega (arith, short)) found.1) (cases_eq (key_of bid.bits) key)
  where
    by : (1 ≤ count_of key (kept_keys keep) → IsSome (find key)) → ((key_of bid.bits ≡ key) ⊎ (key_of bid.bits ≡ key → ⊥)) → IsSome (find key)
    by rest (inl same) = subst (λ (o : Option (List ℕ)). IsSome o) (sym (ap find (sym same) ∙ found.0)) refl
    by rest (inr other) = let z = count-other key (key_of bid.bits) other in rest (omega (arith, some, z))

-- and what stays is found still
pub kept-still : (find after : ℕ → Option (List ℕ)) (keep : List (Option Bid)) (bs : List (List ℕ)) → ((key : ℕ) (b : List ℕ) → 1 ≤ count_of key (kept_keys keep) → find key ≡ Some b → after key ≡ Some b) → AreFound find keep bs → AreFound after keep bs
kept-still find after [] bs still found = nothing-found after bs
kept-still find after (o ∷ keep) [] still found = tt
kept-still find after (None ∷ keep) (b ∷ bs) still found = kept-still find after keep bs still found
kept-still find after (Some bid ∷ keep) (b ∷ bs) still found =
    let one = count-one (key_of bid.bits) (key_of bid.bits) refl in (
      still (key_of bid.bits) b (omega (arith, one)) found.0,
      kept-still find after keep bs (λ key c some is. still key c (omega (arith, some)) is) found.1,
    )

-- ---- the set of keys

there : (q k : ℕ) (ks : List ℕ) → q ≡ k → has_key q (ks ++ k ∷ []) ≡ true
there q k [] same = rw (eq-eqb k q (sym same)) refl
there q k (x ∷ xs) same = by (eqb x q) (there q k xs same)
  where
    by : (b : Bool) → has_key q (xs ++ k ∷ []) ≡ true → (b || has_key q (xs ++ k ∷ [])) ≡ true
    by true rest = refl
    by false rest = rest

beside : (q k : ℕ) (ks : List ℕ) → (q ≡ k → ⊥) → has_key q (ks ++ k ∷ []) ≡ has_key q ks
beside q k [] other = rw (ne_eqb k q (λ e. other (sym e))) refl
beside q k (x ∷ xs) other = ap (λ (b : Bool). eqb x q || b) (beside q k xs other)

equal-is : (r : Ordering) → is_eq r ≡ true → r ≡ Equal
equal-is Less h = cc
equal-is Equal h = refl
equal-is Greater h = cc

compared : (k q : ℕ) → eq_by_cmp nat_cmp k q ≡ eqb k q
compared k q = elim (cases_eq k q) [
  | inl same ↦ subst (λ (n : ℕ). eq_by_cmp nat_cmp k n ≡ eqb k n) same ((eq_by_cmp_equiv nat_cmp_total).refl k ∙ sym (eq-eqb k k refl))
  | inr other ↦ by (eq_by_cmp nat_cmp k q) refl other ∙ sym (ne_eqb k q other)
]
  where
    by : (b : Bool) → eq_by_cmp nat_cmp k q ≡ b → (k ≡ q → ⊥) → b ≡ false
    by false e other = refl
    by true e other = absurd (other (ranked k q Equal (sym (equal-is (nat_cmp k q) e))))

-- a set with one key more has it behind the others
pub put-key : (k : ℕ) (old new : BTreeSet ℕ) → ((q : ℕ) → contains nat_cmp new q ≡ cond (eq_by_cmp nat_cmp k q) true (contains nat_cmp old q)) → (ks : List ℕ) → HasKeys old ks → HasKeys new (ks ++ k ∷ [])
put-key k old new updates ks has = λ q.
    let set : contains nat_cmp new q ≡ cond (eqb k q) true (has_key q ks) = updates q ∙ ap (λ (b : Bool). cond b true (contains nat_cmp old q)) (compared k q) ∙ ap (cond (eqb k q) true) (has q) in
    elim (cases_eq k q) [
      | inl same ↦ rw (eq-eqb k q same) at set ∙ sym (there q k ks (sym same))
      | inr other ↦ rw (ne_eqb k q other) at set ∙ sym (beside q k ks (λ e. other (sym e)))
    ]
