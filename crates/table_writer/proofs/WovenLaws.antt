-- New subnodes among others.
use Rattle.std.proofs.Common.{◌≡◌, ◌∙◌, ◌≤◌, ◌<◌, ◌==◌, ◌+◌, ◌++◌, ◌∷◌, [], ℕ, suc, Bool, true, false, not, List, Some, None, refl, sym, ap, inl, inr, append_assoc, arith}
use Rattle.std.specs.Prelude.{nat_le, nat_lt}
use Rattle.std.proofs.lemmas.Bool.{and_from, and_parts, cases_Bool, eq-eqb, ne_eqb, eqb-true, le-leb, leb-true, lt-ltb, ltb-true}
use Rattle.std.proofs.lemmas.List.{length_push}
use Rattle.std.specs.List.{list_all}
use Rattle.std.specs.Option.{option_map}
use Rattle.bth_tree.proofs.OptionLaws.{none-some}
use Rattle.pst_base.specs.Flat.{Flat}
use Rattle.pst_base.specs.Subs.{flattened}
use Rattle.pst_base.specs.declared.subs.Sub.{Sub}
use Rattle.mapi_values.specs.Keyed.{find_key, keys_ascend}
use Rattle.mapi_values.proofs.KeyedLaws.{ascend-lower}
use Rattle.node_values.specs.Subnodes.{data_of, sub_id}
use Rattle.table_context.specs.Rows.{is_among, others}
use Rattle.table_writer.specs.Woven.{AllAbove, AreWoven, Weaves, ids_below, new_id, plain}
use Rattle.table_writer.proofs.FoundLaws.{data-none, data-found, data-some, others-dropped, others-kept}

below-wider : (m n : ℕ) (subs : List Sub) → m ≤ n → ids_below m subs → ids_below n subs
below-wider m n [] le h = refl
below-wider m n (s ∷ subs) le h =
    let p = and_parts (nat_lt s.nid.bits m) (list_all (λ (t : Sub). nat_lt t.nid.bits m) subs) h in
    and_from (nat_lt s.nid.bits n) (list_all (λ (t : Sub). nat_lt t.nid.bits n) subs) (lt-ltb s.nid.bits n (omega (arith, ltb-true s.nid.bits m p.0, le))) (below-wider m n subs le p.1)

below-push : (n : ℕ) (subs : List Sub) (s : Sub) → ids_below n subs → s.nid.bits < n → ids_below n (subs ++ s ∷ [])
below-push n [] s h lt = and_from (nat_lt s.nid.bits n) true (lt-ltb s.nid.bits n lt) refl
below-push n (t ∷ subs) s h lt =
    let p = and_parts (nat_lt t.nid.bits n) (list_all (λ (u : Sub). nat_lt u.nid.bits n) subs) h in
    and_from (nat_lt t.nid.bits n) (list_all (λ (u : Sub). nat_lt u.nid.bits n) (subs ++ s ∷ [])) p.0 (below-push n subs s p.1 lt)

-- a kept subnode is passed
pub pass-step : (done rest others : List Sub) (first copied : Sub) (next after : ℕ) → AreWoven done rest next → rest ≡ first ∷ others → copied ≡ first → first.nid.bits < new_id after → next ≤ after → after ≤ next + 1
    → AreWoven (done ++ copied ∷ []) others after
pass-step done rest others first copied next after w front same lt low high =
    let whole : (done ++ copied ∷ []) ++ others ≡ done ++ rest =
    append_assoc done (copied ∷ []) others ∙ ap (λ (s : Sub). done ++ s ∷ others) same ∙ ap (λ (ss : List Sub). done ++ ss) (sym front) in
    record {
      ascend = ap (keys_ascend sub_id 0) whole ∙ w.ascend;
      below = below-push (new_id after) done copied (below-wider (new_id next) (new_id after) done (omega arith) w.below) (omega (arith, lt, ap sub_id same));
      count = omega (arith, w.count, high, length_push done copied);
    }

ascend-behind : (low : ℕ) (a b : List Sub) → keys_ascend sub_id low (a ++ b) ≡ true → keys_ascend sub_id 0 b ≡ true
ascend-behind low [] b h = ascend-lower sub_id 0 low b (omega arith) h
ascend-behind low (s ∷ a) b h = ascend-behind (suc s.nid.bits) a b (and_parts (nat_le low s.nid.bits) (keys_ascend sub_id (suc s.nid.bits) (a ++ b)) h).1

pub all-above : (done rest : List Sub) (next n : ℕ) → AreWoven done rest next → AllAbove n rest → keys_ascend sub_id (suc n) rest ≡ true
all-above done [] next n w h = refl
all-above done (s ∷ rest) next n w h =
    let p = and_parts (nat_le 0 s.nid.bits) (keys_ascend sub_id (suc s.nid.bits) rest) (ascend-behind 0 done (s ∷ rest) w.ascend) in
    and_from (nat_le (suc n) s.nid.bits) (keys_ascend sub_id (suc s.nid.bits) rest) (le-leb (suc n) s.nid.bits (omega (arith, h))) p.1

ascend-between : (low n : ℕ) (a b : List Sub) (s : Sub) → s.nid.bits ≡ n → low ≤ n → keys_ascend sub_id low (a ++ b) ≡ true → ids_below n a → keys_ascend sub_id (suc n) b ≡ true
    → keys_ascend sub_id low (a ++ s ∷ b) ≡ true
ascend-between low n [] b s e le h below above =
    and_from (nat_le low s.nid.bits) (keys_ascend sub_id (suc s.nid.bits) b) (le-leb low s.nid.bits (omega (arith, e))) (ap (λ (m : ℕ). keys_ascend sub_id (suc m) b) e ∙ above)
ascend-between low n (t ∷ a) b s e le h below above =
    let p = and_parts (nat_le low t.nid.bits) (keys_ascend sub_id (suc t.nid.bits) (a ++ b)) h in
    let q = and_parts (nat_lt t.nid.bits n) (list_all (λ (u : Sub). nat_lt u.nid.bits n) a) below in
    and_from (nat_le low t.nid.bits) (keys_ascend sub_id (suc t.nid.bits) (a ++ s ∷ b)) p.0
    (ascend-between (suc t.nid.bits) n a b s e (omega (arith, ltb-true t.nid.bits n q.0)) p.1 q.1 above)

-- a new one is put between
pub add-woven : (done rest : List Sub) (next : ℕ) (s : Sub) → AreWoven done rest next → s.nid.bits ≡ new_id next → keys_ascend sub_id (suc (new_id next)) rest ≡ true
    → AreWoven (done ++ s ∷ []) rest (next + 1)
add-woven done rest next s w e above = record {
  ascend = ap (keys_ascend sub_id 0) (append_assoc done (s ∷ []) rest) ∙ ascend-between 0 (new_id next) done rest s e (omega arith) w.ascend w.below above;
  below = below-push (new_id (next + 1)) done s (below-wider (new_id next) (new_id (next + 1)) done (omega arith) w.below) (omega (arith, e));
  count = omega (arith, w.count, length_push done s);
}

-- ---- what is found among them

find-beside : (n : ℕ) (a b : List Sub) (s : Sub) → (s.nid.bits == n) ≡ false → find_key sub_id n (a ++ s ∷ b) ≡ find_key sub_id n (a ++ b)
find-beside n [] b s f = rw f refl
find-beside n (t ∷ a) b s f = elim (cases_Bool (t.nid.bits == n)) [
  | inl u ↦ rw u refl
  | inr g ↦ rw g (find-beside n a b s f)
]

find-there : (n : ℕ) (a b : List Sub) (s : Sub) → s.nid.bits ≡ n → ids_below n a → find_key sub_id n (a ++ s ∷ b) ≡ Some s
find-there n [] b s e h = rw (eq-eqb s.nid.bits n e) refl
find-there n (t ∷ a) b s e h =
    let p = and_parts (nat_lt t.nid.bits n) (list_all (λ (u : Sub). nat_lt u.nid.bits n) a) h in
    let less = ltb-true t.nid.bits n p.0 in
    rw (ne_eqb t.nid.bits n (λ z. absurd (omega (arith, less, z)))) (find-there n a b s e p.1)

find-above : (n low : ℕ) (b : List Sub) → n < low → keys_ascend sub_id low b ≡ true → find_key sub_id n b ≡ None
find-above n low [] lt h = refl
find-above n low (t ∷ b) lt h =
    let p = and_parts (nat_le low t.nid.bits) (keys_ascend sub_id (suc t.nid.bits) b) h in
    let le = leb-true low t.nid.bits p.0 in
    rw (ne_eqb t.nid.bits n (λ z. absurd (omega (arith, le, lt, z)))) (find-above n (suc t.nid.bits) b (omega (arith, le, lt)) p.1)

find-free : (n : ℕ) (a b : List Sub) → ids_below n a → keys_ascend sub_id (suc n) b ≡ true → find_key sub_id n (a ++ b) ≡ None
find-free n [] b h above = find-above n (suc n) b (omega arith) above
find-free n (t ∷ a) b h above =
    let p = and_parts (nat_lt t.nid.bits n) (list_all (λ (u : Sub). nat_lt u.nid.bits n) a) h in
    let less = ltb-true t.nid.bits n p.0 in
    rw (ne_eqb t.nid.bits n (λ z. absurd (omega (arith, less, z)))) (find-free n a b p.1 above)

pub weave-here : (old new : List Sub) (blocks : List (List ℕ)) (nid : ℕ) → Weaves old blocks new nid → data_of (flattened new) nid ≡ Some blocks
weave-here old new blocks nid w =
    data-some new nid (plain nid blocks) (ap (find_key sub_id nid) w.new_is ∙ find-there nid w.before w.after (plain nid blocks) refl w.lower)

pub weave-keeps : (old new : List Sub) (blocks : List (List ℕ)) (nid : ℕ) → Weaves old blocks new nid → (n : ℕ) (x : List (List ℕ)) → data_of (flattened old) n ≡ Some x → data_of (flattened new) n ≡ Some x
weave-keeps old new blocks nid w n x h = elim (cases_Bool (nid == n)) [
  | inl t ↦
      let e : nid ≡ n = eqb-true nid n t in
      let free : data_of (flattened old) nid ≡ None = data-none old nid (ap (find_key sub_id nid) w.old_is ∙ find-free nid w.before w.after w.lower w.higher) in
      let none : data_of (flattened old) n ≡ None = ap (data_of (flattened old)) (sym e) ∙ free in
      absurd (none-some x (sym none ∙ h))
  | inr f ↦
      data-found new n ∙ ap (option_map (λ (s : Sub). s.blocks)) (ap (find_key sub_id n) w.new_is ∙ find-beside n w.before w.after (plain nid blocks) f ∙ sym (ap (find_key sub_id n) w.old_is))
      ∙ sym (data-found old n) ∙ h
]

-- ---- what is left of them

-- no subnode has the id
abbrev Lacking : ℕ → List Sub → Type 0
Lacking n subs = list_all (λ (s : Sub). not (n == s.nid.bits)) subs ≡ true

lacking-below : (n : ℕ) (a : List Sub) → ids_below n a → Lacking n a
lacking-below n [] h = refl
lacking-below n (t ∷ a) h =
    let p = and_parts (nat_lt t.nid.bits n) (list_all (λ (u : Sub). nat_lt u.nid.bits n) a) h in
    let less = ltb-true t.nid.bits n p.0 in
    and_from (not (n == t.nid.bits)) (list_all (λ (s : Sub). not (n == s.nid.bits)) a) (ap not (ne_eqb n t.nid.bits (λ z. absurd (omega (arith, less, z))))) (lacking-below n a p.1)

lacking-above : (n low : ℕ) (b : List Sub) → n < low → keys_ascend sub_id low b ≡ true → Lacking n b
lacking-above n low [] lt h = refl
lacking-above n low (t ∷ b) lt h =
    let p = and_parts (nat_le low t.nid.bits) (keys_ascend sub_id (suc t.nid.bits) b) h in
    let le = leb-true low t.nid.bits p.0 in
    and_from (not (n == t.nid.bits)) (list_all (λ (s : Sub). not (n == s.nid.bits)) b) (ap not (ne_eqb n t.nid.bits (λ z. absurd (omega (arith, le, lt, z)))))
    (lacking-above n (suc t.nid.bits) b (omega (arith, le, lt)) p.1)

not-true : (b : Bool) → not b ≡ true → b ≡ false
not-true true h = sym h
not-true false h = refl

among-other : (n m : ℕ) (ids : List ℕ) → (n == m) ≡ false → is_among (n ∷ ids) m ≡ is_among ids m
among-other n m ids f = rw f refl

others-both : (n : ℕ) (ids : List ℕ) (t : Sub) (xs ys : List Sub) → (n == t.nid.bits) ≡ false → others (n ∷ ids) (flattened xs) ≡ others ids (flattened ys)
    → others (n ∷ ids) (flattened (t ∷ xs)) ≡ others ids (flattened (t ∷ ys))
others-both n ids t xs ys f rest = elim (cases_Bool (is_among ids t.nid.bits)) [
  | inl u ↦ others-dropped (n ∷ ids) t xs (among-other n t.nid.bits ids f ∙ u) ∙ rest ∙ sym (others-dropped ids t ys u)
  | inr g ↦ others-kept (n ∷ ids) t xs (among-other n t.nid.bits ids f ∙ g) ∙ ap (λ (fs : List Flat). flattened (t ∷ []) ++ fs) rest ∙ sym (others-kept ids t ys g)
]

others-lacking : (n : ℕ) (ids : List ℕ) (b : List Sub) → Lacking n b → others (n ∷ ids) (flattened b) ≡ others ids (flattened b)
others-lacking n ids [] h = refl
others-lacking n ids (t ∷ b) h =
    let p = and_parts (not (n == t.nid.bits)) (list_all (λ (s : Sub). not (n == s.nid.bits)) b) h in
    others-both n ids t b b (not-true (n == t.nid.bits) p.0) (others-lacking n ids b p.1)

others-between : (n : ℕ) (ids : List ℕ) (a b : List Sub) (s : Sub) → s.nid.bits ≡ n → Lacking n a → Lacking n b → others (n ∷ ids) (flattened (a ++ s ∷ b)) ≡ others ids (flattened (a ++ b))
others-between n ids [] b s e below above =
    let among : is_among (n ∷ ids) s.nid.bits ≡ true = rw (eq-eqb n s.nid.bits (sym e)) refl in
    others-dropped (n ∷ ids) s b among ∙ others-lacking n ids b above
others-between n ids (t ∷ a) b s e below above =
    let p = and_parts (not (n == t.nid.bits)) (list_all (λ (s : Sub). not (n == s.nid.bits)) a) below in
    others-both n ids t (a ++ s ∷ b) (a ++ b) (not-true (n == t.nid.bits) p.0) (others-between n ids a b s e p.1 above)

pub weave-left : (old new : List Sub) (blocks : List (List ℕ)) (nid : ℕ) → Weaves old blocks new nid → (ids : List ℕ) → others (nid ∷ ids) (flattened new) ≡ others ids (flattened old)
weave-left old new blocks nid w ids =
    ap (λ (ss : List Sub). others (nid ∷ ids) (flattened ss)) w.new_is
    ∙ others-between nid ids w.before w.after (plain nid blocks) refl (lacking-below nid w.before w.lower) (lacking-above nid (suc nid) w.after (omega arith) w.higher)
    ∙ sym (ap (λ (ss : List Sub). others ids (flattened ss)) w.old_is)
