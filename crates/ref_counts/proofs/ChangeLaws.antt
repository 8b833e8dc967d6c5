-- Changes of numbers, one after another.
use Rattle.std.proofs.Common.{◌≡◌, ◌<◌, ℕ, ◌+◌, ◌-◌, ◌^◌, cond, eqb, List, [], ◌∷◌, ◌++◌, length, get_or, take, Option, None, Some, refl, sym, ap, ◌∙◌, subst, inl, inr, arith, All, option_to_list}
use Rattle.std.proofs.lemmas.List.{take_more, append-nil}
use Rattle.std.proofs.lemmas.List.Elements.{All-more, All-weaker}
use Rattle.data_tree.specs.Keys.{count_of}
use Rattle.ref_counts.specs.declared.table.RefChange.{RefChange}
use Rattle.ref_counts.specs.Tables.{Rises, IsAscending, entry_at, first, number_of, refs_in, HasKey}
use Rattle.ref_counts.specs.Changes.{key_in, number_after, change_of, number_by, IsRefChange, AreRefChanges, HasRoomFor, change_at, listed_of, listed_at, AreAllChanges}
use Rattle.ref_counts.proofs.TableLaws.{tested, at-push, rises-before, rises-front, rises-push, rises-higher, none-above, found-key, each-found}
use Rattle.ref_counts.proofs.CountLaws.{count-append}

-- ---- room

-- one more key that is there
pub more-here : (now new : List (ℕ × ℕ)) (cs : List RefChange) (i : ℕ) (d : RefChange) → i < length cs → ((key : ℕ) → HasKey now key → HasKey new key)
    → All (λ (c : RefChange). HasKey now c.key) (take i cs) → HasKey new (get_or cs i d).key → All (λ (c : RefChange). HasKey new c.key) (take (i + 1) cs)
more-here now new cs i d within kept all here =
    All-more (λ (c : RefChange). HasKey new c.key) cs i d within (All-weaker (λ (c : RefChange). HasKey now c.key) (λ (c : RefChange). HasKey new c.key) (λ c has. kept c.key has) (take i cs) all) here

-- ---- numbers put

-- one more change has put its number
pub more-put : (start now new : List (ℕ × ℕ)) (cs : List RefChange) (i : ℕ) (d : RefChange) → i < length cs → HasRoomFor start cs
    → ((key : ℕ) → refs_in now key ≡ number_by (change_of key (take i cs)) (refs_in start key))
    → ((key : ℕ) → refs_in new key ≡ cond (eqb (get_or cs i d).key key) (get_or cs i d).after (refs_in now key))
    → (key : ℕ) → refs_in new key ≡ number_by (change_of key (take (i + 1) cs)) (refs_in start key)
more-put start now new cs i d within room before put key =
    let c : RefChange = get_or cs i d in
    let at : change_of key (take (i + 1) cs) ≡ cond (eqb c.key key) (Some c) (change_of key (take i cs)) =
    ap (λ (xs : List RefChange). change_of key xs) (take_more cs i d within) ∙ at-push key_in key (take i cs) c (rises-before key_in 0 (2 ^ 64) cs i d room.ascend within) in
    let all : number_by (change_of key (take (i + 1) cs)) (refs_in start key) ≡ number_by (cond (eqb c.key key) (Some c) (change_of key (take i cs))) (refs_in start key) =
    ap (λ (o : Option RefChange). number_by o (refs_in start key)) at in
    elim (tested c.key key) as (λ v. refs_in new key ≡ number_by (change_of key (take (i + 1) cs)) (refs_in start key)) [
      | inl t ↦ put key ∙ rw t.0 (sym (all ∙ rw t.0 refl))
      | inr t ↦ put key ∙ rw t.0 (before key ∙ sym (all ∙ rw t.0 refl))
    ]

-- ---- changes listed

-- what is known of the changes of the first entries
pub record AreFirst (refs taken put : ℕ → ℕ) (touched : List (ℕ × ℕ)) (cs : List RefChange) : Type 0 where
  pub rise : (high : ℕ) → Rises first 0 high touched → Rises key_in 0 high cs
  pub are : (key : ℕ) → change_of key cs ≡ listed_at refs taken put (entry_at first key touched)

module _ (refs taken put : ℕ → ℕ) where
  -- one entry more, of which the change is listed or not
  pub more-listed : (touched : List (ℕ × ℕ)) (i : ℕ) (d : ℕ × ℕ) (old new : List RefChange) → IsAscending first touched → i < length touched → AreFirst refs taken put (take i touched) old
      → new ≡ old ++ option_to_list (listed_of (change_at refs taken put (get_or touched i d).0)) → AreFirst refs taken put (take (i + 1) touched) new
  more-listed touched i d old new ascend within so_far is =
      let e : ℕ × ℕ = get_or touched i d in
      let more : take (i + 1) touched ≡ take i touched ++ e ∷ [] = take_more touched i d within in
      let before : Rises first 0 e.0 (take i touched) = rises-before first 0 (2 ^ 64) touched i d ascend within in
      subst (λ (xs : List (ℕ × ℕ)). AreFirst refs taken put xs new) (sym more) (subst (λ (xs : List RefChange). AreFirst refs taken put (take i touched ++ e ∷ []) xs) (sym is) (with_one (take i touched) e old before so_far))
    where
      with_one : (xs : List (ℕ × ℕ)) (e : ℕ × ℕ) (old : List RefChange) → Rises first 0 e.0 xs → AreFirst refs taken put xs old
          → AreFirst refs taken put (xs ++ e ∷ []) (old ++ option_to_list (listed_of (change_at refs taken put e.0)))
      with_one xs e old before so_far =
          let c : RefChange = change_at refs taken put e.0 in
          let low : Rises key_in 0 e.0 old = so_far.rise e.0 before in
          elim (tested c.before c.after) as (λ v. AreFirst refs taken put (xs ++ e ∷ []) (old ++ option_to_list (listed_of c))) [
            | inl t ↦ record {
              rise = λ high r. let front = rises-front first 0 high xs e r in
                  rw t.0 (rw append-nil (rises-higher key_in 0 e.0 high old (let last = front.1 in omega (arith, last)) low));
              are = λ key. rw (at-push first key xs e before) (elim (tested e.0 key) as (λ v. change_of key (old ++ option_to_list (listed_of c)) ≡ listed_at refs taken put (cond (eqb e.0 key) (Some e) (entry_at first key xs))) [
                | inl s ↦ rw (t.0, s.0, append-nil) (none-above key_in 0 e.0 key old low (omega (arith, s.1)) ∙ sym (rw t.0 refl))
                | inr s ↦ rw (t.0, s.0, append-nil) (so_far.are key)
              ]);
            }
            | inr t ↦ record {
              rise = λ high r. let front = rises-front first 0 high xs e r in
                  rw t.0 (rises-push key_in 0 high old c low front.1);
              are = λ key. rw (at-push first key xs e before) (elim (tested e.0 key) as (λ v. change_of key (old ++ option_to_list (listed_of c)) ≡ listed_at refs taken put (cond (eqb e.0 key) (Some e) (entry_at first key xs))) [
                | inl s ↦ rw t.0 (at-push key_in key old c low ∙ rw (s.0, t.0) refl)
                | inr s ↦ rw t.0 (at-push key_in key old c low ∙ rw s.0 (so_far.are key))
              ]);
            }
          ]

-- what is listed is the change itself, where its numbers differ
from-listed : (x c : RefChange) → listed_of x ≡ Some c → (c ≡ x) × (x.before ≡ x.after → ⊥)
from-listed x c is = elim (tested x.before x.after) as (λ v. (c ≡ x) × (x.before ≡ x.after → ⊥)) [
  | inl t ↦ absurd (never c (subst (λ (b : _). cond b None (Some x) ≡ Some c) t.0 is))
  | inr t ↦ (same (subst (λ (b : _). cond b None (Some x) ≡ Some c) t.0 is), t.1)
]
  where
    never : (c : RefChange) → None ≡ Some c → ⊥
    never c h = cc

    same : Some x ≡ Some c → c ≡ x
    same h = cc

-- and what is not has equal numbers
not-listed : (x : RefChange) → listed_of x ≡ None → x.before ≡ x.after
not-listed x is = elim (tested x.before x.after) as (λ v. x.before ≡ x.after)
    [ inl t ↦ t.1 | inr t ↦ absurd (never (subst (λ (b : _). cond b None (Some x) ≡ None) t.0 is)) ]
  where
    never : Some x ≡ None → ⊥
    never h = cc

-- The changes of all keys that were taken or put are all changes.
pub are-changes : (refs taken put touched : List (ℕ × ℕ)) (ts ps both : List ℕ) (cs : List RefChange) → ((key : ℕ) → refs_in taken key ≡ count_of key ts) → ((key : ℕ) → refs_in put key ≡ count_of key ps)
    → ((key : ℕ) → refs_in touched key ≡ count_of key both) → both ≡ ts ++ ps → AreAllChanges (refs_in refs) (refs_in taken) (refs_in put) touched cs → AreRefChanges (refs_in refs) ts ps cs
are-changes refs taken put touched ts ps both cs t p b both-is all = record { ascend = all.ascend; each = each-found key_in (IsRefChange (refs_in refs) ts ps) 0 (2 ^ 64) cs all.ascend is-change; others = others }
  where
    is-change : (k : ℕ) (c : RefChange) → entry_at key_in k cs ≡ Some c → IsRefChange (refs_in refs) ts ps c
    is-change k c found = elim (entry_at first k touched) as (λ o. entry_at first k touched ≡ o → IsRefChange (refs_in refs) ts ps c) [
      | None ↦ (λ at. absurd (never (sym (all.are k ∙ ap (λ (o : Option (ℕ × ℕ)). listed_at (refs_in refs) (refs_in taken) (refs_in put) o) at) ∙ found)))
      | Some e ↦ (λ at.
          let x : RefChange = change_at (refs_in refs) (refs_in taken) (refs_in put) e.0 in
          let from = from-listed x c (sym (all.are k ∙ ap (λ (o : Option (ℕ × ℕ)). listed_at (refs_in refs) (refs_in taken) (refs_in put) o) at) ∙ found) in
          subst (λ (y : RefChange). IsRefChange (refs_in refs) ts ps y) (sym from.0) (record { before = refl; after = (let a = t e.0 in let b = p e.0 in omega (arith, a, b)); differs = from.1 }))
    ] refl
      where
        never : None ≡ Some c → ⊥
        never h = cc

    others : (k : ℕ) → change_of k cs ≡ None → number_after (refs_in refs) ts ps k ≡ refs_in refs k
    others k none = elim (entry_at first k touched) as (λ o. entry_at first k touched ≡ o → number_after (refs_in refs) ts ps k ≡ refs_in refs k) [
      | None ↦ (λ at.
          let zero_there : 0 ≡ count_of k both = sym (ap number_of at) ∙ b k in
          let joined : count_of k both ≡ count_of k ts + count_of k ps = ap (λ (xs : List ℕ). count_of k xs) both-is ∙ count-append k ts ps in
          omega (arith, zero_there, joined))
      | Some e ↦ (λ at.
          let x : RefChange = change_at (refs_in refs) (refs_in taken) (refs_in put) e.0 in
          let same : x.before ≡ x.after = not-listed x (sym (all.are k ∙ ap (λ (o : Option (ℕ × ℕ)). listed_at (refs_in refs) (refs_in taken) (refs_in put) o) at) ∙ none) in
          let is : e.0 ≡ k = found-key first k touched e at in
          let at_k : refs_in refs k ≡ (refs_in refs k - refs_in taken k) + refs_in put k = subst (λ (q : ℕ). refs_in refs q ≡ (refs_in refs q - refs_in taken q) + refs_in put q) is same in
          let a = t k in let b = p k in
          omega (arith, at_k, a, b))
    ] refl
