-- A record put, dropped and looked up among others that stand before it and behind it.
use Rattle.std.proofs.Common.{◌≡◌, ◌≤◌, ◌<◌, ◌==◌, inl, inr, nat_lt, ℕ, suc, true, List, [], ◌∷◌, ◌++◌, length, Option, Some, None, refl, sym, ap, ◌∙◌, arith}
use Rattle.std.proofs.lemmas.Bool.{cases_Bool, cases_order, eq-eqb, ne_eqb, le-ltb, lt-ltb}
use Rattle.mapi_values.specs.Keyed.{put_key, drop_key}
use Rattle.bth_tree.specs.Find.{either}
use Rattle.bth_tree.specs.Records.{entry_of, within}
use Rattle.bth_tree.specs.Tree.{end_of}
use Rattle.bth_tree.proofs.FindLaws.{entry-append}
use Rattle.bth_tree.proofs.WholeLaws.{first-within, within-first, within-lower}
use Rattle.index_edit.specs.Rows.{AreBelow, BeginsAbove, IsHere, key_of}

pub put-behind : (x : ℕ × List ℕ) (before ws : List (ℕ × List ℕ)) → AreBelow x.0 before → put_key key_of x (before ++ ws) ≡ before ++ put_key key_of x ws
put-behind x [] ws h = refl
put-behind x (b ∷ bs) ws h = rw (lt-ltb b.0 x.0 h.0) (ap (λ (rs : List (ℕ × List ℕ)). b ∷ rs) (put-behind x bs ws h.1))

pub put-here : (x : ℕ × List ℕ) (here after : List (ℕ × List ℕ)) → IsHere x.0 here after → put_key key_of x (here ++ after) ≡ x ∷ after
put-here x [] [] h = refl
put-here x [] (r ∷ after) h = rw (le-ltb r.0 x.0 (omega (arith, h)), ne_eqb r.0 x.0 (λ e. absurd (omega (arith, e, h)))) refl
put-here x (r ∷ []) after h = rw (le-ltb r.0 x.0 (omega (arith, h)), eq-eqb r.0 x.0 h) refl
put-here x (r ∷ (s ∷ rs)) after h = absurd h

pub put-front : (x : ℕ × List ℕ) (part after : List (ℕ × List ℕ)) → BeginsAbove x.0 after → put_key key_of x (part ++ after) ≡ put_key key_of x part ++ after
put-front x [] after h = put-here x [] after h
put-front x (p ∷ ps) after h = elim (cases_Bool (nat_lt p.0 x.0)) [
  | inl t ↦ rw t (ap (λ (rs : List (ℕ × List ℕ)). p ∷ rs) (put-front x ps after h))
  | inr f ↦ rw f (elim (cases_Bool (p.0 == x.0)) [
    | inl t ↦ rw t refl
    | inr g ↦ rw g refl
  ])
]

pub put-middle : (x : ℕ × List ℕ) (before part after : List (ℕ × List ℕ)) → AreBelow x.0 before → BeginsAbove x.0 after → put_key key_of x (before ++ (part ++ after)) ≡ before ++ (put_key key_of x part ++ after)
put-middle x before part after a b = put-behind x before (part ++ after) a ∙ ap (λ (rs : List (ℕ × List ℕ)). before ++ rs) (put-front x part after b)

pub drop-behind : (key : ℕ) (before ws : List (ℕ × List ℕ)) → AreBelow key before → drop_key key_of key (before ++ ws) ≡ before ++ drop_key key_of key ws
drop-behind key [] ws h = refl
drop-behind key (b ∷ bs) ws h = rw (ne_eqb b.0 key (λ e. absurd (omega (arith, e, h.0)))) (ap (λ (rs : List (ℕ × List ℕ)). b ∷ rs) (drop-behind key bs ws h.1))

-- no key from a higher one on is this one
pub drop-above : (key low high : ℕ) (rs : List (ℕ × List ℕ)) → key < low → within low high rs ≡ true → drop_key key_of key rs ≡ rs
drop-above key low high [] h w = refl
drop-above key low high (r ∷ rs) h w =
    let f = first-within low high r rs w in
    rw (ne_eqb r.0 key (λ e. absurd (omega (arith, e, h, f.0)))) (ap (λ (ws : List (ℕ × List ℕ)). r ∷ ws) (drop-above key (suc r.0) high rs (omega (arith, h, f.0)) f.2))

pub entry-above : (key low high : ℕ) (rs : List (ℕ × List ℕ)) → key < low → within low high rs ≡ true → entry_of key rs ≡ None
entry-above key low high [] h w = refl
entry-above key low high (r ∷ rs) h w =
    let f = first-within low high r rs w in
    rw (ne_eqb r.0 key (λ e. absurd (omega (arith, e, h, f.0)))) (entry-above key (suc r.0) high rs (omega (arith, h, f.0)) f.2)

pub entry-below : (key : ℕ) (rs : List (ℕ × List ℕ)) → AreBelow key rs → entry_of key rs ≡ None
entry-below key [] h = refl
entry-below key (r ∷ rs) h = rw (ne_eqb r.0 key (λ e. absurd (omega (arith, e, h.0)))) (entry-below key rs h.1)

pub drop-front : (key : ℕ) (part after : List (ℕ × List ℕ)) → drop_key key_of key after ≡ after → drop_key key_of key (part ++ after) ≡ drop_key key_of key part ++ after
drop-front key [] after h = h
drop-front key (p ∷ ps) after h = elim (cases_Bool (p.0 == key)) [
  | inl t ↦ rw t refl
  | inr f ↦ rw f (ap (λ (rs : List (ℕ × List ℕ)). p ∷ rs) (drop-front key ps after h))
]

pub drop-middle : (key high : ℕ) (before part after : List (ℕ × List ℕ)) → AreBelow key before → within (suc key) high after ≡ true → drop_key key_of key (before ++ (part ++ after)) ≡ before ++ (drop_key key_of key part ++ after)
drop-middle key high before part after a b =
    drop-behind key before (part ++ after) a ∙ ap (λ (rs : List (ℕ × List ℕ)). before ++ rs) (drop-front key part after (drop-above key (suc key) high after (omega arith) b))

either-none : (o : Option (List ℕ)) → either o None ≡ o
either-none None = refl
either-none (Some x) = refl

pub entry-middle : (key high : ℕ) (before part after : List (ℕ × List ℕ)) → AreBelow key before → within (suc key) high after ≡ true → entry_of key (before ++ (part ++ after)) ≡ entry_of key part
entry-middle key high before part after a b =
    entry-append key before (part ++ after) ∙ ap (λ (o : Option (List ℕ)). either o (entry_of key (part ++ after))) (entry-below key before a)
    ∙ entry-append key part after ∙ ap (either (entry_of key part)) (entry-above key (suc key) high after (omega arith) b) ∙ either-none (entry_of key part)

-- ascending records whose first key is above this one
pub above-within : (key low high : ℕ) (rs : List (ℕ × List ℕ)) → BeginsAbove key rs → within low high rs ≡ true → within (suc key) high rs ≡ true
above-within key low high [] h w = refl
above-within key low high (r ∷ rs) h w = let f = first-within low high r rs w in within-first (suc key) high r rs (omega (arith, h)) f.1 f.2

pub begins-above : (key high : ℕ) (rs : List (ℕ × List ℕ)) → within (suc key) high rs ≡ true → BeginsAbove key rs
begins-above key high [] w = tt
begins-above key high (r ∷ rs) w = let f = first-within (suc key) high r rs w in omega (arith, f.0)

pub below-within : (key low high : ℕ) (rs : List (ℕ × List ℕ)) → within low high rs ≡ true → high ≤ key → AreBelow key rs
below-within key low high [] w h = tt
below-within key low high (r ∷ rs) w h = let f = first-within low high r rs w in (omega (arith, f.1, h), below-within key (suc r.0) high rs f.2 h)

-- the record with the key is left out; where there is none, nothing is
pub drop-here : (key low high : ℕ) (here after : List (ℕ × List ℕ)) → IsHere key here after → within low high after ≡ true → drop_key key_of key (here ++ after) ≡ after
drop-here key low high [] after h w = drop-above key (suc key) high after (omega arith) (above-within key low high after h w)
drop-here key low high (r ∷ []) after h w = rw (eq-eqb r.0 key h) refl
drop-here key low high (r ∷ (s ∷ rs)) after h w = absurd h

pub put-within : (low high : ℕ) (x : ℕ × List ℕ) (rs : List (ℕ × List ℕ)) → low ≤ x.0 → x.0 < high → within low high rs ≡ true → within low high (put_key key_of x rs) ≡ true
put-within low high x [] a b w = within-first low high x [] a b refl
put-within low high x (r ∷ rs) a b w =
    let f = first-within low high r rs w in
    elim (cases_order r.0 x.0) [
      | inl same ↦ rw (le-ltb r.0 x.0 (omega (arith, same)), eq-eqb r.0 x.0 same) (within-first low high x rs a b (ap (λ (n : ℕ). within (suc n) high rs) (sym same) ∙ f.2))
      | inr (inl less) ↦ rw (lt-ltb r.0 x.0 less) (within-first low high r (put_key key_of x rs) f.0 f.1 (put-within (suc r.0) high x rs (omega (arith, less)) b f.2))
      | inr (inr more) ↦ rw (le-ltb r.0 x.0 (omega (arith, more)), ne_eqb r.0 x.0 (λ e. absurd (omega (arith, e, more))))
          (within-first low high x (r ∷ rs) a b (within-first (suc x.0) high r rs (omega (arith, more)) f.1 f.2))
    ]

pub drop-within : (low high key : ℕ) (rs : List (ℕ × List ℕ)) → within low high rs ≡ true → within low high (drop_key key_of key rs) ≡ true
drop-within low high key [] w = refl
drop-within low high key (r ∷ rs) w =
    let f = first-within low high r rs w in
    elim (cases_Bool (r.0 == key)) [
      | inl t ↦ rw t (within-lower (suc r.0) low high rs (omega (arith, f.0)) f.2)
      | inr g ↦ rw g (within-first low high r (drop_key key_of key rs) f.0 f.1 (drop-within (suc r.0) high key rs f.2))
    ]

pub put-some : (x : ℕ × List ℕ) (rs : List (ℕ × List ℕ)) → 0 < length (put_key key_of x rs)
put-some x [] = omega arith
put-some x (r ∷ rs) = elim (cases_Bool (nat_lt r.0 x.0)) [
  | inl t ↦ rw t (omega arith)
  | inr f ↦ rw f (elim (cases_Bool (r.0 == x.0)) [
    | inl t ↦ rw t (omega arith)
    | inr g ↦ rw g (omega arith)
  ])
]

pub low-end : (low high : ℕ) (rs : List (ℕ × List ℕ)) → 0 < length rs → within low high rs ≡ true → low ≤ end_of rs
low-end low high [] n w = absurd (omega arith)
low-end low high (r ∷ rs) n w = (first-within low high r rs w).0
