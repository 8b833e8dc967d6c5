-- Where a key belongs among the records below pairs, and what becomes of them when the records there change.
use Rattle.std.proofs.Common.{◌≡◌, ◌≤◌, ◌<◌, ◌^◌, inl, inr, ◌⊎◌, ℕ, suc, true, List, [], ◌∷◌, ◌++◌, length, Option, Some, refl, sym, ap, ◌∙◌, subst, arith}
use Rattle.mapi_values.specs.Keyed.{put_key, drop_key}
use Rattle.bth_tree.specs.Records.{entry_of, within}
use Rattle.bth_tree.specs.Tree.{end_of, gather}
use Rattle.bth_tree.proofs.OptionLaws.{some-injective}
use Rattle.bth_tree.proofs.WholeLaws.{AreSome, some-within, within-lower}
use Rattle.index_edit.specs.Rows.{AreBelow, BeginsAbove, IsPlaceOf, key_of}
use Rattle.index_edit.proofs.CoverLaws.{Covers, cover-append, cover-kept, cover-narrow, cover-split, cover-widen, cover-within, end_from, from-gather, to-gather}
use Rattle.index_edit.proofs.KeyLaws.{begins-above, below-within, drop-middle, drop-within, entry-middle, low-end, put-middle, put-some, put-within}

-- the pairs before and behind the one of a key, and the records below them
pub record Located (child : ℕ → Option (List (ℕ × List ℕ))) (key : ℕ) (ps recs : List (ℕ × List ℕ)) (index c : ℕ) : Type 0 where
  pub before : List (ℕ × List ℕ)
  pub pair : ℕ × List ℕ
  pub after : List (ℕ × List ℕ)
  pub left : List (ℕ × List ℕ)
  pub part : List (ℕ × List ℕ)
  pub right : List (ℕ × List ℕ)
  pub pairs : ps ≡ before ++ pair ∷ after
  pub place : length before ≡ index
  pub reads : recs ≡ left ++ (part ++ right)
  pub here : child c ≡ Some part
  pub some : 0 < length part
  pub span : within pair.0 (end_from (2 ^ 32) after) part ≡ true
  pub first : Covers child pair.0 before left
  pub last : Covers child (2 ^ 32) after right
  pub below : AreBelow key left
  pub above : within (suc key) (2 ^ 32) right ≡ true
  pub low : (before ≡ []) ⊎ (pair.0 ≤ key)
  pub high : key < end_from (2 ^ 32) after

begins-end : (key : ℕ) (after : List (ℕ × List ℕ)) → key < 2 ^ 32 → BeginsAbove key after → key < end_from (2 ^ 32) after
begins-end key [] fits h = fits
begins-end key (p ∷ ps) fits h = h

pub locate : (child : ℕ → Option (List (ℕ × List ℕ))) → AreSome child → (key : ℕ) → key < 2 ^ 32 → (ps recs : List (ℕ × List ℕ)) (index c : ℕ) → gather child ps ≡ Some recs → IsPlaceOf key ps index c
    → Located child key ps recs index c
locate child some key fits ps recs index c h p =
    let all = subst (λ (ws : List (ℕ × List ℕ)). Covers child (2 ^ 32) ws recs) p.parts (from-gather child some ps recs h) in
    let s = cover-split child (2 ^ 32) p.before (p.pair ∷ p.after) recs all in
    let t = s.4 in
    let high = begins-end key p.after fits p.next in
    record {
      before = p.before;
      pair = p.pair;
      after = p.after;
      left = s.0;
      part = t.0;
      right = t.1;
      pairs = p.parts;
      place = p.place;
      reads = s.2 ∙ ap (λ (w : List (ℕ × List ℕ)). s.0 ++ w) t.2;
      here = ap child (sym p.names) ∙ t.4;
      some = t.3;
      span = t.5;
      first = s.3;
      last = t.6;
      below = elim p.low [
        | inl none ↦
            let nothing : s.0 ≡ [] = subst (λ (ws : List (ℕ × List ℕ)). Covers child p.pair.0 ws s.0) none s.3 in
            subst (AreBelow key) (sym nothing) tt
        | inr less ↦ below-within key (end_from p.pair.0 p.before) p.pair.0 s.0 (cover-within child p.pair.0 p.before s.0 s.3).1 less
      ];
      above = within-lower (end_from (2 ^ 32) p.after) (suc key) (2 ^ 32) t.1 (omega (arith, high)) (cover-within child (2 ^ 32) p.after t.1 t.6).1;
      low = p.low;
      high = high;
    }

pub located-entry : (child : ℕ → Option (List (ℕ × List ℕ))) (key : ℕ) (ps recs : List (ℕ × List ℕ)) (index c : ℕ) (l : Located child key ps recs index c) → entry_of key recs ≡ entry_of key l.part
located-entry child key ps recs index c l = ap (entry_of key) l.reads ∙ entry-middle key (2 ^ 32) l.left l.part l.right l.below l.above

pairs-some : (child : ℕ → Option (List (ℕ × List ℕ))) (qs new : List (ℕ × List ℕ)) → gather child qs ≡ Some new → 0 < length new → 0 < length qs
pairs-some child [] new h n = let e = ap length (some-injective [] new h) in absurd (omega (arith, e, n))
pairs-some child (q ∷ qs) new h n = omega arith

end-front : (qs after : List (ℕ × List ℕ)) → 0 < length qs → end_from (2 ^ 32) (qs ++ after) ≡ end_of qs
end-front [] after h = absurd (omega (arith, h))
end-front (q ∷ qs) after h = refl

-- other pairs in place of the one of the key, over other records
pub replaced : (child new : ℕ → Option (List (ℕ × List ℕ))) → AreSome new → ((hid : ℕ) (ws : List (ℕ × List ℕ)) → child hid ≡ Some ws → new hid ≡ Some ws)
    → (key : ℕ) (ps recs : List (ℕ × List ℕ)) (index c : ℕ) (l : Located child key ps recs index c) (qs part : List (ℕ × List ℕ)) → gather new qs ≡ Some part → end_of qs ≡ end_of part → 0 < length part
    → within 0 (end_from (2 ^ 32) l.after) part ≡ true → (l.before ≡ []) ⊎ (l.pair.0 ≤ end_of part) → gather new (l.before ++ (qs ++ l.after)) ≡ Some (l.left ++ (part ++ l.right))
replaced child new some keeps key ps recs index c l qs part g first n w low =
    let high = end_from (2 ^ 32) l.after in
    let mid = cover-narrow new (2 ^ 32) 0 high qs part (from-gather new some qs part g) w in
    let back = cover-append new (2 ^ 32) qs l.after part l.right mid (cover-kept child new (2 ^ 32) l.after l.right keeps l.last) in
    let before = cover-kept child new l.pair.0 l.before l.left keeps l.first in
    let most = end-front qs l.after (pairs-some new qs part g n) in
    let front : Covers new (end_from (2 ^ 32) (qs ++ l.after)) l.before l.left = elim low [
      | inl none ↦ subst (λ (ws : List (ℕ × List ℕ)). Covers new (end_from (2 ^ 32) (qs ++ l.after)) ws l.left) (sym none) (subst (λ (ws : List (ℕ × List ℕ)). Covers new l.pair.0 ws l.left) none before)
      | inr le ↦ cover-widen new l.pair.0 (end_from (2 ^ 32) (qs ++ l.after)) l.before l.left (omega (arith, le, most, first)) before
    ] in
    to-gather new (l.before ++ (qs ++ l.after)) (l.left ++ (part ++ l.right)) (cover-append new (2 ^ 32) l.before (qs ++ l.after) l.left (part ++ l.right) front back)

-- the pair of the key is left out, and the records below it
removed : (child new : ℕ → Option (List (ℕ × List ℕ))) → ((hid : ℕ) (ws : List (ℕ × List ℕ)) → child hid ≡ Some ws → new hid ≡ Some ws)
    → (key : ℕ) (ps recs : List (ℕ × List ℕ)) (index c : ℕ) (l : Located child key ps recs index c) → gather new (l.before ++ l.after) ≡ Some (l.left ++ l.right)
removed child new keeps key ps recs index c l =
    let high = end_from (2 ^ 32) l.after in
    let less = some-within l.pair.0 high l.part l.some l.span in
    let front = cover-widen new l.pair.0 high l.before l.left (omega (arith, less)) (cover-kept child new l.pair.0 l.before l.left keeps l.first) in
    to-gather new (l.before ++ l.after) (l.left ++ l.right) (cover-append new (2 ^ 32) l.before l.after l.left l.right front (cover-kept child new (2 ^ 32) l.after l.right keeps l.last))

pub located-put : (child new : ℕ → Option (List (ℕ × List ℕ))) → AreSome new → ((hid : ℕ) (ws : List (ℕ × List ℕ)) → child hid ≡ Some ws → new hid ≡ Some ws)
    → (x : ℕ × List ℕ) (ps recs : List (ℕ × List ℕ)) (index c : ℕ) (l : Located child x.0 ps recs index c) (qs : List (ℕ × List ℕ)) → gather new qs ≡ Some (put_key key_of x l.part)
    → end_of qs ≡ end_of (put_key key_of x l.part) → gather new (l.before ++ (qs ++ l.after)) ≡ Some (put_key key_of x recs)
located-put child new some keeps x ps recs index c l qs g first =
    let high = end_from (2 ^ 32) l.after in
    let n = put-some x l.part in
    let low : (l.before ≡ []) ⊎ (l.pair.0 ≤ end_of (put_key key_of x l.part)) = elim l.low [
      | inl none ↦ inl none
      | inr le ↦ inr (low-end l.pair.0 high (put_key key_of x l.part) n (put-within l.pair.0 high x l.part le l.high l.span))
    ] in
    replaced child new some keeps x.0 ps recs index c l qs (put_key key_of x l.part) g first n
    (put-within 0 high x l.part (omega arith) l.high (within-lower l.pair.0 0 high l.part (omega arith) l.span)) low
    ∙ ap Some (sym (ap (put_key key_of x) l.reads ∙ put-middle x l.left l.part l.right l.below (begins-above x.0 (2 ^ 32) l.right l.above)))

drop-located : (child : ℕ → Option (List (ℕ × List ℕ))) (key : ℕ) (ps recs : List (ℕ × List ℕ)) (index c : ℕ) (l : Located child key ps recs index c)
    → drop_key key_of key recs ≡ l.left ++ (drop_key key_of key l.part ++ l.right)
drop-located child key ps recs index c l = ap (drop_key key_of key) l.reads ∙ drop-middle key (2 ^ 32) l.left l.part l.right l.below l.above

pub located-drop : (child new : ℕ → Option (List (ℕ × List ℕ))) → AreSome new → ((hid : ℕ) (ws : List (ℕ × List ℕ)) → child hid ≡ Some ws → new hid ≡ Some ws)
    → (key : ℕ) (ps recs : List (ℕ × List ℕ)) (index c : ℕ) (l : Located child key ps recs index c) (qs : List (ℕ × List ℕ)) → gather new qs ≡ Some (drop_key key_of key l.part)
    → end_of qs ≡ end_of (drop_key key_of key l.part) → 0 < length (drop_key key_of key l.part) → gather new (l.before ++ (qs ++ l.after)) ≡ Some (drop_key key_of key recs)
located-drop child new some keeps key ps recs index c l qs g first n =
    let high = end_from (2 ^ 32) l.after in
    let kept = drop-within l.pair.0 high key l.part l.span in
    replaced child new some keeps key ps recs index c l qs (drop_key key_of key l.part) g first n
    (within-lower l.pair.0 0 high (drop_key key_of key l.part) (omega arith) kept)
    (inr (low-end l.pair.0 high (drop_key key_of key l.part) n kept))
    ∙ ap Some (sym (drop-located child key ps recs index c l))

pub located-empty : (child new : ℕ → Option (List (ℕ × List ℕ))) → ((hid : ℕ) (ws : List (ℕ × List ℕ)) → child hid ≡ Some ws → new hid ≡ Some ws)
    → (key : ℕ) (ps recs : List (ℕ × List ℕ)) (index c : ℕ) (l : Located child key ps recs index c) → drop_key key_of key l.part ≡ []
    → gather new (l.before ++ l.after) ≡ Some (drop_key key_of key recs)
located-empty child new keeps key ps recs index c l none =
    removed child new keeps key ps recs index c l
    ∙ ap Some (sym (drop-located child key ps recs index c l ∙ ap (λ (ws : List (ℕ × List ℕ)). l.left ++ (ws ++ l.right)) none))

-- the key isn't there
pub located-same : (child : ℕ → Option (List (ℕ × List ℕ))) (key : ℕ) (ps recs : List (ℕ × List ℕ)) (index c : ℕ) (l : Located child key ps recs index c) → drop_key key_of key l.part ≡ l.part
    → drop_key key_of key recs ≡ recs
located-same child key ps recs index c l same =
    drop-located child key ps recs index c l ∙ ap (λ (ws : List (ℕ × List ℕ)). l.left ++ (ws ++ l.right)) same ∙ sym l.reads
