-- The walk over subnodes that stood beside each other, one subnode more.
use Rattle.std.proofs.Common.{true, ◌≡◌, ◌∙◌, inl, inr, ℕ, ◌+◌, ◌<◌, ◌≤◌, ltb, get_or, List, [], ◌∷◌, ◌++◌, length, drop, take, map, Option, refl, sym, ap, subst, arith, append_assoc, append-nil, length-append}
use Rattle.std.proofs.lemmas.Bool.{and_parts, cases_lt, ltb-true}
use Rattle.std.proofs.lemmas.List.{drop-drop, length-map, take_all, take_more}
use Rattle.pst_base.specs.declared.ids.Bid.{Bid}
use Rattle.pst_base.specs.declared.subs.Sub.{Sub}
use Rattle.pst_base.specs.Flat.{Flat}
use Rattle.pst_base.specs.Subs.{flattened, one_deeper}
use Rattle.data_tree.proofs.ListingLaws.{drop-here}
use Rattle.data_tree.proofs.PieceLaws.{Each, each-append}
use Rattle.subnode_tree.specs.Plan.{IsForm, ascending, first_list, paired, rise_from}
use Rattle.subnode_tree.proofs.FormLaws.{form-top, own, sub_nids}
use Rattle.subnode_tree.proofs.PairLaws.{Keep, Pair, paired-deeper}
use Rattle.subnode_tree.proofs.SubSteps.{flattened-more}
use Rattle.content_plan.specs.Beside.{BeginsFrom, IsThere, Passes}
use Rattle.content_plan.specs.Keep.{Keeps, kept_at, kept_each, kept_list, kept_subs, paths_of, subs_ascend}
use Rattle.content_plan.proofs.PathLaws.{Above, absent, first-ascends, found-below, found-own, kept-alike, kept-first, skip-one}
use Rattle.content_plan.proofs.KeepLaws.{PairKeeps, keeps-list, no-more}

-- ---- ids behind subnodes

one-more : (xs : List Sub) (i : ℕ) (x : Sub) → i < length xs → x ≡ get_or xs i x → flattened (take (i + 1) xs) ≡ flattened (take i xs) ++ (own x ∷ map one_deeper x.subs)
one-more xs i x h is = ap flattened (take_more xs i x h ∙ ap (λ (s : Sub). take i xs ++ s ∷ []) (sym is)) ∙ flattened-more (take i xs) x

pub behind-next : (ids rest one out : Keep) (xs : List Sub) (i : ℕ) (x : Sub) → i < length xs → x ≡ get_or xs i x → one ≡ drop 1 rest → out ≡ drop (length x.subs) one → rest ≡ drop (length (flattened (take i xs))) ids → out ≡ drop (length (flattened (take (i + 1) xs))) ids
behind-next ids rest one out xs i x h is first made so_far =
    let front = flattened (take i xs) in
    let a = ap length (one-more xs i x h is) ∙ length-append front (own x ∷ map one_deeper x.subs) in
    let b = length-map x.subs one_deeper in
    let sum : length front + 1 + length x.subs ≡ length (flattened (take (i + 1) xs)) = omega (arith, a, b) in
    made ∙ ap (drop (length x.subs)) (first ∙ ap (drop 1) so_far ∙ drop-drop 1 (length front) ids) ∙ drop-drop (length x.subs) (length front + 1) ids ∙ ap (λ (n : ℕ). drop n ids) sum

-- ---- old subnodes

pub passes-start : (low : ℕ) (old : List Sub) (ids : Keep) → Passes low old ids old ids
passes-start low old ids = record { finds = λ next n path now h. refl; ascend = λ up. up }

pub passes-next : (low : ℕ) (old : List Sub) (ids : Keep) (left : List Sub) (left_ids one out : Keep) (x : Sub) (xs : List Sub) → left ≡ x ∷ xs → (x.nid).bits < low → one ≡ drop 1 left_ids → out ≡ drop (length x.subs) one → Passes low old ids left left_ids → Passes low old ids xs out
passes-next low old ids left left_ids one out x xs parts less first made p = record {
  finds = λ next n path now h.
      ap (λ (k : Keep). kept_at next k (flattened xs) (n ∷ path) now) (made ∙ ap (drop (length x.subs)) first)
      ∙ sym (skip-one next n path now left_ids x xs (λ e. absurd (omega (arith, e, less, h))))
      ∙ ap (λ (l : List Sub). kept_at next left_ids (flattened l) (n ∷ path) now) (sym parts) ∙ p.finds next n path now h;
  ascend = λ up. (first-ascends x xs (ap (λ (l : List Sub). subs_ascend (flattened l)) (sym parts) ∙ p.ascend up)).rest;
}

pub passes-join : (low high : ℕ) (old : List Sub) (ids : Keep) (mid : List Sub) (mid_ids : Keep) (left : List Sub) (left_ids : Keep) → low ≤ high → Passes low old ids mid mid_ids → Passes high mid mid_ids left left_ids → Passes high old ids left left_ids
passes-join low high old ids mid mid_ids left left_ids le first later = record {
  finds = λ next n path now h. later.finds next n path now h ∙ first.finds next n path now (omega (arith, le, h));
  ascend = λ up. later.ascend (first.ascend up);
}

pub begins-with : (low : ℕ) (left : List Sub) (x : Sub) (xs : List Sub) → left ≡ x ∷ xs → low ≤ (x.nid).bits → BeginsFrom low left
begins-with low left x xs parts le = λ sub rest is. let both : x ∷ xs ≡ sub ∷ rest = sym parts ∙ is in let same : x ≡ sub = cc in subst (λ (s : Sub). low ≤ (s.nid).bits) same le

-- where the first has the id
pub there-first : (nid : ℕ) (old : List Sub) (old_ids below_ids : Keep) (ids : List (Option Bid)) (blocks : List (List ℕ)) (x : Sub) (xs below : List Sub) → old ≡ x ∷ xs → (x.nid).bits ≡ nid → ids ≡ first_list old_ids → blocks ≡ x.blocks
    → flattened below ≡ x.subs → below_ids ≡ drop 1 old_ids → subs_ascend (flattened old) ≡ true → IsThere nid old old_ids ids blocks below below_ids
there-first nid old old_ids below_ids ids blocks x xs below parts same is_ids is_blocks is_below is_rest up =
    let first = first-ascends x xs (ap (λ (l : List Sub). subs_ascend (flattened l)) (sym parts) ∙ up) in
    let at : (next : ℕ) (path : List ℕ) (now : List (List ℕ)) → kept_at next old_ids (flattened (x ∷ xs)) ((x.nid).bits ∷ path) now ≡ kept_at next old_ids (flattened old) (nid ∷ path) now = λ next path now.
    ap (λ (n : ℕ). kept_at next old_ids (flattened (x ∷ xs)) (n ∷ path) now) same ∙ ap (λ (l : List Sub). kept_at next old_ids (flattened l) (nid ∷ path) now) (sym parts) in
    record {
      own = λ next now. ap (λ (l : List (Option Bid)). kept_list next l blocks now) is_ids ∙ ap (λ (l : List (List ℕ)). kept_list next (first_list old_ids) l now) is_blocks ∙ sym (found-own next now old_ids x xs) ∙ at next [] now;
      deeper = λ next p path now.
          ap (λ (k : Keep). kept_at next k (flattened below) (p ∷ path) now) is_rest ∙ ap (λ (l : List Flat). kept_at next (drop 1 old_ids) l (p ∷ path) now) is_below
          ∙ sym (found-below next p path now old_ids x xs first.above) ∙ at next (p ∷ path) now;
      ascend = ap subs_ascend is_below ∙ first.below;
    }

raise-above : (k n : ℕ) (ys : List Sub) → k < n → Above n ys → Above k ys
raise-above k n [] low above = tt
raise-above k n (y ∷ ys) low above = (let h = above.0 in omega (arith, low, h), raise-above k n ys low above.1)

none-with : (nid : ℕ) (old : List Sub) → BeginsFrom nid old → ((x : Sub) (xs : List Sub) → old ≡ x ∷ xs → (x.nid).bits ≡ nid → ⊥) → subs_ascend (flattened old) ≡ true → Above nid old
none-with nid [] begins other up = tt
none-with nid (x ∷ xs) begins other up =
    let le = begins x xs refl in
    let ne = other x xs refl in
    let high : nid < (x.nid).bits = elim (cases_lt nid (x.nid).bits) [ inl less ↦ less | inr more ↦ absurd (ne (omega (arith, le, more))) ] in
    (high, raise-above nid (x.nid).bits xs high (first-ascends x xs up).above)

pub other-first : (nid : ℕ) (old : List Sub) (x : Sub) (xs : List Sub) → old ≡ x ∷ xs → ((x.nid).bits ≡ nid → ⊥) → (y : Sub) (ys : List Sub) → old ≡ y ∷ ys → (y.nid).bits ≡ nid → ⊥
other-first nid old x xs parts ne = λ y ys is same.
    let both : x ∷ xs ≡ y ∷ ys = sym parts ∙ is in
    let first : x ≡ y = cc in
    ne (ap (λ (s : Sub). (s.nid).bits) first ∙ same)

-- where none has it
pub there-none : (nid : ℕ) (old : List Sub) (old_ids : Keep) → ((x : Sub) (xs : List Sub) → old ≡ x ∷ xs → (x.nid).bits ≡ nid → ⊥) → subs_ascend (flattened old) ≡ true → BeginsFrom nid old → IsThere nid old old_ids [] [] [] []
there-none nid old old_ids other up begins =
    let above = none-with nid old begins other up in
    record {
      own = λ next now. sym (absent next nid [] now old_ids old above);
      deeper = λ next p path now. sym (absent next nid (p ∷ path) now old_ids old above);
      ascend = refl;
    }

-- ---- new subnodes

-- the ids of subnodes ascend strictly, from a number on
abbrev pub RiseFrom : ℕ → List Sub → Type 0
RiseFrom low [] = Unit {0}
RiseFrom low (x ∷ xs) = (low ≤ (x.nid).bits) × RiseFrom ((x.nid).bits + 1) xs

rise-on : (low : ℕ) (xs : List Sub) → rise_from low (sub_nids xs) ≡ true → RiseFrom (low + 1) xs
rise-on low [] up = tt
rise-on low (x ∷ xs) up =
    let both = and_parts (ltb low (x.nid).bits) (rise_from (x.nid).bits (sub_nids xs)) up in
    let less = ltb-true low (x.nid).bits both.0 in
    (omega (arith, less), rise-on (x.nid).bits xs both.1)

rise-start : (xs : List Sub) → ascending (sub_nids xs) ≡ true → RiseFrom 0 xs
rise-start [] up = tt
rise-start (x ∷ xs) up = (omega arith, rise-on (x.nid).bits xs up)

-- what stays of the first subnodes
pub record Level (next : ℕ) (old : List Sub) (ids : Keep) (left : List Sub) (left_ids : Keep) (new : List Sub) (i : ℕ) (keep : Keep) : Type 0 where
  pub count : length keep ≡ length (flattened (take i new))
  pub keeps : Each (PairKeeps next) (paired keep (flattened (take i new)))
  pub low : ℕ
  pub rest : RiseFrom low (drop i new)
  pub passes : Passes low old ids left left_ids
  pub so_far : subs_ascend (flattened old) ≡ true → keep ++ kept_subs next ids (flattened old) (flattened (drop i new)) ≡ kept_subs next ids (flattened old) (flattened new)

pub level-start : (next : ℕ) (old : List Sub) (ids : Keep) (new : List Sub) (flats : List Flat) → flattened new ≡ flats → IsForm flats → Level next old ids old ids new 0 []
level-start next old ids new flats same form = record {
  count = refl;
  keeps = tt;
  low = 0;
  rest = rise-start new (form-top new (subst (λ (l : List Flat). IsForm l) (sym same) form)).0;
  passes = passes-start 0 old ids;
  so_far = λ up. refl;
}

paired-join : (xs ys : Keep) (fs gs : List Flat) → length xs ≡ length fs → paired (xs ++ ys) (fs ++ gs) ≡ paired xs fs ++ paired ys gs
paired-join [] ys [] gs same = refl
paired-join [] ys (f ∷ fs) gs same = absurd (omega (arith, same))
paired-join (x ∷ xs) ys [] gs same = absurd (omega (arith, same))
paired-join (x ∷ xs) ys (f ∷ fs) gs same = ap (λ (l : List Pair). (x, f.blocks) ∷ l) (paired-join xs ys fs gs (omega (arith, same)))

join-one : (k : Keep) (one : List (Option Bid)) (below : Keep) → (k ++ one ∷ []) ++ below ≡ k ++ (one ∷ below)
join-one k one below = append_assoc k (one ∷ []) below

-- what stays of one more, and of those below it
pub record One (next : ℕ) (y : Sub) (ids : List (Option Bid)) (blocks : List (List ℕ)) (below : List Sub) (below_ids : Keep) (own : List (Option Bid)) (deeper : Keep) : Type 0 where
  pub own_is : own ≡ kept_list next ids blocks y.blocks
  pub own_keeps : Keeps next own y.blocks
  pub count : length deeper ≡ length y.subs
  pub keeps : Each (PairKeeps next) (paired deeper y.subs)
  pub deeper_is : subs_ascend (flattened below) ≡ true → deeper ≡ kept_subs next below_ids (flattened below) y.subs

pub one-is : (next : ℕ) (y : Sub) (ids : List (Option Bid)) (blocks now : List (List ℕ)) (below : List Sub) (below_ids : Keep) (made own_keep : List (Option Bid)) (deeper : Keep) → made ≡ kept_list next ids blocks now → now ≡ y.blocks → own_keep ≡ made
    → length deeper ≡ length y.subs → Each (PairKeeps next) (paired deeper y.subs) → (subs_ascend (flattened below) ≡ true → deeper ≡ kept_subs next below_ids (flattened below) y.subs) → One next y ids blocks below below_ids own_keep deeper
one-is next y ids blocks now below below_ids made own_keep deeper is is_now same count keeps exact =
    let whole : own_keep ≡ kept_list next ids blocks y.blocks = same ∙ is ∙ ap (kept_list next ids blocks) is_now in
    record {
      own_is = whole;
      own_keeps = subst (λ (k : List (Option Bid)). Keeps next k y.blocks) (sym whole) (keeps-list next ids blocks y.blocks);
      count = count;
      keeps = keeps;
      deeper_is = exact;
    }

pub level-next : (next : ℕ) (old : List Sub) (old_ids : Keep) (left : List Sub) (left_ids : Keep) (mid : List Sub) (mid_ids : Keep) (new : List Sub) (i : ℕ) (y : Sub) (ids : List (Option Bid)) (blocks : List (List ℕ)) (below : List Sub) (below_ids : Keep)
    → (own_keep : List (Option Bid)) (deeper keep out : Keep) → i < length new → y ≡ get_or new i y → out ≡ (keep ++ own_keep ∷ []) ++ deeper
    → Passes (y.nid).bits left left_ids mid mid_ids → BeginsFrom (y.nid).bits mid → (subs_ascend (flattened mid) ≡ true → BeginsFrom (y.nid).bits mid → IsThere (y.nid).bits mid mid_ids ids blocks below below_ids)
    → One next y ids blocks below below_ids own_keep deeper → Level next old old_ids left left_ids new i keep → Level next old old_ids mid mid_ids new (i + 1) out
level-next next old old_ids left left_ids mid mid_ids new i y ids blocks below below_ids own_keep deeper keep out h is made passed begins there one level =
    let front = flattened (take i new) in
    let here : List Flat = own y ∷ map one_deeper y.subs in
    let flats = one-more new i y h is in
    let whole : out ≡ keep ++ (own_keep ∷ deeper) = made ∙ join-one keep own_keep deeper in
    let ahead : drop i new ≡ y ∷ drop (i + 1) new = drop-here new i y h ∙ ap (λ (s : Sub). s ∷ drop (i + 1) new) (sym is) in
    let risen = subst (λ (l : List Sub). RiseFrom level.low l) ahead level.rest in
    let passes = passes-join level.low (y.nid).bits old old_ids left left_ids mid mid_ids risen.0 level.passes passed in
    let a = level.count in
    let b = ap length whole ∙ length-append keep (own_keep ∷ deeper) in
    let c = ap length flats ∙ length-append front here in
    let d = length-map y.subs one_deeper in
    let e = one.count in
    let pairs : paired out (flattened (take (i + 1) new)) ≡ paired keep front ++ ((own_keep, y.blocks) ∷ paired deeper y.subs) =
    ap (λ (k : Keep). paired k (flattened (take (i + 1) new))) whole ∙ ap (paired (keep ++ (own_keep ∷ deeper))) flats ∙ paired-join keep (own_keep ∷ deeper) front here a
    ∙ ap (λ (l : List Pair). paired keep front ++ ((own_keep, y.blocks) ∷ l)) (paired-deeper deeper y.subs) in
    let kept = kept_at next old_ids (flattened old) in
    let rest = kept_subs next old_ids (flattened old) (flattened (drop (i + 1) new)) in
    record {
      count = omega (arith, a, b, c, d, e);
      keeps = subst (λ (l : List Pair). Each (PairKeeps next) l) (sym pairs) (each-append (PairKeeps next) (paired keep front) ((own_keep, y.blocks) ∷ paired deeper y.subs) level.keeps (one.own_keeps, one.keeps));
      low = (y.nid).bits + 1;
      rest = risen.1;
      passes = record { finds = λ next n path now k. passes.finds next n path now (omega (arith, k)); ascend = passes.ascend };
      so_far = λ up.
          let is_there = there (passes.ascend up) begins in
          let first : own_keep ≡ kept ((y.nid).bits ∷ []) y.blocks = one.own_is ∙ is_there.own next y.blocks ∙ passes.finds next (y.nid).bits [] y.blocks (omega arith) in
          let alike = kept-alike (kept_at next below_ids (flattened below)) (λ path. kept ((y.nid).bits ∷ path))
          (λ p path now. is_there.deeper next p path now ∙ passes.finds next (y.nid).bits (p ∷ path) now (omega arith)) y.subs [] in
          let below_is : deeper ≡ kept_each (λ path. kept ((y.nid).bits ∷ path)) (paths_of y.subs) y.subs = one.deeper_is is_there.ascend ∙ alike in
          let parts : kept_subs next old_ids (flattened old) (flattened (drop i new)) ≡ own_keep ∷ (deeper ++ rest) =
          ap (λ (l : List Sub). kept_subs next old_ids (flattened old) (flattened l)) ahead ∙ kept-first kept y (drop (i + 1) new)
          ∙ ap (λ (l : List (Option Bid)). l ∷ (kept_each (λ path. kept ((y.nid).bits ∷ path)) (paths_of y.subs) y.subs ++ rest)) (sym first)
          ∙ ap (λ (l : Keep). own_keep ∷ (l ++ rest)) (sym below_is) in
          ap (λ (l : Keep). l ++ rest) whole ∙ append_assoc keep (own_keep ∷ deeper) rest ∙ ap (λ (l : Keep). keep ++ l) (sym parts) ∙ level.so_far up;
    }

-- all
pub level-whole : (next : ℕ) (old : List Sub) (ids : Keep) (left : List Sub) (left_ids : Keep) (new : List Sub) (i : ℕ) (keep : Keep) (flats : List Flat) → flattened new ≡ flats → length new ≤ i → Level next old ids left left_ids new i keep
    → (length keep ≡ length flats) × Each (PairKeeps next) (paired keep flats) × (subs_ascend (flattened old) ≡ true → keep ≡ kept_subs next ids (flattened old) flats)
level-whole next old ids left left_ids new i keep flats same h level =
    let all : flattened (take i new) ≡ flats = ap flattened (take_all i new h) ∙ same in
    let none : drop i new ≡ [] = no-more new i h in (
      level.count ∙ ap length all,
      subst (λ (l : List Flat). Each (PairKeeps next) (paired keep l)) all level.keeps,
      (λ up. sym (append-nil keep) ∙ ap (λ (l : List Sub). keep ++ kept_subs next ids (flattened old) (flattened l)) (sym none) ∙ level.so_far up ∙ ap (kept_subs next ids (flattened old)) same),
    )
