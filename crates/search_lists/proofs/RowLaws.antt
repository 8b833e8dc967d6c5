-- A search's rows, message after message.
use Rattle.std.proofs.Common.{◌≡◌, ◌∙◌, ℕ, ◌==◌, ◌&&◌, Bool, true, false, not, List, [], ◌∷◌, filter, Option, None, Some, ap, sym, refl, subst, ◌⊎◌, inl, inr, arith, if◌then◌else◌, ◌||◌}
use Rattle.std.specs.List.{list_any}
use Rattle.std.specs.Option.{is_some}
use Rattle.std.proofs.Math.Bool.{or-true}
use Rattle.std.proofs.lemmas.Bool.{eqb-true, eq-eqb, cases_Bool, false≢true, or_parts}
use Rattle.mapi_values.specs.Keyed.{keys_ascend}
use Rattle.mapi_values.specs.Messages.{Mes}
use Rattle.mapi_values.specs.Tables.{drop_row, find_row, mirror, put_row}
use Rattle.mapi_values.specs.Values.{Val}
use Rattle.mapi_values.specs.declared.column.Column.{Column}
use Rattle.mapi_values.proofs.KeyedLaws.{put-ascends, drop-ascends}
use Rattle.mail_tree.proofs.KeyedFinds.{find-put_same, find-put_other, find-drop_same, find-drop_other}
use Rattle.live_search.specs.Touching.{delta}
use Rattle.mail_searches.specs.Searches.{Search, is_listed, runs}
use Rattle.mail_searches.specs.Relisting.{Around, Touch, by_delta, changes_row, is, is_gone, props_of, relisted, relisted_row, takes_row, was}
use Rattle.mail_searches.specs.Searching.{Each}
use Rattle.search_lists.specs.Laws.{HaltedStays, MirrorsMessage, ShowsTouched, is_touched}

abbrev pub Rows : Type 0
Rows = List (ℕ × List Val)

abbrev pub ascend : Rows → Bool
ascend rows = keys_ascend (λ r. r.0) 0 rows

abbrev pub has : ℕ → Rows → Bool
has m rows = is_some (find_row m rows)

put-here : (m : ℕ) (cells : List Val) (rows : Rows) → find_row m (put_row m cells rows) ≡ Some (m, cells)
put-here m cells rows = find-put_same (λ r. r.0) (m, cells) rows

drop-here : (m : ℕ) (rows : Rows) → ascend rows ≡ true → find_row m (drop_row m rows) ≡ None
drop-here m rows a = find-drop_same (λ r. r.0) 0 m rows a

put-other : (k m : ℕ) (cells : List Val) (rows : Rows) → (k ≡ m → ⊥) → find_row k (put_row m cells rows) ≡ find_row k rows
put-other k m cells rows n = find-put_other (λ r. r.0) k (m, cells) rows n

drop-other : (k m : ℕ) (rows : Rows) → (k ≡ m → ⊥) → find_row k (drop_row m rows) ≡ find_row k rows
drop-other k m rows n = find-drop_other (λ r. r.0) k m rows n

either : (b c : Bool) → (b ≡ c) ⊎ (b ≡ c) → b ≡ c
either b c (inl e) = e
either b c (inr e) = e

pub none-is : {X : Type 0} (o : Option X) → is_some o ≡ false → o ≡ None
none-is None e = refl
none-is (Some x) e = cc

-- the row by what becomes of it
abbrev row-by : Bool → Bool → Bool → ℕ → List Val → Option (ℕ × List Val) → Option (ℕ × List Val)
row-by w i anew m cells old = if i then (if not w || anew then Some (m, cells) else old) else None

module _ (columns : List Column) (m : ℕ) (props : List Val) where
  one-row : (w i anew : Bool) (rows : Rows) → ascend rows ≡ true → has m rows ≡ w → find_row m (by_delta (delta w i) anew columns m props rows) ≡ row-by w i anew m (mirror columns props) (find_row m rows)
  one-row false false anew rows a e = none-is (find_row m rows) e
  one-row false true anew rows a e = put-here m (mirror columns props) rows
  one-row true false anew rows a e = drop-here m rows a
  one-row true true true rows a e = put-here m (mirror columns props) rows
  one-row true true false rows a e = refl

  one-here : (w i anew : Bool) (rows : Rows) → ascend rows ≡ true → (has m rows ≡ w) ⊎ (has m rows ≡ i) → has m (by_delta (delta w i) anew columns m props rows) ≡ i
  one-here false false anew rows a e = either (has m rows) false e
  one-here false true anew rows a e = ap is_some (put-here m (mirror columns props) rows)
  one-here true false anew rows a e = ap is_some (drop-here m rows a)
  one-here true true true rows a e = ap is_some (put-here m (mirror columns props) rows)
  one-here true true false rows a e = either (has m rows) true e

  one-other : (w i anew : Bool) (rows : Rows) (k : ℕ) → (k ≡ m → ⊥) → find_row k (by_delta (delta w i) anew columns m props rows) ≡ find_row k rows
  one-other false false anew rows k n = refl
  one-other false true anew rows k n = put-other k m (mirror columns props) rows n
  one-other true false anew rows k n = drop-other k m rows n
  one-other true true true rows k n = put-other k m (mirror columns props) rows n
  one-other true true false rows k n = refl

  one-ascends : (w i anew : Bool) (rows : Rows) → ascend rows ≡ true → ascend (by_delta (delta w i) anew columns m props rows) ≡ true
  one-ascends false false anew rows a = a
  one-ascends false true anew rows a = put-ascends (λ r. r.0) 0 (m, mirror columns props) rows (omega arith) a
  one-ascends true false anew rows a = drop-ascends (λ r. r.0) 0 m rows a
  one-ascends true true true rows a = put-ascends (λ r. r.0) 0 (m, mirror columns props) rows (omega arith) a
  one-ascends true true false rows a = a

  one-still : (w i anew : Bool) (rows : Rows) → changes_row (delta w i) anew ≡ false → by_delta (delta w i) anew columns m props rows ≡ rows
  one-still false false anew rows e = refl
  one-still false true anew rows e = cc
  one-still true false anew rows e = cc
  one-still true true true rows e = cc
  one-still true true false rows e = refl

  -- a row that showed its message shows it as it is now
  one-shows : (w i anew : Bool) (old new : Option Mes) (rows : Rows) → props ≡ props_of new → ascend rows ≡ true → (anew ≡ false → new ≡ old) → ((has m rows ≡ w) × MirrorsMessage columns rows m old) ⊎ MirrorsMessage columns rows m new
      → MirrorsMessage columns (by_delta (delta w i) anew columns m props rows) m new
  one-shows false false anew old new rows are a same (inl stood) M e there = absurd (false≢true (sym stood.0 ∙ there))
  one-shows false false anew old new rows are a same (inr shows) M e there = shows M e there
  one-shows false true anew old new rows are a same stood M e there = put-here m (mirror columns props) rows ∙ ap (λ ps. Some (m, mirror columns ps)) (are ∙ ap props_of e)
  one-shows true false anew old new rows are a same stood M e there = absurd (false≢true (sym (ap is_some (drop-here m rows a)) ∙ there))
  one-shows true true true old new rows are a same stood M e there = put-here m (mirror columns props) rows ∙ ap (λ ps. Some (m, mirror columns ps)) (are ∙ ap props_of e)
  one-shows true true false old new rows are a same (inl stood) M e there = stood.1 M (sym (same refl) ∙ e) there
  one-shows true true false old new rows are a same (inr shows) M e there = shows M e there

-- a message that was listed and of which no row changes wasn't put anew
one-kept : (w i anew : Bool) → w ≡ true → changes_row (delta w i) anew ≡ false → anew ≡ false
one-kept true true anew there e = e
one-kept true false anew there e = cc
one-kept false i anew there e = cc

-- a row that isn't there is dropped for nothing
pub dropped-none : (m : ℕ) (rows : Rows) → has m rows ≡ false → drop_row m rows ≡ rows
dropped-none m [] e = refl
dropped-none m (r ∷ rs) e = elim (cases_Bool (r.0 == m)) [
  | inl t ↦ absurd (false≢true (sym e ∙ rw t refl))
  | inr f ↦ rw f (ap (λ xs. r ∷ xs) (dropped-none m rs (sym (rw f refl) ∙ e)))
]

module _ (d : Around) (s : Search) (columns : List Column) where
  -- a running search
  module _ (run : runs s ≡ true) where
    running-row : (t : Touch) (rows : Rows) → relisted_row d s columns t rows ≡ by_delta (delta (was d s t) (is d s t)) t.anew columns t.nid (props_of t.new) rows
    running-row t rows = rw run refl

    row-ascends : (t : Touch) (rows : Rows) → ascend rows ≡ true → ascend (relisted_row d s columns t rows) ≡ true
    row-ascends t rows a = ap ascend (running-row t rows) ∙ one-ascends columns t.nid (props_of t.new) (was d s t) (is d s t) t.anew rows a

    row-here : (t : Touch) (rows : Rows) → ascend rows ≡ true → (has t.nid rows ≡ was d s t) ⊎ (has t.nid rows ≡ is d s t) → has t.nid (relisted_row d s columns t rows) ≡ is d s t
    row-here t rows a e = ap (has t.nid) (running-row t rows) ∙ one-here columns t.nid (props_of t.new) (was d s t) (is d s t) t.anew rows a e

    row-other : (t : Touch) (rows : Rows) (k : ℕ) → (k ≡ t.nid → ⊥) → find_row k (relisted_row d s columns t rows) ≡ find_row k rows
    row-other t rows k n = ap (find_row k) (running-row t rows) ∙ one-other columns t.nid (props_of t.new) (was d s t) (is d s t) t.anew rows k n

    pub relisted-ascends : (ts : List Touch) (rows : Rows) → ascend rows ≡ true → ascend (relisted d s columns ts rows) ≡ true
    relisted-ascends [] rows a = a
    relisted-ascends (t ∷ ts) rows a = relisted-ascends ts (relisted_row d s columns t rows) (row-ascends t rows a)

    module _ (before after : ℕ → Option Mes) where
      abbrev W : ℕ → Bool
      W k = is_listed d.before s (before k)

      abbrev I : ℕ → Bool
      I k = is_listed d.after s (after k)

      -- what was listed, and is listed as it is to be where that was looked at, is listed as it is to be
      pub relisted-at : (ts : List Touch) (rows : Rows) (k : ℕ) → Each (λ t. t.old ≡ before t.nid) ts → Each (λ t. t.new ≡ after t.nid) ts → ascend rows ≡ true
          → (is_touched ts k ≡ false → has k rows ≡ I k) → (is_touched ts k ≡ true → (has k rows ≡ W k) ⊎ (has k rows ≡ I k)) → has k (relisted d s columns ts rows) ≡ I k
      relisted-at [] rows k olds news a rest todo = rest refl
      relisted-at (t ∷ ts) rows k olds news a rest todo =
          let rows' = relisted_row d s columns t rows in
          let a' = row-ascends t rows a in
          elim (cases_Bool (t.nid == k)) [
            | inl y ↦
                let e : t.nid ≡ k = eqb-true t.nid k y in
                let stood : (has t.nid rows ≡ W t.nid) ⊎ (has t.nid rows ≡ I t.nid) = subst (λ x. (has x rows ≡ W x) ⊎ (has x rows ≡ I x)) (sym e) (todo (rw y refl)) in
                let here : has t.nid rows' ≡ is d s t = row-here t rows a (elim stood [
                  | inl w ↦ inl (w ∙ ap (is_listed d.before s) (sym olds.0))
                  | inr i ↦ inr (i ∙ ap (is_listed d.after s) (sym news.0))
                ]) in
                let now : has k rows' ≡ I k = subst (λ x. has x rows' ≡ I x) e (here ∙ ap (is_listed d.after s) news.0) in
                relisted-at ts rows' k olds.1 news.1 a' (λ none. now) (λ some. inr now)
            | inr f ↦
                let n : k ≡ t.nid → ⊥ = λ e. false≢true (sym f ∙ eq-eqb t.nid k (sym e)) in
                let other : has k rows' ≡ has k rows = ap is_some (row-other t rows k n) in
                relisted-at ts rows' k olds.1 news.1 a' (λ none. other ∙ rest (rw (f, none) refl))
                (λ some. elim (todo (rw some (or-true (t.nid == k)))) [ inl e ↦ inl (other ∙ e) | inr e ↦ inr (other ∙ e) ])
          ]

      -- a row that shows its message still, or shows it as it is now where that was looked at
      pub relisted-shows : (ts : List Touch) (rows : Rows) (k : ℕ) → Each (λ t. t.old ≡ before t.nid) ts → Each (λ t. t.new ≡ after t.nid) ts → Each (λ t. t.anew ≡ false → t.new ≡ t.old) ts → ascend rows ≡ true
          → (is_touched ts k ≡ false → MirrorsMessage columns rows k (after k)) → (is_touched ts k ≡ true → ((has k rows ≡ W k) × MirrorsMessage columns rows k (before k)) ⊎ MirrorsMessage columns rows k (after k))
          → MirrorsMessage columns (relisted d s columns ts rows) k (after k)
      relisted-shows [] rows k olds news sames a rest todo = rest refl
      relisted-shows (t ∷ ts) rows k olds news sames a rest todo =
          let rows' = relisted_row d s columns t rows in
          let a' = row-ascends t rows a in
          elim (cases_Bool (t.nid == k)) [
            | inl y ↦
                let e : t.nid ≡ k = eqb-true t.nid k y in
                let stood : ((has t.nid rows ≡ was d s t) × MirrorsMessage columns rows t.nid t.old) ⊎ MirrorsMessage columns rows t.nid t.new = elim (todo (rw y refl)) [
                  | inl is ↦
                      let there : (has t.nid rows ≡ W t.nid) × MirrorsMessage columns rows t.nid (before t.nid) = subst (λ x. (has x rows ≡ W x) × MirrorsMessage columns rows x (before x)) (sym e) is in
                      inl (there.0 ∙ ap (is_listed d.before s) (sym olds.0), subst (MirrorsMessage columns rows t.nid) (sym olds.0) there.1)
                  | inr shows ↦ inr (subst (MirrorsMessage columns rows t.nid) (sym news.0) (subst (λ x. MirrorsMessage columns rows x (after x)) (sym e) shows))
                ] in
                let here : MirrorsMessage columns rows' t.nid t.new = subst (λ r. MirrorsMessage columns r t.nid t.new) (sym (running-row t rows))
                (one-shows columns t.nid (props_of t.new) (was d s t) (is d s t) t.anew t.old t.new rows refl a sames.0 stood) in
                let now : MirrorsMessage columns rows' k (after k) = subst (λ x. MirrorsMessage columns rows' x (after x)) e (subst (MirrorsMessage columns rows' t.nid) news.0 here) in
                relisted-shows ts rows' k olds.1 news.1 sames.1 a' (λ none. now) (λ some. inr now)
            | inr f ↦
                let n : k ≡ t.nid → ⊥ = λ e. false≢true (sym f ∙ eq-eqb t.nid k (sym e)) in
                let other : find_row k rows' ≡ find_row k rows = row-other t rows k n in
                let still : (o : Option Mes) → MirrorsMessage columns rows k o → MirrorsMessage columns rows' k o = λ o shows M e there. other ∙ shows M e (ap is_some (sym other) ∙ there) in
                relisted-shows ts rows' k olds.1 news.1 sames.1 a' (λ none. still (after k) (rest (rw (f, none) refl)))
                (λ some. elim (todo (rw some (or-true (t.nid == k)))) [ inl is ↦ inl (ap is_some other ∙ is.0, still (before k) is.1) | inr shows ↦ inr (still (after k) shows) ])
          ]

      -- a message that was listed is as it was where no row changes
      pub unchanged-same : (ts : List Touch) (k : ℕ) → Each (λ t. t.old ≡ before t.nid) ts → Each (λ t. t.new ≡ after t.nid) ts → Each (λ t. t.anew ≡ false → t.new ≡ t.old) ts
          → list_any (λ t. changes_row (delta (was d s t) (is d s t)) t.anew) ts ≡ false → is_touched ts k ≡ true → W k ≡ true → after k ≡ before k
      unchanged-same [] k olds news sames none some listed = cc
      unchanged-same (t ∷ ts) k olds news sames none some listed =
          let p = or_parts (changes_row (delta (was d s t) (is d s t)) t.anew) _ none in
          elim (cases_Bool (t.nid == k)) [
            | inl y ↦
                let e : t.nid ≡ k = eqb-true t.nid k y in
                let there : was d s t ≡ true = ap (is_listed d.before s) (olds.0 ∙ ap before e) ∙ listed in
                sym (news.0 ∙ ap after e) ∙ sames.0 (one-kept (was d s t) (is d s t) t.anew there p.0) ∙ olds.0 ∙ ap before e
            | inr f ↦ unchanged-same ts k olds.1 news.1 sames.1 p.1 (sym (rw f refl) ∙ some) listed
          ]

    -- a search in which none of these messages comes, goes or was put anew
    pub still-running : (ts : List Touch) (rows : Rows) → list_any (λ t. changes_row (delta (was d s t) (is d s t)) t.anew) ts ≡ false → relisted d s columns ts rows ≡ rows
    still-running [] rows e = refl
    still-running (t ∷ ts) rows e =
        let p = or_parts (changes_row (delta (was d s t) (is d s t)) t.anew) _ e in
        ap (relisted d s columns ts) (running-row t rows ∙ one-still columns t.nid (props_of t.new) (was d s t) (is d s t) t.anew rows p.0) ∙ still-running ts rows p.1

  -- a search that isn't running
  module _ (halted : runs s ≡ false) where
    halted-row : (t : Touch) (rows : Rows) → relisted_row d s columns t rows ≡ (if is_gone t then drop_row t.nid rows else rows)
    halted-row t rows = rw halted refl

    gone-ascends : (b : Bool) (m : ℕ) (rows : Rows) → ascend rows ≡ true → ascend (if b then drop_row m rows else rows) ≡ true
    gone-ascends true m rows a = drop-ascends (λ r. r.0) 0 m rows a
    gone-ascends false m rows a = a

    gone-still : (b : Bool) (m : ℕ) (rows : Rows) → (b && has m rows) ≡ false → (if b then drop_row m rows else rows) ≡ rows
    gone-still true m rows e = dropped-none m rows e
    gone-still false m rows e = refl

    pub still-halted : (ts : List Touch) (rows : Rows) → takes_row rows ts ≡ false → relisted d s columns ts rows ≡ rows
    still-halted [] rows e = refl
    still-halted (t ∷ ts) rows e =
        let p = or_parts (is_gone t && has t.nid rows) _ e in
        ap (relisted d s columns ts) (halted-row t rows ∙ gone-still (is_gone t) t.nid rows p.0) ∙ still-halted ts rows p.1

    pub none-gone : (ts : List Touch) (rows : Rows) → list_any is_gone ts ≡ false → takes_row rows ts ≡ false
    none-gone [] rows e = refl
    none-gone (t ∷ ts) rows e = let p = or_parts (is_gone t) (list_any is_gone ts) e in rw p.0 (none-gone ts rows p.1)

    -- of each message that is gone the row is gone
    gone-rows : (ts : List Touch) (rows : Rows) (m : ℕ) → ascend rows ≡ true → find_row m (relisted d s columns ts rows) ≡ (if is_touched (filter is_gone ts) m then None else find_row m rows)
    gone-rows [] rows m a = refl
    gone-rows (t ∷ ts) rows m a =
        let rows' = relisted_row d s columns t rows in
        let a' : ascend rows' ≡ true = ap ascend (halted-row t rows) ∙ gone-ascends (is_gone t) t.nid rows a in
        gone-rows ts rows' m a' ∙ ap (λ o. if is_touched (filter is_gone ts) m then None else o) (ap (find_row m) (halted-row t rows)) ∙ one-gone (is_gone t) (t.nid == m) refl
      where
        both-none : (b : Bool) → ◌≡◌ {A = Option (ℕ × List Val)} (if b then None else None) None
        both-none true = refl
        both-none false = refl

        one-gone : (b c : Bool) → (t.nid == m) ≡ c → (if is_touched (filter is_gone ts) m then None else find_row m (if b then drop_row t.nid rows else rows))
            ≡ (if is_touched (if b then t ∷ filter is_gone ts else filter is_gone ts) m then None else find_row m rows)
        one-gone false c e = refl
        one-gone true true e =
            let same : t.nid ≡ m = eqb-true t.nid m e in
            let none : find_row m (drop_row t.nid rows) ≡ None = ap (λ x. find_row m (drop_row x rows)) same ∙ drop-here m rows a in
            rw (e, none) (both-none (is_touched (filter is_gone ts) m))
        one-gone true false e = rw (e, drop-other m t.nid rows (λ x. false≢true (sym e ∙ eq-eqb t.nid m (sym x)))) refl

pub halted_stays : HaltedStays
halted_stays d s columns ts rows m halted a = gone-rows d s columns halted ts rows m a

pub shows_touched : ShowsTouched
shows_touched = record {
  here = λ d s columns t rows run a e. ap (find_row t.nid) (running-row d s columns run t rows) ∙ one-row columns t.nid (props_of t.new) (was d s t) (is d s t) t.anew rows a e;
  others = λ d s columns t rows m n. elim (cases_Bool (runs s)) [
    | inl run ↦ row-other d s columns run t rows m n
    | inr halted ↦ ap (find_row m) (halted-row d s columns halted t rows) ∙ gone-other (is_gone t) t.nid rows m n
  ];
}
  where
    gone-other : (b : Bool) (k : ℕ) (rows : Rows) (m : ℕ) → (m ≡ k → ⊥) → find_row m (if b then drop_row k rows else rows) ≡ find_row m rows
    gone-other true k rows m n = drop-other m k rows n
    gone-other false k rows m n = refl
