-- Messages are counted one by one.
use Rattle.std.proofs.Common.{◌≡◌, ◌∙◌, ℕ, ◌<◌, ◌≤◌, ◌+◌, not, Bool, true, false, List, [], ◌∷◌, length, drop, get_or, drop-cons, Option, None, Some, Result, Ok, Err, option_map, refl, sym, ap, subst, arith, add-one, inl, inr, if◌then◌else◌}
use Rattle.std.proofs.lemmas.Bool.{cases_Bool}
use Rattle.std.proofs.lemmas.List.{drop_all}
use Rattle.std.specs.List.{list_any}
use Rattle.mapi_values.specs.Messages.{Mes}
use Rattle.mapi_values.specs.Values.{Val}
use Rattle.mail_objects.specs.Forms.{Ctx, Tbl}
use Rattle.mail_objects.specs.declared.object.Object.TheVariants.{Table}
use Rattle.mail_tree.specs.Changing.{Answer, Changed, ◌>>=◌, as_message, known, now_at, with_object, with_rows}
use Rattle.mail_tree.specs.Settling.{with_context}
use Rattle.mail_tree.specs.Tree.{Tree}
use Rattle.mail_tree.specs.Values.{is_read, with_counts}
use Rattle.mail_draft.specs.declared.stop.Stop.{Stop}
use Rattle.mail_draft.specs.Answers.{Says}
use Rattle.mail_draft.specs.Sight.{Changes, Sight}
use Rattle.mail_draft.proofs.DeskCalls.{changes_at}
use Rattle.mail_draft.proofs.Passes.{stop_says}
use Rattle.mail_searches.specs.Relisting.{before_those, is_unclear, named, unless_unclear, unread}
use Rattle.mail_searches.specs.Searches.{results, row_ids}
use Rattle.search_results.specs.Counting.{flag_at, pair_of, tally, with_flag}
use Rattle.search_results.specs.declared.counting.Tally.{Tally}

-- two counts together
abbrev pub plus : ℕ × ℕ → ℕ × ℕ → ℕ × ℕ
plus n m = (n.0 + m.0, n.1 + m.1)

pair_is : {a b c d : ℕ} → a ≡ c → b ≡ d → ◌≡◌ {A = ℕ × ℕ} (a, b) (c, d)
pair_is {a} {b} {c} {d} e f = ap (λ (x : ℕ). (x, b)) e ∙ ap (λ (y : ℕ). (c, y)) f

-- a message is counted before the others or with them
moves : (flag : Option Bool) (n m : ℕ × ℕ) → plus (with_flag flag n) m ≡ plus n (with_flag flag m)
moves None n m = refl
moves (Some true) n m = pair_is (omega arith) (omega arith)
moves (Some false) n m = pair_is (omega arith) refl

-- so many were counted before the message at i: what is said of them and of the rest is said of all
pub record Counts (T : Tree) (D : Changed) (ids : List ℕ) (i : ℕ) (n : ℕ × ℕ) : Type 0 where
  pub goes_on : (r : Result Tally Stop) → Says pair_of (tally T D (drop i ids) >>= λ m. Ok (plus n m)) r → Says pair_of (tally T D ids) r

from_zero : (x : Answer (ℕ × ℕ)) (r : Result Tally Stop) → Says pair_of (x >>= λ m. Ok (plus (0, 0) m)) r → Says pair_of x r
from_zero (Ok x) r h = subst (λ (y : ℕ × ℕ). Says pair_of (Ok y) r) (pair_is (omega arith) (omega arith)) h
from_zero (Err None) r h = h
from_zero (Err (Some refusal)) r h = h

pub counts_none : (T : Tree) (D : Changed) (ids : List ℕ) → Counts T D ids 0 (0, 0)
counts_none T D ids = record { goes_on = λ r h. from_zero (tally T D ids) r h }

one_more : (a : Answer (Option Bool)) (x : Answer (ℕ × ℕ)) (flag : Option Bool) (n : ℕ × ℕ) (r : Result Tally Stop) → Says (λ f. f) a (Ok flag)
    → Says pair_of (x >>= λ m. Ok (plus (with_flag flag n) m)) r → Says pair_of ((a >>= λ f. x >>= λ m. Ok (with_flag f m)) >>= λ m. Ok (plus n m)) r
one_more (Ok f) (Ok m) flag n r first h =
    subst (λ (y : ℕ × ℕ). Says pair_of (Ok y) r) (ap (λ g. plus (with_flag g n) m) first ∙ moves f n m) h
one_more (Ok f) (Err None) flag n r first h = h
one_more (Ok f) (Err (Some refusal)) flag n r first h = h
one_more (Err None) x flag n r first h = tt
one_more (Err (Some refusal)) x flag n r first h = absurd first

here : (ids : List ℕ) (i : ℕ) → i < length ids → drop i ids ≡ get_or ids i 0 ∷ drop (i + 1) ids
here ids i within = drop-cons ids i 0 within ∙ ap (λ k. get_or ids i 0 ∷ drop k ids) (sym (add-one i))

pub counts_one : (T : Tree) (D : Changed) (ids : List ℕ) (i : ℕ) (n m : ℕ × ℕ) (flag : Option Bool) → i < length ids → m ≡ with_flag flag n → Says (λ f. f) (flag_at T D (get_or ids i 0)) (Ok flag)
    → Counts T D ids i n → Counts T D ids (i + 1) m
counts_one T D ids i n m flag within same first before = record {
  goes_on = λ r h. before.goes_on r (subst (λ xs. Says pair_of (tally T D xs >>= λ k. Ok (plus n k)) r) (sym (here ids i within))
      (one_more (flag_at T D (get_or ids i 0)) (tally T D (drop (i + 1) ids)) flag n r first (subst (λ j. Says pair_of (tally T D (drop (i + 1) ids) >>= λ k. Ok (plus j k)) r) same h)));
}

pub counts_stop : (T : Tree) (D : Changed) (ids : List ℕ) (i : ℕ) (n : ℕ × ℕ) (stop : Stop) → i < length ids → Says {B = Option Bool} (λ f. f) (flag_at T D (get_or ids i 0)) (Err stop)
    → Counts T D ids i n → Says {B = Tally} pair_of (tally T D ids) (Err stop)
counts_stop T D ids i n stop within first before =
    before.goes_on (Err stop) (subst (λ xs. Says {B = Tally} pair_of (tally T D xs >>= λ k. Ok (plus n k)) (Err stop)) (sym (here ids i within))
    (stop_says {B = Tally} {D = Tally} pair_of pair_of (tally T D (get_or ids i 0 ∷ drop (i + 1) ids)) (λ k. Ok (plus n k)) stop
    (stop_says {B = Option Bool} {D = Tally} (λ f. f) pair_of (flag_at T D (get_or ids i 0)) (λ f. tally T D (drop (i + 1) ids) >>= λ k. Ok (with_flag f k)) stop first)))

pub counts_all : (T : Tree) (D : Changed) (ids : List ℕ) (i : ℕ) (count : Tally) → length ids ≤ i → Counts T D ids i (pair_of count) → Says pair_of (tally T D ids) (Ok count)
counts_all T D ids i count past before =
    before.goes_on (Ok count) (subst (λ xs. Says pair_of (tally T D xs >>= λ m. Ok (plus (pair_of count) m)) (Ok count)) (sym (drop_all i ids past)) (pair_is (omega arith) (omega arith)))

-- the messages that rows name, one by one
module _ (T : Tree) (D : Changed) where
  flag_told : Option Mes → Option Bool
  flag_told o = option_map (λ (M : Mes). not (is_read M.props)) o

  counted_all : Bool → List Mes → Answer (ℕ × ℕ)
  counted_all stray ms = known {A = Unit {0}} (if stray then None else Some (tt {0})) >>= λ u. Ok (length ms, length (unread ms))

  one_named : (stray : Bool) (o : Option Mes) (ms : List Mes) → (counted_all stray ms >>= λ n. Ok (with_flag (flag_told o) n)) ≡ counted_all stray (before_those o ms)
  unfolding counted_all flag_told
  one_named true o ms = refl
  one_named false None ms = refl
  one_named false (Some M) ms = elim (cases_Bool (is_read M.props)) [
    | inl b ↦ rw b (ap Ok (pair_is (add-one (length ms)) refl))
    | inr b ↦ rw b (ap Ok (pair_is (add-one (length ms)) (add-one (length (unread ms)))))
  ]

  pub tally_is : (rows : List (ℕ × List Val)) → tally T D (row_ids rows) ≡ (unless_unclear T D rows >>= λ u. Ok (length (named T D rows), length (unread (named T D rows))))
  unfolding counted_all flag_told
  tally_is [] = refl
  tally_is (r ∷ rs) = elim (cases_Bool (is_unclear T D r.0)) [
    | inl b ↦ rw b refl
    | inr b ↦ rw b (ap (λ (a : Answer (ℕ × ℕ)). a >>= λ n. Ok (with_flag (flag_told (as_message (now_at T D r.0))) n)) (tally_is rs)
        ∙ one_named (list_any (λ (x : ℕ × List Val). is_unclear T D x.0) rs) (as_message (now_at T D r.0)) (named T D rs))
  ]

-- a search that is counted, once its messages are
abbrev pub counted_of : ℕ → Changed → Ctx → ℕ × ℕ → Answer Changed
counted_of s D c n = Ok (with_context s c (with_counts n.0 n.1 false c.props) D)

-- what comes of the count comes of the rows
from_tally : {E : Type 0} (view : E → Changed) (T : Tree) (D : Changed) (s : ℕ) (c : Ctx) (ids : List ℕ) (rows : List (ℕ × List Val)) (r : Result E Stop) → ids ≡ row_ids rows
    → Says view (tally T D ids >>= counted_of s D c) r
    → Says view (unless_unclear T D rows >>= λ u. Ok (with_context s c (with_counts (length (named T D rows)) (length (unread (named T D rows))) false c.props) D)) r
from_tally view T D s c ids rows r same h = pick (unless_unclear T D rows) (subst (λ a. Says view (a >>= counted_of s D c) r) (ap (tally T D) same ∙ tally_is T D rows) h)
  where
    pick : (a : Answer (Unit {0})) → Says view ((a >>= λ u. Ok (length (named T D rows), length (unread (named T D rows)))) >>= counted_of s D c) r
        → Says view (a >>= λ u. Ok (with_context s c (with_counts (length (named T D rows)) (length (unread (named T D rows))) false c.props) D)) r
    pick (Ok u) h = h
    pick (Err e) h = h

pub counts_rows : {A R : Type 0} {old new : Sight A} {r : Result R Stop} (s : ℕ) (c : Ctx) (ids : List ℕ) (rows : List (ℕ × List Val)) → ids ≡ row_ids rows
    → Changes old new (λ T D. tally T D ids >>= counted_of s D c) r
    → Changes old new (λ T D. unless_unclear T D rows >>= λ u. Ok (with_context s c (with_counts (length (named T D rows)) (length (unread (named T D rows))) false c.props) D)) r
counts_rows {old = old} {new = new} {r = r} s c ids rows same h = record { says = λ T shown. from_tally (λ w. new.changed) T old.changed s c ids rows r same (h.says T shown) }

-- a search that was counted
pub counted_put : {A R : Type 0} {old new : Sight A} {r : Result R Stop} (s : ℕ) (c : Ctx) (messages unread : ℕ) {first props : List Val} → first ≡ c.props → props ≡ with_counts messages unread false first
    → Changes old new (λ T D. Ok (with_context s c props D)) r → Changes old new (λ T D. counted_of s D c (messages, unread)) r
counted_put s c messages unread same counts h = changes_at (λ p T D. Ok (with_context s c p D)) (counts ∙ ap (with_counts messages unread false) same) h

-- a search's table is put
pub put_list : {A R : Type 0} {old new : Sight A} {r : Result R Stop} {q : ℕ} (s : ℕ) (t : Tbl) → q ≡ results s
    → Changes old new (λ T D. Ok (with_object q (Some (Table t)) D)) r → Changes old new (λ T D. Ok (with_object (results s) (Some (with_rows t.table.rows t)) D)) r
put_list s t e h = changes_at (λ q T D. Ok (with_object q (Some (Table t)) D)) e h
