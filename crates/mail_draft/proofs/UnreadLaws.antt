-- Unread messages are counted one by one.
use Rattle.std.proofs.Common.{◌≡◌, ℕ, ◌≤◌, ◌<◌, ◌+◌, Bool, true, false, not, if◌then◌else◌, refl, List, ◌∷◌, None, Some, Result, Ok, Err, drop, get_or, length, sym, ◌∙◌, ap, subst, zero-add, add-zero, add_assoc, add-one, drop-cons}
use Rattle.std.proofs.lemmas.List.{drop_all}
use Rattle.mapi_values.specs.Messages.{Mes}
use Rattle.mail_tree.specs.Flags.{AreFlags, FlagList, known_flag}
use Rattle.mail_tree.specs.Tree.{Tree, object_at}
use Rattle.mail_tree.specs.declared.note.Note.TheVariants.{Unread}
use Rattle.mail_tree.proofs.NoteLaws.{note_of_flag}
use Rattle.mail_tree.specs.Changing.{Answer, Changed, ◌>>=◌, message_at, now_at}
use Rattle.mail_tree.specs.Values.{is_read}
use Rattle.mail_tree.specs.Settling.{one_if_unread, unread_among}
use Rattle.mail_draft.specs.declared.stop.Stop.{Stop}
use Rattle.mail_draft.specs.Answers.{Says}
use Rattle.mail_draft.specs.Unread.{unread_of}
use Rattle.mail_draft.proofs.Passes.{no_matter, stop_says}

-- so many are unread before the message at i: what is said of them and of the rest is said of all
pub record Counts (T : Tree) (D : Changed) (ids : List ℕ) (i n : ℕ) : Type 0 where
  pub goes_on : (r : Result ℕ Stop) → Says (λ m. m) (unread_among T D (drop i ids) >>= λ m. Ok (n + m)) r → Says (λ m. m) (unread_among T D ids) r

from_zero : (x : Answer ℕ) (r : Result ℕ Stop) → Says (λ m. m) (x >>= λ m. Ok (0 + m)) r → Says (λ m. m) x r
from_zero (Ok x) r h = subst (λ (y : ℕ). Says (λ m. m) (Ok y) r) (zero-add x) h
from_zero (Err None) r h = h
from_zero (Err (Some refusal)) r h = h

pub counts_none : (T : Tree) (D : Changed) (ids : List ℕ) → Counts T D ids 0 0
counts_none T D ids = record { goes_on = λ r h. from_zero (unread_among T D ids) r h }

-- how many come with a message
abbrev pub one_if : Bool → ℕ
one_if unread = if unread then 1 else 0

one_same : (read : Bool) → one_if (not read) ≡ (if read then 0 else 1)
one_same true = refl
one_same false = refl

one_more : (a : Answer Mes) (x : Answer ℕ) (unread : Bool) (n : ℕ) (r : Result ℕ Stop) → Says (λ m. m) (a >>= λ M. Ok (not (is_read M.props))) (Ok unread)
    → Says (λ m. m) (x >>= λ k. Ok (n + one_if unread + k)) r → Says (λ m. m) ((a >>= λ N. x >>= λ k. Ok (one_if_unread N.props + k)) >>= λ k. Ok (n + k)) r
one_more (Ok N) (Ok k) unread n r first h =
    subst (λ (y : ℕ). Says (λ m. m) (Ok y) r) (add_assoc n (one_if unread) k ∙ ap (λ j. n + (j + k)) (ap one_if first ∙ one_same (is_read N.props))) h
one_more (Ok N) (Err None) unread n r first h = h
one_more (Ok N) (Err (Some refusal)) unread n r first h = h
one_more (Err None) x unread n r first h = tt
one_more (Err (Some refusal)) x unread n r first h = absurd first

first_stops : (a : Answer Mes) (f : Mes → Answer ℕ) (stop : Stop) → Says {B = Bool} (λ m. m) (a >>= λ M. Ok (not (is_read M.props))) (Err stop)
    → Says {B = ℕ} (λ m. m) (a >>= f) (Err stop)
first_stops (Ok N) f stop first = no_matter (λ m. m) (f N) stop first
first_stops (Err None) f stop first = tt
first_stops (Err (Some refusal)) f stop first = first

here : (ids : List ℕ) (i : ℕ) → i < length ids → drop i ids ≡ get_or ids i 0 ∷ drop (i + 1) ids
here ids i within = drop-cons ids i 0 within ∙ ap (λ k. get_or ids i 0 ∷ drop k ids) (sym (add-one i))

pub counts_one : (T : Tree) (D : Changed) (ids : List ℕ) (i n k : ℕ) (unread : Bool) → i < length ids → k ≡ one_if unread → Says (λ m. m) (unread_of (now_at T D (get_or ids i 0))) (Ok unread)
    → Counts T D ids i n → Counts T D ids (i + 1) (n + k)
counts_one T D ids i n k unread within same first before = record {
  goes_on = λ r h. before.goes_on r (subst (λ xs. Says (λ m. m) (unread_among T D xs >>= λ m. Ok (n + m)) r) (sym (here ids i within))
      (one_more (message_at T D (get_or ids i 0)) (unread_among T D (drop (i + 1) ids)) unread n r first (subst (λ j. Says (λ m. m) (unread_among T D (drop (i + 1) ids) >>= λ m. Ok (n + j + m)) r) same h)));
}

pub counts_stop : (T : Tree) (D : Changed) (ids : List ℕ) (i n : ℕ) (stop : Stop) → i < length ids → Says {B = Bool} (λ m. m) (unread_of (now_at T D (get_or ids i 0))) (Err stop)
    → Counts T D ids i n → Says {B = ℕ} (λ m. m) (unread_among T D ids) (Err stop)
counts_stop T D ids i n stop within first before =
    before.goes_on (Err stop) (subst (λ xs. Says {B = ℕ} (λ m. m) (unread_among T D xs >>= λ m. Ok (n + m)) (Err stop)) (sym (here ids i within))
    (stop_says {B = ℕ} {D = ℕ} (λ m. m) (λ m. m) (unread_among T D (get_or ids i 0 ∷ drop (i + 1) ids)) (λ m. Ok (n + m)) stop
    (first_stops (message_at T D (get_or ids i 0)) (λ M. unread_among T D (drop (i + 1) ids) >>= λ k. Ok (one_if_unread M.props + k)) stop first)))

pub counts_all : (T : Tree) (D : Changed) (ids : List ℕ) (i n : ℕ) → length ids ≤ i → Counts T D ids i n → Says (λ m. m) (unread_among T D ids) (Ok n)
counts_all T D ids i n past before =
    before.goes_on (Ok n) (subst (λ xs. Says (λ m. m) (unread_among T D xs >>= λ m. Ok (n + m)) (Ok n)) (sym (drop_all i ids past)) (sym (add-zero n)))

-- what is known of a message is so
pub unread_known : (T : Tree) (m : ℕ) (unread : Bool) (flags : FlagList) → AreFlags (object_at T) flags → known_flag m flags ≡ Some unread → Says (λ b. b) (unread_of (object_at T m)) (Ok unread)
unread_known T m unread flags are is = let k = are m (Unread unread) (note_of_flag m flags unread is) in rw k.1 (sym k.2)
