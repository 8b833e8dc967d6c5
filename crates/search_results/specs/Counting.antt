-- How the messages are counted that rows name.
use Rattle.std.specs.Prelude.{ℕ, ◌+◌, Bool, List, [], ◌∷◌, Option, None, Some, Result, Ok, Err, if◌then◌else◌}
use Rattle.std.specs.Option.{is_some}
use Rattle.mail_tree.specs.Changing.{Answer, Changed as Changes, ◌>>=◌, as_message, now_at}
use Rattle.mail_tree.specs.Tree.{Tree, object_at}
use Rattle.mapi_values.specs.Messages.{Mes}
use Rattle.mail_draft.specs.Unread.{flag_of}
use Rattle.mail_draft.specs.declared.stop.Stop.{Stop}
use Rattle.mail_draft.specs.declared.stop.Stop.TheVariants.{Refused, Fault, Changed, Memory}
use Rattle.mail_searches.specs.Relisting.{is_unclear, is_untold}
use Rattle.search_results.specs.declared.counting.Tally.{Tally}

-- the message at an id, or nothing where the tree has none there; where that can't be told something isn't of its form
abbrev pub found_at : Tree → ℕ → Answer (Option Mes)
found_at T q = if is_untold T q then Err None else Ok (as_message (object_at T q))

-- whether the tree has a message at an id
abbrev pub message_told : Tree → ℕ → Answer Bool
message_told T q = found_at T q >>= λ M. Ok (is_some M)

-- whether it is unread, or nothing where there is none
abbrev pub kept_flag : Tree → ℕ → Answer (Option Bool)
kept_flag T q = if is_untold T q then Err None else Ok (flag_of (object_at T q))

-- none where it was refused to find a message, and else the stop
abbrev pub none_if_refused : Stop → Result (Option Mes) Stop
none_if_refused (Refused refusal) = Ok None
none_if_refused Fault = Err Fault
none_if_refused (Changed ib stored computed) = Err (Changed ib stored computed)
none_if_refused Memory = Err Memory

-- the same after the changes so far
abbrev pub flag_at : Tree → Changes → ℕ → Answer (Option Bool)
flag_at T D q = if is_unclear T D q then Err None else Ok (flag_of (now_at T D q))

-- a number of messages, and how many of them are unread, with one message more, if there is one
abbrev pub with_flag : Option Bool → ℕ × ℕ → ℕ × ℕ
with_flag None n = n
with_flag (Some unread) n = (n.0 + 1, if unread then n.1 + 1 else n.1)

-- how many messages stand at these ids, and how many of them are unread
abbrev pub tally : Tree → Changes → List ℕ → Answer (ℕ × ℕ)
tally T D [] = Ok (0, 0)
tally T D (q ∷ qs) = flag_at T D q >>= λ flag. tally T D qs >>= λ n. Ok (with_flag flag n)

-- the numbers of a tally
abbrev pub pair_of : Tally → ℕ × ℕ
pair_of t = (t.messages, t.unread)
