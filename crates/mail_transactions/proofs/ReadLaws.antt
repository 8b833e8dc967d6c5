-- What a line of a session is read as.
use Rattle.std.proofs.Common.{◌≡◌, ℕ, Bool, true, false, List, Result, Ok, Err, if◌then◌else◌}
use Rattle.std.specs.Prelude.{bytes_eq, codes}
use Rattle.std.specs.Str.{is_utf8}
use Rattle.command_text.specs.Arguments.{◌>>=◌}
use Rattle.command_text.specs.declared.command.LineRefusal.{LineRefusal}
use Rattle.command_text.specs.declared.command.LineRefusal.TheVariants.{Line}
use Rattle.session_lines.specs.Lines.{other_line, session_line, transaction_line}
use Rattle.session_lines.specs.declared.line.SessionLine.{SessionLine}
use Rattle.session_lines.specs.declared.line.TransactionLine.TheVariants.{Begin, Commit, Rollback, Session}

-- what isn't on transactions is a line of the session
other_asks : (r : Result SessionLine LineRefusal) (asked : SessionLine) → (r >>= λ a. Ok (Session a)) ≡ Ok (Session asked) → r ≡ Ok asked
other_asks (Ok a) asked is = cc
other_asks (Err refusal) asked is = cc

pub session_read : (bytes : List ℕ) (asked : SessionLine) → transaction_line bytes ≡ Ok (Session asked) → session_line bytes ≡ Ok asked
unfolding transaction_line
session_read bytes asked = by (is_utf8 bytes) (bytes_eq bytes (codes "begin")) (bytes_eq bytes (codes "commit")) (bytes_eq bytes (codes "rollback"))
  where
    by : (t b c r : Bool) → (if t then (if b then Ok Begin else (if c then Ok Commit else (if r then Ok Rollback else other_line bytes))) else Err Line) ≡ Ok (Session asked) → session_line bytes ≡ Ok asked
    by true true c r is = cc
    by true false true r is = cc
    by true false false true is = cc
    by true false false false is = other_asks (session_line bytes) asked is
    by false b c r is = cc
