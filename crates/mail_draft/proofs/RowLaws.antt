-- A table whose rows are changed.
use Rattle.std.proofs.Common.{◌≡◌, ℕ, Bool, true, false, List, length, Some, Ok, Err, ap, sym, ◌∙◌}
use Rattle.mapi_values.specs.Tables.{Tab}
use Rattle.mapi_values.specs.Values.{Val}
use Rattle.command_text.specs.declared.reply.CommandRefusal.TheVariants.{Limit}
use Rattle.command_text.specs.declared.reply.Limit.TheVariants.{Rows}
use Rattle.mail_objects.specs.Forms.{Tbl}
use Rattle.mail_objects.specs.declared.object.Object.TheVariants.{Table}
use Rattle.mail_tree.specs.Changing.{Answer, Changed, ◌>>=◌, overfills, refused_if, shown_row, with_object, with_rows}
use Rattle.mail_draft.specs.declared.draft.Draft.{Draft}
use Rattle.mail_draft.specs.declared.stop.Stop.TheVariants.{Refused}
use Rattle.mail_draft.specs.Answers.{Says}
use Rattle.mail_draft.specs.Drafts.{changed_of}
use Rattle.mail_draft.proofs.Passes.{passes, refuses}

-- the draft in which a table was put that has these rows
pub rows_put : (q : ℕ) (rows : List (ℕ × List Val)) (t u : Tbl) (D D' : Changed) → u ≡ record t { table = record t.table { rows = rows } }
    → D' ≡ with_object q (Some (Table u)) D → D' ≡ with_object q (Some (with_rows rows t)) D
rows_put q rows t u D D' e put = put ∙ ap (λ v. with_object q (Some (Table v)) D) e

-- a row that may be added
abbrev pub added : ℕ → ℕ → List Val → Tbl → Changed → Answer Changed
added q id props t D = refused_if (overfills t.table.rows (shown_row id props t.table)) (Limit Rows) >>= λ u.
    Ok (with_object q (Some (with_rows (shown_row id props t.table) t)) D)

pub adds : (q id : ℕ) (props : List Val) (t u : Tbl) (D : Changed) (d : Draft) → u ≡ record t { table = record t.table { rows = shown_row id props t.table } }
    → overfills t.table.rows u.table.rows ≡ false → changed_of d ≡ with_object q (Some (Table u)) D → Says changed_of (added q id props t D) (Ok d)
adds q id props t u D d e test put =
    passes changed_of (overfills t.table.rows (shown_row id props t.table)) (Limit Rows) (λ u. Ok (with_object q (Some (with_rows (shown_row id props t.table) t)) D)) (Ok d)
    (sym (ap (λ (v : Tbl). overfills t.table.rows v.table.rows) e) ∙ test) (rows_put q (shown_row id props t.table) t u D (changed_of d) e put)

pub overfilled : (q id : ℕ) (props : List Val) (t u : Tbl) (D : Changed) → u ≡ record t { table = record t.table { rows = shown_row id props t.table } }
    → overfills t.table.rows u.table.rows ≡ true → Says changed_of (added q id props t D) (Err (Refused (Limit Rows)))
overfilled q id props t u D e test =
    refuses changed_of (overfills t.table.rows (shown_row id props t.table)) (Limit Rows) (λ u. Ok (with_object q (Some (with_rows (shown_row id props t.table) t)) D))
    (sym (ap (λ (v : Tbl). overfills t.table.rows v.table.rows) e) ∙ test)

-- what a test of the lengths says of the rows
pub test_of : (old : List (ℕ × List Val)) (before after t : Tab) (n : ℕ) (is was : Bool) → before.rows ≡ old → n ≡ length before.rows → after ≡ t
    → ((rows : List (ℕ × List Val)) → length rows ≡ n → is ≡ overfills rows after.rows) → is ≡ was → overfills old t.rows ≡ was
test_of old before after t n is was same len shown test so =
    ap (λ (u : Tab). overfills old u.rows) (sym shown) ∙ sym (test old (sym (len ∙ ap length same))) ∙ so
