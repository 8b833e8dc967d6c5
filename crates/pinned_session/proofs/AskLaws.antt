-- What a line asks a pin for.
use Rattle.std.proofs.Common.{◌≡◌, ◌∙◌, ℕ, Bool, true, false, List, if◌then◌else◌, Option, None, Some, Result, Ok, Err, inl, inr, refl, sym, subst}
use Rattle.std.specs.Prelude.{ok_or, bytes_eq, codes}
use Rattle.std.specs.Str.{is_utf8}
use Rattle.std.proofs.lemmas.Bool.{cases_Bool, true≢false}
use Rattle.command_text.specs.declared.reply.CommandRefusal.{CommandRefusal}
use Rattle.command_text.specs.declared.reply.LastLine.TheVariants as last
use Rattle.store_session.specs.mail_draft.declared.stop.Stop.TheVariants.{Refused}
use Rattle.mail_reading.proofs.Answered.{StopAnswers}
use Rattle.mail_searches.specs.Searching.{Searching}
use Rattle.mail_searches.specs.Step.{step}
use Rattle.mail_tree.specs.Folders.{replied}
use Rattle.pst_base.specs.declared.ids.Nid.{Nid}
use Rattle.mapi_values.specs.declared.value.Tag.{Tag}
use Rattle.sorted_views.specs.declared.rows.Direction.{Direction}
use Rattle.command_text.specs.Arguments.{◌>>=◌, id_and_name, id_and_tag, id_and_value, one_id, two_ids}
use Rattle.command_text.specs.declared.embedded.EmbeddedCommand.{EmbeddedCommand}
use Rattle.command_text.specs.declared.embedded.EmbeddedCommand.TheVariants.{Embed, List as ListsInside, Get, Set, Unset}
use Rattle.command_text.specs.Lines.{text_command}
use Rattle.command_text.specs.Words.{cut}
use Rattle.command_text.specs.declared.command.Command.{Command}
use Rattle.command_text.specs.declared.command.Command.TheVariants.{MakeFolder, RenameFolder, MoveFolder, RemoveFolder, ListFolder, NewMessage, SetProperty, UnsetProperty, GetProperty, ListProperties, MoveMessage, CopyMessage, RemoveMessage, AddRecipient, RemoveRecipient, AddAttachment, AppendData, RemoveAttachment, FetchData, NameProperty, Save, Quit, MakeSearch, SetCriteria, GetCriteria, SetEmbedded}
use Rattle.command_text.specs.declared.command.LineRefusal.{LineRefusal}
use Rattle.command_text.specs.declared.command.LineRefusal.TheVariants.{Line}
use Rattle.mail_reading.specs.Asked.{reads}
use Rattle.command_text.specs.Asking.{asks}
use Rattle.session_lines.specs.Lines.{asked, at_pin, close_view, cut_line, direction_of, embed, get_embedded, list_embedded, number_of, on_embedded, on_views, only_asked, open_view, session_line, set_embedded, show_view, store_line, text_in, unpin, unset_embedded, with_word}
use Rattle.session_lines.specs.declared.line.SessionLine.{SessionLine}
use Rattle.session_lines.specs.declared.line.SessionLine.TheVariants.{Pin, At, Unpin, OpenView, ShowView, CloseView, Embedded, Command as StoreCommand}

-- a command that only asks only reads
pub asks_reads : (c : Command) → asks c ≡ true → reads c ≡ true
unfolding asks
asks_reads (MakeFolder parent name) is = cc
asks_reads (RenameFolder folder name) is = cc
asks_reads (MoveFolder folder parent) is = cc
asks_reads (RemoveFolder folder) is = cc
asks_reads (ListFolder folder) is = refl
asks_reads (NewMessage folder class time values) is = cc
asks_reads (SetProperty message value) is = cc
asks_reads (UnsetProperty message tag) is = cc
asks_reads (GetProperty message tag) is = refl
asks_reads (ListProperties message) is = refl
asks_reads (MoveMessage message folder) is = cc
asks_reads (CopyMessage message folder) is = cc
asks_reads (RemoveMessage message) is = cc
asks_reads (AddRecipient message kind address name) is = cc
asks_reads (RemoveRecipient message row) is = cc
asks_reads (AddAttachment message name held) is = cc
asks_reads (AppendData message attachment bytes) is = cc
asks_reads (SetEmbedded message attachment node) is = cc
asks_reads (RemoveAttachment message attachment) is = cc
asks_reads (FetchData message attachment) is = refl
asks_reads (NameProperty guid number) is = cc
asks_reads (MakeSearch parent name) is = cc
asks_reads (SetCriteria search flags scope restriction) is = cc
asks_reads (GetCriteria search) is = refl
asks_reads Save is = cc
asks_reads Quit is = cc

-- what a line behind `at` asks for only asks
abbrev OnlyAsks : Result SessionLine LineRefusal → Type 0
OnlyAsks (Ok Pin) = Unit {0}
OnlyAsks (Ok (At pin c)) = asks c ≡ true
OnlyAsks (Ok (Unpin pin)) = Unit {0}
OnlyAsks (Ok (OpenView folder tag direction)) = Unit {0}
OnlyAsks (Ok (ShowView view grouped)) = Unit {0}
OnlyAsks (Ok (CloseView view)) = Unit {0}
OnlyAsks (Ok (Embedded line)) = Unit {0}
OnlyAsks (Ok (StoreCommand c)) = Unit {0}
OnlyAsks (Err refusal) = Unit {0}

asked_asks : (pin : Option ℕ) (r : Result Command LineRefusal) → OnlyAsks (only_asked r >>= λ c. Ok (At pin c))
asked_asks pin (Ok c) = elim (cases_Bool (asks c)) [
  | inl is ↦ rw is is
  | inr is ↦ rw is tt
]
asked_asks pin (Err refusal) = tt

at_asks : (rest : List ℕ) → OnlyAsks (at_pin rest)
unfolding at_pin asked
at_asks rest = by (cut rest)
  where
    pinned : (words : List ℕ) (p : Option (Option ℕ)) → OnlyAsks (ok_or p Line >>= λ pin. asked words >>= λ c. Ok (At pin c))
    pinned words (Some pin) = asked_asks pin (text_command words)
    pinned words None = tt

    by : (words : Option (List ℕ × List ℕ)) → OnlyAsks (ok_or words Line >>= λ w. ok_or (number_of w.0) Line >>= λ pin. asked w.1 >>= λ c. Ok (At pin c))
    by (Some w) = pinned w.1 (number_of w.0)
    by None = tt

unpin_asks : (rest : List ℕ) → OnlyAsks (unpin rest)
unfolding unpin
unpin_asks rest = by (number_of rest)
  where
    by : (pin : Option (Option ℕ)) → OnlyAsks (ok_or pin Line >>= λ p. Ok (Unpin p))
    by (Some pin) = tt
    by None = tt

store_asks : (bytes : List ℕ) → OnlyAsks (store_line bytes)
unfolding store_line
store_asks bytes = by (text_command bytes)
  where
    by : (r : Result Command LineRefusal) → OnlyAsks (r >>= λ c. Ok (StoreCommand c))
    by (Ok c) = tt
    by (Err refusal) = tt

open_asks : (rest : List ℕ) → OnlyAsks (open_view rest)
unfolding open_view
open_asks rest = by (direction_of rest)
  where
    given : (direction : Direction) (r : Result (Nid × Tag) LineRefusal) → OnlyAsks (r >>= λ g. Ok (OpenView g.0 g.1 direction))
    given direction (Ok g) = tt
    given direction (Err refusal) = tt

    front : (direction : Direction) (r : Result (List ℕ) LineRefusal) → OnlyAsks (r >>= λ f. id_and_tag f >>= λ g. Ok (OpenView g.0 g.1 direction))
    front direction (Ok f) = given direction (id_and_tag f)
    front direction (Err refusal) = tt

    by : (said : Option (List ℕ × Direction)) → OnlyAsks (ok_or said Line >>= λ s. text_in s.0 >>= λ f. id_and_tag f >>= λ g. Ok (OpenView g.0 g.1 s.1))
    by (Some s) = front s.1 (text_in s.0)
    by None = tt

show_asks : (grouped : Bool) (rest : List ℕ) → OnlyAsks (show_view grouped rest)
unfolding show_view
show_asks grouped rest = by (number_of rest)
  where
    by : (view : Option (Option ℕ)) → OnlyAsks (ok_or view Line >>= λ v. Ok (ShowView v grouped))
    by (Some view) = tt
    by None = tt

close_asks : (rest : List ℕ) → OnlyAsks (close_view rest)
unfolding close_view
close_asks rest = by (number_of rest)
  where
    by : (view : Option (Option ℕ)) → OnlyAsks (ok_or view Line >>= λ v. Ok (CloseView v))
    by (Some view) = tt
    by None = tt

-- either of two lines only asks
either_asks : (b : Bool) (x y : Result SessionLine LineRefusal) → OnlyAsks x → OnlyAsks y → OnlyAsks (if b then x else y)
either_asks true x y first second = first
either_asks false x y first second = second

-- what is asked of the message in an attachment isn't asked a pin
list_asks : (rest : List ℕ) → OnlyAsks (list_embedded rest)
unfolding list_embedded
list_asks rest = by (two_ids rest)
  where
    by : (r : Result (Nid × Nid) LineRefusal) → OnlyAsks (r >>= λ ids. Ok (Embedded (ListsInside ids.0 ids.1)))
    by (Ok ids) = tt
    by (Err refusal) = tt

-- a line of a message, an attachment and what is asked of the message in it
inside_asks : {A : Type 0} (rest : List ℕ) (read : List ℕ → Result (Nid × A) LineRefusal) (line : Nid → Nid → A → EmbeddedCommand) → OnlyAsks (ok_or (cut rest) Line >>= λ w. one_id w.0 >>= λ message. read w.1 >>= λ g. Ok (Embedded (line message g.0 g.1)))
inside_asks {A} rest read line = by (cut rest)
  where
    given : (message : Nid) (r : Result (Nid × A) LineRefusal) → OnlyAsks (r >>= λ g. Ok (Embedded (line message g.0 g.1)))
    given message (Ok g) = tt
    given message (Err refusal) = tt

    named : (words : List ℕ) (r : Result Nid LineRefusal) → OnlyAsks (r >>= λ message. read words >>= λ g. Ok (Embedded (line message g.0 g.1)))
    named words (Ok message) = given message (read words)
    named words (Err refusal) = tt

    by : (words : Option (List ℕ × List ℕ)) → OnlyAsks (ok_or words Line >>= λ w. one_id w.0 >>= λ message. read w.1 >>= λ g. Ok (Embedded (line message g.0 g.1)))
    by (Some w) = named w.1 (one_id w.0)
    by None = tt

embedded_asks : (bytes word rest : List ℕ) → OnlyAsks (on_embedded bytes word rest)
unfolding on_embedded embed get_embedded set_embedded unset_embedded
embedded_asks bytes word rest =
    either_asks (bytes_eq word (codes "embed")) _ _ (inside_asks rest id_and_name Embed) (either_asks (bytes_eq word (codes "eprops")) _ _ (list_asks rest)
    (either_asks (bytes_eq word (codes "eget")) _ _ (inside_asks rest id_and_tag Get) (either_asks (bytes_eq word (codes "eset")) _ _ (inside_asks rest id_and_value Set)
    (either_asks (bytes_eq word (codes "eunset")) _ _ (inside_asks rest id_and_tag Unset) (store_asks bytes)))))

views_ask : (bytes word rest : List ℕ) → OnlyAsks (on_views bytes word rest)
unfolding on_views
views_ask bytes word rest =
    either_asks (bytes_eq word (codes "view")) _ _ (open_asks rest) (either_asks (bytes_eq word (codes "rows")) _ _ (show_asks false rest) (either_asks (bytes_eq word (codes "groups")) _ _ (show_asks true rest)
    (either_asks (bytes_eq word (codes "unview")) _ _ (close_asks rest) (embedded_asks bytes word rest))))

word_asks : (bytes word rest : List ℕ) → OnlyAsks (with_word bytes word rest)
unfolding with_word
word_asks bytes word rest = elim (cases_Bool (bytes_eq word (codes "at"))) [
  | inl at ↦ rw at (at_asks rest)
  | inr other ↦
      rw other (elim (cases_Bool (bytes_eq word (codes "unpin"))) [
        | inl gives ↦ rw gives (unpin_asks rest)
        | inr plain ↦ rw plain (views_ask bytes word rest)
      ])
]

session_asks : (bytes : List ℕ) → OnlyAsks (session_line bytes)
unfolding session_line
session_asks bytes = elim (cases_Bool (is_utf8 bytes)) [
  | inl text ↦ rw text (by (cut bytes))
  | inr other ↦ rw other tt
]
  where
    by : (words : Option (List ℕ × List ℕ)) → OnlyAsks (cut_line bytes words)
    by (Some words) = word_asks bytes words.0 words.1
    by None = elim (cases_Bool (bytes_eq bytes (codes "pin"))) [
      | inl pin ↦ rw pin tt
      | inr plain ↦ rw plain (store_asks bytes)
    ]

pub at_only : (bytes : List ℕ) (pin : Option ℕ) (c : Command) → session_line bytes ≡ Ok (At pin c) → asks c ≡ true
at_only bytes pin c is = subst OnlyAsks is (session_asks bytes)

-- the refusal of a command that only asks is that of its step
pub refused_step : (X : Searching) (c : Command) → asks c ≡ true → (refusal : CommandRefusal) → StopAnswers X c (Refused refusal) → step X c ≡ Some (X, replied (last.Refused refusal))
refused_step X c only refusal (inl is) = is.1
refused_step X c only refusal (inr is) = absurd (true≢false (sym (asks_reads c only) ∙ is.0))
