-- What a call that asked answers.
use Rattle.std.proofs.Common.{◌≡◌, ◌⊎◌, ◌∙◌, true, false, None, Some, Ok, Err, ap, inl, inr, refl, subst, sym}
use Rattle.std.proofs.lemmas.Bool.{cases_Bool}
use Rattle.pst_base.specs.declared.ids.Nid.{Nid}
use Rattle.command_text.specs.Asking.{asks}
use Rattle.command_text.specs.declared.command.Command.{Command}
use Rattle.command_text.specs.declared.command.Command.TheVariants.{MakeFolder, RenameFolder, MoveFolder, RemoveFolder, ListFolder, NewMessage, SetProperty, UnsetProperty, GetProperty, ListProperties, MoveMessage, CopyMessage, RemoveMessage, AddRecipient, RemoveRecipient, AddAttachment, AppendData, RemoveAttachment, FetchData, NameProperty, Save, Quit, MakeSearch, SetCriteria, GetCriteria, SetEmbedded}
use Rattle.command_text.specs.declared.reply.CommandRefusal.TheVariants.{Line}
use Rattle.command_text.specs.declared.reply.LastLine.TheVariants as last
use Rattle.mail_tree.specs.Changing.{Answer, Changed, ◌>>=◌}
use Rattle.mail_tree.specs.Folders.{replied}
use Rattle.mail_tree.specs.Whole.{Fine, IsWhole}
use Rattle.search_folders.proofs.mail_draft_laws.Passes.{stop_says, then_says}
use Rattle.search_folders.specs.mail_draft.Answers.{Says}
use Rattle.search_folders.specs.mail_draft.Desks.{Comes, coming_of as coming_in_tree}
use Rattle.search_folders.specs.mail_draft.Sight.{Sight}
use Rattle.search_folders.specs.mail_draft.declared.coming.Coming.{Coming as ComingInTree}
use Rattle.search_folders.specs.mail_draft.declared.stop.Stop.{Stop}
use Rattle.search_folders.specs.mail_draft.declared.stop.Stop.TheVariants.{Refused, Fault, Changed as ChangedThere, Memory}
use Rattle.mail_searches.specs.Criteria.{Coming, staying}
use Rattle.mail_searches.specs.Searching.{AreSearches, Searching}
use Rattle.mail_searches.specs.declared.known.KnownSearches.{KnownSearches}
use Rattle.mail_searches.specs.Step.{after, outcome, step, stepped}
use Rattle.mail_tree.specs.Step.{outcome as tree_outcome}
use Rattle.search_folders.specs.Comings.{ComesAmong, coming_of}
use Rattle.search_folders.specs.declared.coming.Coming.{Coming as Made}
use Rattle.mail_reading.specs.Asked.{asked, read, reads}
use Rattle.mail_reading.proofs.ReadLaws.{plain_reads, reads_leave}

-- ---- what reads messages, or nothing, comes to what it comes to in the tree

-- the command is on no folder and no search
abbrev pub IsOther : Command → Type 0
IsOther c = ((folder : Nid) → c ≡ ListFolder folder → ⊥) × ((search : Nid) → c ≡ GetCriteria search → ⊥)

module _ (X : Searching) where
  asked_read : (c : Command) → IsOther c → asked X c ≡ (read X.tree c >>= staying X)
  unfolding outcome tree_outcome read asks
  asked_read (ListFolder folder) other = absurd (other.0 folder refl)
  asked_read (GetCriteria search) other = absurd (other.1 search refl)
  asked_read (GetProperty message tag) other = plain_reads X (GetProperty message tag) refl (λ o. refl)
  asked_read (ListProperties message) other = plain_reads X (ListProperties message) refl (λ o. refl)
  asked_read (FetchData message attachment) other = plain_reads X (FetchData message attachment) refl (λ o. refl)
  asked_read Quit other = plain_reads X Quit refl (λ o. refl)
  asked_read (MakeFolder parent name) other = refl
  asked_read (RenameFolder folder name) other = refl
  asked_read (MoveFolder folder parent) other = refl
  asked_read (RemoveFolder folder) other = refl
  asked_read (NewMessage folder class time values) other = refl
  asked_read (SetProperty message value) other = refl
  asked_read (UnsetProperty message tag) other = refl
  asked_read (MoveMessage message folder) other = refl
  asked_read (CopyMessage message folder) other = refl
  asked_read (RemoveMessage message) other = refl
  asked_read (AddRecipient message kind address name) other = refl
  asked_read (RemoveRecipient message row) other = refl
  asked_read (AddAttachment message name held) other = refl
  asked_read (AppendData message attachment bytes) other = refl
  asked_read (SetEmbedded message attachment node) other = refl
  asked_read (RemoveAttachment message attachment) other = refl
  asked_read (NameProperty guid number) other = refl
  asked_read (MakeSearch parent name) other = refl
  asked_read (SetCriteria search flags scope restriction) other = refl
  asked_read Save other = refl

-- what it gives is what is asked
pub asked_well : {A : Type 0} {old new : Sight A} (known : KnownSearches) (c : Command) → IsOther c → (tree : ComingInTree) (made : Made) → ((X : Searching) (D : Changed) → staying X (coming_in_tree X.tree D tree) ≡ Ok (coming_of X D made))
    → Comes old new (λ T D. read T c) (Ok tree) → ComesAmong old new known (λ X. asked X c) (Ok made)
asked_well {new = new} known c other tree made stays comes = record {
  says = λ X s knows. subst (λ (a : Answer Coming). Says (coming_of X new.changed) a (Ok made)) (sym (asked_read X c other))
      (then_says (coming_in_tree X.tree new.changed) (coming_of X new.changed) (read X.tree c) (staying X) tree (Ok made) (comes.says X.tree s)
      (subst (λ (a : Answer Coming). Says (coming_of X new.changed) a (Ok made)) (sym (stays X new.changed)) refl));
  fits = comes.fits;
}

-- and its stop is that of what is asked
pub asked_stops : {A : Type 0} {old new : Sight A} (known : KnownSearches) (c : Command) → IsOther c → (stop : Stop) → Comes old new (λ T D. read T c) (Err stop) → ComesAmong old new known (λ X. asked X c) (Err stop)
asked_stops {new = new} known c other stop comes = record {
  says = λ X s knows. subst (λ (a : Answer Coming). Says {B = Made} (coming_of X new.changed) a (Err stop)) (sym (asked_read X c other))
      (stop_says (coming_in_tree X.tree new.changed) (coming_of X new.changed) (read X.tree c) (staying X) stop (comes.says X.tree s));
  fits = tt;
}

-- ---- and it is the reply of the step

-- what a stop says of a command: its refusal is that of the step, or that it is no line; nothing is found changed
abbrev pub StopAnswers : Searching → Command → Stop → Type 0
StopAnswers X c (Refused refusal) = ((reads c ≡ true) × (step X c ≡ Some (X, replied (last.Refused refusal)))) ⊎ ((reads c ≡ false) × (refusal ≡ Line))
StopAnswers X c Fault = Unit {0}
StopAnswers X c (ChangedThere ib stored computed) = ⊥
StopAnswers X c Memory = Unit {0}

module _ {B : Type 0} (view : B → Coming) (X : Searching) (c : Command) where
  given : (a : Answer Coming) → outcome X c ≡ a → Fine a (λ o. after X o ≡ X) → (y : B) → Says view a (Ok y) → step X c ≡ Some (X, (view y).outcome.reply)
  given (Ok x) e fine y is = ap (stepped X) e ∙ ap (λ Z. Some (Z, x.outcome.reply)) fine ∙ ap (λ (z : Coming). Some (X, z.outcome.reply)) (sym is)
  given (Err (Some refusal)) e fine y is = absurd is
  given (Err None) e fine y is = absurd fine

  kept : (a : Answer Coming) → outcome X c ≡ a → reads c ≡ true → Fine a (λ o. after X o ≡ X) → (stop : Stop) → Says view a (Err stop) → StopAnswers X c stop
  kept (Ok x) e read fine (Refused refusal) is = absurd is
  kept (Ok x) e read fine Fault is = tt
  kept (Ok x) e read fine (ChangedThere ib stored computed) is = is
  kept (Ok x) e read fine Memory is = tt
  kept (Err (Some r)) e read fine (Refused refusal) is = inl (read, ap (stepped X) e ∙ ap (λ g. Some (X, replied (last.Refused g))) (sym is))
  kept (Err (Some r)) e read fine Fault is = tt
  kept (Err (Some r)) e read fine (ChangedThere ib stored computed) is = is
  kept (Err (Some r)) e read fine Memory is = tt
  kept (Err None) e read fine stop is = absurd fine

  -- it is no line
  no_line : (stop : Stop) → reads c ≡ false → Says view (Err (Some Line)) (Err stop) → StopAnswers X c stop
  no_line (Refused refusal) other is = inr (other, is)
  no_line Fault other is = tt
  no_line (ChangedThere ib stored computed) other is = is
  no_line Memory other is = tt

  module _ (whole : IsWhole X.tree) (are : AreSearches X) where
    -- what was given to a command that reads is the reply of its step
    pub asked_given : (y : B) → Says view (asked X c) (Ok y) → (reads c ≡ true) × (step X c ≡ Some (X, (view y).outcome.reply))
    asked_given y is = elim (cases_Bool (reads c)) [
      | inl read ↦ (read, given (outcome X c) refl (reads_leave X c whole are read) y (rw read at is))
      | inr other ↦ absurd (rw other at is)
    ]

    pub asked_stop : (stop : Stop) → Says view (asked X c) (Err stop) → StopAnswers X c stop
    asked_stop stop is = elim (cases_Bool (reads c)) [
      | inl read ↦ kept (outcome X c) refl read (reads_leave X c whole are read) stop (rw read at is)
      | inr other ↦ no_line stop other (rw other at is)
    ]
