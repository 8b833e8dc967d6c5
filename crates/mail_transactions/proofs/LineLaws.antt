-- What a line that was answered is to a session.
use Rattle.std.proofs.Common.{◌≡◌, ◌∙◌, inl, inr, ℕ, Bool, true, false, List, Option, None, Some, Result, Ok, Err, IfErr, IfOk, refl, sym, subst, arith}
use Rattle.pst_outside.specs.World.{Image, World}
use Rattle.pst_outside.proofs.Moments.{same_disk}
use Rattle.command_text.specs.Refused.{refusal_of}
use Rattle.command_text.specs.declared.command.LineRefusal.{LineRefusal}
use Rattle.line_server.specs.Lines.{Piece, further, line, too_long}
use Rattle.line_server.specs.Spoken.{spoken_text}
use Rattle.line_server.specs.declared.spoken.Spoken.{Spoken}
use Rattle.line_server.specs.declared.spoken.Spoken.TheVariants as spoken_as
use Rattle.node_port.specs.Pins.{Pins}
use Rattle.node_port.specs.Stops.{Room}
use Rattle.session_lines.specs.Lines.{transaction_line}
use Rattle.session_lines.specs.declared.line.SessionLine.{SessionLine}
use Rattle.session_lines.specs.declared.line.TransactionLine.{TransactionLine}
use Rattle.session_lines.specs.declared.line.TransactionLine.TheVariants.{Begin, Commit, Rollback, Session}
use Rattle.staged_store.specs.pinned_session.store_session.Carrying.{CarriesOut, IsCaused, Leaves, SaysRefusal}
use Rattle.staged_store.specs.pinned_session.store_session.Disks.{Becomes, Effects, Medium, SameMedium, medium}
use Rattle.staged_store.specs.pinned_session.store_session.declared.carrying.StoreStop.{StoreStop}
use Rattle.staged_store.specs.pinned_session.store_session.declared.carrying.StoreStop.TheVariants.{Disk, Changed}
use Rattle.staged_store.proofs.pinned_session_laws.LineLaws.{carries_map, carries_on}
use Rattle.staged_store.proofs.store_session_laws.Between.{same_between}
use Rattle.staged_store.proofs.store_session_laws.Carry.{its_medium, memory_text}
use Rattle.mail_transactions.specs.Lines.{AnswersLine, StopsLine}
use Rattle.mail_transactions.specs.Run.{Answers, Carries, CarriesBegin, CarriesCommit, CarriesIn, CarriesRollback, CommitsStaged, SaysTo, Stays}
use Rattle.mail_transactions.specs.State.{State, Within, pins_in}

-- what is said to what a line asks for is said to the line
line_asks : (effects : Pins → Effects) (room : Room) (S : State) (old : Medium) (asked : TransactionLine) (bytes : List ℕ) → transaction_line bytes ≡ Ok asked
    → (told : Type 0) (said : List ℕ) (Z : State) (m : Medium) → SaysTo effects room S old asked told said Z m → Answers effects room S old told (line bytes) said Z m
line_asks effects room S old asked bytes e told said Z m (inl is) = inl (subst (λ a. Carries effects room S old told a said Z m) (sym e) is)
line_asks effects room S old asked bytes e told said Z m (inr is) = inr is

-- so what was carried out for it is its line's
pub line_carries : (has : State → Type 0) (stands : Image → State → Type 0) (effects : Pins → Effects) (room : Room) (old new : World) (S : State) (asked : TransactionLine) (bytes : List ℕ) (r : Result Spoken StoreStop) → transaction_line bytes ≡ Ok asked
    → CarriesOut has stands (SaysTo effects room S (medium old) asked) old new S r → CarriesOut has stands (λ told. Answers effects room S (medium old) told (line bytes)) old new S r
line_carries has stands effects room old new S asked bytes r e is =
    carries_map has has stands (SaysTo effects room S (medium old) asked) (λ told. Answers effects room S (medium old) told (line bytes)) (line_asks effects room S (medium old) asked bytes e) (λ Z h. h) old new S r is

-- ---- the answer to a line, and the stop at one

module _ (has has' : List ℕ → Bool → State → Type 0) (stands : List ℕ → Bool → Image → State → Type 0) (effects : Pins → Effects) (room : Room) (disk : Bool) (old new : World) (bytes : List ℕ) where
  pub line_answered : (r : Result Spoken StoreStop) → ((found : List ℕ) (tidy : Bool) (S : State) → has found tidy S → (disk ≡ true → new.tells) → CarriesOut (has' found tidy) (stands found tidy) (λ told. Answers effects room S (medium old) told (line bytes)) old new S r)
      → IfOk r (λ spoken. AnswersLine has has' stands effects room disk old new bytes (spoken_text spoken))
  line_answered (Ok spoken) carries = record { carried = carries }
  line_answered (Err stop) carries = tt

  pub line_stopped : (r : Result Spoken StoreStop) → ((found : List ℕ) (tidy : Bool) (S : State) → has found tidy S → (disk ≡ true → new.tells) → CarriesOut (has' found tidy) (stands found tidy) (λ told. Answers effects room S (medium old) told (line bytes)) old new S r)
      → IfErr r (IsCaused disk old new) → IfErr r (λ stop. StopsLine has stands effects room disk old new bytes stop)
  line_stopped (Ok spoken) carries cause = tt
  line_stopped (Err Disk) carries cause = record { cause = cause; leaves = carries }
  line_stopped (Err (Changed ib stored computed)) carries cause = record { cause = cause; leaves = carries }

-- ---- the same from and to other images of the same disks

becomes_between : (made : ℕ → Image → Image → Type 0) {old from new to : Medium} → old ≡ from → SameMedium new to → Becomes made old new → Becomes made from to
becomes_between made {old} {from} {new} {to} s e is =
    subst (λ (m : Medium). Becomes made m to) s (record { image = is.image; bytes = is.bytes; made = is.made; same = same_disk is.same e.disk; few = omega (arith, is.few, e.written) })

module _ (effects : Pins → Effects) (room : Room) (S : State) {old from new to : Medium} {told also : Type 0} (tells : also → told) (starts : also → old ≡ from) (ends : also → SameMedium new to) where
  disk_on : (told → SameMedium old new) → also → SameMedium from to
  disk_on same t = same_between (starts t) (ends t) (same (tells t))

  stays_on : (Z : State) → Stays effects room S old told Z new → Stays effects room S from also Z to
  stays_on Z is = (is.0, disk_on is.1)

  commits_on : (w : Within) → (told → CommitsStaged (effects (pins_in S)) w.nodes old new) → also → CommitsStaged (effects (pins_in S)) w.nodes from to
  commits_on w is t = let made = is (tells t) in record {
    written = λ some. becomes_between _ (starts t) (ends t) (made.written some);
    unwritten = λ none. same_between (starts t) (ends t) (made.unwritten none);
  }

  in_on : (within : Option Within) (asked : SessionLine) (said : List ℕ) (Z : State) → CarriesIn effects room S old told within asked said Z new → CarriesIn effects room S from also within asked said Z to
  in_on None asked said Z is = (is.0, carries_on effects room S.sitting tells starts ends asked said is.0 is.1, is.2)
  in_on (Some w) asked said Z is = (is.0, is.1, is.2, disk_on is.3)

  begins_on : (within : Option Within) (said : List ℕ) (Z : State) → CarriesBegin effects room S old told within said Z new → CarriesBegin effects room S from also within said Z to
  begins_on None said Z is = (is.0, is.1, disk_on is.2)
  begins_on (Some w) said Z is = (is.0, stays_on Z is.1)

  commit_on : (within : Option Within) (said : List ℕ) (Z : State) → CarriesCommit effects room S old told within said Z new → CarriesCommit effects room S from also within said Z to
  commit_on None said Z is = (is.0, stays_on Z is.1)
  commit_on (Some w) said Z is = (is.0, is.1, commits_on w is.2)

  rolls_on : (within : Option Within) (said : List ℕ) (Z : State) → CarriesRollback effects room S old told within said Z new → CarriesRollback effects room S from also within said Z to
  rolls_on None said Z is = (is.0, stays_on Z is.1)
  rolls_on (Some w) said Z is = (is.0, is.1, disk_on is.2)

  asked_on : (asked : Result TransactionLine LineRefusal) (said : List ℕ) (Z : State) → Carries effects room S old told asked said Z new → Carries effects room S from also asked said Z to
  asked_on (Ok Begin) said Z is = begins_on S.within said Z is
  asked_on (Ok Commit) said Z is = commit_on S.within said Z is
  asked_on (Ok Rollback) said Z is = rolls_on S.within said Z is
  asked_on (Ok (Session asked)) said Z is = in_on S.within asked said Z is
  asked_on (Err refusal) said Z is = (is.0, stays_on Z is.1)

  pub answers_on : (piece : Piece) (said : List ℕ) (Z : State) → Answers effects room S old told piece said Z new → Answers effects room S from also piece said Z to
  answers_on (line bytes) said Z (inl is) = inl (asked_on (transaction_line bytes) said Z is)
  answers_on (line bytes) said Z (inr is) = inr (is.0, stays_on Z is.1)
  answers_on too_long said Z is = (is.0, stays_on Z is.1)
  answers_on further said Z is = (is.0, stays_on Z is.1)

-- ---- lines that ask for nothing

module _ (effects : Pins → Effects) (room : Room) (S : State) (v : World) (has : State → Type 0) (stands : Image → State → Type 0) (h : has S) (leaves : Leaves stands v v S S) where
  pub refused_line : (refusal : LineRefusal) (bytes : List ℕ) (spoken : Spoken) → transaction_line bytes ≡ Err refusal → SaysRefusal (refusal_of refusal) spoken → CarriesOut has stands (λ told. Answers effects room S (medium v) told (line bytes)) v v S (Ok spoken)
  refused_line refusal bytes spoken is (inl says) = (S, inl (subst (λ asked. Carries effects room S (medium v) v.tells asked (spoken_text spoken) S (medium v)) (sym is) (says, (refl, λ told. its_medium v))), h, leaves)
  refused_line refusal bytes spoken is (inr says) = (S, inr (says ∙ memory_text, (refl, λ told. its_medium v)), h, leaves)

  pub silent_line : (bytes : List ℕ) → CarriesOut has stands (λ told. Answers effects room S (medium v) told (line bytes)) v v S (Ok spoken_as.NoMemory)
  silent_line bytes = (S, inr (memory_text, (refl, λ told. its_medium v)), h, leaves)
