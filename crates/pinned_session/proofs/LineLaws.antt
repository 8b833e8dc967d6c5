-- What a line that was answered is to a session.
use Rattle.std.proofs.Common.{◌≡◌, inl, inr, ℕ, Bool, true, List, Result, Ok, Err, IfErr, IfOk, refl, sym, subst}
use Rattle.pst_outside.specs.World.{Image, World}
use Rattle.command_text.specs.declared.command.Command.{Command}
use Rattle.line_server.specs.Spoken.{spoken_text}
use Rattle.line_server.specs.declared.spoken.Spoken.{Spoken}
use Rattle.node_port.specs.Pins.{Pins}
use Rattle.node_port.specs.Stops.{Room}
use Rattle.mail_searches.specs.Searching.{Searching}
use Rattle.session_lines.specs.declared.line.SessionLine.{SessionLine}
use Rattle.session_lines.specs.declared.line.SessionLine.TheVariants.{Pin, At, Unpin, OpenView, ShowView, CloseView, Embedded, Command as StoreCommand}
use Rattle.store_session.specs.Carrying.{CarriesOut}
use Rattle.store_session.specs.Disks.{Effects, Medium, SameMedium, medium}
use Rattle.store_session.specs.Run.{CommandAnswers}
use Rattle.store_session.specs.mail_draft.declared.stop.Stop.{Stop}
use Rattle.store_session.specs.mail_draft.declared.stop.Stop.TheVariants.{Refused, Fault, Changed as StopChanged, Memory}
use Rattle.mail_embedding.specs.declared.meaning.Meaning.{Meaning}
use Rattle.mail_embedding.specs.declared.meaning.Meaning.TheVariants.{Replies, Becomes}
use Rattle.store_session.specs.declared.carrying.StoreStop.{StoreStop}
use Rattle.store_session.specs.declared.carrying.StoreStop.TheVariants.{Disk, Changed}
use Rattle.store_session.proofs.Between.{command_on, same_between}
use Rattle.pinned_session.specs.Run.{Carries, CarriesMeant, SaysTo, Stays}
use Rattle.pinned_session.specs.Sitting.{Sitting, pins_of, with_tree}

-- ---- what was carried out, seen otherwise

pub carries_map : {T : Type 0} (has has' : T → Type 0) (stands : Image → T → Type 0) (answers answers' : Type 0 → List ℕ → T → Medium → Type 0) → ((told : Type 0) (said : List ℕ) (Y : T) (m : Medium) → answers told said Y m → answers' told said Y m) → ((Y : T) → has Y → has' Y)
    → (old new : World) (X : T) (r : Result Spoken StoreStop) → CarriesOut has stands answers old new X r → CarriesOut has' stands answers' old new X r
carries_map has has' stands answers answers' also on old new X (Ok spoken) is = (is.0, also new.tells (spoken_text spoken) is.0 (medium new) is.1, on is.0 is.2, is.3)
carries_map has has' stands answers answers' also on old new X (Err Disk) is = (is.0, is.1, also ⊥ is.1 is.0 (medium new) is.2, is.3)
carries_map has has' stands answers answers' also on old new X (Err (Changed ib stored computed)) is = is

-- what is had is two things
pub carries_both : {T : Type 0} (has first second : T → Type 0) (stands : Image → T → Type 0) (answers : Type 0 → List ℕ → T → Medium → Type 0) → ((Y : T) → has Y → first Y) → ((Y : T) → has Y → second Y)
    → (old new : World) (X : T) (r : Result Spoken StoreStop) → CarriesOut has stands answers old new X r → CarriesOut (λ Y. first Y × second Y) stands answers old new X r
carries_both has first second stands answers one two old new X r is = carries_map has (λ Y. first Y × second Y) stands answers answers (λ told said Y m a. a) (λ Y h. (one Y h, two Y h)) old new X r is

-- it was carried out beside these pins, and over a file that had this header
pub carried_at : (has : Searching → Type 0) (stands : List ℕ → Image → Searching → Type 0) (effects : Pins → Effects) (room : Room) (old new : World) (X : Searching) (c : Command) (r : Result Spoken StoreStop) {pins : Pins} {found : List ℕ} → room.pins ≡ pins → room.found ≡ found
    → CarriesOut has (stands room.found) (λ told. CommandAnswers (effects room.pins) room X (medium old) told c) old new X r → CarriesOut has (stands found) (λ told. CommandAnswers (effects pins) room X (medium old) told c) old new X r
carried_at has stands effects room old new X c r {pins} {found} p f is =
    subst (λ q. CarriesOut has (stands found) (λ told. CommandAnswers (effects q) room X (medium old) told c) old new X r) p
    (subst (λ l. CarriesOut has (stands l) (λ told. CommandAnswers (effects room.pins) room X (medium old) told c) old new X r) f is)

-- a command of the store is one of a state, whose pins stay, and the views of folders that are there
pub command_sits : (has : Searching → Type 0) (has' : Sitting → Type 0) (stands : Image → Searching → Type 0) (effects : Pins → Effects) (room : Room) (old new : World) (S : Sitting) (c : Command) → ((Y : Searching) → has Y → has' (with_tree Y S))
    → (r : Result Spoken StoreStop) → CarriesOut has stands (λ told. CommandAnswers (effects (pins_of S)) room S.now (medium old) told c) old new S.now r
    → CarriesOut has' (λ i (Z : Sitting). stands i Z.now) (SaysTo effects room S (medium old) (StoreCommand c)) old new S r
command_sits has has' stands effects room old new S c on (Ok spoken) is = (with_tree is.0 S, inl (is.0, is.1, refl), on is.0 is.2, is.3)
command_sits has has' stands effects room old new S c on (Err Disk) is = (with_tree is.0 S, is.1, inl (is.0, is.2, refl), is.3)
command_sits has has' stands effects room old new S c on (Err (Changed ib stored computed)) is = is

-- what a line asks for was carried out, under another name of it
pub asked_carries : (has : Sitting → Type 0) (stands : Image → Sitting → Type 0) (effects : Pins → Effects) (room : Room) (old new : World) (S : Sitting) (asked named : SessionLine) (r : Result Spoken StoreStop) → asked ≡ named
    → CarriesOut has stands (SaysTo effects room S (medium old) named) old new S r → CarriesOut has stands (SaysTo effects room S (medium old) asked) old new S r
asked_carries has stands effects room old new S asked named r e is = subst (λ a. CarriesOut has stands (SaysTo effects room S (medium old) a) old new S r) (sym e) is

-- ---- the same from and to other images of the same disks

module _ (effects : Pins → Effects) (room : Room) (S : Sitting) {old from new to : Medium} {told also : Type 0} (tells : also → told) (starts : also → old ≡ from) (ends : also → SameMedium new to) where
  disk_on : (told → SameMedium old new) → also → SameMedium from to
  disk_on same t = same_between (starts t) (ends t) (same (tells t))

  pub stays_on : (Z : Sitting) → Stays effects room S old told Z new → Stays effects room S from also Z to
  stays_on Z is = (is.0, disk_on is.1)

  pub meant_on : (meant : Result Meaning Stop) (said : List ℕ) (Z : Sitting) → CarriesMeant effects room S old told meant said Z new → CarriesMeant effects room S from also meant said Z to
  meant_on (Ok (Replies reply)) said Z is = (is.0, stays_on Z is.1)
  meant_on (Ok (Becomes c)) said Z is = (is.0, command_on (effects (pins_of S)) room S.now tells starts ends c said is.0 is.1, is.2)
  meant_on (Err (Refused refusal)) said Z is = (is.0, stays_on Z is.1)
  meant_on (Err Fault) said Z is = is
  meant_on (Err (StopChanged ib stored computed)) said Z is = is
  meant_on (Err Memory) said Z is = is

  pub carries_on : (asked : SessionLine) (said : List ℕ) (Z : Sitting) → Carries effects room S old told asked said Z new → Carries effects room S from also asked said Z to
  carries_on (StoreCommand c) said Z is = (is.0, command_on (effects (pins_of S)) room S.now tells starts ends c said is.0 is.1, is.2)
  carries_on Pin said Z (inl is) = inl (is.0, is.1, disk_on is.2)
  carries_on Pin said Z (inr is) = inr (is.0, is.1, stays_on Z is.2)
  carries_on (At pin c) said Z is = (is.0, stays_on Z is.1)
  carries_on (Unpin pin) said Z is = (is.0, is.1, disk_on is.2)
  carries_on (OpenView folder tag direction) said Z is = (is.0, is.1, is.2, disk_on is.3)
  carries_on (ShowView view grouped) said Z is = (is.0, is.1, is.2, disk_on is.3)
  carries_on (CloseView view) said Z is = (is.0, is.1, is.2, disk_on is.3)
  carries_on (Embedded asked) said Z is = (is.0, is.1, meant_on is.0 said Z is.2)
