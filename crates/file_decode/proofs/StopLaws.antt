-- How a decoding stops, by its parts.
use Rattle.std.proofs.Common.{◌≡◌, ℕ, Result, Ok, Err, IfErr, inl, inr, refl, sym, ap, subst}
use Rattle.pst_outside.specs.World.{Image, World}
use Rattle.pst_outside.specs.Calls.{NeverFall, Rose, Untouched}
use Rattle.file_layout.specs.declared.stops.OpenStop.{OpenStop}
use Rattle.file_layout.specs.declared.stops.OpenStop.TheVariants.{Refused, Fault, Changed, Memory}
use Rattle.file_layout.specs.Trees.{file_of}
use Rattle.file_layout.proofs.Underway.{untouched_then}
use Rattle.file_scan.specs.Parts.{StopsTrees}
use Rattle.file_decode.specs.Decoded.{IsChange, IsFaultyAs, IsUnread, StopsReading, StopsWriting}
use Rattle.file_decode.specs.Decoding.{seen}
use Rattle.file_decode.specs.Source.{IsSource, StopsAs}
use Rattle.file_decode.specs.declared.source.Source.{Source}
use Rattle.copy_part.proofs.Keeping.{rose_late}

-- a change that a world that tells excludes
pub change-writing : (stop : OpenStop) (new : World) → IsChange stop → (new.tells → ⊥) → StopsWriting stop new
change-writing (Changed ib stored computed) new change none = none
change-writing Fault new change none = tt
change-writing Memory new change none = absurd change
change-writing (Refused refusal) new change none = absurd change

-- the header's
pub source-stop : (stop : OpenStop) (old new : World) → Untouched old new → (stop ≡ Fault → Rose old.disk_faults new.disk_faults) → (new.tells → StopsAs stop (seen new.here.main new.here.side)) → StopsReading stop old new
source-stop (Refused refusal) old new same fault stops = (same, λ told. subst (λ (i : Image). IsUnread i refusal) (same.stays.here told) (inl (stops told)))
source-stop Memory old new same fault stops = same
source-stop Fault old new same fault stops = fault refl
source-stop (Changed ib stored computed) old new same fault stops = stops

-- the scan's
pub scan-stop : (stop : OpenStop) (source : Source) (old mid new : World) → Untouched old mid → Untouched mid new → (stop ≡ Fault → Rose mid.disk_faults new.disk_faults)
    → (mid.tells → IsSource mid.here source) → (new.tells → StopsTrees stop source.header (file_of new.here)) → StopsReading stop old new
scan-stop (Refused refusal) source old mid new first second fault is stops = (
  untouched_then first second,
  λ told.
      let there = second.stays.told told in
      let opened = (is there).opened in
      let laid = stops told in
      let here : seen new.here.main new.here.side ≡ Ok source.header = subst (λ (i : Image). seen i.main i.side ≡ Ok source.header) (sym (second.stays.here told)) opened in
      let faulty : IsFaultyAs new.here refusal = record { header = source.header; opened = here; fault = laid.0; none = laid.1 } in
      subst (λ (i : Image). IsUnread i refusal) ((untouched_then first second).stays.here told) (inr faulty),
)
scan-stop Memory source old mid new first second fault is stops = untouched_then first second
scan-stop Fault source old mid new first second fault is stops = rose_late first.counts new.disk_faults (fault refl)
scan-stop (Changed ib stored computed) source old mid new first second fault is stops = stops

-- the writing's
writing-stop : (stop : OpenStop) (old mid new : World) → NeverFall old mid → (stop ≡ Fault → Rose mid.disk_faults new.disk_faults) → StopsWriting stop new → StopsReading stop old new
writing-stop (Refused refusal) old mid new counts fault stops = absurd stops
writing-stop Memory old mid new counts fault stops = absurd stops
writing-stop Fault old mid new counts fault stops = rose_late counts new.disk_faults (fault refl)
writing-stop (Changed ib stored computed) old mid new counts fault stops = stops

pub writing-stops : (result : Result ℕ OpenStop) (old mid new : World) → NeverFall old mid → (result ≡ Err Fault → Rose mid.disk_faults new.disk_faults) → IfErr result (λ stop. StopsWriting stop new)
    → IfErr result (λ stop. StopsReading stop old new)
writing-stops (Ok count) old mid new counts fault stops = stops
writing-stops (Err stop) old mid new counts fault stops = writing-stop stop old mid new counts (λ is. fault (ap Err is)) stops

-- after a call that changed nothing
pub later-stop : (stop : OpenStop) (old mid new : World) → Untouched old mid → StopsReading stop mid new → StopsReading stop old new
later-stop (Refused refusal) old mid new first stops = (untouched_then first stops.0, λ told. subst (λ (i : Image). IsUnread i refusal) (first.stays.here (stops.0.stays.told told)) (stops.1 told))
later-stop Memory old mid new first stops = untouched_then first stops
later-stop Fault old mid new first stops = rose_late first.counts new.disk_faults stops
later-stop (Changed ib stored computed) old mid new first stops = stops
