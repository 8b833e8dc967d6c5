-- Runs that keep the store.
use Rattle.std.proofs.Common.{◌≡◌, ◌∙◌, ℕ, List, take, drop, refl, sym, subst, arith, length-drop}
use Rattle.std.proofs.lemmas.List.{take_all}
use Rattle.pst_outside.specs.World.{Image, World, TornAt}
use Rattle.pst_outside.specs.Calls.{NeverFall, StaysButRange, LeavesOnly, Settled, Untouched}
use Rattle.pst_outside.specs.declared.outside.Part.{Part}
use Rattle.pst_outside.proofs.Moments.{continues, quiet, weaker}
use Rattle.gate_file.specs.Gate.{IsOpen, HasOpenGate, SameStore, KeepsStore}
use Rattle.gate_file.proofs.Effects.{same_store, same_as}

-- a call that changes nothing
pub untouched_keeps : {old new : World} → Untouched old new → KeepsStore old new
untouched_keeps {old} {new} same = record {
  counts = same.counts;
  told = same.stays.told;
  input = same.stays.input;
  store = λ told. same_as (same.stays.here told);
  any_moment = λ settled. quiet (SameStore old.here) settled same (λ told. same_as refl);
}

-- one run after another
pub keeps_on : {a b c : World} → KeepsStore a b → (Settled a → Settled b) → KeepsStore b c → KeepsStore a c
keeps_on {a} {b} {c} first settles then = record {
  counts = record { in_faults = omega (arith, first.counts.in_faults, then.counts.in_faults); out_faults = omega (arith, first.counts.out_faults, then.counts.out_faults); disk_faults = omega (arith, first.counts.disk_faults, then.counts.disk_faults) };
  told = λ told. first.told (then.told told);
  input = λ told. then.input told ∙ first.input (then.told told);
  store = λ told. same_store (first.store (then.told told)) (then.store told);
  any_moment = λ settled. continues (first.any_moment settled) (then.any_moment (settles settled)) (λ i told same. same_store (first.store (then.told told)) same);
}

-- a write of a range, of which all that follows is known
pub write_keeps : {part : Part} {at n : ℕ} {old new : World} → NeverFall old new → StaysButRange part at n old new → (new.tells → SameStore old.here new.here)
    → (Settled old → LeavesOnly old new (SameStore old.here)) → KeepsStore old new
write_keeps counts content store moments = record { counts = counts; told = content.told; input = content.input; store = store; any_moment = moments }

-- a write of a range, each tear of which keeps the store
pub tears_keep : {part : Part} {at n : ℕ} {old new : World} → NeverFall old new → StaysButRange part at n old new → (Settled old → LeavesOnly old new (TornAt part at n old.here))
    → ((c : Image) → old.tells → TornAt part at n old.here c → SameStore old.here c) → KeepsStore old new
tears_keep {part} {at} {n} {old} {new} counts content moments keeps = record {
  counts = counts;
  told = content.told;
  input = content.input;
  store = λ told. keeps new.here (content.told told) (content.here told);
  any_moment = λ settled. weaker (SameStore old.here) (moments settled) (λ i told torn. keeps i (content.told told) torn);
}

-- a fact on what is held stays over a call that changes nothing
pub still : {old new : World} (P : Image → Type 0) → Untouched old new → (old.tells → P old.here) → new.tells → P new.here
still P same fact told = subst P (sym (same.stays.here told)) (fact (same.stays.told told))

-- the header that was read from an open gate
pub header_read : {h side : List ℕ} → HasOpenGate side → h ≡ take 564 (drop 16 side) → IsOpen h side
header_read {h} {side} gate read = record {
  size = gate.size;
  gate = gate.gate;
  behind = sym (read ∙ take_all 564 (drop 16 side) (omega (arith, length-drop 16 side, gate.size)));
}
