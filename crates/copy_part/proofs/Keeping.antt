-- Calls that write to Copy alone, one after another.
use Rattle.std.proofs.Common.{◌∙◌, ℕ, inl, inr, refl, arith, subst, sym}
use Rattle.pst_outside.specs.World.{Image, World, TornAt}
use Rattle.pst_outside.specs.declared.outside.Part.TheVariants.{Copy}
use Rattle.pst_outside.specs.Calls.{NeverFall, Rose, Untouched, Stays, StaysButRange, NoMore, Follows, Elapses}
use Rattle.pst_outside.proofs.Moments.{goes_on, continues, at_end, started}
use Rattle.copy_part.specs.Keeps.{SameSource, HasSourceOf, KeepsSource}

falls_along : {a b c : World} → NeverFall a b → NeverFall b c → NeverFall a c
falls_along p q = record { in_faults = omega (arith, p.in_faults, q.in_faults); out_faults = omega (arith, p.out_faults, q.out_faults); disk_faults = omega (arith, p.disk_faults, q.disk_faults) }

pub same_source : (c : Image) → SameSource c c
same_source c = record { main = refl; side = refl; said = refl }

pub same_source_along : {a b c : Image} → SameSource a b → SameSource b c → SameSource a c
same_source_along p q = record { main = q.main ∙ p.main; side = q.side ∙ p.side; said = q.said ∙ p.said }

-- what has the source of an image that has the source of the world has it too
source_along : (world : World) {b c : Image} → HasSourceOf world b → SameSource b c → HasSourceOf world c
source_along world p q = elim p [ inl here ↦ inl (same_source_along here q) | inr left ↦ inr (left.0, left.1, same_source_along left.2 q) ]

-- before the first call
pub keeps_started : (world : World) → KeepsSource world world
keeps_started world = record {
  counts = record { in_faults = omega arith; out_faults = omega arith; disk_faults = omega arith };
  told = λ t. t;
  input = λ t. refl;
  same = λ t. same_source world.here;
  disk = started world (HasSourceOf world) (λ told. inl (same_source world.here)) (λ c left. inr (c, left, same_source c));
}

-- two runs of such calls
pub keeps_along : {old mid new : World} → KeepsSource old mid → KeepsSource mid new → KeepsSource old new
keeps_along {old} p q = record {
  counts = falls_along p.counts q.counts;
  told = λ t. p.told (q.told t);
  input = λ t. q.input t ∙ p.input (q.told t);
  same = λ t. same_source_along (p.same (q.told t)) (q.same t);
  disk = continues p.disk q.disk (λ c told h.
      elim h [
        | inl here ↦ source_along old (p.disk.here (q.told told)) here
        | inr left ↦ source_along old (at_end p.disk left.0 left.1) left.2
      ]);
}

-- a call that changes nothing
pub keeps_untouched : {old new : World} → Untouched old new → KeepsSource old new
keeps_untouched {old} {new} call =
    let start : KeepsSource old old = keeps_started old in
    record {
      counts = call.counts;
      told = λ t. call.stays.told t;
      input = λ t. call.stays.input t;
      same = λ t. subst (SameSource old.here) (sym (call.stays.here t)) (same_source old.here);
      disk = goes_on start.disk call.time
          (λ t. subst (HasSourceOf old) (sym (call.stays.here t)) (inl (same_source old.here)))
          (λ c left. at_end start.disk c (call.crash c left));
    }

-- a write to Copy
pub keeps_write : {old new : World} {at n : ℕ} → NeverFall old new → StaysButRange Copy at n old new → Follows (TornAt Copy at n) old new → Elapses old new → KeepsSource old new
keeps_write {old} {new} {at} {n} counts stays follows time =
    let start : KeepsSource old old = keeps_started old in
    let torn : (a b : Image) → TornAt Copy at n a b → SameSource a b = λ a b t. record { main = t.others.0; side = t.others.1; said = t.others.2 } in
    record {
      counts = counts;
      told = λ t. stays.told t;
      input = λ t. stays.input t;
      same = λ t. torn old.here new.here (stays.here t);
      disk = goes_on start.disk time
          (λ t. inl (torn old.here new.here (stays.here t)))
          (λ c left.
          let before : (d : Image) × old.may_leave d × TornAt Copy at n d c = follows c left in
          inr (before.0, before.1, torn before.0 c before.2));
    }

-- a sync
pub keeps_sync : {old new : World} → NeverFall old new → Stays old new → NoMore old new → Elapses old new → KeepsSource old new
keeps_sync {old} {new} counts stays crash time =
    let start : KeepsSource old old = keeps_started old in
    record {
      counts = counts;
      told = λ t. stays.told t;
      input = λ t. stays.input t;
      same = λ t. subst (SameSource old.here) (sym (stays.here t)) (same_source old.here);
      disk = goes_on start.disk time
          (λ t. subst (HasSourceOf old) (sym (stays.here t)) (inl (same_source old.here)))
          (λ c left. at_end start.disk c (crash c left));
    }

-- a fault of the second of two runs, or of the first
pub rose_late : {old mid : World} → NeverFall old mid → (n : ℕ) → Rose mid.disk_faults n → Rose old.disk_faults n
rose_late counts n rose = omega (arith, counts.disk_faults, rose)

pub rose_early : {mid new : World} → NeverFall mid new → (n : ℕ) → Rose n mid.disk_faults → Rose n new.disk_faults
rose_early counts n rose = omega (arith, counts.disk_faults, rose)
