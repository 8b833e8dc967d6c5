-- How a session goes on from call to call without touching the disk.
use Rattle.std.proofs.Common.{List, ◌∙◌, ℕ, inl, inr, refl, arith, subst, sym}
use Rattle.pst_outside.specs.World.{Image, World, SameDisk}
use Rattle.pst_outside.specs.Calls.{NeverFall, LeavesOnly, StaysButSaid, SaysSome, Untouched}
use Rattle.pst_outside.proofs.Moments.{goes_on, continues, at_end, started}
use Rattle.line_server.proofs.Hearing.{falls_along}
use Rattle.line_server.specs.Worlds.{Listens, SaysFront}
use Rattle.mail_session.specs.Worlds.{HasDiskOf, KeepsDisk}

pub same_disk : (c : Image) → SameDisk c c
same_disk c = record { main = refl; side = refl; copy = refl }

pub same_disk_along : {a b c : Image} → SameDisk a b → SameDisk b c → SameDisk a c
same_disk_along p q = record { main = q.main ∙ p.main; side = q.side ∙ p.side; copy = q.copy ∙ p.copy }

-- what has the disk of an image that has the disk of the world has it too
pub disk_along : (world : World) {b c : Image} → HasDiskOf world b → SameDisk b c → HasDiskOf world c
disk_along world p q = elim p [ inl here ↦ inl (same_disk_along here q) | inr left ↦ inr (left.0, left.1, same_disk_along left.2 q) ]

-- before the first call
pub keeps_started : (world : World) → KeepsDisk world world
keeps_started world = record {
  counts = record { in_faults = omega arith; out_faults = omega arith; disk_faults = omega arith };
  written = refl;
  told = λ t. t;
  same = λ t. same_disk world.here;
  disk = started world (HasDiskOf world) (λ told. inl (same_disk world.here)) (λ c left. inr (c, left, same_disk c));
}

-- one call more, which takes input
pub keeps_listens : {old mid new : World} → KeepsDisk old mid → Listens mid new → KeepsDisk old new
keeps_listens {old} so_far call = record {
  counts = falls_along so_far.counts call.counts;
  written = call.stays.written ∙ so_far.written;
  told = λ t. so_far.told (call.stays.told t);
  same = λ t. subst (SameDisk old.here) (sym (call.stays.here t)) (so_far.same (call.stays.told t));
  disk = goes_on so_far.disk call.time
      (λ t. subst (HasDiskOf old) (sym (call.stays.here t)) (so_far.disk.here (call.stays.told t)))
      (λ c left. at_end so_far.disk c (call.crash c left));
}

-- one call more, which says a part of a text
pub keeps_says : {old mid new : World} {text : List ℕ} → KeepsDisk old mid → NeverFall mid new → StaysButSaid mid new → LeavesOnly mid new (SaysSome mid text) → KeepsDisk old new
keeps_says {old} so_far counts stays moments = record {
  counts = falls_along so_far.counts counts;
  written = stays.written ∙ so_far.written;
  told = λ t. so_far.told (stays.told t);
  same = λ t. same_disk_along (so_far.same (stays.told t)) (stays.here t);
  disk = continues so_far.disk moments (λ c told some.
      elim some.was [
        | inl left ↦ disk_along old (at_end so_far.disk some.from left) some.disk
        | inr is ↦ disk_along old (subst (HasDiskOf old) (sym is) (so_far.disk.here (stays.told told))) some.disk
      ]);
}

-- one call more, which changes nothing
pub keeps_untouched : {old mid new : World} → KeepsDisk old mid → Untouched mid new → KeepsDisk old new
keeps_untouched {old} so_far call = record {
  counts = falls_along so_far.counts call.counts;
  written = call.stays.written ∙ so_far.written;
  told = λ t. so_far.told (call.stays.told t);
  same = λ t. subst (SameDisk old.here) (sym (call.stays.here t)) (so_far.same (call.stays.told t));
  disk = goes_on so_far.disk call.time
      (λ t. subst (HasDiskOf old) (sym (call.stays.here t)) (so_far.disk.here (call.stays.told t)))
      (λ c left. at_end so_far.disk c (call.crash c left));
}

-- one call more, which says a front of a text
pub keeps_front : {old mid new : World} {text : List ℕ} → KeepsDisk old mid → SaysFront text mid new → KeepsDisk old new
keeps_front so_far says = keeps_says so_far says.counts says.stays says.any_moment

-- two runs of such calls
pub keeps_along : {old mid new : World} → KeepsDisk old mid → KeepsDisk mid new → KeepsDisk old new
keeps_along {old} p q = record {
  counts = falls_along p.counts q.counts;
  written = q.written ∙ p.written;
  told = λ t. p.told (q.told t);
  same = λ t. same_disk_along (p.same (q.told t)) (q.same t);
  disk = continues p.disk q.disk (λ c told h.
      elim h [
        | inl here ↦ disk_along old (p.disk.here (q.told told)) here
        | inr left ↦ disk_along old (at_end p.disk left.0 left.1) left.2
      ]);
}
