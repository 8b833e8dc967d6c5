-- How `run` and `new` over a file end, put together from their calls and from what they say.
use Rattle.std.proofs.Common.{◌≡◌, ◌⊎◌, ◌∙◌, ◌++◌, ◌≤◌, ℕ, Bool, true, false, List, take, inl, inr, refl, sym, ap, subst, arith}
use Rattle.std.proofs.lemmas.List.{append-nil}
use Rattle.pst_outside.specs.World.{Image, SameDisk, World}
use Rattle.pst_outside.specs.Calls.{NeverFall, Rose, Settled, Untouched}
use Rattle.pst_outside.proofs.Moments.{at_end, tells_now}
use Rattle.pst_commit.specs.Laws.{stands_on}
use Rattle.gate_file.specs.Gate.{IsShut}
use Rattle.lays_kept.specs.Stands.{Stands}
use Rattle.line_server.proofs.Hearing.{falls_along}
use Rattle.empty_file.specs.Empty.{HasBytes}
use Rattle.mail_searches.specs.Searching.{Searching, StartsSearching}
use Rattle.file_mending.specs.file_open.Opening.{IsFileRefused, ReadsFresh}
use Rattle.file_mending.specs.file_open.declared.stops.FileRefusal.{FileRefusal}
use Rattle.file_planner.specs.Becomes.{IsMade}
use Rattle.file_planner.specs.Cost.{IsWithin}
use Rattle.file_filling.specs.store_session.Session.{HasCause}
use Rattle.file_filling.specs.store_session.declared.session.SessionEnd.{SessionEnd}
use Rattle.file_filling.specs.store_session.declared.session.SessionEnd.TheVariants as ends
use Rattle.file_filling.specs.file_session.FileRun.{FileRunEnds, ReadsAs, front_of}
use Rattle.file_filling.specs.file_session.declared.make.FileMade.{FileMade}
use Rattle.file_filling.specs.file_session.declared.make.FileMade.TheVariants as made
use Rattle.mail_session.specs.Files.{EndsRefused, EndsWell, IsNewLine, NewEnds, NoneFailed, RunEnds, status_of_end}
use Rattle.mail_session.specs.Info.{Says}
use Rattle.mail_session.specs.Statuses.{EndsAs}
use Rattle.mail_session.specs.Texts.{file_line, made_line, not_empty_line}
use Rattle.mail_session.specs.Worlds.{KeepsDisk}
use Rattle.mail_session.specs.declared.exit.ChangedAt.{ChangedAt}
use Rattle.mail_session.specs.declared.exit.Status.{Status}
use Rattle.mail_session.specs.declared.exit.Status.TheVariants.{Done, Refused, Disk, Output, Memory, Lines, Changed}
use Rattle.mail_session.proofs.Disks.{keeps_along, keeps_started, keeps_untouched}

-- ---- statuses that differ

done_refused : Done ≡ Refused → ⊥
done_refused is = cc

done_disk : Done ≡ Disk → ⊥
done_disk is = cc

done_output : Done ≡ Output → ⊥
done_output is = cc

refused_disk : Refused ≡ Disk → ⊥
refused_disk is = cc

refused_output : Refused ≡ Output → ⊥
refused_output is = cc

refused_memory : Refused ≡ Memory → ⊥
refused_memory is = cc

disk_output : Disk ≡ Output → ⊥
disk_output is = cc

output_memory : Output ≡ Memory → ⊥
output_memory is = cc

memory_disk : Memory ≡ Disk → ⊥
memory_disk is = cc

memory_output : Memory ≡ Output → ⊥
memory_output is = cc

memory_refused : Memory ≡ Refused → ⊥
memory_refused is = cc

memory_done : Memory ≡ Done → ⊥
memory_done is = cc

done_changed : (at : ChangedAt) → Done ≡ Changed at → ⊥
done_changed at is = cc

refused_changed : (at : ChangedAt) → Refused ≡ Changed at → ⊥
refused_changed at is = cc

disk_changed : (at : ChangedAt) → Disk ≡ Changed at → ⊥
disk_changed at is = cc

output_changed : (at : ChangedAt) → Output ≡ Changed at → ⊥
output_changed at is = cc

memory_changed : (at : ChangedAt) → Memory ≡ Changed at → ⊥
memory_changed at is = cc

rose_since : (a b n : ℕ) → a ≤ b → Rose b n → Rose a n
rose_since a b n less rose = omega (arith, less, rose)

-- ---- a refused opening

module _ {old mid : World} (refusal : FileRefusal) (call : Untouched old mid)
    (holds : mid.tells → IsFileRefused old.here refusal × ((X : Searching) → ReadsFresh old.here X → ⊥)) where
  -- and then its line
  pub refused_says : {new : World} {text : List ℕ} {status : Status} → text ≡ file_line refusal → Says text Refused mid new status → EndsRefused old new status
  refused_says {new} {text} {status} is says = record {
    keeps = keeps_along (keeps_untouched (keeps_started old) call) says.keeps;
    input = λ t. says.input t ∙ call.stays.input (says.keeps.told t);
    refusal = refusal;
    holds = λ t. holds (says.keeps.told t);
    statuses = elim says.failed [ inl m ↦ inl m | inr f ↦ inr (inl (f.0, rose_since old.out_faults mid.out_faults new.out_faults call.counts.out_faults f.1)) ];
    front = λ t. let k = (says.front t).0 in (k, (says.front t).1 ∙ (λ i. (call.stays.here (says.keeps.told t) i).said ++ take k (is i)));
    whole = λ r t. says.whole (λ o. refused_output (sym r ∙ o)) t ∙ (λ i. (call.stays.here (says.keeps.told t) i).said ++ is i);
    silent = λ m t. absurd (elim says.failed [ inl r ↦ refused_memory (sym r ∙ m) | inr f ↦ output_memory (sym f.0 ∙ m) ]);
  }

  -- there was no memory for its line
  pub refused_silent : EndsRefused old mid Memory
  refused_silent = record {
    keeps = keeps_untouched (keeps_started old) call;
    input = call.stays.input;
    refusal = refusal;
    holds = holds;
    statuses = inr (inr refl);
    front = λ t. (0, ap (λ (i : Image). i.said) (call.stays.here t) ∙ sym (append-nil old.here.said));
    whole = λ r t. absurd (memory_refused r);
    silent = λ m t. ap (λ (i : Image). i.said) (call.stays.here t);
  }

-- ---- the files of a new store, while something is said

front_on : {a b : Image} → SameDisk a b → front_of b ≡ front_of a
front_on {a} {b} same = λ i. front_of (record { main = same.main i; side = same.side i; copy = b.copy; said = b.said })

pub reads_on : {tidy : Bool} {a b : Image} {X : Searching} → SameDisk a b → ReadsAs tidy (front_of a) a X → ReadsAs tidy (front_of b) b X
reads_on {a = a} {b = b} {X = X} same h =
    let s = h.0 in
    let held = stands_on (front_of a) a b same s.nodes X.tree.last s.held in
    (record { nodes = s.nodes; held = subst (λ f. Stands f b s.nodes X.tree.last) (sym (front_on same)) held; at = s.at; counters = s.counters }, h.1)

-- nothing is pending behind calls that keep the disk, where nothing was
pub settled_after : {mid new : World} → Settled mid → KeepsDisk mid new → Settled new
settled_after {mid} {new} settled keeps c left =
    let same : SameDisk mid.here c = elim (at_end keeps.disk c left) [ inl here ↦ here | inr was ↦ subst (λ i. SameDisk i c) (settled was.0 was.1) was.2 ] in
    let here : SameDisk mid.here new.here = keeps.same (tells_now new c left) in
    let main : c.main ≡ new.here.main = same.main ∙ sym here.main in
    let side : c.side ≡ new.here.side = same.side ∙ sym here.side in
    let copy : c.copy ≡ new.here.copy = same.copy ∙ sym here.copy in
    let said : c.said ≡ new.here.said = new.said c left in
    λ i. record { main = main i; side = side i; copy = copy i; said = said i }

module _ (name : List ℕ) {old mid : World} (counts : NeverFall old mid) (told : mid.tells → old.tells) (input : mid.tells → mid.input ≡ old.input) where
  -- the store was made, and then that was said
  pub new_made : {new : World} {status : Status} → (mid.tells → (X : Searching) × StartsSearching name X × ReadsAs true (front_of mid.here) mid.here X) → (Settled old → Settled mid × (mid.tells → IsShut mid.here.side)) → (Settled old → mid.tells → mid.here.said ≡ old.here.said)
      → (old.tells → HasBytes old.here → ⊥) → Says made_line Done mid new status → NewEnds name old new status
  new_made {new} {status} made rests said none says = record {
    counts = falls_along counts says.keeps.counts;
    input = λ t. says.input t ∙ input (says.keeps.told t);
    made = λ d t. let m = made (says.keeps.told t) in (m.0, m.1, reads_on (says.keeps.same t) m.2);
    settled = λ settled d. settled_after (rests settled).0 says.keeps;
    shut = λ settled d t. subst IsShut (sym (says.keeps.same t).side) ((rests settled).1 (says.keeps.told t));
    said = λ settled d t. says.whole (λ o. done_output (sym d ∙ o)) t ∙ ap (λ x. x ++ made_line) (said settled (says.keeps.told t));
    front = λ settled t. let f = says.front t in (made_line, f.0, inl refl, f.1 ∙ ap (λ x. x ++ take f.0 made_line) (said settled (says.keeps.told t)));
    refused = λ r t. absurd (elim says.failed [ inl d ↦ done_refused (sym d ∙ r) | inr f ↦ refused_output (sym r ∙ f.0) ]);
    kept = λ t has. absurd (none t has);
    disk_failed = λ d. absurd (elim says.failed [ inl m ↦ done_disk (sym m ∙ d) | inr f ↦ disk_output (sym d ∙ f.0) ]);
    output_failed = λ o. elim says.failed [ inl d ↦ absurd (done_output (sym d ∙ o)) | inr f ↦ rose_since old.out_faults mid.out_faults new.out_faults counts.out_faults f.1 ];
    not_changed = λ at is. absurd (elim says.failed [ inl d ↦ done_changed at (sym d ∙ is) | inr f ↦ output_changed at (sym f.0 ∙ is) ]);
    statuses = elim says.failed [ inl d ↦ inl d | inr f ↦ inr (inr (inr (inl f.0))) ];
  }

-- the files have bytes, and then that was said
pub new_refused : (name : List ℕ) {old mid new : World} {status : Status} → Untouched old mid → (mid.tells → HasBytes mid.here) → Says not_empty_line Refused mid new status → NewEnds name old new status
new_refused name {old} {mid} {new} {status} call has says = record {
  counts = falls_along call.counts says.keeps.counts;
  input = λ t. says.input t ∙ call.stays.input (says.keeps.told t);
  made = λ d t. absurd (not_done d);
  settled = λ settled d. absurd (not_done d);
  shut = λ settled d t. absurd (not_done d);
  said = λ settled d t. absurd (not_done d);
  front = λ settled t.
      let f = says.front t in
      let same = call.stays.here (says.keeps.told t) in
      (not_empty_line, f.0, inr (subst HasBytes same (has (says.keeps.told t)), refl), f.1 ∙ ap (λ (i : Image). i.said ++ take f.0 not_empty_line) same);
  refused = λ r t. (
    subst HasBytes (call.stays.here (says.keeps.told t)) (has (says.keeps.told t)),
    says.whole (λ o. refused_output (sym r ∙ o)) t ∙ ap (λ (i : Image). i.said ++ not_empty_line) (call.stays.here (says.keeps.told t)),
  );
  kept = λ t bytes. (keeps_along (keeps_untouched (keeps_started old) call) says.keeps, not_done);
  disk_failed = λ d. absurd (elim says.failed [ inl m ↦ refused_disk (sym m ∙ d) | inr f ↦ disk_output (sym d ∙ f.0) ]);
  output_failed = λ o. elim says.failed [ inl r ↦ absurd (refused_output (sym r ∙ o)) | inr f ↦ rose_since old.out_faults mid.out_faults new.out_faults call.counts.out_faults f.1 ];
  not_changed = λ at is. absurd (elim says.failed [ inl r ↦ refused_changed at (sym r ∙ is) | inr f ↦ output_changed at (sym f.0 ∙ is) ]);
  statuses = elim says.failed [ inl r ↦ inr (inl r) | inr f ↦ inr (inr (inr (inl f.0))) ];
}
  where
    not_done : status ≡ Done → ⊥
    not_done d = elim says.failed [ inl r ↦ done_refused (sym d ∙ r) | inr f ↦ done_output (sym d ∙ f.0) ]

module _ (name : List ℕ) {old new : World} (counts : NeverFall old new) (input : new.tells → new.input ≡ old.input) (said : Settled old → new.tells → new.here.said ≡ old.here.said) (keeps : old.tells → HasBytes old.here → KeepsDisk old new) where
  -- nothing was said
  silent : Settled old → new.tells → (text : List ℕ) × (k : ℕ) × IsNewLine old.here text × (new.here.said ≡ old.here.said ++ take k text)
  silent settled t = (made_line, 0, inl refl, said settled t ∙ sym (append-nil old.here.said))

  -- the disk failed
  pub new_failed : Rose old.disk_faults new.disk_faults → NewEnds name old new Disk
  new_failed rose = record {
    counts = counts;
    input = input;
    made = λ d t. absurd (done_disk (sym d));
    settled = λ settled d. absurd (done_disk (sym d));
    shut = λ settled d t. absurd (done_disk (sym d));
    said = λ settled d t. absurd (done_disk (sym d));
    front = silent;
    refused = λ r t. absurd (refused_disk (sym r));
    kept = λ t has. (keeps t has, λ d. done_disk (sym d));
    disk_failed = λ d. rose;
    output_failed = λ o. absurd (disk_output o);
    not_changed = λ at is. absurd (disk_changed at is);
    statuses = inr (inr (inl refl));
  }

  -- there was no memory
  pub new_lacks : NewEnds name old new Memory
  new_lacks = record {
    counts = counts;
    input = input;
    made = λ d t. absurd (memory_done d);
    settled = λ settled d. absurd (memory_done d);
    shut = λ settled d t. absurd (memory_done d);
    said = λ settled d t. absurd (memory_done d);
    front = silent;
    refused = λ r t. absurd (memory_refused r);
    kept = λ t has. (keeps t has, memory_done);
    disk_failed = λ d. absurd (memory_disk d);
    output_failed = λ o. absurd (memory_output o);
    not_changed = λ at is. absurd (memory_changed at is);
    statuses = inr (inr (inr (inr (inl refl))));
  }

-- something changed, and so the world doesn't tell; that never comes where the files have bytes
pub new_changed : (name : List ℕ) {old new : World} {at : ChangedAt} → NeverFall old new → (new.tells → new.input ≡ old.input) → (new.tells → ⊥) → (old.tells → HasBytes old.here → ⊥) → NewEnds name old new (Changed at)
new_changed name {old} {new} {at} counts input untold none = record {
  counts = counts;
  input = input;
  made = λ d t. absurd (untold t);
  settled = λ settled d. absurd (done_changed at (sym d));
  shut = λ settled d t. absurd (untold t);
  said = λ settled d t. absurd (untold t);
  front = λ settled t. absurd (untold t);
  refused = λ r t. absurd (untold t);
  kept = λ t has. absurd (none t has);
  disk_failed = λ d. absurd (disk_changed at (sym d));
  output_failed = λ o. absurd (output_changed at (sym o));
  not_changed = λ other is t. untold t;
  statuses = inr (inr (inr (inr (inr (at, refl)))));
}

-- nothing was asked of the world, as there was no memory for the name
pub new_unread : (name : List ℕ) (world : World) → NewEnds name world world Memory
new_unread name world = new_lacks name (keeps_started world).counts (λ t. refl) (λ settled t. refl) (λ t has. keeps_started world)

-- ---- what the making of a store answers

made_not_empty : made.NotEmpty ≡ made.Made → ⊥
made_not_empty is = cc

made_disk : made.Disk ≡ made.Made → ⊥
made_disk is = cc

made_memory : made.Memory ≡ made.Made → ⊥
made_memory is = cc

-- files that have bytes are no place for one
pub none_made : (r : FileMade) → (r ≡ made.NotEmpty) ⊎ (r ≡ made.Disk) ⊎ (r ≡ made.Memory) → r ≡ made.Made → ⊥
none_made r (inl n) is = made_not_empty (sym n ∙ is)
none_made r (inr (inl d)) is = made_disk (sym d ∙ is)
none_made r (inr (inr m)) is = made_memory (sym m ∙ is)

changed_not_empty : (ib stored computed : ℕ) → made.NotEmpty ≡ made.Changed ib stored computed → ⊥
changed_not_empty ib stored computed is = cc

changed_disk : (ib stored computed : ℕ) → made.Disk ≡ made.Changed ib stored computed → ⊥
changed_disk ib stored computed is = cc

changed_memory : (ib stored computed : ℕ) → made.Memory ≡ made.Changed ib stored computed → ⊥
changed_memory ib stored computed is = cc

-- nor do they change
pub none_changed : (r : FileMade) (ib stored computed : ℕ) → (r ≡ made.NotEmpty) ⊎ (r ≡ made.Disk) ⊎ (r ≡ made.Memory) → r ≡ made.Changed ib stored computed → ⊥
none_changed r ib stored computed (inl n) is = changed_not_empty ib stored computed (sym n ∙ is)
none_changed r ib stored computed (inr (inl d)) is = changed_disk ib stored computed (sym d ∙ is)
none_changed r ib stored computed (inr (inr m)) is = changed_memory ib stored computed (sym m ∙ is)

-- ---- `run` comes to its end

end_not_disk : (ib stored computed : ℕ) → ends.Changed ib stored computed ≡ ends.Disk → ⊥
end_not_disk ib stored computed is = cc

end_not_memory : (ib stored computed : ℕ) → ends.Changed ib stored computed ≡ ends.Memory → ⊥
end_not_memory ib stored computed is = cc

-- nothing changes under a session
end_unchanged : (old new : World) (ib stored computed : ℕ) → Settled old → FileRunEnds IsMade IsWithin old new (ends.Changed ib stored computed) → ⊥
end_unchanged old new ib stored computed settled (inl unopened) = elim unopened.ends [ inl e ↦ end_not_disk ib stored computed e | inr e ↦ end_not_memory ib stored computed e ]
end_unchanged old new ib stored computed settled (inr opened) = (opened.session settled false opened.reads).not_changed ib stored computed refl

-- a session that ended so while no device failed is done, or it is at the last line, or found no memory
ends_calmly : (old new : World) (end : SessionEnd) (status : Status) → Settled old → status ≡ status_of_end end → HasCause true old new end → FileRunEnds IsMade IsWithin old new end → NoneFailed old new
    → (status ≡ Done) ⊎ ((status ≡ Lines) ⊎ (status ≡ Memory))
ends_calmly old new ends.Done status settled is cause runs none = inl is
ends_calmly old new ends.Input status settled is cause runs none = absurd (none.input cause)
ends_calmly old new ends.Output status settled is cause runs none = absurd (none.output cause)
ends_calmly old new ends.Lines status settled is cause runs none = inr (inl is)
ends_calmly old new ends.Disk status settled is cause runs none = absurd (none.disk cause.0)
ends_calmly old new (ends.Changed ib stored computed) status settled is cause runs none = absurd (end_unchanged old new ib stored computed settled runs)
ends_calmly old new ends.Memory status settled is cause runs none = inr (inr is)

ends_well : (old new : World) (status : Status) → RunEnds old new status → EndsWell old new status
ends_well old new status (inl refused) = λ settled tells places fresh none. absurd ((refused.holds tells).1 places fresh)
ends_well old new status (inr ended) = λ settled tells places fresh none. ends_calmly old new ended.0 status settled ended.1 ended.2 (ended.3 tells) none

-- the number of a status with which it comes to its end
pub well_as : (old new : World) (number : ℕ) → EndsAs (RunEnds old new) number → EndsAs (EndsWell old new) number
well_as old new number is = (is.0, is.1, ends_well old new is.0 is.2)
