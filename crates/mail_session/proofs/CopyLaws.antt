-- How a call ends that makes a copy, put together from the copy and from what it says.
use Rattle.std.proofs.Common.{◌≡◌, ◌⊎◌, ◌∙◌, ◌++◌, ℕ, List, [], inl, inr, refl, sym, ap, subst, take, arith}
use Rattle.std.proofs.lemmas.List.{append-nil}
use Rattle.pst_outside.specs.World.{World, Image, SameDisk}
use Rattle.pst_outside.specs.Calls.{Rose, Untouched}
use Rattle.pst_outside.proofs.Moments.{weaker, continues, at_end}
use Rattle.copy_part.specs.Keeps.{HasSourceOf, IsStable, KeepsSource}
use Rattle.copy_part.proofs.Keeping.{keeps_started as source_started}
use Rattle.tree_look.proofs.mail_draft_laws.Looking.{untouched_same}
use Rattle.mail_session.specs.declared.exit.ChangedAt.{ChangedAt}
use Rattle.mail_session.specs.declared.exit.Status.{Status}
use Rattle.mail_session.specs.declared.exit.Status.TheVariants.{Done, Refused, Disk, Output, Memory, Changed}
use Rattle.mail_session.specs.Copies.{CopyEnds, HasFilesOf, KeepsFiles, SameFiles, SaysCopied}
use Rattle.mail_session.specs.Info.{Says}
use Rattle.mail_session.specs.Worlds.{HasDiskOf}
use Rattle.mail_session.proofs.Disks.{keeps_along, keeps_started, keeps_untouched}
use Rattle.mail_session.proofs.InfoLaws.{meant-output}

-- ---- what is left

files_along : (world : World) {b c : Image} → HasFilesOf world b → SameFiles b c → HasFilesOf world c
files_along world p q =
    elim p [ inl here ↦ inl (record { main = q.main ∙ here.main; side = q.side ∙ here.side }) | inr left ↦ inr (left.0, left.1, record { main = q.main ∙ left.2.main; side = q.side ∙ left.2.side }) ]

files_of : {old new : World} → KeepsSource old new → KeepsFiles old new
files_of {old} {new} keeps = record {
  counts = keeps.counts;
  told = keeps.told;
  same = λ t. let same = keeps.same t in record { main = same.main; side = same.side };
  files = weaker (HasFilesOf old) keeps.disk (λ c told has.
      elim has [
        | inl here ↦ inl (record { main = here.main; side = here.side })
        | inr left ↦ inr (left.0, left.1, record { main = left.2.main; side = left.2.side })
      ]);
}

files_said : {old mid new : World} {text : List ℕ} {meant status : Status} → KeepsFiles old mid → Says text meant mid new status → KeepsFiles old new
files_said {old} {mid} {new} keeps says =
    let disk_files : (a b : Image) → SameDisk a b → SameFiles a b = λ a b same. record { main = same.main; side = same.side } in
    record {
      counts = record {
        in_faults = omega (arith, keeps.counts.in_faults, says.keeps.counts.in_faults);
        out_faults = omega (arith, keeps.counts.out_faults, says.keeps.counts.out_faults);
        disk_faults = omega (arith, keeps.counts.disk_faults, says.keeps.counts.disk_faults);
      };
      told = λ t. keeps.told (says.keeps.told t);
      same = λ t.
          let first = keeps.same (says.keeps.told t) in
          let then = says.keeps.same t in
          record { main = then.main ∙ first.main; side = then.side ∙ first.side };
      files = continues keeps.files says.keeps.disk (λ c told has.
          elim has [
            | inl here ↦ files_along old (keeps.files.here (says.keeps.told told)) (disk_files mid.here c here)
            | inr left ↦ files_along old (at_end keeps.files left.0 left.1) (disk_files left.0 c left.2)
          ]);
    }

-- where there is a copy, nothing is touched
abbrev pub LeavesCopy : World → World → Type 0
LeavesCopy old new = old.tells → (old.here.copy ≡ [] → ⊥) → Untouched old new

-- such a call, whose lines mean this
module _ (made : Image → List ℕ → List ℕ → Type 0) (refused : Image → List ℕ → Type 0) where
  -- ---- a text

  -- a text that is said whole for this status, of these files and with this copy
  abbrev pub MeansCopy : Status → Image → List ℕ → List ℕ → Type 0
  MeansCopy meant image copy text = ((meant ≡ Done) × made image copy text) ⊎ ((meant ≡ Refused) × refused image text × (copy ≡ image.copy))

  copy_whole : {meant : Status} {image : Image} {copy text : List ℕ} → MeansCopy meant image copy text → SaysCopied made refused meant image copy text
  copy_whole {meant} {image} {copy} {text} (inl whole) = subst (λ (s : Status). SaysCopied made refused s image copy text) (sym whole.0) whole.1
  copy_whole {meant} {image} {copy} {text} (inr refusal) = subst (λ (s : Status). SaysCopied made refused s image copy text) (sym refusal.0) (refusal.1, refusal.2)

  copy_either : {meant : Status} {image : Image} {copy text : List ℕ} → MeansCopy meant image copy text → made image copy text ⊎ (refused image text × (copy ≡ image.copy))
  copy_either {meant} {image} {copy} {text} (inl whole) = inl whole.1
  copy_either {meant} {image} {copy} {text} (inr refusal) = inr (refusal.1, refusal.2)

  said_copy : {old mid new : World} {text : List ℕ} {meant status : Status} → KeepsSource old mid → (mid.tells → MeansCopy meant old.here mid.here.copy text)
      → (meant ≡ Done) ⊎ (meant ≡ Refused) → Says text meant mid new status → new.tells → (status ≡ meant) ⊎ ((status ≡ Output) × Rose mid.out_faults new.out_faults)
      → (part : List ℕ) × SaysCopied made refused status old.here new.here.copy part × (new.here.said ≡ old.here.said ++ part)
  said_copy {old} {mid} {new} {text} {meant} {status} keeps means kind says t (inl m) =
      let there = says.keeps.told t in (
        text,
        subst (λ (s : Status). SaysCopied made refused s old.here new.here.copy text) (sym m)
            (subst (λ (l : List ℕ). SaysCopied made refused meant old.here l text) (sym (says.keeps.same t).copy) (copy_whole {meant = meant} {image = old.here} {copy = mid.here.copy} {text = text} (means there))),
        says.whole (λ is. meant-output kind (sym m ∙ is)) t ∙ ap (λ (l : List ℕ). l ++ text) (keeps.same there).said,
      )
  said_copy {old} {mid} {new} {text} {meant} {status} keeps means kind says t (inr f) =
      let there = says.keeps.told t in
      let k = (says.front t).0 in (
        take k text,
        subst (λ (s : Status). SaysCopied made refused s old.here new.here.copy (take k text)) (sym f.0) (
          text,
          k,
          subst (λ (l : List ℕ). made old.here l text ⊎ (refused old.here text × (l ≡ old.here.copy))) (sym (says.keeps.same t).copy) (copy_either {meant = meant} {image = old.here} {copy = mid.here.copy} {text = text} (means there)),
          refl,
        ),
        (says.front t).1 ∙ ap (λ (l : List ℕ). l ++ take k text) (keeps.same there).said,
      )

  meant_disk : {meant : Status} → (meant ≡ Done) ⊎ (meant ≡ Refused) → meant ≡ Disk → ⊥
  meant_disk (inl d) is = let e = sym d ∙ is in cc
  meant_disk (inr r) is = let e = sym r ∙ is in cc

  disk_output : Disk ≡ Output → ⊥
  disk_output is = cc

  done_output : Done ≡ Output → ⊥
  done_output is = cc

  -- nothing was said while the copy was written
  not_said : (old : World) (c : Image) → HasSourceOf old c → c.said ≡ old.here.said
  not_said old c has = elim has [ inl here ↦ here.said | inr left ↦ left.2.said ∙ old.said left.0 left.1 ]

  -- the copy is stable while something is said
  still_there : (mid new : World) (c : Image) → IsStable mid → new.here.copy ≡ mid.here.copy → HasDiskOf mid c → c.copy ≡ new.here.copy
  still_there mid new c stable same has = elim has [ inl here ↦ here.copy ∙ sym same | inr left ↦ left.2.copy ∙ stable left.0 left.1 ∙ sym same ]

  -- a copy or a refusal, and then its text
  pub copy_says : {old mid new : World} {text : List ℕ} {meant status : Status} → KeepsSource old mid → LeavesCopy old mid → (mid.tells → MeansCopy meant old.here mid.here.copy text)
      → (meant ≡ Done) ⊎ (meant ≡ Refused) → (meant ≡ Done → IsStable mid) → Says text meant mid new status → CopyEnds made refused old new status
  copy_says {old} {mid} {new} {text} {meant} {status} keeps leaves means kind stable says = record {
    keeps = files_said (files_of keeps) says;
    occupied = λ t has. keeps_along (keeps_untouched (keeps_started old) (leaves t has)) says.keeps;
    input = λ t. says.input t ∙ keeps.input (says.keeps.told t);
    disk_failed = λ is. absurd (elim says.failed [ inl m ↦ meant_disk kind (sym m ∙ is) | inr f ↦ disk_output (sym is ∙ f.0) ]);
    output_failed = λ is. elim says.failed [ inl m ↦ absurd (meant-output kind (sym m ∙ is)) | inr f ↦ rose f.1 ];
    statuses = elim says.failed [ inl m ↦ elim kind [ inl d ↦ inl (m ∙ d) | inr r ↦ inr (inl (m ∙ r)) ] | inr f ↦ inr (inr (inr (inl f.0))) ];
    said = λ t. said_copy keeps means kind says t says.failed;
    stable = λ is c left.
        let done : meant ≡ Done = elim says.failed [ inl m ↦ sym m ∙ is | inr f ↦ absurd (done_output (sym is ∙ f.0)) ] in
        elim (says.keeps.disk.before old.moment c keeps.disk.later left) [
          | inl before ↦ inl (not_said old c (keeps.disk.each c before))
          | inr now ↦ inr (still_there mid new c (stable done) (says.keeps.same (new.told old.moment c left)).copy now)
        ];
  }
    where
      rose : Rose mid.out_faults new.out_faults → Rose old.out_faults new.out_faults
      rose r = omega (arith, keeps.counts.out_faults, r)

  -- a refusal, before which nothing was written, and then its line
  pub copy_refuses : {old mid new : World} {text : List ℕ} {status : Status} → KeepsSource old mid → LeavesCopy old mid → Untouched old mid → (mid.tells → refused old.here text) → Says text Refused mid new status → CopyEnds made refused old new status
  copy_refuses keeps leaves same unread says = copy_says keeps leaves (λ t. inr (refl, unread t, ap (λ (i : Image). i.copy) (same.stays.here t))) (inr refl) (λ is. absurd (refused_done is)) says
    where
      refused_done : Refused ≡ Done → ⊥
      refused_done is = cc

  -- ---- no text

  silence : {old new : World} → KeepsSource old new → new.tells → new.here.said ≡ old.here.said ++ []
  silence {old} keeps t = (keeps.same t).said ∙ sym (append-nil old.here.said)

  -- the disk failed
  pub copy_fails : {old new : World} → KeepsSource old new → LeavesCopy old new → Rose old.disk_faults new.disk_faults → CopyEnds made refused old new Disk
  copy_fails {old} {new} keeps leaves rose = record {
    keeps = files_of keeps;
    occupied = λ t has. keeps_untouched (keeps_started old) (leaves t has);
    input = keeps.input;
    disk_failed = λ is. rose;
    output_failed = λ is. absurd (disk_output is);
    statuses = inr (inr (inl refl));
    said = λ t. ([], refl, silence keeps t);
    stable = λ is. absurd (disk_done is);
  }
    where
      disk_done : Disk ≡ Done → ⊥
      disk_done is = cc

  -- there was no memory
  pub copy_lacks : {old new : World} → KeepsSource old new → LeavesCopy old new → CopyEnds made refused old new Memory
  copy_lacks {old} {new} keeps leaves = record {
    keeps = files_of keeps;
    occupied = λ t has. keeps_untouched (keeps_started old) (leaves t has);
    input = keeps.input;
    disk_failed = λ is. absurd (memory_disk is);
    output_failed = λ is. absurd (memory_output is);
    statuses = inr (inr (inr (inr (inl refl))));
    said = λ t. ([], refl, silence keeps t);
    stable = λ is. absurd (memory_done is);
  }
    where
      memory_disk : Memory ≡ Disk → ⊥
      memory_disk is = cc

      memory_output : Memory ≡ Output → ⊥
      memory_output is = cc

      memory_done : Memory ≡ Done → ⊥
      memory_done is = cc

  -- nothing was asked of the world
  pub copy_unread : (world : World) → CopyEnds made refused world world Memory
  copy_unread world = copy_lacks (source_started world) (λ t has. untouched_same world)

  -- something changed, and so the world doesn't tell
  pub copy_changes : {old new : World} {at : ChangedAt} → KeepsSource old new → LeavesCopy old new → (new.tells → ⊥) → CopyEnds made refused old new (Changed at)
  copy_changes {old} {new} {at} keeps leaves untold = record {
    keeps = files_of keeps;
    occupied = λ t has. keeps_untouched (keeps_started old) (leaves t has);
    input = keeps.input;
    disk_failed = λ is. absurd (changed_disk is);
    output_failed = λ is. absurd (changed_output is);
    statuses = inr (inr (inr (inr (inr (at, refl)))));
    said = λ t. absurd (untold t);
    stable = λ is. absurd (changed_done is);
  }
    where
      changed_disk : Changed at ≡ Disk → ⊥
      changed_disk is = cc

      changed_output : Changed at ≡ Output → ⊥
      changed_output is = cc

      changed_done : Changed at ≡ Done → ⊥
      changed_done is = cc
