-- How `info` ends, put together from its opening and from what it says.
use Rattle.std.proofs.Common.{◌≡◌, ◌⊎◌, ◌∙◌, ◌++◌, ℕ, List, length, ◌≤◌, inl, inr, refl, sym, ap, take, arith, Bool, Ok, Err}
use Rattle.std.proofs.lemmas.List.{append-nil, take_all}
use Rattle.pst_outside.specs.World.{World, Image}
use Rattle.pst_outside.specs.Calls.{Untouched, Rose, NeverFall, StaysButSaid, LeavesOnly, SaysSome}
use Rattle.mail_session.specs.declared.exit.Status.{Status}
use Rattle.mail_session.specs.declared.exit.Status.TheVariants.{Done, Refused, Disk, Output, Memory}
use Rattle.pst_header.specs.declared.header.Header.{Header}
use Rattle.gate_file.specs.Effective.{is_open}
use Rattle.file_layout.specs.declared.stops.OpenRefusal.{OpenRefusal}
use Rattle.file_layout.specs.Opening.{opening}
use Rattle.mail_session.specs.Texts.{info_text, refusal_line}
use Rattle.mail_session.specs.Info.{InfoEnds, Says, info_outcome, outcome_of}
use Rattle.mail_session.proofs.Disks.{keeps_started, keeps_untouched, keeps_says, keeps_along}

done-output : Done ≡ Output → ⊥
done-output is = cc

refused-output : Refused ≡ Output → ⊥
refused-output is = cc

pub meant-output : {s : Status} → (s ≡ Done) ⊎ (s ≡ Refused) → s ≡ Output → ⊥
meant-output (inl d) is = done-output (sym d ∙ is)
meant-output (inr r) is = refused-output (sym r ∙ is)

-- what the files' bytes say
abbrev pub outcome_in : Image → Status × List ℕ
outcome_in here = info_outcome here.main here.side

same_outcome : {old mid : World} → Untouched old mid → mid.tells → outcome_in mid.here ≡ outcome_in old.here
same_outcome call told = ap outcome_in (call.stays.here told)

-- an opening, and then its text
pub info_says : {old mid new : World} {text : List ℕ} {meant status : Status} → Untouched old mid → (mid.tells → outcome_in mid.here ≡ (meant, text)) → (meant ≡ Done) ⊎ (meant ≡ Refused)
    → Says text meant mid new status → InfoEnds old new status
info_says {old} {mid} {new} {text} {meant} {status} call opened kind says = record {
  keeps = keeps_along (keeps_untouched (keeps_started old) call) says.keeps;
  input = λ t. says.input t ∙ call.stays.input (says.keeps.told t);
  disk_failed = λ is. absurd (elim says.failed [ inl m ↦ disk_meant kind (sym m ∙ is) | inr f ↦ disk_output (sym is ∙ f.0) ]);
  output_failed = λ is. elim says.failed [ inl m ↦ absurd (meant-output kind (sym m ∙ is)) | inr f ↦ rose f.1 ];
  statuses = elim says.failed [ inl m ↦ elim kind [ inl d ↦ inl (m ∙ d) | inr r ↦ inr (inl (m ∙ r)) ] | inr f ↦ inr (inr (inr (inl f.0))) ];
  front = λ t. let k = (says.front t).0 in (k, (says.front t).1 ∙ (λ i. (call.stays.here (says.keeps.told t) i).said ++ take k ((bytes t) i)));
  whole = λ ends t.
      let not_output : status ≡ Output → ⊥ = meant-output ends in (
        elim says.failed [ inl m ↦ m ∙ ap (λ o. o.0) (sym (now t)) | inr f ↦ absurd (not_output f.0) ],
        says.whole not_output t ∙ (λ i. (call.stays.here (says.keeps.told t) i).said ++ (bytes t) i),
      );
}
  where
    now : new.tells → outcome_in old.here ≡ (meant, text)
    now t = sym (same_outcome call (says.keeps.told t)) ∙ opened (says.keeps.told t)

    bytes : (t : new.tells) → text ≡ (outcome_in old.here).1
    bytes t = ap (λ o. o.1) (sym (now t))

    disk_meant : (meant ≡ Done) ⊎ (meant ≡ Refused) → meant ≡ Disk → ⊥
    disk_meant (inl d) is = let e = sym d ∙ is in cc
    disk_meant (inr r) is = let e = sym r ∙ is in cc

    disk_output : Disk ≡ Output → ⊥
    disk_output is = cc

    rose : Rose mid.out_faults new.out_faults → Rose old.out_faults new.out_faults
    rose r = omega (arith, call.counts.out_faults, r)

-- an opening, and nothing said
pub info_silent : {old mid : World} {status : Status} → Untouched old mid → ((status ≡ Disk) × Rose old.disk_faults mid.disk_faults) ⊎ (status ≡ Memory) → InfoEnds old mid status
info_silent {old} {mid} {status} call why = record {
  keeps = keeps_untouched (keeps_started old) call;
  input = call.stays.input;
  disk_failed = λ is. elim why [ inl f ↦ f.1 | inr m ↦ absurd (memory_disk (sym m ∙ is)) ];
  output_failed = λ is. absurd (elim why [ inl f ↦ disk_output (sym f.0 ∙ is) | inr m ↦ memory_output (sym m ∙ is) ]);
  statuses = elim why [ inl f ↦ inr (inr (inl f.0)) | inr m ↦ inr (inr (inr (inr m))) ];
  front = λ t. (0, ap (λ (i : Image). i.said) (call.stays.here t) ∙ sym (append-nil old.here.said));
  whole = λ ends t. absurd (none ends);
}
  where
    memory_disk : Memory ≡ Disk → ⊥
    memory_disk is = cc

    memory_output : Memory ≡ Output → ⊥
    memory_output is = cc

    disk_output : Disk ≡ Output → ⊥
    disk_output is = cc

    ended : (s : Status) → (s ≡ Disk) ⊎ (s ≡ Memory) → (s ≡ Done) ⊎ (s ≡ Refused) → ⊥
    ended s (inl a) (inl b) = let e = sym a ∙ b in cc
    ended s (inl a) (inr b) = let e = sym a ∙ b in cc
    ended s (inr a) (inl b) = let e = sym a ∙ b in cc
    ended s (inr a) (inr b) = let e = sym a ∙ b in cc

    none : (status ≡ Done) ⊎ (status ≡ Refused) → ⊥
    none = ended status (elim why [ inl f ↦ inl f.0 | inr m ↦ inr m ])

-- all of a text was said
pub says_whole : {old new : World} {text : List ℕ} {meant : Status} → NeverFall old new → StaysButSaid old new → LeavesOnly old new (SaysSome old text)
    → (new.tells → new.here.said ≡ old.here.said ++ text) → Says text meant old new meant
says_whole {old} {new} {text} {meant} counts stays moments said = record {
  keeps = keeps_says (keeps_started old) counts stays moments;
  input = stays.input;
  failed = inl refl;
  front = λ t. (length text, said t ∙ ap (λ x. old.here.said ++ x) (sym (take_all (length text) text (omega arith))));
  whole = λ ok t. said t;
}

-- a front of a text was said
pub says_front : {old new : World} {text : List ℕ} {meant : Status} → NeverFall old new → StaysButSaid old new → LeavesOnly old new (SaysSome old text)
    → Rose old.out_faults new.out_faults → (new.tells → (k : ℕ) × (k ≤ length text) × (new.here.said ≡ old.here.said ++ take k text)) → Says text meant old new Output
says_front {old} {new} {text} {meant} counts stays moments rose said = record {
  keeps = keeps_says (keeps_started old) counts stays moments;
  input = stays.input;
  failed = inr (refl, rose);
  front = λ t. ((said t).0, (said t).2);
  whole = λ no t. absurd (no refl);
}

-- the text of the header that counts
pub opened_outcome : (main side : List ℕ) (h : Header) (gate : Bool) (bytes : List ℕ) → opening main side ≡ Ok h → gate ≡ is_open side → bytes ≡ info_text h gate → info_outcome main side ≡ (Done, bytes)
opened_outcome main side h gate bytes reads opens is = ap (λ r. outcome_of r (is_open side)) reads ∙ (λ i. (Done, info_text h (sym opens i))) ∙ (λ i. (Done, sym is i))

-- the text of a refusal
pub refused_outcome : (main side : List ℕ) (refusal : OpenRefusal) (bytes : List ℕ) → opening main side ≡ Err refusal → bytes ≡ refusal_line refusal → info_outcome main side ≡ (Refused, bytes)
refused_outcome main side refusal bytes reads is = ap (λ r. outcome_of r (is_open side)) reads ∙ (λ i. (Refused, sym is i))
