-- How `nodes` ends, put together from its scan and from what it says.
use Rattle.std.proofs.Common.{◌≡◌, ◌⊎◌, ◌∙◌, ◌++◌, ℕ, List, [], inl, inr, refl, sym, ap, subst, take, arith, Ok}
use Rattle.std.proofs.lemmas.List.{append-nil}
use Rattle.pst_outside.specs.World.{World, Image}
use Rattle.pst_outside.specs.Calls.{Untouched, Rose}
use Rattle.pst_header.specs.declared.header.Header.{Header}
use Rattle.file_scan.specs.declared.nodes.NodeLine.{NodeLine}
use Rattle.file_layout.specs.declared.stops.OpenRefusal.{OpenRefusal}
use Rattle.file_layout.specs.Nodes.{NodeMap, Lays}
use Rattle.file_scan.specs.Lines.{lines_of}
use Rattle.file_layout.specs.Opening.{opening}
use Rattle.file_scan.specs.Scan.{Scans, IsRefused}
use Rattle.file_layout.specs.Trees.{file_of}
use Rattle.mail_session.specs.declared.exit.ChangedAt.{ChangedAt}
use Rattle.mail_session.specs.declared.exit.Status.{Status}
use Rattle.mail_session.specs.declared.exit.Status.TheVariants.{Done, Refused, Disk, Output, Changed}
use Rattle.mail_session.specs.Info.{Says}
use Rattle.mail_session.specs.Nodes.{IsNodesText, IsRefusalText, SaysOf, NodesEnds}
use Rattle.mail_session.specs.Texts.{nodes_text, refusal_line}
use Rattle.mail_session.proofs.Disks.{keeps_started, keeps_untouched, keeps_along}
use Rattle.mail_session.proofs.InfoLaws.{meant-output}

-- a text that is said whole for this status
abbrev pub Means : Status → Image → List ℕ → Type 0
Means meant image text = ((meant ≡ Done) × IsNodesText image text) ⊎ ((meant ≡ Refused) × IsRefusalText image text)

meant_whole : {meant : Status} {image : Image} {text : List ℕ} → Means meant image text → SaysOf meant image text
meant_whole {meant} {image} {text} (inl nodes) = subst (λ (s : Status). SaysOf s image text) (sym nodes.0) nodes.1
meant_whole {meant} {image} {text} (inr refusal) = subst (λ (s : Status). SaysOf s image text) (sym refusal.0) refusal.1

meant_either : {meant : Status} {image : Image} {text : List ℕ} → Means meant image text → IsNodesText image text ⊎ IsRefusalText image text
meant_either (inl nodes) = inl nodes.1
meant_either (inr refusal) = inr refusal.1

meant_disk : {meant : Status} → (meant ≡ Done) ⊎ (meant ≡ Refused) → meant ≡ Disk → ⊥
meant_disk (inl d) is = let e = sym d ∙ is in cc
meant_disk (inr r) is = let e = sym r ∙ is in cc

disk_output : Disk ≡ Output → ⊥
disk_output is = cc

-- what was said, where a text was meant
said_of : {old mid new : World} {text : List ℕ} {meant status : Status} → Untouched old mid → (mid.tells → Means meant mid.here text)
    → (meant ≡ Done) ⊎ (meant ≡ Refused) → Says text meant mid new status → new.tells → (status ≡ meant) ⊎ ((status ≡ Output) × Rose mid.out_faults new.out_faults)
    → (part : List ℕ) × SaysOf status old.here part × (new.here.said ≡ old.here.said ++ part)
said_of {old} {mid} {new} {text} {meant} {status} call means kind says t (inl m) =
    let here = call.stays.here (says.keeps.told t) in (
      text,
      subst (λ (s : Status). SaysOf s old.here text) (sym m) (subst (λ (i : Image). SaysOf meant i text) here (meant_whole (means (says.keeps.told t)))),
      says.whole (λ is. meant-output kind (sym m ∙ is)) t ∙ ap (λ (i : Image). i.said ++ text) here,
    )
said_of {old} {mid} {new} {text} {meant} {status} call means kind says t (inr f) =
    let here = call.stays.here (says.keeps.told t) in
    let k = (says.front t).0 in (
      take k text,
      subst (λ (s : Status). SaysOf s old.here (take k text)) (sym f.0)
          (text, k, meant_either (subst (λ (i : Image). Means meant i text) here (means (says.keeps.told t))), refl),
      (says.front t).1 ∙ ap (λ (i : Image). i.said ++ take k text) here,
    )

-- a scan, and then its text
pub nodes_say : {old mid new : World} {text : List ℕ} {meant status : Status} → Untouched old mid → (mid.tells → Means meant mid.here text)
    → (meant ≡ Done) ⊎ (meant ≡ Refused) → Says text meant mid new status → NodesEnds old new status
nodes_say {old} {mid} {new} {text} {meant} {status} call means kind says = record {
  keeps = keeps_along (keeps_untouched (keeps_started old) call) says.keeps;
  input = λ t. says.input t ∙ call.stays.input (says.keeps.told t);
  disk_failed = λ is. absurd (elim says.failed [ inl m ↦ meant_disk kind (sym m ∙ is) | inr f ↦ disk_output (sym is ∙ f.0) ]);
  output_failed = λ is. elim says.failed [ inl m ↦ absurd (meant-output kind (sym m ∙ is)) | inr f ↦ rose f.1 ];
  statuses = elim says.failed [ inl m ↦ elim kind [ inl d ↦ inl (m ∙ d) | inr r ↦ inr (inl (m ∙ r)) ] | inr f ↦ inr (inr (inr (inl f.0))) ];
  said = λ t. said_of call means kind says t says.failed;
}
  where
    rose : Rose mid.out_faults new.out_faults → Rose old.out_faults new.out_faults
    rose r = omega (arith, call.counts.out_faults, r)

-- nothing was said
said_nothing : {old mid : World} → Untouched old mid → mid.tells → mid.here.said ≡ old.here.said ++ []
said_nothing {old} call t = ap (λ (i : Image). i.said) (call.stays.here t) ∙ sym (append-nil old.here.said)

-- the disk failed before anything was said
pub nodes_fail : {old mid : World} → Untouched old mid → Rose old.disk_faults mid.disk_faults → NodesEnds old mid Disk
nodes_fail {old} {mid} call rose = record {
  keeps = keeps_untouched (keeps_started old) call;
  input = call.stays.input;
  disk_failed = λ is. rose;
  output_failed = λ is. absurd (disk_output is);
  statuses = inr (inr (inl refl));
  said = λ t. ([], refl, said_nothing call t);
}

-- something changed, and so the world doesn't tell
pub nodes_change : {old mid : World} {at : ChangedAt} → Untouched old mid → (mid.tells → ⊥) → NodesEnds old mid (Changed at)
nodes_change {old} {mid} {at} call untold = record {
  keeps = keeps_untouched (keeps_started old) call;
  input = call.stays.input;
  disk_failed = λ is. absurd (changed_disk is);
  output_failed = λ is. absurd (changed_output is);
  statuses = inr (inr (inr (inr (inr (at, refl)))));
  said = λ t. absurd (untold t);
}
  where
    changed_disk : Changed at ≡ Disk → ⊥
    changed_disk is = cc

    changed_output : Changed at ≡ Output → ⊥
    changed_output is = cc

-- the text of the lines that a scan gives
pub lines_mean : (image : Image) (lines : List NodeLine) (text : List ℕ) → Scans image lines
    → ((header : Header) (nodes : NodeMap) → opening image.main image.side ≡ Ok header → Lays header (file_of image) nodes → lines ≡ lines_of nodes)
    → text ≡ nodes_text lines → Means Done image text
lines_mean image lines text scans only is = inl (refl, record { lines = lines; scans = scans; only = only; text_is = is })

-- the line of a refusal
pub refusal_means : (image : Image) (refusal : OpenRefusal) (text : List ℕ) → IsRefused image refusal → text ≡ refusal_line refusal → Means Refused image text
refusal_means image refusal text holds is = inr (refl, record { refusal = refusal; holds = holds; text_is = is })
