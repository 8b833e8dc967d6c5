-- How `fill` ends, put together from what was made and from what it says.
use Rattle.std.proofs.Common.{◌≡◌, ◌⊎◌, ◌∙◌, ◌++◌, ℕ, Bool, true, List, [], take, Result, Ok, Err, IfErr, inl, inr, refl, sym, ap, subst, arith}
use Rattle.std.proofs.lemmas.List.{append-nil}
use Rattle.pst_outside.specs.World.{Image, SameDisk, World}
use Rattle.pst_outside.specs.Calls.{NeverFall, Rose, Settled}
use Rattle.pst_outside.proofs.Moments.{continues, quiet, same_disk, weaker}
use Rattle.gate_file.specs.Gate.{IsShut}
use Rattle.file_planner.specs.Becomes.{IsMade}
use Rattle.file_planner.specs.Cost.{IsWithin}
use Rattle.line_server.proofs.Hearing.{falls_along}
use Rattle.tree_look.specs.mail_draft.Answers.{IsCaused}
use Rattle.tree_look.specs.mail_draft.declared.stop.Stop.{Stop}
use Rattle.tree_look.specs.mail_draft.declared.stop.Stop.TheVariants as stops
use Rattle.mail_searches.specs.Searching.{Searching}
use Rattle.tree_look.proofs.mail_draft_laws.Looking.{untouched_same}
use Rattle.pst_commit.specs.Laws.{stands_on}
use Rattle.file_filling.specs.store_session.declared.session.SessionEnd.TheVariants as ends
use Rattle.file_filling.specs.store_session.Disks.{Medium, SameMedium, medium}
use Rattle.file_filling.specs.store_filling.Filling.{FillTurn, IsFilled, disk_at, tree_at}
use Rattle.file_filling.specs.store_filling.declared.counting.FillCounts.{FillCounts}
use Rattle.file_filling.proofs.store_filling_laws.Turns.{fills_still}
use Rattle.node_port.specs.Pins.{no_pins}
use Rattle.file_filling.specs.file_session.FileRun.{ReadsAs, file_effects, front_of}
use Rattle.file_filling.specs.FileFills.{FillOpened, FillsBehind}
use Rattle.mail_session.specs.Fill.{FillEnds, FillServes, FillsTree, IsFillText, IsQuietFill, SaysEnd, SaysFill, fill_status}
use Rattle.mail_session.specs.Info.{Says}
use Rattle.mail_session.specs.Worlds.{HasDiskOf, KeepsDisk}
use Rattle.mail_session.specs.declared.exit.ChangedAt.{ChangedAt}
use Rattle.mail_session.specs.declared.exit.Status.{Status}
use Rattle.mail_session.specs.declared.exit.Status.TheVariants.{Done, Refused, Disk, Output, Memory, Changed}
use Rattle.mail_session.proofs.FileLaws.{settled_after}

-- what making a large input comes to
abbrev Ends : Type 0
Ends = Result FillCounts Stop

-- ---- statuses that differ

memory_disk : Memory ≡ Disk → ⊥
memory_disk is = cc

memory_output : Memory ≡ Output → ⊥
memory_output is = cc

disk_output : Disk ≡ Output → ⊥
disk_output is = cc

changed_disk : (at : ChangedAt) → Changed at ≡ Disk → ⊥
changed_disk at is = cc

changed_output : (at : ChangedAt) → Changed at ≡ Output → ⊥
changed_output at is = cc

done_disk : Done ≡ Disk → ⊥
done_disk is = cc

refused_disk : Refused ≡ Disk → ⊥
refused_disk is = cc

output_disk : Output ≡ Disk → ⊥
output_disk is = cc

done_output : Done ≡ Output → ⊥
done_output is = cc

refused_output : Refused ≡ Output → ⊥
refused_output is = cc

-- ---- ends

meant_kind : (end : Ends) → (fill_status end ≡ Done) ⊎ (fill_status end ≡ Refused)
meant_kind (Ok c) = inl refl
meant_kind (Err stop) = inr refl

-- an end with a text is no failure of the disk
no_fault : (count : ℕ) (end : Ends) (text : List ℕ) → IsFillText count end text → end ≡ Err stops.Fault → ⊥
no_fault count end text is e = subst (λ (x : Ends). IsFillText count x text) e is

-- ---- the disk while something is said

pub disk_then : (mid new : World) → KeepsDisk mid new → new.tells → SameMedium (medium mid) (medium new)
disk_then mid new keeps t = record { disk = keeps.same t; written = omega (arith, keeps.written) }

pub medium_then : (a b c : Medium) → SameMedium a b → SameMedium b c → SameMedium a c
medium_then a b c p q = record { disk = same_disk p.disk q.disk; written = omega (arith, p.written, q.written) }

reads_there : (tidy : Bool) (found : List ℕ) (a b : Image) (Y : Searching) → SameDisk a b → ReadsAs tidy found a Y → ReadsAs tidy found b Y
reads_there tidy found a b Y same r =
    let s = r.0 in
    (record { nodes = s.nodes; held = stands_on found a b same s.nodes Y.tree.last s.held; at = s.at; counters = s.counters }, r.1)

module _ (seed count : ℕ) {old mid : World} (end : Ends) (counts : NeverFall old mid) (input : mid.tells → mid.input ≡ old.input) (cause : IfErr end (IsCaused true old.disk_faults mid.disk_faults)) (ends : mid.tells → FillOpened IsMade IsWithin old mid seed count end) where
  -- ---- nothing is said

  quiet_fault : (status : Status) → IsQuietFill end status → status ≡ Disk → Rose old.disk_faults mid.disk_faults
  quiet_fault status q is = elim q [
    | inl m ↦ absurd (memory_disk (sym m ∙ is))
    | inr (inl f) ↦ (subst (λ (e : Ends). IfErr e (IsCaused true old.disk_faults mid.disk_faults)) f.0 cause).0
    | inr (inr c) ↦ absurd (changed_disk c.0 (sym c.2 ∙ is))
  ]

  quiet_tree : (tidy : Bool) (found : List ℕ) (X : Searching) (status : Status) → IsQuietFill end status → mid.tells → FillsBehind IsMade IsWithin tidy found old mid X seed count end → FillsTree tidy found old mid X seed count status
  quiet_tree tidy found X status q t f =
      let s = f.ends in
      record {
        end = end;
        opened = f.opened;
        store = f.store;
        opening = f.opening;
        idle = f.idle;
        came = s.came;
        images = weaker (λ c. IsFilled (ReadsAs tidy found) old.here.said X (s.came.turns ++ s.came.hand) c ⊎ SameDisk mid.here c) s.images (λ c told is. inl is);
        ends_as = s.ends_as;
        disk_is = λ no. s.disk_is no t;
        settled = s.settled;
        shut = λ no. s.at_rest no t;
        said = ([], inr (inr (q, refl)), (s.images.here t).said ∙ sym (append-nil old.here.said));
      }

  quiet_serves : (status : Status) → IsQuietFill end status → FillServes seed count old mid status
  quiet_serves status q = record {
    counts = counts;
    input = input;
    statuses = elim q [ inl m ↦ inr (inr (inr (inr (inl m)))) | inr (inl f) ↦ inr (inr (inl f.1)) | inr (inr c) ↦ inr (inr (inr (inr (inr (c.0, c.2))))) ];
    disk_failed = quiet_fault status q;
    output_failed = λ is. absurd (elim q [ inl m ↦ memory_output (sym m ∙ is) | inr (inl f) ↦ disk_output (sym f.1 ∙ is) | inr (inr c) ↦ changed_output c.0 (sym c.2 ∙ is) ]);
    told = λ t. let o = ends t in record { start = o.start; reads = o.reads; fresh = o.fresh; fills = λ still tidy read. quiet_tree tidy (front_of old.here) o.start status q t (o.fills still tidy read) };
  }

  -- ---- a text is said

  module _ {new : World} {text : List ℕ} {status : Status} (is : IsFillText count end text) (says : Says text (fill_status end) mid new status) where
    -- then nothing was pending, so that each later image has the disk of the end
    disk_of_end : (c : Image) → Settled mid → new.tells → HasDiskOf mid c → SameDisk new.here c
    disk_of_end c settled told has =
        let here : SameDisk mid.here c = elim has [ inl it ↦ it | inr left ↦ subst (λ (i : Image). SameDisk i c) (settled left.0 left.1) left.2 ] in
        let end_is : SameDisk mid.here new.here = says.keeps.same told in
        record { main = here.main ∙ sym end_is.main; side = here.side ∙ sym end_is.side; copy = here.copy ∙ sym end_is.copy }

    said_text : new.tells → mid.here.said ≡ old.here.said → (part : List ℕ) × SaysFill count end status part × (new.here.said ≡ old.here.said ++ part)
    said_text t silent = elim says.failed [
      | inl m ↦ (text, inl (m, is), says.whole (λ o. meant_output (sym m ∙ o)) t ∙ ap (λ (l : List ℕ). l ++ text) silent)
      | inr f ↦ let k = (says.front t).0 in (take k text, inr (inl (f.0, (text, k, is, refl))), (says.front t).1 ∙ ap (λ (l : List ℕ). l ++ take k text) silent)
    ]
      where
        meant_output : fill_status end ≡ Output → ⊥
        meant_output e = elim (meant_kind end) [ inl d ↦ done_output (sym d ∙ e) | inr r ↦ refused_output (sym r ∙ e) ]

    said_tree : (tidy : Bool) (found : List ℕ) (X : Searching) → new.tells → FillsBehind IsMade IsWithin tidy found old mid X seed count end → FillsTree tidy found old new X seed count status
    said_tree tidy found X t f =
        let s = f.ends in
        let calm = no_fault count end text is in
        let there = says.keeps.told t in
        let turns : List FillTurn = s.came.turns in
        record {
          end = end;
          opened = f.opened;
          store = f.store;
          opening = f.opening;
          idle = f.idle;
          came = record {
            places = s.came.places;
            are = s.came.are;
            turns = turns;
            run = fills_still (file_effects IsMade IsWithin no_pins) s.came.places seed 0 _ X f.opened turns says.keeps.told s.came.run;
            hand = s.came.hand;
            in_hand = s.came.in_hand;
            one = s.came.one;
            none_in_hand = s.came.none_in_hand;
            ends = s.came.ends;
          };
          images = continues (weaker (λ c. IsFilled (ReadsAs tidy found) old.here.said X (turns ++ s.came.hand) c ⊎ SameDisk new.here c) s.images (λ c told i. inl i)) says.keeps.disk (λ c told has. inr (disk_of_end c (s.settled calm) told has));
          ends_as = λ n. reads_there tidy found mid.here new.here (tree_at X turns) (says.keeps.same t) (s.ends_as n);
          disk_is = λ n. medium_then (disk_at f.opened turns) (medium mid) (medium new) (s.disk_is n there) (disk_then mid new says.keeps t);
          settled = λ n. settled_after (s.settled n) says.keeps;
          shut = λ n. subst IsShut (sym (says.keeps.same t).side) (s.at_rest n there);
          said = said_text t (s.images.here there).said;
        }

    said_serves : FillServes seed count old new status
    said_serves =
        let kind = meant_kind end in
        record {
          counts = falls_along counts says.keeps.counts;
          input = λ t. says.input t ∙ input (says.keeps.told t);
          statuses = elim says.failed [ inl m ↦ elim kind [ inl d ↦ inl (m ∙ d) | inr r ↦ inr (inl (m ∙ r)) ] | inr f ↦ inr (inr (inr (inl f.0))) ];
          disk_failed = λ e. absurd (elim says.failed [ inl m ↦ elim kind [ inl d ↦ done_disk (sym d ∙ sym m ∙ e) | inr r ↦ refused_disk (sym r ∙ sym m ∙ e) ] | inr f ↦ output_disk (sym f.0 ∙ e) ]);
          output_failed = λ e. elim says.failed [ inl m ↦ absurd (elim kind [ inl d ↦ done_output (sym d ∙ sym m ∙ e) | inr r ↦ refused_output (sym r ∙ sym m ∙ e) ]) | inr f ↦ rose f.1 ];
          told = λ t.
              let o = ends (says.keeps.told t) in
              record { start = o.start; reads = o.reads; fresh = o.fresh; fills = λ still tidy read. said_tree tidy (front_of old.here) o.start t (o.fills still tidy read) };
        }
      where
        rose : Rose mid.out_faults new.out_faults → Rose old.out_faults new.out_faults
        rose r = omega (arith, counts.out_faults, r)

-- ---- both

pub fill_serves : {W : Type 0} (view : W → World) (seed count : ℕ) (old : World) (v w : W) (end : Ends) (status : Status) → NeverFall old (view v) → ((view v).tells → (view v).input ≡ old.input) → IfErr end (IsCaused true old.disk_faults (view v).disk_faults)
    → ((view v).tells → FillOpened IsMade IsWithin old (view v) seed count end) → SaysEnd count end v w (view v) (view w) status → FillServes seed count old (view w) status
fill_serves view seed count old v w end status counts input cause ends s = elim s [
  | inl it ↦ said_serves seed count end counts input cause ends it.1 it.2
  | inr q ↦ subst (λ x. FillServes seed count old (view x) status) (sym q.1) (quiet_serves seed count end counts input cause ends status q.0)
]

-- nothing was asked of the world
pub fill_unasked : (seed count : ℕ) (world : World) → FillEnds seed count world world Memory
fill_unasked seed count world = inr (inl (record {
  end = ends.Memory;
  status_is = refl;
  cause = tt;
  told = λ told. record {
    ends = inr refl;
    input = λ t. refl;
    said = λ t. refl;
    memory = λ m. untouched_same world;
    no_tree = λ none. untouched_same world;
    store = λ t. record { store = refl; main = refl; side = λ le. le; copy = refl; said = refl };
    written = omega arith;
    images = λ settled tidy X reads. quiet (λ c. (c.said ≡ world.here.said) × ReadsAs tidy (front_of world.here) c X) settled (untouched_same world) (λ t. (refl, reads));
  };
}))
