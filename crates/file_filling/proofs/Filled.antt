-- From the opening of files to the end of a large input that is made in them.
use Rattle.std.proofs.Common.{◌≡◌, ◌∙◌, ℕ, ◌+◌, ◌≤◌, Bool, true, List, [], ◌++◌, Option, Result, Ok, Err, IfErr, ap, arith, refl, subst, sym}
use Rattle.pst_base.specs.declared.ids.Nid.{Nid}
use Rattle.pst_header.specs.declared.header.Header.{Header}
use Rattle.pst_outside.specs.World.{Image, World}
use Rattle.pst_outside.specs.Calls.{LeavesOnly, NeverFall, Rose, Settled, Untouched}
use Rattle.pst_outside.proofs.Moments.{weaker}
use Rattle.gate_file.specs.Gate.{IsShut, SameStore}
use Rattle.node_port.specs.declared.node.NodeRec.{NodeRec}
use Rattle.store_filling.specs.mail_draft.Answers.{IsCaused}
use Rattle.store_filling.specs.mail_draft.declared.stop.Stop.{Stop}
use Rattle.store_filling.specs.mail_draft.declared.stop.Stop.TheVariants as stops
use Rattle.mail_searches.specs.Searching.{Searching}
use Rattle.pst_commit.specs.Keeping.{Holds}
use Rattle.file_session.specs.file_open.Opening.{OpenedTree}
use Rattle.store_filling.specs.store_session.Carrying.{Has}
use Rattle.store_filling.specs.store_session.Disks.{Effects, Medium, SameMedium, medium}
use Rattle.store_filling.proofs.store_session_laws.Carry.{same_as, same_medium}
use Rattle.store_filling.specs.Filling.{StoreFillEnds, FillsStore, IsFilled}
use Rattle.store_filling.specs.declared.counting.FillCounts.{FillCounts}
use Rattle.store_filling.proofs.Turns.{filled_none, leaves_then}
use Rattle.node_port.specs.Pins.{no_pins}
use Rattle.file_session.specs.FileRun.{ReadsAs, file_effects, front_of}
use Rattle.file_session.proofs.Opened.{StartsOpened}
use Rattle.file_filling.specs.FileFills.{FillOpened, FillsBehind}
use Rattle.file_filling.specs.declared.fill.FileFill.{FileFill}
use Rattle.file_filling.specs.declared.fill.FileFill.TheVariants.{Ended, Unopened}
use Rattle.file_session.specs.declared.run.FileRun.{FileRun}

-- what was made behind an opening was made since its start
fills_behind : (effects : Effects) (stands : Image → Searching → Type 0) (rests : Image → Type 0) (opened : Medium) (first mid now : World) (X : Searching) (seed count : ℕ) (end : Result FillCounts Stop) → (now.tells → mid.tells)
    → LeavesOnly first mid (λ c. (c.said ≡ first.here.said) × stands c X) → StoreFillEnds effects stands rests opened mid now X seed count end → StoreFillEnds effects stands rests opened first now X seed count end
fills_behind effects stands rests opened first mid now X seed count end told opening s = record {
  came = s.came;
  images = leaves_then stands X [] (s.came.turns ++ s.came.hand) told (weaker (IsFilled stands first.here.said X []) opening (λ c t is. filled_none stands first.here.said X [] c is.0 is.1)) s.images;
  ends_as = s.ends_as;
  disk_is = s.disk_is;
  settled = s.settled;
  at_rest = s.at_rest;
}

pub ends_filled : (knows : Header → List ℕ → Type 0) (becomes : List (ℕ × List Bool) → List ℕ → List ℕ → Type 0) (costs : List ℕ → List ℕ → List (Nid × Option NodeRec) → ℕ → Type 0) (bytes : List ℕ) (header : Header) (tree : OpenedTree) (first mid now : World) (seed count : ℕ) (end : Result FillCounts Stop)
    → StartsOpened knows bytes header tree first mid
    → now.tells → (now.tells → mid.tells) → SameStore first.here mid.here
    → mid.written ≤ first.written + 580 → (IsShut first.here.side → Untouched first mid)
    → ((tidy : Bool) (X : Searching) → Has (Holds knows bytes header mid) header.indexes tree.known tree.searches (λ image. IsShut image.side) mid tidy X → (true ≡ true → now.tells)
    → FillsStore (file_effects becomes costs no_pins) (ReadsAs tidy bytes) (λ image. IsShut image.side) mid now X seed count end)
    → FillOpened becomes costs first now seed count end
ends_filled knows becomes costs bytes header tree first mid now seed count end s tells told store written idle filling =
    let X : Searching = s.start in
    record {
      start = X;
      fresh = s.fresh;
      reads = s.reads;
      fills = λ still tidy read.
          let made = filling tidy X (s.has still tidy read) (λ e. tells) in
          let opened : Medium = made.0 in
          let is = made.1 in
          subst (λ f. FillsBehind becomes costs tidy f first now X seed count end) s.front (record {
            opened = opened;
            store = subst (λ (i : Image). SameStore first.here i) (sym (is.image tells)) store;
            opening = omega (arith, written, is.written);
            idle = λ shut. let same = idle shut in record { disk = same_as (is.image tells ∙ same.stays.here (told tells)); written = omega (arith, is.written, same.stays.written) };
            ends = fills_behind (file_effects becomes costs no_pins) (ReadsAs tidy bytes) (λ image. IsShut image.side) opened first mid now X seed count end told (s.opening still tidy read) made.2;
          });
    }

-- ---- ends that are the same

abbrev end_in : Result FillCounts Stop → FileFill → Result FillCounts Stop
end_in e (Unopened run) = e
end_in e (Ended end) = end

pub same_end : (d e : Result FillCounts Stop) → Ended d ≡ Ended e → d ≡ e
same_end d e is = ap (end_in d) is

abbrev run_in : FileRun → FileFill → FileRun
run_in r (Unopened run) = run
run_in r (Ended end) = r

pub same_run : (d e : FileRun) → Unopened d ≡ Unopened e → d ≡ e
same_run d e is = ap (run_in d) is

-- ---- causes

caused_late : {first mid : World} (n : ℕ) (stop : Stop) → NeverFall first mid → IsCaused true mid.disk_faults n stop → IsCaused true first.disk_faults n stop
caused_late n (stops.Refused refusal) counts c = tt
caused_late {first} {mid} n stops.Fault counts c = (rose c.0, c.1)
  where
    rose : Rose mid.disk_faults n → Rose first.disk_faults n
    rose r = omega (arith, counts.disk_faults, r)
caused_late n (stops.Changed ib stored computed) counts c = tt
caused_late n stops.Memory counts c = tt

pub ends_caused : {first mid : World} (n : ℕ) (end : Result FillCounts Stop) → NeverFall first mid → IfErr end (IsCaused true mid.disk_faults n) → IfErr end (IsCaused true first.disk_faults n)
ends_caused n (Ok done) counts c = tt
ends_caused n (Err stop) counts c = caused_late n stop counts c
