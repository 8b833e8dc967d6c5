-- The steps of a commit, from one image to the next, and what a crash within each leaves.
use Rattle.std.proofs.Common.{◌≡◌, ◌∙◌, inl, inr, ℕ, ◌≤◌, List, ◌∷◌, ◌++◌, length, drop, get_or, refl, sym, ap, subst, arith, ⊎_elim, length-append, length-drop}
use Rattle.std.proofs.lemmas.List.{drop_at}
use Rattle.pst_outside.specs.World.{Image, TornAt}
use Rattle.pst_outside.specs.declared.outside.Part.TheVariants.{Main, Side}
use Rattle.pst_outside.proofs.Bytes.{torn_length}
use Rattle.gate_file.specs.Effective.{effective}
use Rattle.gate_file.specs.Gate.{IsClosed, IsArmed, IsOpen, EitherStore, UnderEither, IsCommitted}
use Rattle.gate_file.proofs.Effects.{opened, effective_open, effective_shut, shut_by_byte, arm_closed, arm_same, gate_either, settle_same}

-- between two steps
pub record Armed (header : List ℕ) (old now : Image) : Type 0 where
  pub main : now.main ≡ old.main
  pub copy : now.copy ≡ old.copy
  pub said : now.said ≡ old.said
  pub armed : IsArmed header now.side

pub record Opens (header : List ℕ) (old now : Image) : Type 0 where
  pub main : now.main ≡ old.main
  pub copy : now.copy ≡ old.copy
  pub said : now.said ≡ old.said
  pub opens : IsOpen header now.side

pub record Laid (header : List ℕ) (old now : Image) : Type 0 where
  pub main : now.main ≡ header ++ drop 564 old.main
  pub copy : now.copy ≡ old.copy
  pub said : now.said ≡ old.said
  pub opens : IsOpen header now.side

-- ---- arm

pub arm_under : {h : List ℕ} {old c : Image} → IsClosed old.side → TornAt Side 1 579 old c → UnderEither h old c
arm_under {h} {old} {c} closed torn = record {
  file = inl ((arm_same refl closed torn).store ∙ effective_shut old.main old.side (shut_by_byte old.side closed.shut));
  main = ap length torn.others.0;
  side = (arm_closed refl closed torn).size;
  copy = torn.others.1;
  said = torn.others.2;
}

pub armed : {h : List ℕ} {old now : Image} → TornAt Side 1 579 old now → IsArmed h now.side → Armed h old now
armed torn is = record { main = torn.others.0; copy = torn.others.1; said = torn.others.2; armed = is }

-- ---- fire

pub fire_under : {h : List ℕ} {old now c : Image} → Armed h old now → TornAt Side 0 1 now c → UnderEither h old c
fire_under {h} {old} {now} {c} is torn =
    let either : EitherStore now c = gate_either refl is.armed.size torn in
    record {
      file = ⊎_elim
          (λ e. inl (e ∙ is.main))
          (λ e. inr (e ∙ ap (λ l. l ++ drop 564 now.main) is.armed.behind ∙ ap (λ l. h ++ drop 564 l) is.main))
          either.store;
      main = ap length torn.others.0 ∙ ap length is.main;
      side = torn_length torn.torn (omega (arith, is.armed.size)) ∙ is.armed.size;
      copy = torn.others.1 ∙ is.copy;
      said = torn.others.2 ∙ is.said;
    }

pub fired : {h : List ℕ} {old now next : Image} → Armed h old now → TornAt Side 0 1 now next → IsOpen (drop 16 now.side) next.side → Opens h old next
fired {h} {old} {now} {next} is torn opens = record {
  main = torn.others.0 ∙ is.main;
  copy = torn.others.1 ∙ is.copy;
  said = torn.others.2 ∙ is.said;
  opens = subst (λ l. IsOpen l next.side) is.armed.behind opens;
}

-- ---- settle

open_file : {h : List ℕ} (now : Image) → IsOpen h now.side → effective now.main now.side ≡ h ++ drop 564 now.main
open_file {h} now is = effective_open now.main now.side (opened now.side is.size is.gate) ∙ ap (λ l. l ++ drop 564 now.main) is.behind

pub settle_under : {h : List ℕ} {old now c : Image} → 564 ≤ length old.main → Opens h old now → TornAt Main 0 564 now c → UnderEither h old c
settle_under {h} {old} {now} {c} long is torn =
    let size : length now.main ≡ length old.main = ap length is.main in
    record {
      file = inr ((settle_same refl is.opens (omega (arith, long, size)) torn).store ∙ open_file now is.opens ∙ ap (λ l. h ++ drop 564 l) is.main);
      main = torn_length torn.torn (omega (arith, long, size)) ∙ size;
      side = ap length torn.others.0 ∙ is.opens.size;
      copy = torn.others.1 ∙ is.copy;
      said = torn.others.2 ∙ is.said;
    }

pub laid : {h : List ℕ} {old now next : Image} → Opens h old now → TornAt Main 0 564 now next → next.main ≡ h ++ drop 564 now.main → Laid h old next
laid {h} {old} {now} {next} is torn main = record {
  main = main ∙ ap (λ l. h ++ drop 564 l) is.main;
  copy = torn.others.1 ∙ is.copy;
  said = torn.others.2 ∙ is.said;
  opens = subst (IsOpen h) (sym torn.others.0) is.opens;
}

-- ---- disarm

-- a header of the whole length over the rest
over : (h old : List ℕ) → length h ≡ 564 → h ++ drop 564 (h ++ drop 564 old) ≡ h ++ drop 564 old
over h old size = ap (λ l. h ++ l) (drop_at h (drop 564 old) 564 size)

pub disarm_under : {h : List ℕ} {old now c : Image} → length h ≡ 564 → 564 ≤ length old.main → Laid h old now → TornAt Side 0 1 now c → UnderEither h old c
disarm_under {h} {old} {now} {c} header long is torn =
    let either : EitherStore now c = gate_either refl is.opens.size torn in
    record {
      file = inr (⊎_elim
          (λ e. e ∙ is.main)
          (λ e. e ∙ ap (λ l. l ++ drop 564 now.main) is.opens.behind ∙ ap (λ l. h ++ drop 564 l) is.main ∙ over h old.main header)
          either.store);
      main = ap length torn.others.0 ∙ ap length is.main ∙ omega (arith, length-append h (drop 564 old.main), length-drop 564 old.main, header, long);
      side = torn_length torn.torn (omega (arith, is.opens.size)) ∙ is.opens.size;
      copy = torn.others.1 ∙ is.copy;
      said = torn.others.2 ∙ is.said;
    }

pub committed : {h : List ℕ} {old now next : Image} → Laid h old now → TornAt Side 0 1 now next → next.side ≡ 0 ∷ drop 1 now.side → IsCommitted h old next
committed {h} {old} {now} {next} is torn side =
    let size : length (0 ∷ drop 1 now.side) ≡ 580 = omega (arith, length-drop 1 now.side, is.opens.size) in
    record {
      main = torn.others.0 ∙ is.main;
      shut = record { size = ap length side ∙ size; gate = ap (λ l. get_or l 0 0) side };
      copy = torn.others.1 ∙ is.copy;
      said = torn.others.2 ∙ is.said;
    }
