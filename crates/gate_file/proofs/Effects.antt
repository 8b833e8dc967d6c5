-- What a write that a crash cuts short leaves of the store.
use Rattle.std.proofs.Common.{◌≡◌, ◌≢◌, ◌∙◌, inl, inr, ℕ, ◌<◌, ◌≤◌, Bool, true, false, cond, List, [], ◌∷◌, ◌++◌, length, take, drop, get_or, replicate, refl, sym, ap, subst, arith, ⊎_elim, length-append, length-drop}
use Rattle.std.proofs.lemmas.List.{take_at, drop_at, take_all, drop-drop, take-append-drop, length-replicate}
use Rattle.std.proofs.lemmas.Bool.{cases_eq}
use Rattle.std.proofs.lemmas.Bool.Decides.{nat_tests}
use Rattle.pst_outside.specs.World.{Image, TornAt, after_write}
use Rattle.pst_outside.specs.declared.outside.Part.TheVariants.{Main, Side}
use Rattle.pst_outside.proofs.Bytes.{torn_length, torn_drop, after_write_within, length-after_write, after_write_below, after_write_span}
use Rattle.gate_file.specs.Effective.{is_open, effective}
use Rattle.gate_file.specs.Gate.{IsClosed, IsShut, IsArmed, IsOpen, SameStore, EitherStore, behind_gate}

-- the gate is open
pub opened : (side : List ℕ) → length side ≡ 580 → get_or side 0 0 ≡ 1 → is_open side ≡ true
opened side size gate = grind (arith, nat_tests)

-- the gate isn't open
pub shut_by_byte : (side : List ℕ) → get_or side 0 0 ≢ 1 → is_open side ≡ false
shut_by_byte side shut = grind (arith, nat_tests)

pub shut_by_size : (side : List ℕ) → length side ≢ 580 → is_open side ≡ false
shut_by_size side size = grind (arith, nat_tests)

pub effective_open : (main side : List ℕ) → is_open side ≡ true → effective main side ≡ drop 16 side ++ drop 564 main
effective_open main side opens = ap (λ (b : Bool). cond b (drop 16 side ++ drop 564 main) main) opens

pub effective_shut : (main side : List ℕ) → is_open side ≡ false → effective main side ≡ main
effective_shut main side shut = ap (λ (b : Bool). cond b (drop 16 side ++ drop 564 main) main) shut

-- two images whose gates are closed, with the same bytes in Main
pub both_shut : {a b : Image} → is_open a.side ≡ false → is_open b.side ≡ false → b.main ≡ a.main → b.copy ≡ a.copy → b.said ≡ a.said → (length a.side ≤ 580 → length b.side ≤ 580) → SameStore a b
both_shut {a} {b} one two main copy said side = record {
  store = effective_shut b.main b.side two ∙ main ∙ sym (effective_shut a.main a.side one);
  main = ap length main;
  side = side;
  copy = copy;
  said = said;
}

pub same_store : {a b c : Image} → SameStore a b → SameStore b c → SameStore a c
same_store first then = record { store = then.store ∙ first.store; main = then.main ∙ first.main; side = λ short. then.side (first.side short); copy = then.copy ∙ first.copy; said = then.said ∙ first.said }

pub same_as : {a b : Image} → b ≡ a → SameStore a b
same_as {a} {b} e = record { store = ap (λ (i : Image). effective i.main i.side) e; main = ap (λ (i : Image). length i.main) e; side = λ short. omega (arith, short, ap (λ (i : Image). length i.side) e); copy = ap (λ (i : Image). i.copy) e; said = ap (λ (i : Image). i.said) e }

-- arm: the gate's byte stays, and the length
pub arm_closed : {n : ℕ} {old new : Image} → n ≡ 579 → IsClosed old.side → TornAt Side 1 n old new → IsClosed new.side
arm_closed {n} {old} {new} count closed torn = record {
  size = torn_length torn.torn (omega (arith, count, closed.size)) ∙ closed.size;
  shut = λ gate. closed.shut (sym (torn.torn.below 0 (omega (arith, closed.size)) (omega arith)) ∙ gate);
}

pub arm_same : {n : ℕ} {old new : Image} → n ≡ 579 → IsClosed old.side → TornAt Side 1 n old new → SameStore old new
arm_same {n} {old} {new} count closed torn =
    both_shut (shut_by_byte old.side closed.shut) (shut_by_byte new.side (arm_closed count closed torn).shut) torn.others.0 torn.others.1 torn.others.2 (λ short. omega (arith, (arm_closed count closed torn).size))

-- the header behind the gate
module _ (old header : List ℕ) (long : length header ≡ 564) where
  length-behind : length (behind_gate header) ≡ 579
  length-behind = length-append (replicate 15 0) header ∙ omega (arith, long, length-replicate {A = ℕ} 15 0)

  whole : length old ≤ 580 → length (after_write old 1 (behind_gate header)) ≡ 580
  whole short = length-after_write old 1 (behind_gate header) ∙ omega (arith, length-behind)

  span : take 579 (drop 1 (after_write old 1 (behind_gate header))) ≡ behind_gate header
  span = ap (λ k. take k (drop 1 (after_write old 1 (behind_gate header)))) (sym length-behind) ∙ after_write_span old 1 (behind_gate header)

  -- all that stands behind the gate's byte
  all_behind : length old ≤ 580 → drop 1 (after_write old 1 (behind_gate header)) ≡ behind_gate header
  all_behind short = sym (take_all 579 (drop 1 (after_write old 1 (behind_gate header))) (omega (arith, length-drop 1 (after_write old 1 (behind_gate header)), whole short))) ∙ span

  pub behind_now : length old ≤ 580 → drop 16 (after_write old 1 (behind_gate header)) ≡ header
  behind_now short =
      sym (drop-drop 15 1 (after_write old 1 (behind_gate header)))
      ∙ ap (drop 15) (all_behind short)
      ∙ drop_at (replicate 15 0) header 15 (length-replicate {A = ℕ} 15 0)

  pub armed_now : IsClosed old → IsArmed header (after_write old 1 (behind_gate header))
  armed_now closed = record {
    size = whole (omega (arith, closed.size));
    shut = λ gate. closed.shut (sym (after_write_below old 1 (behind_gate header) 0 (omega (arith, closed.size)) (omega arith)) ∙ gate);
    zeros = ap (take 15) (all_behind (omega (arith, closed.size))) ∙ take_at (replicate 15 0) header 15 (length-replicate {A = ℕ} 15 0);
    behind = behind_now (omega (arith, closed.size));
  }

  -- the same where the first byte is 0
  pub laid_now : length old ≤ 580 → 0 < length old → get_or old 0 0 ≡ 0 → IsShut (after_write old 1 (behind_gate header))
  laid_now short some zero = record {
    size = whole short;
    gate = after_write_below old 1 (behind_gate header) 0 some (omega arith) ∙ zero;
  }

-- fire and disarm: the header in Side counts or it doesn't
pub gate_either : {n : ℕ} {old new : Image} → n ≡ 1 → length old.side ≡ 580 → TornAt Side 0 n old new → EitherStore old new
gate_either {n} {old} {new} count size torn =
    let long : length new.side ≡ 580 = torn_length torn.torn (omega (arith, count, size)) ∙ size in
    let behind : drop 16 new.side ≡ drop 16 old.side = torn_drop torn.torn 16 (omega (arith, count)) (omega (arith, size)) in
    record {
      store = ⊎_elim
          (λ (gate : get_or new.side 0 0 ≡ 1). inr (effective_open new.main new.side (opened new.side long gate) ∙ ap (λ l. l ++ drop 564 new.main) behind ∙ ap (λ l. drop 16 old.side ++ drop 564 l) torn.others.0))
          (λ (shut : get_or new.side 0 0 ≢ 1). inl (effective_shut new.main new.side (shut_by_byte new.side shut) ∙ torn.others.0))
          (cases_eq (get_or new.side 0 0) 1);
      copy = torn.others.1;
      said = torn.others.2;
    }

-- where Main has the header that Side has, the store stays
pub gate_same : {n : ℕ} {old new : Image} → n ≡ 1 → length old.side ≡ 580 → drop 16 old.side ++ drop 564 old.main ≡ old.main → TornAt Side 0 n old new → SameStore old new
gate_same {n} {old} {new} count size twice torn =
    let either : EitherStore old new = gate_either count size torn in
    let now : effective new.main new.side ≡ old.main = ⊎_elim (λ e. e) (λ e. e ∙ twice) either.store in
    let before : effective old.main old.side ≡ old.main = ⊎_elim
    (λ (gate : get_or old.side 0 0 ≡ 1). effective_open old.main old.side (opened old.side size gate) ∙ twice)
    (λ (shut : get_or old.side 0 0 ≢ 1). effective_shut old.main old.side (shut_by_byte old.side shut))
    (cases_eq (get_or old.side 0 0) 1) in
    record { store = now ∙ sym before; main = ap length torn.others.0; side = λ short. omega (arith, size, count, torn.torn.no_longer); copy = either.copy; said = either.said }

pub opened_now : (old : List ℕ) → length old ≡ 580 → IsOpen (drop 16 old) (1 ∷ drop 1 old)
opened_now old size = record {
  size = omega (arith, length-drop 1 old, size);
  gate = refl;
  behind = drop-drop 15 1 old;
}

-- settle: the header in Side counts, whatever a crash leaves of Main's own
pub settle_open : {n : ℕ} {h : List ℕ} {old new : Image} → IsOpen h old.side → TornAt Main 0 n old new → IsOpen h new.side
settle_open {n} {h} {old} {new} opens torn = subst (IsOpen h) (sym torn.others.0) opens

pub settle_same : {n : ℕ} {h : List ℕ} {old new : Image} → n ≡ 564 → IsOpen h old.side → 564 ≤ length old.main → TornAt Main 0 n old new → SameStore old new
settle_same {n} {h} {old} {new} count opens long torn =
    let rest : drop 564 new.main ≡ drop 564 old.main = torn_drop torn.torn 564 (omega (arith, count)) long in
    let after : IsOpen h new.side = settle_open opens torn in
    record {
      store = effective_open new.main new.side (opened new.side after.size after.gate)
          ∙ ap (λ l. drop 16 l ++ drop 564 new.main) torn.others.0
          ∙ ap (λ l. drop 16 old.side ++ l) rest
          ∙ sym (effective_open old.main old.side (opened old.side opens.size opens.gate));
      main = torn_length torn.torn (omega (arith, count, long));
      side = λ short. omega (arith, after.size);
      copy = torn.others.1;
      said = torn.others.2;
    }

-- one byte written at the front
pub after_first : (old : List ℕ) (byte : ℕ) → after_write old 0 (byte ∷ []) ≡ byte ∷ drop 1 old
after_first old byte = after_write_within old 0 (byte ∷ []) (omega arith)

-- a Side that is short stays short while its first byte is written
pub short_same : {n : ℕ} {old new : Image} → n ≡ 1 → length old.side < 580 → TornAt Side 0 n old new → SameStore old new
short_same {n} {old} {new} count short torn =
    both_shut
    (shut_by_size old.side (λ size. omega (arith, short, size)))
    (shut_by_size new.side (λ size. omega (arith, short, size, count, torn.torn.no_longer)))
    torn.others.0 torn.others.1 torn.others.2 (λ small. omega (arith, short, count, torn.torn.no_longer))

-- behind a first byte that is 0 anything may be written
pub zero_same : {n : ℕ} {old new : Image} → n ≤ 579 → 0 < length old.side → get_or old.side 0 0 ≡ 0 → TornAt Side 1 n old new → SameStore old new
zero_same {n} {old} {new} most some zero torn =
    let now : get_or new.side 0 0 ≡ 0 = torn.torn.below 0 some (omega arith) ∙ zero in
    both_shut (shut_by_byte old.side (λ one. omega (arith, zero, one))) (shut_by_byte new.side (λ one. omega (arith, now, one))) torn.others.0 torn.others.1 torn.others.2 (λ small. omega (arith, small, most, torn.torn.no_longer))

-- after settle, Main has the header that Side has
pub settled_twice : {h : List ℕ} (old new : Image) → IsOpen h old.side → length h ≡ 564 → new.side ≡ old.side → new.main ≡ h ++ drop 564 old.main → drop 16 new.side ++ drop 564 new.main ≡ new.main
settled_twice {h} old new opens long side main =
    ap (λ l. l ++ drop 564 new.main) (ap (drop 16) side ∙ opens.behind)
    ∙ ap (λ l. h ++ l) (ap (drop 564) main ∙ drop_at h (drop 564 old.main) 564 long)
    ∙ sym main

-- and after an arm with Main's own header
pub armed_twice : {h : List ℕ} (old new : Image) → IsArmed h new.side → h ≡ take 564 old.main → new.main ≡ old.main → drop 16 new.side ++ drop 564 new.main ≡ new.main
armed_twice {h} old new armed header main =
    ap (λ l. l ++ drop 564 new.main) (armed.behind ∙ header ∙ ap (take 564) (sym main)) ∙ take-append-drop 564 new.main
