use Rattle.std.proofs.Common.{◌≡◌, get_or, length-drop, ◌<◌, ◌≤◌, ◌∷◌, length, drop, refl, sym, ap, subst, arith, rules}
use Rattle.pst_outside.specs.Calls.{Settled}
use Rattle.pst_outside.proofs.Moments.{stays_settled}
use Rattle.gate_file.specs.Gate.{IsShut}
use Rattle.gate_file.proofs.Effects.{short_same, zero_same, laid_now}
use Rattle.gate_file.proofs.Recovery.{untouched_keeps, keeps_on, tears_keep, still}
use Rattle.gate_file.proofs.recover.lay_gate.Goals as goal

pub returns-in_err-h-clause-keeps : goal.returns-in_err-h-clause-keeps
returns-in_err-h-clause-keeps g c =
    untouched_keeps c.read_header.ensures.same

pub returns-in_err-disarm-clause-keeps : goal.returns-in_err-disarm-clause-keeps
returns-in_err-disarm-clause-keeps g c =
    let same = c.read_header.ensures.same in
    let read = untouched_keeps same in
    let mid = g.W.Outside.view c.read_header.new.w in
    let quiet : Settled (g.W.Outside.view c.args.w.now) → Settled mid = λ s. stays_settled s same in
    let short : mid.tells → length mid.here.side < 580 = still (λ i. length i.side < 580) same c.requires.short in
    let zeroed = keeps_on read quiet (tears_keep c.disarm.ensures.counts c.disarm.ensures.content c.disarm.ensures.any_moment (λ i told torn. short_same refl (short told) torn)) in
    zeroed

pub returns-in_err-arm-clause-keeps : goal.returns-in_err-arm-clause-keeps
returns-in_err-arm-clause-keeps g c =
    let same = c.read_header.ensures.same in
    let read = untouched_keeps same in
    let mid = g.W.Outside.view c.read_header.new.w in
    let quiet : Settled (g.W.Outside.view c.args.w.now) → Settled mid = λ s. stays_settled s same in
    let short : mid.tells → length mid.here.side < 580 = still (λ i. length i.side < 580) same c.requires.short in
    let zeroed = keeps_on read quiet (tears_keep c.disarm.ensures.counts c.disarm.ensures.content c.disarm.ensures.any_moment (λ i told torn. short_same refl (short told) torn)) in
    let last = g.W.Outside.view c.disarm.new.w in
    let side : last.tells → last.here.side ≡ 0 ∷ drop 1 mid.here.side = c.in_ok-disarm.ensures.closed in
    let some : last.tells → 0 < length last.here.side = λ told. subst (λ l. 0 < length l) (sym (side told)) (omega arith) in
    let zero : last.tells → get_or last.here.side 0 0 ≡ 0 = λ told. ap (λ l. get_or l 0 0) (side told) in
    keeps_on zeroed (λ s. c.in_ok-disarm.ensures.settled (quiet s)) (tears_keep c.arm.ensures.counts c.arm.ensures.content c.arm.ensures.any_moment (λ i told torn. zero_same (omega arith) (some told) (zero told) torn))

pub returns-clause-keeps : goal.returns-clause-keeps
returns-clause-keeps g c =
    let same = c.read_header.ensures.same in
    let read = untouched_keeps same in
    let mid = g.W.Outside.view c.read_header.new.w in
    let quiet : Settled (g.W.Outside.view c.args.w.now) → Settled mid = λ s. stays_settled s same in
    let short : mid.tells → length mid.here.side < 580 = still (λ i. length i.side < 580) same c.requires.short in
    let zeroed = keeps_on read quiet (tears_keep c.disarm.ensures.counts c.disarm.ensures.content c.disarm.ensures.any_moment (λ i told torn. short_same refl (short told) torn)) in
    let last = g.W.Outside.view c.disarm.new.w in
    let side : last.tells → last.here.side ≡ 0 ∷ drop 1 mid.here.side = c.in_ok-disarm.ensures.closed in
    let some : last.tells → 0 < length last.here.side = λ told. subst (λ l. 0 < length l) (sym (side told)) (omega arith) in
    let zero : last.tells → get_or last.here.side 0 0 ≡ 0 = λ told. ap (λ l. get_or l 0 0) (side told) in
    keeps_on zeroed (λ s. c.in_ok-disarm.ensures.settled (quiet s)) (tears_keep c.arm.ensures.counts c.arm.ensures.content c.arm.ensures.any_moment (λ i told torn. zero_same (omega arith) (some told) (zero told) torn))

pub returns-clause-shut : goal.returns-clause-shut
returns-clause-shut g c =
    let same = c.read_header.ensures.same in
    let mid = g.W.Outside.view c.read_header.new.w in
    let short : mid.tells → length mid.here.side < 580 = still (λ i. length i.side < 580) same c.requires.short in
    let last = g.W.Outside.view c.disarm.new.w in
    let side : last.tells → last.here.side ≡ 0 ∷ drop 1 mid.here.side = c.in_ok-disarm.ensures.closed in
    let some : last.tells → 0 < length last.here.side = λ told. subst (λ l. 0 < length l) (sym (side told)) (omega arith) in
    let zero : last.tells → get_or last.here.side 0 0 ≡ 0 = λ told. ap (λ l. get_or l 0 0) (side told) in
    λ told.
    let before = c.arm.ensures.content.told told in
    let small : length last.here.side ≤ 580 = subst (λ l. length l ≤ 580) (sym (side before)) (omega (arith, length-drop 1 mid.here.side, short (c.disarm.ensures.content.told before))) in
    subst IsShut (sym (c.in_ok-arm.ensures.after told)) (laid_now last.here.side c.in_ok-h.h (search rules) small (some before) (zero before))

pub returns-clause-settled : goal.returns-clause-settled
returns-clause-settled g c =
    λ s. c.in_ok-arm.ensures.settled (c.in_ok-disarm.ensures.settled (stays_settled s c.read_header.ensures.same))
