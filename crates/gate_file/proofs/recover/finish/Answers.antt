use Rattle.std.proofs.Common.{◌≡◌, ◌∙◌, ◌++◌, ◌≤◌, length, drop, ap, arith, rules}
use Rattle.pst_outside.specs.Calls.{Settled}
use Rattle.pst_outside.proofs.Moments.{stays_settled}
use Rattle.gate_file.specs.Gate.{IsOpen, HasOpenGate}
use Rattle.gate_file.proofs.Effects.{settled_twice}
use Rattle.gate_file.proofs.Recovery.{untouched_keeps, keeps_on, write_keeps, still, header_read}
use Rattle.gate_file.proofs.recover.finish.Goals as goal

pub returns-in_err-h-clause-keeps : goal.returns-in_err-h-clause-keeps
returns-in_err-h-clause-keeps g c =
    untouched_keeps c.read_header.ensures.same

pub returns-in_err-settle-clause-keeps : goal.returns-in_err-settle-clause-keeps
returns-in_err-settle-clause-keeps g c =
    let same = c.read_header.ensures.same in
    let read = untouched_keeps same in
    let mid = g.W.Outside.view c.read_header.new.w in
    let quiet : Settled (g.W.Outside.view c.args.w.now) → Settled mid = λ s. stays_settled s same in
    let gate : mid.tells → HasOpenGate mid.here.side = still (λ i. HasOpenGate i.side) same c.requires.gate in
    let long : mid.tells → 564 ≤ length mid.here.main = still (λ i. 564 ≤ length i.main) same c.requires.long in
    let opens : mid.tells → IsOpen c.in_ok-h.h mid.here.side = λ told. header_read (gate told) (c.in_ok-h.ensures.header told (omega (arith, (gate told).size))) in
    let settled = keeps_on read quiet (write_keeps c.settle.ensures.counts c.settle.ensures.content (c.settle.ensures.store opens long) (λ s. c.settle.ensures.same s opens long)) in
    settled

pub returns-in_err-disarm-clause-keeps : goal.returns-in_err-disarm-clause-keeps
returns-in_err-disarm-clause-keeps g c =
    let same = c.read_header.ensures.same in
    let read = untouched_keeps same in
    let mid = g.W.Outside.view c.read_header.new.w in
    let quiet : Settled (g.W.Outside.view c.args.w.now) → Settled mid = λ s. stays_settled s same in
    let gate : mid.tells → HasOpenGate mid.here.side = still (λ i. HasOpenGate i.side) same c.requires.gate in
    let long : mid.tells → 564 ≤ length mid.here.main = still (λ i. 564 ≤ length i.main) same c.requires.long in
    let opens : mid.tells → IsOpen c.in_ok-h.h mid.here.side = λ told. header_read (gate told) (c.in_ok-h.ensures.header told (omega (arith, (gate told).size))) in
    let settled = keeps_on read quiet (write_keeps c.settle.ensures.counts c.settle.ensures.content (c.settle.ensures.store opens long) (λ s. c.settle.ensures.same s opens long)) in
    let last = g.W.Outside.view c.settle.new.w in
    let side : (told : last.tells) → last.here.side ≡ mid.here.side = λ told. (c.settle.ensures.content.here told).others.0 in
    let size : last.tells → length last.here.side ≡ 580 = λ told. ap length (side told) ∙ (gate (c.settle.ensures.content.told told)).size in
    let twice : last.tells → drop 16 last.here.side ++ drop 564 last.here.main ≡ last.here.main
    = λ told. settled_twice mid.here last.here (opens (c.settle.ensures.content.told told)) (search rules) (side told) (c.in_ok-settle.ensures.main told) in
    keeps_on settled (λ s. c.in_ok-settle.ensures.settled (quiet s)) (write_keeps c.disarm.ensures.counts c.disarm.ensures.content (c.disarm.ensures.store size twice) (λ s. c.disarm.ensures.same s size twice))

pub returns-clause-keeps : goal.returns-clause-keeps
returns-clause-keeps g c =
    let same = c.read_header.ensures.same in
    let read = untouched_keeps same in
    let mid = g.W.Outside.view c.read_header.new.w in
    let quiet : Settled (g.W.Outside.view c.args.w.now) → Settled mid = λ s. stays_settled s same in
    let gate : mid.tells → HasOpenGate mid.here.side = still (λ i. HasOpenGate i.side) same c.requires.gate in
    let long : mid.tells → 564 ≤ length mid.here.main = still (λ i. 564 ≤ length i.main) same c.requires.long in
    let opens : mid.tells → IsOpen c.in_ok-h.h mid.here.side = λ told. header_read (gate told) (c.in_ok-h.ensures.header told (omega (arith, (gate told).size))) in
    let settled = keeps_on read quiet (write_keeps c.settle.ensures.counts c.settle.ensures.content (c.settle.ensures.store opens long) (λ s. c.settle.ensures.same s opens long)) in
    let last = g.W.Outside.view c.settle.new.w in
    let side : (told : last.tells) → last.here.side ≡ mid.here.side = λ told. (c.settle.ensures.content.here told).others.0 in
    let size : last.tells → length last.here.side ≡ 580 = λ told. ap length (side told) ∙ (gate (c.settle.ensures.content.told told)).size in
    let twice : last.tells → drop 16 last.here.side ++ drop 564 last.here.main ≡ last.here.main
    = λ told. settled_twice mid.here last.here (opens (c.settle.ensures.content.told told)) (search rules) (side told) (c.in_ok-settle.ensures.main told) in
    keeps_on settled (λ s. c.in_ok-settle.ensures.settled (quiet s)) (write_keeps c.disarm.ensures.counts c.disarm.ensures.content (c.disarm.ensures.store size twice) (λ s. c.disarm.ensures.same s size twice))

pub returns-clause-settled : goal.returns-clause-settled
returns-clause-settled g c =
    λ s. c.in_ok-disarm.ensures.settled (c.in_ok-settle.ensures.settled (stays_settled s c.read_header.ensures.same))
