use Rattle.std.proofs.Common.{◌≡◌, ◌++◌, ◌≤◌, length, drop}
use Rattle.pst_outside.specs.Calls.{Settled}
use Rattle.pst_outside.proofs.Moments.{stays_settled}
use Rattle.gate_file.specs.Gate.{IsClosed, IsArmed}
use Rattle.gate_file.proofs.Effects.{armed_twice}
use Rattle.gate_file.proofs.Recovery.{untouched_keeps, keeps_on, write_keeps, still}
use Rattle.gate_file.proofs.recover.close_anew.Goals as goal

pub returns-in_err-h-clause-keeps : goal.returns-in_err-h-clause-keeps
returns-in_err-h-clause-keeps g c =
    untouched_keeps c.read_header.ensures.same

pub returns-in_err-arm-clause-keeps : goal.returns-in_err-arm-clause-keeps
returns-in_err-arm-clause-keeps g c =
    let same = c.read_header.ensures.same in
    let read = untouched_keeps same in
    let mid = g.W.Outside.view c.read_header.new.w in
    let quiet : Settled (g.W.Outside.view c.args.w.now) → Settled mid = λ s. stays_settled s same in
    let closed : mid.tells → IsClosed mid.here.side = still (λ i. IsClosed i.side) same c.requires.closed in
    let long : mid.tells → 564 ≤ length mid.here.main = still (λ i. 564 ≤ length i.main) same c.requires.long in
    let armed = keeps_on read quiet (write_keeps c.arm.ensures.counts c.arm.ensures.content (c.arm.ensures.store closed) (λ s. c.arm.ensures.same s closed)) in
    armed

pub returns-in_err-disarm-clause-keeps : goal.returns-in_err-disarm-clause-keeps
returns-in_err-disarm-clause-keeps g c =
    let same = c.read_header.ensures.same in
    let read = untouched_keeps same in
    let mid = g.W.Outside.view c.read_header.new.w in
    let quiet : Settled (g.W.Outside.view c.args.w.now) → Settled mid = λ s. stays_settled s same in
    let closed : mid.tells → IsClosed mid.here.side = still (λ i. IsClosed i.side) same c.requires.closed in
    let long : mid.tells → 564 ≤ length mid.here.main = still (λ i. 564 ≤ length i.main) same c.requires.long in
    let armed = keeps_on read quiet (write_keeps c.arm.ensures.counts c.arm.ensures.content (c.arm.ensures.store closed) (λ s. c.arm.ensures.same s closed)) in
    let last = g.W.Outside.view c.arm.new.w in
    let behind : last.tells → IsArmed c.in_ok-h.h last.here.side = c.in_ok-arm.ensures.armed closed in
    let size : last.tells → length last.here.side ≡ 580 = λ told. (behind told).size in
    let twice : last.tells → drop 16 last.here.side ++ drop 564 last.here.main ≡ last.here.main
    = λ told. armed_twice mid.here last.here (behind told) (c.in_ok-h.ensures.header (c.arm.ensures.content.told told) (long (c.arm.ensures.content.told told))) (c.arm.ensures.content.here told).others.0 in
    keeps_on armed (λ s. c.in_ok-arm.ensures.settled (quiet s)) (write_keeps c.disarm.ensures.counts c.disarm.ensures.content (c.disarm.ensures.store size twice) (λ s. c.disarm.ensures.same s size twice))

pub returns-clause-keeps : goal.returns-clause-keeps
returns-clause-keeps g c =
    let same = c.read_header.ensures.same in
    let read = untouched_keeps same in
    let mid = g.W.Outside.view c.read_header.new.w in
    let quiet : Settled (g.W.Outside.view c.args.w.now) → Settled mid = λ s. stays_settled s same in
    let closed : mid.tells → IsClosed mid.here.side = still (λ i. IsClosed i.side) same c.requires.closed in
    let long : mid.tells → 564 ≤ length mid.here.main = still (λ i. 564 ≤ length i.main) same c.requires.long in
    let armed = keeps_on read quiet (write_keeps c.arm.ensures.counts c.arm.ensures.content (c.arm.ensures.store closed) (λ s. c.arm.ensures.same s closed)) in
    let last = g.W.Outside.view c.arm.new.w in
    let behind : last.tells → IsArmed c.in_ok-h.h last.here.side = c.in_ok-arm.ensures.armed closed in
    let size : last.tells → length last.here.side ≡ 580 = λ told. (behind told).size in
    let twice : last.tells → drop 16 last.here.side ++ drop 564 last.here.main ≡ last.here.main
    = λ told. armed_twice mid.here last.here (behind told) (c.in_ok-h.ensures.header (c.arm.ensures.content.told told) (long (c.arm.ensures.content.told told))) (c.arm.ensures.content.here told).others.0 in
    keeps_on armed (λ s. c.in_ok-arm.ensures.settled (quiet s)) (write_keeps c.disarm.ensures.counts c.disarm.ensures.content (c.disarm.ensures.store size twice) (λ s. c.disarm.ensures.same s size twice))

pub returns-clause-settled : goal.returns-clause-settled
returns-clause-settled g c =
    λ s. c.in_ok-disarm.ensures.settled (c.in_ok-arm.ensures.settled (stays_settled s c.read_header.ensures.same))
