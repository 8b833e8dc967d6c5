use Rattle.std.proofs.Common.{rules}
use Rattle.pst_outside.specs.Calls.{Settled}
use Rattle.pst_outside.proofs.Moments.{weaker, continues}
use Rattle.gate_file.proofs.Steps.{Armed, Opens, Laid, arm_under, armed, fire_under, fired, settle_under, laid, disarm_under, committed}
use Rattle.gate_file.proofs.commit.commit_header.Goals as goal

pub returns-in_err-arm-clause-any_moment : goal.returns-in_err-arm-clause-any_moment
returns-in_err-arm-clause-any_moment g c = λ settled closed long.
    let w0 = g.W.Outside.view c.args.w.now in
    let w1 = g.W.Outside.view c.arm.new.w in
    let first = weaker _ (c.arm.ensures.any_moment settled) (λ i t torn. arm_under (closed (c.arm.ensures.content.told t)) torn) in
    first

pub returns-in_err-fire-clause-any_moment : goal.returns-in_err-fire-clause-any_moment
returns-in_err-fire-clause-any_moment g c = λ settled closed long.
    let w0 = g.W.Outside.view c.args.w.now in
    let w1 = g.W.Outside.view c.arm.new.w in
    let w2 = g.W.Outside.view c.fire.new.w in
    let told1 : w1.tells → w0.tells = λ t. c.arm.ensures.content.told t in
    let at1 : w1.tells → Armed c.args.h.now w0.here w1.here = λ t. armed (c.arm.ensures.content.here t) (c.in_ok-arm.ensures.armed closed t) in
    let first = weaker _ (c.arm.ensures.any_moment settled) (λ i t torn. arm_under (closed (c.arm.ensures.content.told t)) torn) in
    let s1 : Settled w1 = c.in_ok-arm.ensures.settled settled in
    let second = continues first (c.fire.ensures.any_moment s1) (λ i t torn. fire_under (at1 (c.fire.ensures.content.told t)) torn) in
    second

pub returns-in_err-settle-clause-any_moment : goal.returns-in_err-settle-clause-any_moment
returns-in_err-settle-clause-any_moment g c = λ settled closed long.
    let w0 = g.W.Outside.view c.args.w.now in
    let w1 = g.W.Outside.view c.arm.new.w in
    let w2 = g.W.Outside.view c.fire.new.w in
    let w3 = g.W.Outside.view c.settle.new.w in
    let told1 : w1.tells → w0.tells = λ t. c.arm.ensures.content.told t in
    let at1 : w1.tells → Armed c.args.h.now w0.here w1.here = λ t. armed (c.arm.ensures.content.here t) (c.in_ok-arm.ensures.armed closed t) in
    let told2 : w2.tells → w1.tells = λ t. c.fire.ensures.content.told t in
    let at2 : w2.tells → Opens c.args.h.now w0.here w2.here = λ t. fired (at1 (told2 t)) (c.fire.ensures.content.here t) (c.in_ok-fire.ensures.fired (λ u. (at1 u).armed.size) t) in
    let first = weaker _ (c.arm.ensures.any_moment settled) (λ i t torn. arm_under (closed (c.arm.ensures.content.told t)) torn) in
    let s1 : Settled w1 = c.in_ok-arm.ensures.settled settled in
    let second = continues first (c.fire.ensures.any_moment s1) (λ i t torn. fire_under (at1 (c.fire.ensures.content.told t)) torn) in
    let s2 : Settled w2 = c.in_ok-fire.ensures.settled s1 in
    let third = continues second (c.settle.ensures.any_moment s2) (λ i t torn. settle_under (long (told1 (told2 (c.settle.ensures.content.told t)))) (at2 (c.settle.ensures.content.told t)) torn) in
    third

pub returns-in_err-disarm-clause-any_moment : goal.returns-in_err-disarm-clause-any_moment
returns-in_err-disarm-clause-any_moment g c = λ settled closed long.
    let w0 = g.W.Outside.view c.args.w.now in
    let w1 = g.W.Outside.view c.arm.new.w in
    let w2 = g.W.Outside.view c.fire.new.w in
    let w3 = g.W.Outside.view c.settle.new.w in
    let w4 = g.W.Outside.view c.disarm.new.w in
    let told1 : w1.tells → w0.tells = λ t. c.arm.ensures.content.told t in
    let at1 : w1.tells → Armed c.args.h.now w0.here w1.here = λ t. armed (c.arm.ensures.content.here t) (c.in_ok-arm.ensures.armed closed t) in
    let told2 : w2.tells → w1.tells = λ t. c.fire.ensures.content.told t in
    let at2 : w2.tells → Opens c.args.h.now w0.here w2.here = λ t. fired (at1 (told2 t)) (c.fire.ensures.content.here t) (c.in_ok-fire.ensures.fired (λ u. (at1 u).armed.size) t) in
    let told3 : w3.tells → w2.tells = λ t. c.settle.ensures.content.told t in
    let at3 : w3.tells → Laid c.args.h.now w0.here w3.here = λ t. laid (at2 (told3 t)) (c.settle.ensures.content.here t) (c.in_ok-settle.ensures.main t) in
    let first = weaker _ (c.arm.ensures.any_moment settled) (λ i t torn. arm_under (closed (c.arm.ensures.content.told t)) torn) in
    let s1 : Settled w1 = c.in_ok-arm.ensures.settled settled in
    let second = continues first (c.fire.ensures.any_moment s1) (λ i t torn. fire_under (at1 (c.fire.ensures.content.told t)) torn) in
    let s2 : Settled w2 = c.in_ok-fire.ensures.settled s1 in
    let third = continues second (c.settle.ensures.any_moment s2) (λ i t torn. settle_under (long (told1 (told2 (c.settle.ensures.content.told t)))) (at2 (c.settle.ensures.content.told t)) torn) in
    let s3 : Settled w3 = c.in_ok-settle.ensures.settled s2 in
    let fourth = continues third (c.disarm.ensures.any_moment s3) (λ i t torn. disarm_under (search rules) (long (told1 (told2 (told3 (c.disarm.ensures.content.told t))))) (at3 (c.disarm.ensures.content.told t)) torn) in
    fourth

pub returns-clause-any_moment : goal.returns-clause-any_moment
returns-clause-any_moment g c = λ settled closed long.
    let w0 = g.W.Outside.view c.args.w.now in
    let w1 = g.W.Outside.view c.arm.new.w in
    let w2 = g.W.Outside.view c.fire.new.w in
    let w3 = g.W.Outside.view c.settle.new.w in
    let w4 = g.W.Outside.view c.disarm.new.w in
    let told1 : w1.tells → w0.tells = λ t. c.arm.ensures.content.told t in
    let at1 : w1.tells → Armed c.args.h.now w0.here w1.here = λ t. armed (c.arm.ensures.content.here t) (c.in_ok-arm.ensures.armed closed t) in
    let told2 : w2.tells → w1.tells = λ t. c.fire.ensures.content.told t in
    let at2 : w2.tells → Opens c.args.h.now w0.here w2.here = λ t. fired (at1 (told2 t)) (c.fire.ensures.content.here t) (c.in_ok-fire.ensures.fired (λ u. (at1 u).armed.size) t) in
    let told3 : w3.tells → w2.tells = λ t. c.settle.ensures.content.told t in
    let at3 : w3.tells → Laid c.args.h.now w0.here w3.here = λ t. laid (at2 (told3 t)) (c.settle.ensures.content.here t) (c.in_ok-settle.ensures.main t) in
    let first = weaker _ (c.arm.ensures.any_moment settled) (λ i t torn. arm_under (closed (c.arm.ensures.content.told t)) torn) in
    let s1 : Settled w1 = c.in_ok-arm.ensures.settled settled in
    let second = continues first (c.fire.ensures.any_moment s1) (λ i t torn. fire_under (at1 (c.fire.ensures.content.told t)) torn) in
    let s2 : Settled w2 = c.in_ok-fire.ensures.settled s1 in
    let third = continues second (c.settle.ensures.any_moment s2) (λ i t torn. settle_under (long (told1 (told2 (c.settle.ensures.content.told t)))) (at2 (c.settle.ensures.content.told t)) torn) in
    let s3 : Settled w3 = c.in_ok-settle.ensures.settled s2 in
    let fourth = continues third (c.disarm.ensures.any_moment s3) (λ i t torn. disarm_under (search rules) (long (told1 (told2 (told3 (c.disarm.ensures.content.told t))))) (at3 (c.disarm.ensures.content.told t)) torn) in
    fourth

pub returns-clause-committed : goal.returns-clause-committed
returns-clause-committed g c = λ closed t.
    let w0 = g.W.Outside.view c.args.w.now in
    let w1 = g.W.Outside.view c.arm.new.w in
    let w2 = g.W.Outside.view c.fire.new.w in
    let w3 = g.W.Outside.view c.settle.new.w in
    let w4 = g.W.Outside.view c.disarm.new.w in
    let told1 : w1.tells → w0.tells = λ t. c.arm.ensures.content.told t in
    let at1 : w1.tells → Armed c.args.h.now w0.here w1.here = λ t. armed (c.arm.ensures.content.here t) (c.in_ok-arm.ensures.armed closed t) in
    let told2 : w2.tells → w1.tells = λ t. c.fire.ensures.content.told t in
    let at2 : w2.tells → Opens c.args.h.now w0.here w2.here = λ t. fired (at1 (told2 t)) (c.fire.ensures.content.here t) (c.in_ok-fire.ensures.fired (λ u. (at1 u).armed.size) t) in
    let told3 : w3.tells → w2.tells = λ t. c.settle.ensures.content.told t in
    let at3 : w3.tells → Laid c.args.h.now w0.here w3.here = λ t. laid (at2 (told3 t)) (c.settle.ensures.content.here t) (c.in_ok-settle.ensures.main t) in
    committed (at3 (c.disarm.ensures.content.told t)) (c.disarm.ensures.content.here t) (c.in_ok-disarm.ensures.closed t)
