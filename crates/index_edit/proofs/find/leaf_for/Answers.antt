use Rattle.std.proofs.Common.{◌≡◌, ◌-◌, ◌+◌, ◌<◌, ◌∙◌, ℕ, suc, refl, ap, arith}
use Rattle.bth_tree.specs.Tree.{root}
use Rattle.index_edit.proofs.TreeSteps.{find-step, root-is_leaf, root-is_tree}
use Rattle.index_edit.proofs.find.leaf_for.Goals as goal

pub loop-level-init : goal.loop-level-init
loop-level-init g c = λ was get told recs h.
    let all : c.args.top.level - 0 ≡ c.args.top.level = omega arith in
    (recs, ap (λ (n : ℕ). root get 4 4 n c.args.top.root) all ∙ h, refl)

pub loop-level-preserved : goal.loop-level-preserved
loop-level-preserved g c = λ was get told recs h.
    let i = c.loop-level.invariant was get told recs h in
    let n = c.args.top.level - (c.loop-level._level + 1) in
    let less : c.loop-level._level < c.args.top.level = c.loop-level-test.true in
    let next : c.args.top.level - c.loop-level._level ≡ suc n = omega (arith, less) in
    let r = c.in-Ok.ensures.found was get told n i.0 (root-is_tree get (c.args.top.level - c.loop-level._level) n c.loop-level.at i.0 next i.1) in
    let f = find-step get n c.args.key c.loop-level.at i.0 c.in-Ok.place.index c.in-Ok.place.child c.ranges.key.fits r in
    (f.0, f.1, i.2 ∙ f.2)

pub returns-in-Err-clause-why : goal.returns-in-Err-clause-why
returns-in-Err-clause-why g c = λ was get told recs h.
    let i = c.loop-level.invariant was get told recs h in
    let n = c.args.top.level - (c.loop-level._level + 1) in
    let less : c.loop-level._level < c.args.top.level = c.loop-level-test.true in
    let next : c.args.top.level - c.loop-level._level ≡ suc n = omega (arith, less) in
    c.in-Err.ensures.why was get told n i.0 (root-is_tree get (c.args.top.level - c.loop-level._level) n c.loop-level.at i.0 next i.1)

pub returns-clause-found : goal.returns-clause-found
returns-clause-found g c = λ was get told recs h.
    let i = c.loop-level.invariant was get told recs h in
    let last : c.args.top.level - c.loop-level._level ≡ 0 = omega arith in
    (i.0, root-is_leaf get (c.args.top.level - c.loop-level._level) c.loop-level.at i.0 last i.1, i.2)
