use Rattle.std.proofs.Common.{◌≡◌, ◌∙◌, ◌-◌, ◌*◌, ◌≤◌, List, refl, sym, subst, arith}
use Rattle.lays_kept.specs.declared.Piece.{Piece}
use Rattle.node_layout.specs.Growth.{AllGrow, EndsAt}
use Rattle.plan_pieces.specs.Growth.{growth_of, regions_in}
use Rattle.plan_pieces.proofs.GrowLaws.{all-grow, growth-ends, growth-size, region-last, region-next, region-none, size_of}
use Rattle.plan_pieces.proofs.regions.growth.Goals as goal

pub loop-region-init : goal.loop-region-init
loop-region-init c = c.new-pieces.ensures.items ∙ region-none c.args.eof (regions_in c.args.eof) (regions_in c.args.eof) refl

pub loop-region-preserved : goal.loop-region-preserved
loop-region-preserved c =
    let low : regions_in c.args.eof ≤ c.loop-region.region = c.loop-region.auto.region in
    region-next c.args.eof (regions_in c.args.eof) c.loop-region.region c.loop-region.pieces.items c.push_region.new.pieces.items low c.loop-region.invariant c.in_ok-push_region.ensures

pub returns-clause-exact : goal.returns-clause-exact
returns-clause-exact c =
    let order = c.requires.order in
    let low : regions_in c.args.eof ≤ regions_in c.args.end = omega (arith, order) in
    let top : c.loop-region.region ≤ regions_in c.args.end = c.loop-region.auto.region-end low in
    c.loop-region.invariant ∙ region-last c.args.eof c.args.end c.loop-region.region low c.loop-region-test.false top

pub returns-clause-grows : goal.returns-clause-grows
returns-clause-grows c =
    let order = c.requires.order in
    let low : regions_in c.args.eof ≤ regions_in c.args.end = omega (arith, order) in
    let top : c.loop-region.region ≤ regions_in c.args.end = c.loop-region.auto.region-end low in
    let is : c.loop-region.pieces.items ≡ growth_of c.args.eof c.args.end = c.loop-region.invariant ∙ region-last c.args.eof c.args.end c.loop-region.region low c.loop-region-test.false top in
    subst (AllGrow c.args.eof) (sym is) (all-grow c.args.eof c.args.end)

pub returns-clause-ends : goal.returns-clause-ends
returns-clause-ends c = λ lt.
    let order = c.requires.order in
    let low : regions_in c.args.eof ≤ regions_in c.args.end = omega (arith, order) in
    let top : c.loop-region.region ≤ regions_in c.args.end = c.loop-region.auto.region-end low in
    let is : c.loop-region.pieces.items ≡ growth_of c.args.eof c.args.end = c.loop-region.invariant ∙ region-last c.args.eof c.args.end c.loop-region.region low c.loop-region-test.false top in
    subst (EndsAt c.args.end) (sym is) (growth-ends c.args.eof c.args.end c.requires.low c.requires.whole lt)

pub returns-clause-bound : goal.returns-clause-bound
returns-clause-bound c =
    let order = c.requires.order in
    let low : regions_in c.args.eof ≤ regions_in c.args.end = omega (arith, order) in
    let top : c.loop-region.region ≤ regions_in c.args.end = c.loop-region.auto.region-end low in
    let is : c.loop-region.pieces.items ≡ growth_of c.args.eof c.args.end = c.loop-region.invariant ∙ region-last c.args.eof c.args.end c.loop-region.region low c.loop-region-test.false top in
    subst (λ (l : List Piece). size_of l ≤ 1537 * (regions_in c.args.end - regions_in c.args.eof)) (sym is) (growth-size c.args.eof c.args.end)
