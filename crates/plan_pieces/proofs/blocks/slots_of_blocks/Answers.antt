use Rattle.std.proofs.Common.{◌≡◌, ◌∙◌, ◌≤◌, ℕ, All, map, sym, ap, subst}
use Rattle.std.proofs.lemmas.List.{take_all}
use Rattle.plan_pieces.specs.Blocks.{slots_of}
use Rattle.plan_pieces.proofs.BlockLaws.{slots-low, slots-high}
use Rattle.plan_pieces.proofs.blocks.slots_of_blocks.Goals as goal

pub returns-clause-low : goal.returns-clause-low
returns-clause-low c =
    let blocks = c.args.blocks.now in
    let e : c.loop-block.sizes.items ≡ map slots_of blocks = c.loop-block.invariant ∙ ap (map slots_of) (take_all c.loop-block.block-index blocks c.loop-block-test.false) in
    subst (All (λ (n : ℕ). 1 ≤ n)) (sym e) (slots-low blocks)

pub returns-clause-high : goal.returns-clause-high
returns-clause-high c =
    let blocks = c.args.blocks.now in
    let e : c.loop-block.sizes.items ≡ map slots_of blocks = c.loop-block.invariant ∙ ap (map slots_of) (take_all c.loop-block.block-index blocks c.loop-block-test.false) in
    subst (All (λ (n : ℕ). n ≤ 128)) (sym e) (slots-high blocks c.requires.small)
