use Rattle.std.proofs.Common.{◌≡◌, ◌+◌, ◌-◌, ◌*◌, ◌++◌, [], ◌∷◌, List, ap, ◌∙◌, arith}
use Rattle.pst_base.specs.Fields.{number_at}
use Rattle.subnode_tree.specs.declared.blocks.Listed.{Listed}
use Rattle.subnode_tree.specs.Subnodes.{listed_at, listed_from}
use Rattle.subnode_tree.proofs.ListLaws.{is_laid_out, listed-start, listed-next}
use Rattle.subnode_tree.proofs.blocks.names.Goals as goal

pub u16_at-requires : goal.u16_at-requires
u16_at-requires c = let begins = (is_laid_out 1 510 16 c.args.b.now c.requires).begins in omega (arith, begins)

pub listed_at-requires : goal.listed_at-requires
listed_at-requires c =
    let ends = (is_laid_out 1 510 16 c.args.b.now c.requires).ends in
    let count = c.u16_at.ensures in
    let same = c.from-count.ensures in
    let test = c.loop-i-test.true in
    omega (arith, ends, count, same, test)

pub loop-i-init : goal.loop-i-init
loop-i-init c =
    ap (λ (out : List Listed). out ++ listed_from (number_at 2 2 c.args.b.now - 0) (8 + 16 * 0) c.args.b.now) c.in_ok-listed.ensures.items ∙ listed-start c.args.b.now

pub loop-i-preserved : goal.loop-i-preserved
loop-i-preserved c =
    let count = c.u16_at.ensures in
    let same = c.from-count.ensures in
    let test = c.loop-i-test.true in
    let b = c.args.b.now in
    let i = c.loop-i.i in
    let pushed : c.push.new.self.items ≡ c.loop-i.listed.items ++ listed_at (8 + 16 * i) b ∷ [] =
    c.in_ok-push.ensures.items ∙ ap (λ (entry : Listed). c.loop-i.listed.items ++ entry ∷ []) c.listed_at.ensures in
    ap (λ (out : List Listed). out ++ listed_from (number_at 2 2 b - (i + 1)) (8 + 16 * (i + 1)) b) pushed
    ∙ listed-next c.loop-i.listed.items i b (omega (arith, count, same, test)) c.loop-i.invariant
