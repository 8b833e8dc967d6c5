use Rattle.std.proofs.Common.{◌≡◌, ◌+◌, ◌-◌, ◌*◌, ◌++◌, [], ◌∷◌, List, ap, ◌∙◌, arith}
use Rattle.pst_base.specs.Fields.{number_at}
use Rattle.subnode_tree.specs.declared.blocks.SubEntry.{SubEntry}
use Rattle.subnode_tree.specs.Subnodes.{entry_at, entries_from}
use Rattle.subnode_tree.proofs.ListLaws.{is_laid_out, entries-start, entries-next}
use Rattle.subnode_tree.proofs.blocks.entries.Goals as goal

pub u16_at-requires : goal.u16_at-requires
u16_at-requires c = let begins = (is_laid_out 0 340 24 c.args.b.now c.requires).begins in omega (arith, begins)

pub entry_at-requires : goal.entry_at-requires
entry_at-requires c =
    let ends = (is_laid_out 0 340 24 c.args.b.now c.requires).ends in
    let count = c.u16_at.ensures in
    let same = c.from-count.ensures in
    let test = c.loop-i-test.true in
    omega (arith, ends, count, same, test)

pub loop-i-init : goal.loop-i-init
loop-i-init c =
    ap (λ (out : List SubEntry). out ++ entries_from c.args.level (number_at 2 2 c.args.b.now - 0) (8 + 24 * 0) c.args.b.now) c.in_ok-entries.ensures.items ∙ entries-start c.args.level c.args.b.now

pub loop-i-preserved : goal.loop-i-preserved
loop-i-preserved c =
    let count = c.u16_at.ensures in
    let same = c.from-count.ensures in
    let test = c.loop-i-test.true in
    let b = c.args.b.now in
    let i = c.loop-i.i in
    let pushed : c.push.new.self.items ≡ c.loop-i.entries.items ++ entry_at c.args.level (8 + 24 * i) b ∷ [] =
    c.in_ok-push.ensures.items ∙ ap (λ (entry : SubEntry). c.loop-i.entries.items ++ entry ∷ []) c.entry_at.ensures in
    ap (λ (out : List SubEntry). out ++ entries_from c.args.level (number_at 2 2 b - (i + 1)) (8 + 24 * (i + 1)) b) pushed
    ∙ entries-next c.args.level c.loop-i.entries.items i b (omega (arith, count, same, test)) c.loop-i.invariant
