use Rattle.std.proofs.Common.{◌∙◌, ◌+◌, List, Option, drop, sym, subst, arith}
use Rattle.pst_base.specs.declared.ids.Bid.{Bid}
use Rattle.node_needs.specs.Named.{AllNamed}
use Rattle.node_needs.proofs.StepLaws.{SubsLeft, subs-next}
use Rattle.node_needs.proofs.need.longest_of.Goals as goal

pub loop-ids-preserved : goal.loop-ids-preserved
loop-ids-preserved g c = λ find fs holds named.
    let s = g.S.BlockSource.view c.args.s.now in
    let next = subs-next find s.eof c.args.all.now fs c.loop-ids.most c.loop-ids.ids-index c.ids-item.result c.loop-ids-test.true (c.loop-ids.invariant find fs holds named) in
    let same = c.as_slice.ensures ∙ c.ids-item.is in
    let own : AllNamed find c.as_slice.result.now next.blocks = subst (λ (l : List (Option Bid)). AllNamed find l next.blocks) (sym same) next.named in
    let len = c.in-Some.ensures.some find next.blocks holds own next.short in
    let most = c.max-most.ensures in
    subst (SubsLeft find s.eof (drop (c.loop-ids.ids-index + 1) c.args.all.now) fs) (omega (arith, len, most)) next.left
