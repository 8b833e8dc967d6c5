use Rattle.std.proofs.Common.{◌∙◌, ◌≤◌, ◌*◌, ℕ, List, length, ap, sym, subst}
use Rattle.pst_base.specs.declared.ids.Bid.{Bid}
use Rattle.data_tree.specs.Plan.{AreSmall, last_id}
use Rattle.data_tree.proofs.KeepLaws.{none-keys}
use Rattle.data_tree.proofs.SizeLaws.{most-planned, small-planned}
use Rattle.data_tree.proofs.PlanLaws.{few-planned, rise-planned, plain-planned, planned-reads}
use Rattle.data_tree.proofs.plan.plan_data.Goals as goal

pub returns-clause-few : goal.returns-clause-few
returns-clause-few c = rw c.in_ok-blocks.ensures (few-planned c.args.next c.args.blocks.now c.requires.content.few)

pub returns-clause-numbered : goal.returns-clause-numbered
returns-clause-numbered c = rw c.in_ok-blocks.ensures (rise-planned c.args.next c.args.blocks.now)

pub returns-clause-reads : goal.returns-clause-reads
returns-clause-reads c =
    planned-reads c.args.next c.args.blocks.now c.in_ok-blocks.blocks.items c.last_id.result c.in_ok-blocks.ensures (c.last_id.ensures ∙ ap last_id c.as_slice.ensures.value)
    c.requires.content.few c.requires.low c.requires.high c.requires.apart

pub returns-clause-marked : goal.returns-clause-marked
returns-clause-marked c = rw c.in_ok-blocks.ensures (plain-planned c.args.next c.args.blocks.now c.requires.apart)

pub returns-clause-most : goal.returns-clause-most
returns-clause-most c = subst (λ (l : List (Bid × List ℕ)). 2 * length l ≤ 3 * length c.args.blocks.now) (sym c.in_ok-blocks.ensures) (most-planned c.args.next c.args.blocks.now)

pub returns-clause-small : goal.returns-clause-small
returns-clause-small c = subst (λ (l : List (Bid × List ℕ)). AreSmall l) (sym c.in_ok-blocks.ensures) (small-planned c.args.next c.args.blocks.now c.requires.content)

pub returns-clause-reaches : goal.returns-clause-reaches
returns-clause-reaches c = none-keys c.args.next c.args.blocks.now c.in_ok-blocks.blocks.items c.last_id.result c.in_ok-blocks.ensures (c.last_id.ensures ∙ ap last_id c.as_slice.ensures.value)
    c.requires.content.few c.requires.low c.requires.high c.requires.apart
