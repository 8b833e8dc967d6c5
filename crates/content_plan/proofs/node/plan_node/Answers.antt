use Rattle.std.proofs.Common.{◌∷◌, [], ◌+◌, Option, ap, sym, subst, ◌∙◌}
use Rattle.node_port.specs.declared.node.NodeRec.{NodeRec}
use Rattle.content_plan.specs.Plan.{IsCounted, PlansContents}
use Rattle.content_plan.specs.Told.{content_at, keys_at}
use Rattle.content_plan.proofs.TellLaws.{parts-rise}
use Rattle.content_plan.proofs.node.plan_node.Goals as goal

pub returns-in_default-clause-counted : goal.returns-in_default-clause-counted
returns-in_default-clause-counted g c =
    let nid = c.args.change.now.0 in
    let plan = c.in_ok-removed.field-0 in
    let P : Option NodeRec → Type 0 = λ o. IsCounted c.args.next nid.bits (nid.bits + 1) ((nid, o) ∷ []) plan.edits.items plan.blocks.items in
    subst P (sym c.in_default.is) (c.in_ok-removed.ensures.counted c.args.next)

pub returns-in_default-clause-plans : goal.returns-in_default-clause-plans
returns-in_default-clause-plans g c = λ find es told.
    let nid = c.args.change.now.0 in
    let plan = c.in_ok-removed.field-0 in
    let P : Option NodeRec → Type 0 = λ o. PlansContents find c.args.header.now.eof c.args.limit es ((nid, o) ∷ []) plan.edits.items plan.blocks.items plan.taken.items plan.put.items in
    let there = c.in_ok-entry.ensures.found find es told in
    subst P (sym c.in_default.is) (c.in_ok-removed.ensures.plans find c.args.header.now.eof c.args.limit es (parts-rise told) there (c.in_ok-keys.ensures.keys find es (c.look.ensures.keeps find es told) there))

pub returns-clause-plans : goal.returns-clause-plans
returns-clause-plans g c = λ find es told.
    let nid = c.args.change.now.0 in
    let plan = c.in_ok-placed.field-0.0 in
    let P : Option NodeRec → Type 0 = λ o. PlansContents find c.args.header.now.eof c.args.limit es ((nid, o) ∷ []) plan.edits.items plan.blocks.items plan.taken.items plan.put.items in
    let there = c.in_ok-entry.ensures.found find es told in
    let mid = c.look.ensures.keeps find es told in
    let late = c.old_keys.ensures.keeps find es mid in
    subst P (sym c.in-Some.is) (c.in_ok-placed.ensures.plans find c.args.header.now.eof es (parts-rise told) (c.in_ok-keys.ensures.keys find es mid there ∙ ap (keys_at find) (sym there)) (c.in_ok-old.ensures.old find es late) (c.in_ok-old.ensures.exact find es late ∙ ap (content_at find c.args.header.now.eof) (sym there)))
