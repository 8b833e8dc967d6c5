use Rattle.std.proofs.Common.{◌≡◌, ℕ, List, Option, None, subst}
use Rattle.pst_base.specs.declared.ids.Nid.{Nid}
use Rattle.node_port.specs.declared.node.NodeRec.{NodeRec}
use Rattle.mail_searches.specs.Criteria.{Coming}
use Rattle.mail_searches.specs.Step.{outcome}
use Rattle.pinned_session.specs.store_session.mail_store.Planning.{PlansTo}
use Rattle.pinned_session.specs.store_session.search_folders.Comings.{new_or_old}
use Rattle.pinned_session.specs.store_session.search_store.declared.planned.PlannedSearch.{PlannedSearch}
use Rattle.staged_nodes.specs.Room.{room_beside}
use Rattle.staged_nodes.specs.Staging.{Fits}
use Rattle.staged_nodes.specs.declared.staging.StagedReady.{StagedReady}
use Rattle.staged_nodes.specs.declared.staging.Staging.{Staging}
use Rattle.staged_store.specs.Planning.{PlansWithin}
use Rattle.staged_store.proofs.MakeLaws.{coming_alike, plans_alike}
use Rattle.staged_store.proofs.TellLaws.{keeps_under, staged_under, stores_over}
use Rattle.staged_store.proofs.reading.plan_under.Goals as goal

pub returns-clause-answer : goal.returns-clause-answer
returns-clause-answer g c = λ base tidy F X was h.
    let v = g.W.Outside.view c.args.world.now in
    let over = stores_over g.P.AroundStaged.held g.P.AroundStaged.told g.P.AroundStaged.last g.P.AroundStaged.staged (g.K.NodeReader.holds c.args.store.store.keeper v) (g.K.NodeReader.pinned c.args.store.store.keeper v) (g.K.NodeReader.last c.args.store.store.keeper) (g.K.NodeReader.room c.args.store.store.keeper) c.args.staging.now base c.args.store.store.known c.args.store.searches tidy F X c.requires.held c.requires.told c.requires.counted c.requires.staged was h in
    let w = g.W.Outside.view c.plan_counted-planned.new.w in
    let k = c.plan_counted-planned.new.store.store.keeper in
    let looks = c.plan_counted-planned.ensures.looks in
    let M = over.tree.shown.nodes in
    let s = c.args.staging.now in
    let same = staged_under g.P.AroundStaged.held g.P.AroundStaged.told g.P.AroundStaged.last g.P.AroundStaged.staged (g.K.NodeReader.holds k.keeper w) (g.K.NodeReader.pinned k.keeper w) (g.K.NodeReader.last k.keeper) (g.K.NodeReader.room k.keeper) k.staging.now s k.done M (looks.stays M over.tree.shown.held) c.requires.are in
    let fits : StagedReady → List ℕ → List (Nid × Option NodeRec) → Type 0 = λ ready last cs. (k.done ≡ None) × Fits k.staging.now ready last cs in
    let plans : Coming → PlannedSearch StagedReady → Type 0 = λ o p. PlansTo fits X.tree o.outcome p.tree.change p.tree.places p.tree.flags.items p.tree.reply × (o.own ≡ new_or_old X.own p.own) × (o.searches ≡ new_or_old X.searches p.searches) in
    coming_alike (room_beside s.size (g.K.NodeReader.room c.args.store.store.keeper)) plans (PlansWithin s X)
    (λ o p is. (plans_alike fits (Fits s) (λ ready last cs fit. subst (λ (t : Staging). Fits t ready last cs) same fit.1) X.tree o.outcome p.tree.change p.tree.places p.tree.flags.items p.tree.reply is.0, is.1, is.2))
    (outcome X c.args.command.now) c.plan_counted-planned.result (c.plan_counted-planned.ensures.answer X over)

pub returns-clause-stays : goal.returns-clause-stays
returns-clause-stays g c = λ base tidy F X was h.
    let v = g.W.Outside.view c.args.world.now in
    let over = stores_over g.P.AroundStaged.held g.P.AroundStaged.told g.P.AroundStaged.last g.P.AroundStaged.staged (g.K.NodeReader.holds c.args.store.store.keeper v) (g.K.NodeReader.pinned c.args.store.store.keeper v) (g.K.NodeReader.last c.args.store.store.keeper) (g.K.NodeReader.room c.args.store.store.keeper) c.args.staging.now base c.args.store.store.known c.args.store.searches tidy F X c.requires.held c.requires.told c.requires.counted c.requires.staged was h in
    let w = g.W.Outside.view c.plan_counted-planned.new.w in
    let k = c.plan_counted-planned.new.store.store.keeper in
    let looks = c.plan_counted-planned.ensures.looks in
    let M = over.tree.shown.nodes in
    keeps_under g.P.AroundStaged.held g.P.AroundStaged.told g.P.AroundStaged.last g.P.AroundStaged.staged (g.K.NodeReader.holds k.keeper w) (g.K.NodeReader.pinned k.keeper w) (g.K.NodeReader.last k.keeper) (g.K.NodeReader.room k.keeper) (g.K.NodeReader.room c.args.store.store.keeper) k.staging.now c.args.staging.now k.done M (looks.stays M over.tree.shown.held) c.requires.are looks.space
