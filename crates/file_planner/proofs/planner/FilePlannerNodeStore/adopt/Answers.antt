use Rattle.std.proofs.Common.{◌≡◌, ◌∙◌, Bool, List, refl, sym, ap, subst}
use Rattle.alloc_map.specs.Taken.{Taken}
use Rattle.ref_counts.specs.declared.table.RefChange.{RefChange}
use Rattle.ref_counts.specs.Changes.{HasRoomFor, change_of, number_by}
use Rattle.ref_counts.specs.Tables.{refs_in}
use Rattle.file_planner.specs.Knowing.{placing}
use Rattle.file_planner.proofs.ComesLaws.{holding-on}
use Rattle.file_planner.proofs.StayLaws.{adopted}
use Rattle.file_planner.proofs.planner.FilePlannerNodeStore.adopt.Goals as goal

pub returns-clause-known : goal.returns-clause-known
returns-clause-known g c = λ header file after.
    let p = c.args.self.now in
    let q = c.clear.new.self in
    let e = c.args.adopts in
    let clear = c.clear.ensures in
    let taken = c.as_slice-taken.ensures.value in
    let freed = c.as_slice-freed.ensures.value in
    adopted p q e header file clear.blocks clear.nodes
    (λ mid last takes frees.
    let one : c.retake.new.self ≡ mid = c.retake.ensures.taken mid (subst (Taken p.slots mid) (sym taken) takes) in
    let two : c.release.new.self ≡ last = c.release.ensures.freed last (subst (λ (s : List Bool). Taken last s c.as_slice-freed.result.now) (sym one) (subst (Taken last mid) (sym freed) frees)) in
    clear.slots ∙ two)
    (λ mid last united holding takes takes_united frees.
    holding-on last last c.follow.new.self.pins.items q.held.pins.items c.follow.new.self.all q.held.all refl (ap (λ v. v.items) clear.pins) clear.union
    (c.follow.ensures.holding p.slots mid last united holding (subst (Taken p.slots mid) (sym taken) takes) (subst (Taken (placing p) united) (sym taken) takes_united) (subst (Taken last mid) (sym freed) frees)))
    (λ room key.
    ap (λ r. refs_in r key) clear.refs ∙ c.adopt.ensures (subst (HasRoomFor p.refs) (sym c.as_slice.ensures.value) room) key ∙ ap (λ (cs : List RefChange). number_by (change_of key cs) (refs_in p.refs key)) c.as_slice.ensures.value)
    clear.pages clear.block clear.page after
