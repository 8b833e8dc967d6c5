use Rattle.std.proofs.Common.{◌≡◌, ◌∙◌, sym, refl, subst}
use Rattle.file_blocks.specs.Blocks.{file_of}
use Rattle.lays_kept.specs.Saved.{LaysSame, UsesJust, region_end}
use Rattle.pst_commit.specs.Held.{StandsAt, held_at}
use Rattle.pst_commit.specs.Keeping.{CanSave}
use Rattle.pst_commit.proofs.PinLaws.{each_stands, keeps_each}
use Rattle.pst_commit.proofs.Resaved.{can_save, is_saved, nodes_then, rests_keeps, uses_just}
use Rattle.pst_commit.proofs.keeper.FileKeeperSaver.save.Goals as goal

pub returns-in_err-unmapped-clause-any_moment : goal.returns-in_err-unmapped-clause-any_moment
returns-in_err-unmapped-clause-any_moment g c = λ N held settled shut.
    let k = c.args.self.now in
    let old = g.W.Outside.view c.args.w.now in
    let used = g.S.NodeStore.used k.store in
    let right = g.met.S.NodeStore.known_right k.store in
    let regions = c.count_regions-regions.result in
    let end = c.region_end.result in
    let can : CanSave k.found k.header end old N
    = can_save right held shut c.slots.result.now c.regions.result regions end c.slots.ensures c.regions.ensures.size c.count_regions-regions.ensures c.region_end.ensures in
    c.unmap.ensures.any_moment settled k.found N can

pub returns-in_err-self-clause-any_moment : goal.returns-in_err-self-clause-any_moment
returns-in_err-self-clause-any_moment g c = λ N held settled shut.
    let k = c.args.self.now in
    let old = g.W.Outside.view c.args.w.now in
    let used = g.S.NodeStore.used k.store in
    let right = g.met.S.NodeStore.known_right k.store in
    let regions = c.count_regions-regions.result in
    let end = c.region_end.result in
    let can : CanSave k.found k.header end old N
    = can_save right held shut c.slots.result.now c.regions.result regions end c.slots.ensures c.regions.ensures.size c.count_regions-regions.ensures c.region_end.ensures in
    let mid = g.W.Outside.view c.unmap.new.w in
    let unmapped = c.in_ok-unmapped.unmapped in
    let first = c.in_ok-unmapped.ensures.keeps k.found N can in
    let known : mid.tells → g.S.NodeStore.knows c.stay.new.self unmapped (file_of mid.here)
    = λ t. c.stay.ensures.known k.header unmapped (file_of old.here) (file_of mid.here) (first.1 t).0 held.1.known in
    let uses : mid.tells → UsesJust unmapped (file_of mid.here) c.slots-2.result.now
    = λ t. subst (UsesJust unmapped (file_of mid.here)) (sym c.slots-2.ensures) (uses_just (g.met.S.NodeStore.known_right c.stay.new.self) unmapped (file_of mid.here) (known t)) in
    let none = c.in_ok-unmapped.ensures.maps in
    let reach : unmapped.eof ≡ region_end regions = c.in_ok-unmapped.ensures.eof ∙ c.region_end.ensures in
    let next_can : CanSave k.found unmapped (region_end regions) mid N = subst (λ e. CanSave k.found unmapped e mid N) c.region_end.ensures first.0 in
    nodes_then k.found N c.in_ok-unmapped.ensures.trees.indexes c.save_maps.ensures.told (c.unmap.ensures.any_moment settled k.found N can)
    (c.save_maps.ensures.any_moment (c.in_ok-unmapped.ensures.settled settled) k.found N none reach next_can uses)

pub returns-clause-any_moment : goal.returns-clause-any_moment
returns-clause-any_moment g c = λ N held settled shut.
    let k = c.args.self.now in
    let old = g.W.Outside.view c.args.w.now in
    let used = g.S.NodeStore.used k.store in
    let right = g.met.S.NodeStore.known_right k.store in
    let regions = c.count_regions-regions.result in
    let end = c.region_end.result in
    let can : CanSave k.found k.header end old N
    = can_save right held shut c.slots.result.now c.regions.result regions end c.slots.ensures c.regions.ensures.size c.count_regions-regions.ensures c.region_end.ensures in
    let mid = g.W.Outside.view c.unmap.new.w in
    let unmapped = c.in_ok-unmapped.unmapped in
    let first = c.in_ok-unmapped.ensures.keeps k.found N can in
    let known : mid.tells → g.S.NodeStore.knows c.stay.new.self unmapped (file_of mid.here)
    = λ t. c.stay.ensures.known k.header unmapped (file_of old.here) (file_of mid.here) (first.1 t).0 held.1.known in
    let uses : mid.tells → UsesJust unmapped (file_of mid.here) c.slots-2.result.now
    = λ t. subst (UsesJust unmapped (file_of mid.here)) (sym c.slots-2.ensures) (uses_just (g.met.S.NodeStore.known_right c.stay.new.self) unmapped (file_of mid.here) (known t)) in
    let none = c.in_ok-unmapped.ensures.maps in
    let reach : unmapped.eof ≡ region_end regions = c.in_ok-unmapped.ensures.eof ∙ c.region_end.ensures in
    let next_can : CanSave k.found unmapped (region_end regions) mid N = subst (λ e. CanSave k.found unmapped e mid N) c.region_end.ensures first.0 in
    nodes_then k.found N c.in_ok-unmapped.ensures.trees.indexes c.save_maps.ensures.told (c.unmap.ensures.any_moment settled k.found N can)
    (c.save_maps.ensures.any_moment (c.in_ok-unmapped.ensures.settled settled) k.found N none reach next_can uses)

pub returns-clause-same : goal.returns-clause-same
returns-clause-same g c = λ shut disk N held.
    let told = disk refl in
    let k = c.args.self.now in
    let old = g.W.Outside.view c.args.w.now in
    let used = g.S.NodeStore.used k.store in
    let right = g.met.S.NodeStore.known_right k.store in
    let regions = c.count_regions-regions.result in
    let end = c.region_end.result in
    let can : CanSave k.found k.header end old N
    = can_save right held shut c.slots.result.now c.regions.result regions end c.slots.ensures c.regions.ensures.size c.count_regions-regions.ensures c.region_end.ensures in
    let mid = g.W.Outside.view c.unmap.new.w in
    let unmapped = c.in_ok-unmapped.unmapped in
    let first = c.in_ok-unmapped.ensures.keeps k.found N can in
    let known : mid.tells → g.S.NodeStore.knows c.stay.new.self unmapped (file_of mid.here)
    = λ t. c.stay.ensures.known k.header unmapped (file_of old.here) (file_of mid.here) (first.1 t).0 held.1.known in
    let uses : mid.tells → UsesJust unmapped (file_of mid.here) c.slots-2.result.now
    = λ t. subst (UsesJust unmapped (file_of mid.here)) (sym c.slots-2.ensures) (uses_just (g.met.S.NodeStore.known_right c.stay.new.self) unmapped (file_of mid.here) (known t)) in
    let none = c.in_ok-unmapped.ensures.maps in
    let reach : unmapped.eof ≡ region_end regions = c.in_ok-unmapped.ensures.eof ∙ c.region_end.ensures in
    let next_can : CanSave k.found unmapped (region_end regions) mid N = subst (λ e. CanSave k.found unmapped e mid N) c.region_end.ensures first.0 in
    let new = g.W.Outside.view c.save_maps.new.w in
    let next = c.in_ok-self.field-0 in
    let last = c.in_ok-self.ensures.keeps k.found N none reach next_can uses in
    let before : mid.tells = c.save_maps.ensures.told told in
    let laid : LaysSame unmapped next (file_of mid.here) (file_of new.here) = (last.1 told).0 in
    (told, rests_keeps (g.S.NodeStore.knows c.stay-2.new.self) (last.0.rests told) (c.stay-2.ensures.known unmapped next (file_of mid.here) (file_of new.here) laid (known before)))

pub returns-clause-pinned : goal.returns-clause-pinned
returns-clause-pinned g c = λ shut disk N held p M is.
    let told = disk refl in
    let k = c.args.self.now in
    let old = g.W.Outside.view c.args.w.now in
    let used = g.S.NodeStore.used k.store in
    let right = g.met.S.NodeStore.known_right k.store in
    let regions = c.count_regions-regions.result in
    let end = c.region_end.result in
    let can : CanSave k.found k.header end old N
    = can_save right held shut c.slots.result.now c.regions.result regions end c.slots.ensures c.regions.ensures.size c.count_regions-regions.ensures c.region_end.ensures in
    let mid = g.W.Outside.view c.unmap.new.w in
    let unmapped = c.in_ok-unmapped.unmapped in
    let first = c.in_ok-unmapped.ensures.keeps k.found N can in
    let known : mid.tells → g.S.NodeStore.knows c.stay.new.self unmapped (file_of mid.here)
    = λ t. c.stay.ensures.known k.header unmapped (file_of old.here) (file_of mid.here) (first.1 t).0 held.1.known in
    let uses : mid.tells → UsesJust unmapped (file_of mid.here) c.slots-2.result.now
    = λ t. subst (UsesJust unmapped (file_of mid.here)) (sym c.slots-2.ensures) (uses_just (g.met.S.NodeStore.known_right c.stay.new.self) unmapped (file_of mid.here) (known t)) in
    let none = c.in_ok-unmapped.ensures.maps in
    let reach : unmapped.eof ≡ region_end regions = c.in_ok-unmapped.ensures.eof ∙ c.region_end.ensures in
    let next_can : CanSave k.found unmapped (region_end regions) mid N = subst (λ e. CanSave k.found unmapped e mid N) c.region_end.ensures first.0 in
    let new = g.W.Outside.view c.save_maps.new.w in
    let next = c.in_ok-self.field-0 in
    let last = c.in_ok-self.ensures.keeps k.found N none reach next_can uses in
    let before : mid.tells = c.save_maps.ensures.told told in
    let pins = g.S.NodeStore.held k.store in
    let one = each_stands k.header unmapped (file_of old.here) (file_of mid.here) pins (keeps_each _ _ _ _ (first.1 before).1 pins) p M is.1 in
    let two = each_stands unmapped next (file_of mid.here) (file_of new.here) pins (keeps_each _ _ _ _ (last.1 told).2 pins) p M one in
    (told, subst (λ h. StandsAt next (file_of new.here) (held_at p h) M) (sym (c.stay-2.ensures.pins ∙ c.stay.ensures.pins)) two)

pub returns-clause-saved : goal.returns-clause-saved
returns-clause-saved g c = λ N held shut told.
    let k = c.args.self.now in
    let old = g.W.Outside.view c.args.w.now in
    let used = g.S.NodeStore.used k.store in
    let right = g.met.S.NodeStore.known_right k.store in
    let regions = c.count_regions-regions.result in
    let end = c.region_end.result in
    let can : CanSave k.found k.header end old N
    = can_save right held shut c.slots.result.now c.regions.result regions end c.slots.ensures c.regions.ensures.size c.count_regions-regions.ensures c.region_end.ensures in
    let mid = g.W.Outside.view c.unmap.new.w in
    let unmapped = c.in_ok-unmapped.unmapped in
    let first = c.in_ok-unmapped.ensures.keeps k.found N can in
    let known : mid.tells → g.S.NodeStore.knows c.stay.new.self unmapped (file_of mid.here)
    = λ t. c.stay.ensures.known k.header unmapped (file_of old.here) (file_of mid.here) (first.1 t).0 held.1.known in
    let uses : mid.tells → UsesJust unmapped (file_of mid.here) c.slots-2.result.now
    = λ t. subst (UsesJust unmapped (file_of mid.here)) (sym c.slots-2.ensures) (uses_just (g.met.S.NodeStore.known_right c.stay.new.self) unmapped (file_of mid.here) (known t)) in
    let none = c.in_ok-unmapped.ensures.maps in
    let reach : unmapped.eof ≡ region_end regions = c.in_ok-unmapped.ensures.eof ∙ c.region_end.ensures in
    let next_can : CanSave k.found unmapped (region_end regions) mid N = subst (λ e. CanSave k.found unmapped e mid N) c.region_end.ensures first.0 in
    let new = g.W.Outside.view c.save_maps.new.w in
    let next = c.in_ok-self.field-0 in
    let last = c.in_ok-self.ensures.keeps k.found N none reach next_can uses in
    let before : mid.tells = c.save_maps.ensures.told told in
    let laid : LaysSame unmapped next (file_of mid.here) (file_of new.here) = (last.1 told).0 in
    is_saved held.1 c.in_ok-unmapped.ensures.trees c.in_ok-self.ensures.trees c.in_ok-unmapped.ensures.kept c.in_ok-self.ensures.kept (last.0.rests told) (last.1 told).1

pub returns-clause-rests : goal.returns-clause-rests
returns-clause-rests g c = λ shut. c.in_ok-self.ensures.shut (c.in_ok-unmapped.ensures.shut shut)
