use Rattle.std.proofs.Common.{◌∙◌, ap, refl, subst}
use Rattle.pst_outside.specs.World.{Image}
use Rattle.node_port.specs.Stops.{Room}
use Rattle.file_open.specs.Opening.{IsLooked, StopsLooking}
use Rattle.file_open.specs.Stops.{of_tree, of_scan}
use Rattle.file_layout.proofs.Underway.{untouched_then}
use Rattle.file_open.proofs.Files.{scan_stops_look}
use Rattle.file_open.proofs.Keepers.{looked, passed_on, refused_look, scanned}
use Rattle.file_open.proofs.open.look_file.Goals as goal

pub returns-in_err-found-clause-refused : goal.returns-in_err-found-clause-refused
returns-in_err-found-clause-refused g c =
    let stop = c.in_err-found.field-0.0 in
    passed_on (λ s. (g.W.Outside.view c.scan_file.new.w).tells → StopsLooking (g.W.Outside.view c.args.w.now).here s) (of_scan stop) c.from_residual.result c.from_residual.ensures.1
    (λ told.
    subst (λ (i : Image). StopsLooking i (of_scan stop)) (c.scan_file.ensures.same.stays.here told)
    (scan_stops_look (g.W.Outside.view c.scan_file.new.w).here stop (c.in_err-found.ensures.refused told)))

pub returns-in_err-tree-clause-refused : goal.returns-in_err-tree-clause-refused
returns-in_err-tree-clause-refused g c =
    let stop = c.in_err-tree.field-0.0 in
    passed_on (λ s. (g.W.Outside.view c.look_store.new.w).tells → StopsLooking (g.W.Outside.view c.args.w.now).here s) (of_tree stop) c.from_residual-in_err-tree.result c.from_residual-in_err-tree.ensures.1
    (λ told.
    let s = scanned c.scan_file.ensures.same c.keep.ensures.same c.in_ok-found.ensures.found c.in_ok-keeper.ensures.kept (c.look_store.ensures.looks.world.stays.told told) in
    subst (λ (i : Image). StopsLooking i (of_tree stop)) s.here (refused_look s.is s.made stop c.in_err-tree.ensures.stops))

pub returns-clause-looked : goal.returns-clause-looked
returns-clause-looked g c = λ told.
    let s = scanned c.scan_file.ensures.same c.keep.ensures.same c.in_ok-found.ensures.found c.in_ok-keeper.ensures.kept (c.look_store.ensures.looks.world.stays.told told) in
    let k = c.look_store.new.keeper in
    subst (λ (i : Image). IsLooked (g.S.NodeStore.knows k.store) k.found k.header i (g.W.Outside.view c.look_store.new.w) c.in_ok-tree.tree) s.here
    (looked s.is s.made c.in_ok-tree.tree c.look_store.ensures.looks refl refl c.in_ok-tree.ensures.found)

pub returns-clause-same : goal.returns-clause-same
returns-clause-same g c = untouched_then (untouched_then c.scan_file.ensures.same c.keep.ensures.same) c.look_store.ensures.looks.world

pub returns-clause-no_pins : goal.returns-clause-no_pins
returns-clause-no_pins g c = ap (λ (r : Room). r.pins) c.look_store.ensures.looks.space ∙ c.in_ok-keeper.ensures.no_pins
