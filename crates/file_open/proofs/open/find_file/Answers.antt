use Rattle.std.proofs.Common.{◌∙◌, ap, refl, sym, subst}
use Rattle.pst_outside.specs.World.{Image}
use Rattle.node_port.specs.Stops.{Room}
use Rattle.mail_searches.specs.Searching.{Searching}
use Rattle.file_open.specs.Opening.{IsChecked, IsOpened, ReadsFresh, StopsOpening}
use Rattle.file_open.specs.Stops.{of_tree, of_scan}
use Rattle.file_open.specs.declared.stops.FileRefusal.TheVariants.{Ids}
use Rattle.file_open.specs.declared.stops.FileStop.TheVariants.{Refused}
use Rattle.file_layout.proofs.Underway.{untouched_then}
use Rattle.file_open.proofs.Files.{scan_stops}
use Rattle.file_open.proofs.Keepers.{checked, fresh, numbers_left, opened, passed_on, refused_tree, scanned, spent_stops}
use Rattle.file_open.proofs.open.find_file.Goals as goal

pub returns-in_err-found-clause-refused : goal.returns-in_err-found-clause-refused
returns-in_err-found-clause-refused g c =
    let stop = c.in_err-found.field-0.0 in
    passed_on (λ s. (g.W.Outside.view c.scan_file.new.w).tells → StopsOpening (g.W.Outside.view c.args.w.now).here s) (of_scan stop) c.from_residual.result c.from_residual.ensures.1
    (λ told.
    subst (λ (i : Image). StopsOpening i (of_scan stop)) (c.scan_file.ensures.same.stays.here told)
    (scan_stops (g.W.Outside.view c.scan_file.new.w).here stop (c.in_err-found.ensures.refused told)))

pub returns-in_err-tree-clause-refused : goal.returns-in_err-tree-clause-refused
returns-in_err-tree-clause-refused g c =
    let stop = c.in_err-tree.field-0.0 in
    passed_on (λ s. (g.W.Outside.view c.open_store.new.w).tells → StopsOpening (g.W.Outside.view c.args.w.now).here s) (of_tree stop) c.from_residual-in_err-tree.result c.from_residual-in_err-tree.ensures.1
    (λ told.
    let s = scanned c.scan_file.ensures.same c.keep.ensures.same c.in_ok-found.ensures.found c.in_ok-keeper.ensures.kept (c.open_store.ensures.looks.world.stays.told told) in
    subst (λ (i : Image). StopsOpening i (of_tree stop)) s.here (refused_tree s.is s.made stop c.in_err-tree.ensures.stops))

pub returns-then-spent-clause-refused : goal.returns-then-spent-clause-refused
returns-then-spent-clause-refused g c = λ told.
    let s = scanned c.scan_file.ensures.same c.keep.ensures.same c.in_ok-found.ensures.found c.in_ok-keeper.ensures.kept (c.open_store.ensures.looks.world.stays.told told) in
    subst (λ (i : Image). StopsOpening i (Refused Ids)) s.here
    (spent_stops s.is s.made (opened s.is s.made c.in_ok-tree.tree c.open_store.ensures.looks refl refl c.in_ok-tree.ensures.found) (sym c.is_spent-spent.ensures ∙ c.if-spent.true))

pub returns-clause-reads : goal.returns-clause-reads
returns-clause-reads g c = λ told.
    let s = scanned c.scan_file.ensures.same c.keep.ensures.same c.in_ok-found.ensures.found c.in_ok-keeper.ensures.kept (c.open_store.ensures.looks.world.stays.told told) in
    subst (λ (i : Image). (X : Searching) × ReadsFresh i X) s.here
    (fresh s.is s.made (opened s.is s.made c.in_ok-tree.tree c.open_store.ensures.looks refl refl c.in_ok-tree.ensures.found) (sym c.is_spent-spent.ensures ∙ c.if-spent.false))

pub returns-clause-opened : goal.returns-clause-opened
returns-clause-opened g c = λ told.
    let s = scanned c.scan_file.ensures.same c.keep.ensures.same c.in_ok-found.ensures.found c.in_ok-keeper.ensures.kept (c.open_store.ensures.looks.world.stays.told told) in
    let k = c.open_store.new.keeper in
    subst (λ (i : Image). IsOpened (g.S.NodeStore.knows k.store) k.found k.header i (g.W.Outside.view c.open_store.new.w) c.in_ok-tree.tree) s.here
    (opened s.is s.made c.in_ok-tree.tree c.open_store.ensures.looks refl refl c.in_ok-tree.ensures.found)

pub returns-clause-no_pins : goal.returns-clause-no_pins
returns-clause-no_pins g c = ap (λ (r : Room). r.pins) c.open_store.ensures.looks.space ∙ c.in_ok-keeper.ensures.no_pins

pub returns-clause-same : goal.returns-clause-same
returns-clause-same g c = untouched_then (untouched_then c.scan_file.ensures.same c.keep.ensures.same) c.open_store.ensures.looks.world

pub returns-clause-checked : goal.returns-clause-checked
returns-clause-checked g c = λ told.
    let s = scanned c.scan_file.ensures.same c.keep.ensures.same c.in_ok-found.ensures.found c.in_ok-keeper.ensures.kept (c.open_store.ensures.looks.world.stays.told told) in
    subst (λ (i : Image). IsChecked i (record { header = c.in_ok-found.found.header; next_block = c.in_ok-found.found.next_block; next_page = c.in_ok-found.found.next_page })) s.here (checked s.is)

pub returns-clause-left : goal.returns-clause-left
returns-clause-left g c = numbers_left c.in_ok-found.found.next_block c.in_ok-found.found.next_page (sym c.is_spent-spent.ensures ∙ c.if-spent.false)
