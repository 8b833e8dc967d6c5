use Rattle.std.proofs.Common.{◌≡◌, ◌++◌, map, take}
use Rattle.file_layout.specs.Trees.{page_place}
use Rattle.compactor.proofs.placing.push_pages.Given as goal

abbrev pub invariant-loop-page : goal.invariant-loop-page
invariant-loop-page l = l.places.items ≡ l.initial.places.items ++ map page_place (take l.page-index l.pages)
