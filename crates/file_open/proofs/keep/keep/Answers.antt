use Rattle.std.proofs.Common.{ap}
use Rattle.pst_commit.specs.Keeping.{pins_of}
use Rattle.file_open.proofs.Keepers.{kept}
use Rattle.file_open.proofs.keep.keep.Goals as goal

pub returns-clause-kept : goal.returns-clause-kept
returns-clause-kept g c = λ told.
    kept (g.S.NodeStore.knows c.in_ok-store.store) c.in_ok-bytes.bytes (g.W.Outside.view c.found_header.new.w) c.args.found told (c.in_ok-bytes.ensures.bytes told) c.in_ok-store.ensures.known

pub returns-clause-no_pins : goal.returns-clause-no_pins
returns-clause-no_pins g c = ap (pins_of 0) c.in_ok-store.ensures.no_pins
