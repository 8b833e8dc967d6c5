use Rattle.std.proofs.Common.{◌+◌, ◌*◌, refl}
use Rattle.file_planner.proofs.FreeingLaws.{run-released}
use Rattle.file_planner.proofs.freeing.free_run.Goals as goal

pub returns-clause-freed : goal.returns-clause-freed
returns-clause-freed c = run-released c.args.all.now c.release.new.self c.regions-regions.result c.args.from c.args.n (record { ib = 0x4400 + 64 * c.args.from; len = 64 * c.args.n }) refl refl c.regions-regions.ensures.size c.requires.some c.release.ensures.freed
