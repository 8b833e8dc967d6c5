use Rattle.std.proofs.Common.{refl}
use Rattle.file_planner.proofs.FoundLaws.{knows-found}
use Rattle.file_planner.proofs.found.FilePlannerFoundStore.from_found.Goals as goal

pub returns-clause-known : goal.returns-clause-known
returns-clause-known g c = λ image is. knows-found _ c.args.found image c.in_ok-blocks.ensures c.in_ok-nodes.ensures refl c.new-held.ensures.pins c.new-held.ensures.none refl refl refl refl is
