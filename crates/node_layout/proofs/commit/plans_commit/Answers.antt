use Rattle.node_layout.proofs.PlannedLaws.{planned-commits}
use Rattle.node_layout.proofs.commit.plans_commit.Goals as goal

pub returns : goal.returns
returns c = λ found file N last stands new sealed growth planned blocks nodes cs up plan next room shows. planned-commits found file N last stands new sealed growth planned blocks nodes cs up plan next room shows
