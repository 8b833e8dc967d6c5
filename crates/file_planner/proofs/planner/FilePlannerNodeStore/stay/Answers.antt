use Rattle.file_planner.proofs.StayLaws.{emptied, stayed}
use Rattle.file_planner.proofs.planner.FilePlannerNodeStore.stay.Goals as goal

pub returns-clause-known : goal.returns-clause-known
returns-clause-known g c = λ old new file other same knows.
    let e = c.clear.ensures in
    stayed c.args.self.now c.clear.new.self old new file other e.blocks e.nodes (emptied c.args.self.now c.clear.new.self e.slots e.pins e.union e.refs e.pages e.block e.page) same knows
