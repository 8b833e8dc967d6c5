use Rattle.std.proofs.Common.{rules, ◌≡◌}
use Rattle.pst_outside.specs.Memory.{start}
use Rattle.pst_outside.specs.Replay.{part_of, replay, picked}
use Rattle.pst_outside.proofs.Histories.{sane}
use Rattle.pst_outside.proofs.Picks.{picked_image}
use Rattle.pst_outside.proofs.memory.MemWorld.crash.Goals as goal

pub returns-clause-image : goal.returns-clause-image
returns-clause-image c =
    let world = c.args.self.now in
    let value : c.in_ok-bytes.bytes ≡ picked c.args.pick (part_of c.args.part (replay (start world.first) world.events.items)) = search rules in
    picked_image c.args.part (replay (start world.first) world.events.items) c.args.pick c.in_ok-bytes.bytes (sane world.first world.events.items) value
