use Rattle.file_blocks.specs.Blocks.{file_of}
use Rattle.pst_commit.proofs.HeldLaws.{leaves_itself}
use Rattle.pst_commit.proofs.Saves.{lays_itself, leaves_now}
use Rattle.pst_commit.proofs.save.unmap.Goals as goal

pub returns-clause-keeps : goal.returns-clause-keeps
returns-clause-keeps g c = λ found N can. (can, λ t. (lays_itself (can.rests t), leaves_itself c.args.header.now (file_of (g.W.Outside.view c.args.w.now).here)))

pub returns-clause-any_moment : goal.returns-clause-any_moment
returns-clause-any_moment g c = λ settled found N can. leaves_now settled can.rests
