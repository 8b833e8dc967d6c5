use Rattle.std.proofs.Common.{refl}
use Rattle.line_server.proofs.Answered.{filled}
use Rattle.line_server.proofs.pieces.answer_overlong.Goals as goal

pub returns : goal.returns
returns c = filled _ _ _ _ _ 1048576 c.pass.ensures refl c.requires.0 c.requires.1 c.full_answer-answer.ensures.said c.full_answer-answer.ensures.quits
