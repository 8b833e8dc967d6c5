use Rattle.file_decode.proofs.StopLaws.{later-stop}
use Rattle.file_decode.proofs.writing.decode_file.Goals as goal

pub returns-in-Err-decode_whole-clause-stops : goal.returns-in-Err-decode_whole-clause-stops
returns-in-Err-decode_whole-clause-stops g c =
    later-stop c.in-Err-decode_whole.stop (g.W.Outside.view c.args.w.now) (g.W.Outside.view c.len.new.self) (g.W.Outside.view c.decode_whole.new.w) c.len.ensures.same c.in-Err-decode_whole.ensures.stops
