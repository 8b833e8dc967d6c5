use Rattle.std.proofs.lemmas.List.{take_rest}
use Rattle.pst_checksum.proofs.checksum.after_words.Goals as goal

pub loop-rest-preserved : goal.loop-rest-preserved
loop-rest-preserved c = cc (take_rest c.loop-rest.rest.now 8)
