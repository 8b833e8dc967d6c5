use Rattle.restr_codec.proofs.PartBack.{reading_back}
use Rattle.restr_codec.proofs.reading.written_reads_back.Goals as goal

pub returns : goal.returns
returns c = reading_back
