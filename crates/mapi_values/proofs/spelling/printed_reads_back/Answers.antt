use Rattle.mapi_values.proofs.PrintLaws.{spelled-reads}
use Rattle.mapi_values.proofs.spelling.printed_reads_back.Goals as goal

pub returns : goal.returns
returns c = spelled-reads
