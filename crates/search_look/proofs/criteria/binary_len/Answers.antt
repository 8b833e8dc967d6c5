use Rattle.mail_searches.proofs.Said.{looked}
use Rattle.search_look.proofs.criteria.binary_len.Goals as goal

pub returns : goal.returns
returns c = looked c.in_ok-bytes.bytes.now _ c.in_ok-bytes.ensures.bytes c.in_ok-bytes.ensures.fit c.byte_count.ensures
