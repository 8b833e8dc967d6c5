use Rattle.byteorder.specs.Numbers.{length-bytes_low_first}
use Rattle.search_obj.proofs.ValueLaws.{number_fits}
use Rattle.search_obj.proofs.writing.put_number.Goals as goal

pub put_bytes-requires : goal.put_bytes-requires
put_bytes-requires c = rw c.requires (number_fits _ (rw (c.in_ok-bytes.ensures, c.to_le_bytes.ensures) (length-bytes_low_first 0 4 c.args.number)))
