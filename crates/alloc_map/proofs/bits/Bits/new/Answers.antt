use Rattle.std.proofs.Common.{◌∙◌, ap}
use Rattle.alloc_map.specs.Packed.{bits_of}
use Rattle.alloc_map.proofs.BitLaws.{bits_of-zeros}
use Rattle.alloc_map.proofs.bits.Bits.new.Goals as goal

pub returns : goal.returns
returns c = ap bits_of c.in_ok-zeros.ensures ∙ bits_of-zeros c.args.bytes
