use Rattle.std.proofs.Common.{ℕ, ◌==◌, ◌-◌, ◌/◌, ◌%◌, get_or, ap}
use Rattle.std.proofs.lemmas.Nat.Bits.{shr_and_one}
use Rattle.alloc_map.specs.Packed.{packed_bit}
use Rattle.file_planner.proofs.freeing.is_set.Goals as goal

pub returns : goal.returns
unfolding packed_bit
returns c = ap (λ (b : ℕ). b == 1) (shr_and_one (get_or c.args.page.now (c.args.at / 8) 0) (7 - c.args.at % 8))
