use Rattle.std.proofs.Common.{◌-◌, ◌+◌, ◌/◌, arith}
use Rattle.copy_layout.proofs.next.end_of_regions.Goals as goal

pub returns : goal.returns
returns c =
    let past = c.max-past.ensures in
    record {
      regions = (c.max-past.result - 17408 + 253951) / 253952;
      some = omega (arith, past);
      ends = omega arith;
      enough = omega (arith, past);
      least = λ n some enough. omega (arith, past, some, enough);
    }
