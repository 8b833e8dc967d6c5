use Rattle.std.proofs.Common.{◌<◌, ◌^◌, ◌≤◌, arith}
use Rattle.std.proofs.Math.Nat.{pow-le-pow_right}
use Rattle.byteorder.specs.Numbers.{little_from-lt}
use Rattle.bth_tree.proofs.record.key_at.Goals as goal

pub returns-clause-fits : goal.returns-clause-fits
returns-clause-fits c = rw c.read_uint.ensures (little_from-lt 0 c.args.k c.args.b.now (λ i. omega (arith, c.type_inv.b i)))

pub overflow_cast-result : goal.overflow_cast-result
overflow_cast-result c =
    let small : c.read_uint.result < 256 ^ c.args.k = rw c.read_uint.ensures (little_from-lt 0 c.args.k c.args.b.now (λ i. omega (arith, c.type_inv.b i))) in
    let most : 256 ^ c.args.k ≤ 256 ^ 4 = pow-le-pow_right {n = 256} (omega arith) {i = c.args.k} {j = 4} c.requires.high in
    omega arith
