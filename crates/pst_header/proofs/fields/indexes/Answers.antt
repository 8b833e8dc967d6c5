use Rattle.std.proofs.Common.{◌+◌, ◌*◌, arith}
use Rattle.std.proofs.lemmas.List.FromFn.{fill_by_all}
use Rattle.pst_base.specs.Fields.{number_at}
use Rattle.pst_header.specs.Format.{indexes_of}
use Rattle.pst_header.proofs.fields.indexes.Goals as goal

pub returns : goal.returns
unfolding indexes_of
returns c =
    fill_by_all (λ k. number_at 4 (44 + 4 * k) c.args.b.now) c.loop-kind.all 32 0 c.loop-kind.invariant.size
    (λ k h. c.loop-kind.invariant.read k (omega arith))
