use Rattle.restr_codec.proofs.SeveralLaws.{ValuesSoFar}
use Rattle.restr_codec.proofs.values.read_tagged_values.Given as goal

abbrev pub invariant-loop-turn : goal.invariant-loop-turn
invariant-loop-turn l = ValuesSoFar l.count l.bytes l._turn l.values.items l.rest
