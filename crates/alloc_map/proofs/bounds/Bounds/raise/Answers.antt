use Rattle.std.proofs.Common.{inl, inr, arith}
use Rattle.std.proofs.lemmas.Bool.{cases_lt}
use Rattle.alloc_map.proofs.bounds.Bounds.raise.Goals as goal

pub returns : goal.returns
returns c = rw (← c.self.view_is) (record {
  size = c.loop-region.invariant.size;
  raised = λ r low high. c.loop-region.invariant.raised r low (omega arith);
  below = c.loop-region.invariant.below;
  above = λ r past. elim (cases_lt r c.args.from) [ inl lt ↦ c.loop-region.invariant.below r lt | inr ge ↦ let end = c.loop-region.auto.region-end c.requires.ordered in c.loop-region.invariant.above r (omega arith) ];
})
