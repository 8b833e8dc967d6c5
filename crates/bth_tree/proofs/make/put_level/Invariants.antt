use Rattle.std.proofs.Common.{◌≡◌, ◌+◌, ◌++◌, List, ℕ, length}
use Rattle.bth_tree.specs.Making.{AreRecords, MakesLevel, chunks, per_item}
use Rattle.bth_tree.proofs.make.put_level.Given as goal

abbrev pub invariant-loop-rest : goal.invariant-loop-rest
invariant-loop-rest l = record {
  level : (done : List (ℕ × List ℕ)) × (done ++ l.rest ≡ l.recs) × MakesLevel l.fn.h l.h l.k done l.pairs.items;
  records : AreRecords l.k l.e l.rest;
  count : length l.pairs.items + chunks (per_item (l.k + l.e)) (length l.rest) ≡ chunks (per_item (l.k + l.e)) (length l.recs);
}

abbrev pub decreases-loop-rest : goal.decreases-loop-rest
decreases-loop-rest l = length l.rest
