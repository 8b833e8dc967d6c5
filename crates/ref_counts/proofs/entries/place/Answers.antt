use Rattle.std.proofs.Common.{rules, ℕ, ◌^◌, ltb, get_or, arith}
use Rattle.std.specs.List.Sorted.{IsNonDecreasingBy}
use Rattle.std.proofs.lemmas.Bool.{ltb-true, ltb-false}
use Rattle.std.proofs.lemmas.List.Sorted.{IsPartitionedBy-ltb, IsPartitionPoint-from_clause}
use Rattle.ref_counts.specs.Tables.{first}
use Rattle.ref_counts.proofs.TableLaws.{in-order, cut-below, cut-above}
use Rattle.ref_counts.proofs.entries.place.Goals as goal

pub returns-clause-below : goal.returns-clause-below
returns-clause-below c =
    let es = c.args.entries.now in
    let k = c.args.key in
    let sorted : IsNonDecreasingBy first es = λ i j d less within. in-order first 0 (2 ^ 64) es i j d c.requires less within in
    let point = IsPartitionPoint-from_clause (λ (e : ℕ × ℕ). ltb e.0 k) es c.partition_point.result c.partition_point.ensures.partitioned (IsPartitionedBy-ltb first es k sorted) (λ a r f' called. search rules) in
    cut-below first 0 (2 ^ 64) k es c.partition_point.result c.requires (omega arith) c.partition_point.ensures.bound (λ j d before. ltb-true (get_or es j d).0 k (point.0 j d (omega arith) before))

pub returns-clause-above : goal.returns-clause-above
returns-clause-above c =
    let es = c.args.entries.now in
    let k = c.args.key in
    let fits = c.ranges.key.fits in
    let sorted : IsNonDecreasingBy first es = λ i j d less within. in-order first 0 (2 ^ 64) es i j d c.requires less within in
    let point = IsPartitionPoint-from_clause (λ (e : ℕ × ℕ). ltb e.0 k) es c.partition_point.result c.partition_point.ensures.partitioned (IsPartitionedBy-ltb first es k sorted) (λ a r f' called. search rules) in
    cut-above first 0 (2 ^ 64) k es c.partition_point.result c.requires (omega (arith, fits)) c.partition_point.ensures.bound (λ j d from to. ltb-false (get_or es j d).0 k (point.1 j d from to))
