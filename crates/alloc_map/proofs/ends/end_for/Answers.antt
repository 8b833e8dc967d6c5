use Rattle.std.proofs.Common.{◌≡◌, ◌+◌, ◌-◌, ◌/◌, ◌<◌, max, length, get_or, inl, inr, arith}
use Rattle.std.proofs.lemmas.Bool.{cases_lt}
use Rattle.std.proofs.lemmas.List.{get_or_default}
use Rattle.pst_base.specs.declared.places.Place.{Place}
use Rattle.alloc_map.specs.Ends.{region_end}
use Rattle.alloc_map.proofs.ends.end_for.Goals as goal

pub loop-place-preserved : goal.loop-place-preserved
loop-place-preserved c =
    let places = c.args.places.now in
    let i = c.loop-place.place-index in
    let none : Place = record { ib = 0; len = 0 } in
    let p : Place = get_or places i none in
    let was = c.loop-place.invariant in
    let within : i < length places = c.loop-place-test.true in
    let here = λ (d : Place). get_or_default places i d none within in
    let new : c.max-end-in-loop-place.result ≡ max c.loop-place.end (p.ib + p.len) = c.max-end-in-loop-place.ensures in
    let laid = c.requires.laid i none within in
    record {
      low = omega (arith, was.low, new);
      longer = omega (arith, was.longer, new);
      few = omega (arith, was.few, laid.within, new);
      passed = λ k d lt. elim (cases_lt k i) [
        | inl before ↦ let old = was.passed k d before in omega (arith, old, new)
        | inr after ↦ let same : k ≡ i = omega (arith, after, lt) in rw (same, here d) (omega (arith, new))
      ];
      least = λ m low longer all.
          let old = was.least m low longer (λ k d lt. all k d (omega arith)) in
          let own = all i none (omega arith) in
          omega (arith, old, own, new);
    }

pub returns-clause-least : goal.returns-clause-least
returns-clause-least c =
    let was = c.loop-place.invariant in
    let low = was.low in
    let longer = was.longer in
    record {
      regions = (c.loop-place.end - 17408 + 253951) / 253952;
      ends = omega arith;
      reaches = record {
        longer = omega (arith, low, longer);
        holds = λ k d lt. let end = was.passed k d (omega (arith, c.loop-place-test.false)) in omega (arith, low, end);
      };
      least = λ n reaches.
          let end = was.least (region_end n) (omega arith) reaches.longer (λ k d lt. reaches.holds k d (omega (arith, c.loop-place.auto.place-index-end))) in
          omega (arith, low, end);
    }
