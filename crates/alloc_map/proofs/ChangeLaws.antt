-- How changes of used slots follow one another.
use Rattle.std.proofs.Common.{◌≡◌, ◌+◌, ℕ, Bool, List, ◌∙◌, inl, inr, arith}
use Rattle.std.proofs.lemmas.Bool.{cases_lt}
use Rattle.alloc_map.specs.Slots.{Becomes}

-- one more slot behind those that have changed
pub Becomes-more : {a b c : List Bool} {slot n : ℕ} {v : Bool} (at m : ℕ) → Becomes a b slot n v → Becomes b c at 1 v → at ≡ slot + n → m ≡ n + 1 → Becomes a c slot m v
Becomes-more {a} {b} {c} {slot} {n} {v} at m h g e f = record {
  size = g.size ∙ h.size;
  inside = λ s low high. elim (cases_lt s at) [
    | inl lt ↦ g.below s lt ∙ h.inside s low (omega arith)
    | inr ge ↦ g.inside s ge (omega arith)
  ];
  below = λ s lt. g.below s (omega arith) ∙ h.below s lt;
  above = λ s le. g.above s (omega arith) ∙ h.above s (omega arith);
}
