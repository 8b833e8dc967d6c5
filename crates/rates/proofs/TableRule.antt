-- The entries of the table, computed by the rule.
use Rattle.std.proofs.Common.{◌≡◌, ℕ, ◌<◌, List, map, get_or, refl, ap, ◌∙◌, arith}
use Rattle.std.specs.List.{range_with_len}
use Rattle.std.proofs.lemmas.List.FromFn.{get_or-map-range_with_len}
use Rattle.pst_checksum.specs.Crc.{after_bit, after_bits}
use Rattle.rates.specs.declared.crc.table.TheConstants.{AFTER_8}

whole : AFTER_8 ≡ map (after_bits 8) (range_with_len 0 256)
unfolding after_bit after_bits
whole = refl

pub entry_at : (i : ℕ) → i < 256 → get_or AFTER_8 i 0 ≡ after_bits 8 i
entry_at i h = ap (λ (t : List ℕ). get_or t i 0) whole ∙ get_or-map-range_with_len (after_bits 8) 0 256 i i 0 h (omega arith)
