use Rattle.std.proofs.Common.{◌≡◌, ◌++◌, drop, true}
use Rattle.std.specs.List.{flat_map, list_all}
use Rattle.restr_codec.specs.Spelling.{is_tagged_value, tagged_bytes}
use Rattle.restr_codec.proofs.writing.push_tagged_values.Given as goal

abbrev pub invariant-loop-value : goal.invariant-loop-value
invariant-loop-value l =
    (l.out.items ++ flat_map tagged_bytes (drop l.value-index l.values) ≡ l.initial.out.items ++ flat_map tagged_bytes l.values)
    × (list_all is_tagged_value (drop l.value-index l.values) ≡ true)
