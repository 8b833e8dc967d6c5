use Rattle.std.proofs.Common.{◌≡◌, ◌++◌, ℕ, List, drop, map}
use Rattle.std.specs.List.{flat_map}
use Rattle.table_context.specs.Answers.{raw_seen}
use Rattle.table_context.specs.Rows.{row_names}
use Rattle.table_context.proofs.kept.used.Given as goal

-- the names so far, with those of the other rows, are all
abbrev pub invariant-loop-raw : goal.invariant-loop-raw
invariant-loop-raw l =
    l.ids.items ++ flat_map (λ (r : ℕ × List ℕ). row_names l.from l.columns r.1) (map raw_seen (drop l.raw-index l.raws)) ≡ flat_map (λ (r : ℕ × List ℕ). row_names l.from l.columns r.1) (map raw_seen l.raws)
