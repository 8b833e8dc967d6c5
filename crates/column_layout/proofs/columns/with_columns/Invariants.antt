use Rattle.std.proofs.Common.{◌≡◌, ℕ, true, drop}
use Rattle.mapi_values.specs.Columns.{has_column, tag_number}
use Rattle.mapi_values.specs.Keyed.{keys_ascend}
use Rattle.column_layout.specs.Layout.{with_columns}
use Rattle.column_layout.proofs.columns.with_columns.Given as goal

-- the other tags are left, and no column went
abbrev pub invariant-loop-tag : goal.invariant-loop-tag
invariant-loop-tag l = record {
  rest : with_columns (drop l.tag-index l.tags) l.all.items ≡ with_columns l.tags l.columns;
  ascend : keys_ascend tag_number 0 l.all.items ≡ true;
  more : (id kind : ℕ) → has_column l.columns id kind ≡ true → has_column l.all.items id kind ≡ true;
}
