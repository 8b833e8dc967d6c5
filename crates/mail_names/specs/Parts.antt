-- The command `name`, part by part.
use Rattle.std.specs.Prelude.{ℕ, ◌+◌, List, Option, None, Some, if◌then◌else◌}
use Rattle.named_props.specs.Adding.{is_full, next_index}
use Rattle.named_props.specs.declared.names.Names.{Names}

-- the property that a new name gets, where there is room for it
abbrev pub property_given : Names → List ℕ → ℕ → Option ℕ
property_given n guid number = if is_full n guid number then None else Some (0x8000 + next_index n.entries)
