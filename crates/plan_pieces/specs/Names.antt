-- Ids and places of new pages.
use Rattle.std.specs.Prelude.{ℕ, ◌+◌, nat_lt, if◌then◌else◌, List, map, length, slice_index_or}
use Rattle.pst_base.specs.declared.ids.Bref.{Bref}
use Rattle.pst_base.specs.declared.places.Place.{Place}
use Rattle.btree_pages.specs.declared.inner.Inner.{Inner}
use Rattle.tree_edit.specs.declared.plan.Child.{Child}
use Rattle.tree_edit.specs.Plans.{resolve}

-- the id and the place of the new page with a number: ids from first on, places in order; behind the last place both are 0
unfoldable pub named : ℕ → List Place → ℕ → Bref
named first places i =
    if nat_lt i (length places) then record { bid = record { bits = first + i }; ib = (slice_index_or places i (record { ib = 0; len = 0 })).ib }
    else record { bid = record { bits = 0 }; ib = 0 }

-- the entries of an inner page with these children
abbrev pub inner_entries : (ℕ → Bref) → List (ℕ × Child) → List Inner
inner_entries name cs = map (λ c. record { key = c.0; page = resolve name c.1 }) cs
