use Rattle.std.proofs.Common.{◌≡◌, ◌≤◌, ◌++◌, ℕ, List, length}
use Rattle.std.specs.Ordering.{nat_cmp}
use Rattle.std.specs.BTreeMap.{get, btree_map_len}
use Rattle.pst_base.specs.declared.subs.Sub.{Sub}
use Rattle.mapi_values.specs.Keyed.{find_key}
use Rattle.node_values.specs.Subnodes.{sub_id}
use Rattle.mail_objects.proofs.message.order.by_id.Given as goal

-- the subnodes that were taken off stand in the map
abbrev pub invariant-loop-sub : goal.invariant-loop-sub
invariant-loop-sub l =
    (taken : List Sub) × (l.subs.items ++ taken ≡ l.fn.subs.items) × ((nid : ℕ) → get nat_cmp l.map nid ≡ find_key sub_id nid taken) × (btree_map_len l.map ≤ length taken)

abbrev pub decreases-loop-sub : goal.decreases-loop-sub
decreases-loop-sub l = length l.subs.items
