use Rattle.std.proofs.Common.{◌∙◌, false, map, ap}
use Rattle.std.specs.Ordering.{nat_cmp}
use Rattle.std.specs.BTreeSet.{contains}
use Rattle.heap_on_node.specs.Heap.{item}
use Rattle.bth_tree.specs.Answers.{seen}
use Rattle.node_values.specs.Subnodes.{data_of, ids_ascend, without}
use Rattle.node_values.proofs.SubLaws.{without-ascends}
use Rattle.property_context.proofs.ValueLaws.{are-props}
use Rattle.property_context.proofs.read.read_pc.Goals as goal

pub from_vec-requires : goal.from_vec-requires
from_vec-requires c =
    are-props (item c.in-Ok.view) (data_of c.in_ok-finder.finder) (map seen c.in-Ok-bth_read.records.items) c.in-Ok-values_at.values.items c.in-Ok-bth_read.ensures.ascend (rw c.as_slice.ensures.value at c.in-Ok-values_at.ensures)

pub returns-clause-ascend : goal.returns-clause-ascend
returns-clause-ascend c = λ h.
    ap (ids_ascend 0) (c.in_ok-without.ensures ∙ ap (without (contains nat_cmp c.in_ok-ids.ids) false) c.in_ok-finder.ensures) ∙ without-ascends (contains nat_cmp c.in_ok-ids.ids) false 0 c.args.subs.now h
