use Rattle.std.proofs.Common.{refl}
use Rattle.mail_tree.specs.Start.{root_hierarchy}
use Rattle.new_store.proofs.tables.root_hierarchy.Goals as goal

pub returns : goal.returns
unfolding root_hierarchy
returns c = rw (c.in_ok-table-4.ensures, c.in_ok-table-3.ensures, c.in_ok-table-2.ensures, c.in_ok-table.ensures) refl
