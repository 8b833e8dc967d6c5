use Rattle.std.proofs.Common.{refl}
use Rattle.mapi_values.specs.Values.{in_field}
use Rattle.mapi_values.specs.Columns.{cell_width, ends_rise, in_cell, is_apart, is_layout, is_placed, lies}
use Rattle.mail_tree.proofs.columns.recipients_table.Goals as goal

pub new-table-requires : goal.new-table-requires
unfolding is_layout ends_rise lies is_placed is_apart cell_width in_cell in_field
new-table-requires c = rw c.in_ok-columns.ensures.items refl
