use Rattle.std.proofs.Common.{rules, refl}
use Rattle.pst_outside.proofs.Histories.{start_settled}
use Rattle.pst_outside.proofs.memory.MemWorld.new.Goals as goal

pub returns : goal.returns
returns c = record {
  faults = record { in_faults = refl; out_faults = refl; disk_faults = refl; written = refl };
  tells = tt;
  input_left = search rules;
  main_bytes = search rules;
  side_bytes = search rules;
  copy_bytes = search rules;
  said = search rules;
  settled = start_settled c.in_ok-first.first c.new-2.result.items c.new-2.ensures.items;
}
