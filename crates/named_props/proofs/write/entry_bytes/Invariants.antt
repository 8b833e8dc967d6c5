use Rattle.std.proofs.Common.{◌≡◌, take, true}
use Rattle.std.specs.List.{flat_map, list_all}
use Rattle.named_props.specs.Entries.{bytes_of, fits_id}
use Rattle.named_props.proofs.write.entry_bytes.Given as goal

abbrev pub invariant-loop-entry : goal.invariant-loop-entry
invariant-loop-entry l = record {
  bytes_are : l.bytes.items ≡ flat_map bytes_of (take l.entry-index l.entries);
  fit : list_all fits_id (take l.entry-index l.entries) ≡ true;
}
