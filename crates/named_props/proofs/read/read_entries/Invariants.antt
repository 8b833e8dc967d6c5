use Rattle.std.proofs.Common.{◌≡◌, map, take, true}
use Rattle.std.specs.Prelude.{IsTrue}
use Rattle.std.specs.List.{list_all}
use Rattle.named_props.specs.Entries.{entry_of, fits_id, in_range}
use Rattle.named_props.proofs.read.read_entries.Given as goal

abbrev pub invariant-loop-chunk : goal.invariant-loop-chunk
invariant-loop-chunk l = record {
  entries_are : l.entries.items ≡ map entry_of (take l.chunk-index l.chunks);
  range : IsTrue (list_all in_range l.entries.items);
  numbers : list_all fits_id l.entries.items ≡ true;
}
