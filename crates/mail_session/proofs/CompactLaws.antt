-- What a copy without holes is read as.
use Rattle.std.proofs.Common.{◌≡◌, ◌∙◌, ℕ, List, [], Result, Ok, Err, IfErr, refl, sym, ap, subst, arith}
use Rattle.pst_outside.specs.World.{Image, World}
use Rattle.pst_outside.specs.Calls.{Rose, Untouched}
use Rattle.pst_header.specs.declared.header.Header.{Header}
use Rattle.node_port.specs.Nodes.{Nodes}
use Rattle.lays_kept.specs.Stands.{AreThose}
use Rattle.compactor.specs.Compacted.{IsCompacted, StopsCompact}
use Rattle.compactor.specs.Source.{IsSource}
use Rattle.compactor.specs.declared.source.Source.{Source}
use Rattle.copy_pieces.specs.declared.stops.CompactStop.{CompactStop}
use Rattle.copy_pieces.specs.declared.stops.CompactStop.TheVariants as compacts
use Rattle.file_layout.proofs.Underway.{untouched_then}
use Rattle.file_mending.specs.file_open.Opening.{HasLeft, IsChecked, LaysNodes, Reads, ReadsFresh, StopsOpening}
use Rattle.file_mending.specs.file_open.declared.open.CheckedFile.{CheckedFile}
use Rattle.file_mending.specs.file_open.declared.stops.FileStop.{FileStop}
use Rattle.file_mending.specs.file_open.declared.stops.FileStop.TheVariants as opens
use Rattle.file_mending.proofs.file_open_laws.Files.{header_once, same_nodes, some_nodes}
use Rattle.mail_searches.specs.Searching.{Searching}
use Rattle.mail_session.specs.Compact.{IsLarge, IsUnopened, StopsCopying, file_alone, of_compact, of_file}
use Rattle.mail_session.specs.declared.compacting.CopyStop.{CopyStop}
use Rattle.mail_session.specs.declared.compacting.CopyStop.TheVariants.{Changed, Fault, Large, Memory, NotEmpty, Refused}

-- the copy is read as the tree that the files are read as
pub reads_alone : {image : Image} {source : Source} {eof : ℕ} {copy : List ℕ} → IsCompacted image source eof copy → (X : Searching) → ReadsFresh image X → Reads (file_alone copy) X
reads_alone {image} {source} is X fresh =
    let from = is.source_is in
    let laid = (fresh.reads).laid in
    let there = some_nodes from.m in
    let own : LaysNodes image there.0 source.header.indexes = record { header = source.header; opened = from.opened; m = from.m; lays = from.lays; those = there.1; counters = refl } in
    let same : (fresh.reads).nodes ≡ there.0 = same_nodes laid own in
    record {
      nodes = (fresh.reads).nodes;
      laid = record {
        header = is.header;
        opened = is.opened;
        m = from.m;
        lays = is.lays;
        those = subst (λ (N : Nodes). AreThose from.m N) (sym same) there.1;
        counters = (is.succeeds).indexes ∙ ap (λ (h : Header). h.indexes) (header_once image source.header laid.header from.opened laid.opened) ∙ laid.counters;
      };
      shows = (fresh.reads).shows;
    }

-- ---- the source

pub checked_source : {image : Image} {file : CheckedFile} → IsChecked image file → HasLeft file → IsSource image (record { header = file.header; next_block = file.next_block; next_page = file.next_page })
checked_source is left = record { opened = is.opened; m = is.m; lays = is.lays; block_number = is.blocks; page_number = is.pages; blocks_left = left.0; pages_left = left.1 }

-- ---- stops

-- of the opening
pub finding_stops : {old new : World} (stop : FileStop) → Untouched old new → (stop ≡ opens.Fault → Rose old.disk_faults new.disk_faults) → (new.tells → StopsOpening old.here stop) → StopsCopying (of_file stop) old new
finding_stops (opens.Refused refusal) same fault why = (same, why)
finding_stops opens.Fault same fault why = fault refl
finding_stops (opens.Changed ib stored computed) same fault why = why
finding_stops opens.Memory same fault why = tt

-- of the making
pub making_stops : (old new : World) (source : Source) (stop : CompactStop) → (stop ≡ compacts.Fault → Rose old.disk_faults new.disk_faults) → StopsCompact source stop old new → StopsCopying (of_compact stop) old new
making_stops old new source compacts.Fault fault stops = fault refl
making_stops old new source (compacts.Changed ib stored computed) fault stops = stops
making_stops old new source (compacts.Large eof) fault stops = (stops.0, λ t. (source, stops.1 t))
making_stops old new source compacts.Memory fault stops = tt

-- a stop behind calls that changed nothing
pub later_stops : {old mid : World} (new : World) (stop : CopyStop) → Untouched old mid → StopsCopying stop mid new → StopsCopying stop old new
later_stops {old} {mid} new NotEmpty same s =
    (untouched_then same s.0, λ t. subst (λ (i : Image). i.copy ≡ [] → ⊥) (same.stays.here (s.0.stays.told t)) (s.1 t))
later_stops {old} {mid} new (Refused refusal) same s =
    (untouched_then same s.0, λ t. subst (λ (i : Image). IsUnopened i refusal) (same.stays.here (s.0.stays.told t)) (s.1 t))
later_stops {old} {mid} new (Large eof) same s =
    (untouched_then same s.0, λ t. subst (λ (i : Image). IsLarge i eof) (same.stays.here (s.0.stays.told t)) (s.1 t))
later_stops {old} {mid} new Fault same s = rose s
  where
    rose : Rose mid.disk_faults new.disk_faults → Rose old.disk_faults new.disk_faults
    rose r = omega (arith, same.counts.disk_faults, r)
later_stops {old} {mid} new (Changed ib stored computed) same s = s
later_stops {old} {mid} new Memory same s = tt

-- the same of what the call answers
pub later_result : {old mid : World} (new : World) (r : Result ℕ CopyStop) → Untouched old mid → IfErr r (λ s. StopsCopying s mid new) → IfErr r (λ s. StopsCopying s old new)
later_result new (Ok eof) same s = tt
later_result new (Err stop) same s = later_stops new stop same s
