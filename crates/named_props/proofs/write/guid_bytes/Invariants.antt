use Rattle.std.proofs.Common.{◌≡◌, take, true}
use Rattle.std.specs.List.{flat_map}
use Rattle.named_props.proofs.ListLaws.{have_length}
use Rattle.named_props.proofs.write.guid_bytes.Given as goal

abbrev pub invariant-loop-guid : goal.invariant-loop-guid
invariant-loop-guid l = record {
  bytes_are : l.bytes.items ≡ flat_map (λ g. g) (take l.guid-index l.guids);
  each : have_length (λ g. g) 16 (take l.guid-index l.guids) ≡ true;
}
