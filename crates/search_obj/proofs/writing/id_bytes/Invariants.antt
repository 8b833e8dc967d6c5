use Rattle.std.proofs.Common.{◌≡◌, map, take, true}
use Rattle.std.specs.List.{list_all}
use Rattle.search_obj.specs.Writing.{id_bytes, is_id}
use Rattle.search_obj.proofs.writing.id_bytes.Given as goal

abbrev pub invariant-loop-id : goal.invariant-loop-id
invariant-loop-id l = record {
  bytes_are : l.bytes.items ≡ id_bytes (map (λ n. n.bits) (take l.id-index l.ids));
  fit : list_all is_id (map (λ n. n.bits) (take l.id-index l.ids)) ≡ true;
}
