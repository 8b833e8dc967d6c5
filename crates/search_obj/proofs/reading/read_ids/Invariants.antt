use Rattle.std.proofs.Common.{◌≡◌, map, take}
use Rattle.search_obj.specs.Objects.{number_in}
use Rattle.search_obj.proofs.reading.read_ids.Given as goal

abbrev pub invariant-loop-chunk : goal.invariant-loop-chunk
invariant-loop-chunk l = map (λ n. n.bits) l.ids.items ≡ map number_in (take l.chunk-index l.chunks)
