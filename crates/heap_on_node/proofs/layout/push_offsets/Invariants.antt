use Rattle.std.proofs.Common.{◌≡◌, ◌<◌, ◌^◌, ◌+◌, ◌++◌, drop}
use Rattle.std.specs.List.{flat_map}
use Rattle.byteorder.specs.Endian.{little_bytes}
use Rattle.heap_on_node.specs.Layout.{offsets, total}
use Rattle.heap_on_node.proofs.layout.push_offsets.Given as goal

abbrev pub invariant-loop-size : goal.invariant-loop-size
invariant-loop-size l =
    (l.at + total (drop l.size-index l.sizes) < 2 ^ 16)
    × (l.out.items ++ flat_map (little_bytes 2) (offsets l.at (drop l.size-index l.sizes)) ≡ l.fn.out.items ++ flat_map (little_bytes 2) (offsets l.from l.sizes))
