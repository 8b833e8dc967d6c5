use Rattle.std.proofs.Common.{◌≡◌, ◌*◌, length, arith}
use Rattle.alloc_map.specs.Slots.{regions_of}
use Rattle.alloc_map.proofs.TakeLaws.{sixteen-each}
use Rattle.alloc_map.proofs.slots.Slots.free_cells.Goals as goal

pub returns-clause-pages : goal.returns-clause-pages
returns-clause-pages c =
    let used = c.self.inside.used in
    let whole : length used ≡ 3968 * regions_of used = omega (arith, c.self.invariant.whole) in
    rw (c.free.ensures, ← c.self.view_is) (sixteen-each used whole)
