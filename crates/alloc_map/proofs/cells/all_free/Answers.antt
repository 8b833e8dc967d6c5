use Rattle.std.proofs.Common.{◌≡◌, ◌*◌, ◌/◌, arith}
use Rattle.alloc_map.specs.Cells.{free_below, free_cells_of}
use Rattle.alloc_map.specs.Slots.{regions_of}
use Rattle.alloc_map.proofs.cells.all_free.Goals as goal

pub returns : goal.returns
unfolding free_cells_of free_below
returns c =
    let all : 30 * (c.bytes.result / 496) ≡ 30 * regions_of c.args.bits.now = omega (arith, c.bytes.ensures) in
    omega (arith, rw all at c.free_between.ensures)
