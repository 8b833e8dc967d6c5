use Rattle.std.proofs.Common.{ap, length, arith}
use Rattle.alloc_map.proofs.CellLaws.{recounted, recount-small}
use Rattle.alloc_map.proofs.cells.Cells.fill.Goals as goal

pub overflow_add-self : goal.overflow_add-self
overflow_add-self c =
    let b = rw (c.cells_until-first.ensures, c.cells_from-last.ensures) at c.free_between-before.ensures in
    let a = rw (c.cells_until-first.ensures, c.cells_from-last.ensures) at c.free_between-after.ensures in
    let small = recount-small c.self.inside.bits c.fill.new.self c.args.from c.args.n c.args.value c.self.inside.free c.free_between-before.result c.free_between-after.result c.self.invariant c.fill.ensures (omega (arith, c.requires.within, ap length c.self.view_is)) b a in
    omega (arith, small.1)

pub overflow_sub-self : goal.overflow_sub-self
overflow_sub-self c =
    let b = rw (c.cells_until-first.ensures, c.cells_from-last.ensures) at c.free_between-before.ensures in
    let a = rw (c.cells_until-first.ensures, c.cells_from-last.ensures) at c.free_between-after.ensures in
    let small = recount-small c.self.inside.bits c.fill.new.self c.args.from c.args.n c.args.value c.self.inside.free c.free_between-before.result c.free_between-after.result c.self.invariant c.fill.ensures (omega (arith, c.requires.within, ap length c.self.view_is)) b a in
    omega (arith, small.0)

pub invariant_of-self : goal.invariant_of-self
invariant_of-self c =
    let b = rw (c.cells_until-first.ensures, c.cells_from-last.ensures) at c.free_between-before.ensures in
    let a = rw (c.cells_until-first.ensures, c.cells_from-last.ensures) at c.free_between-after.ensures in
    recounted c.self.inside.bits c.fill.new.self c.args.from c.args.n c.args.value c.self.inside.free c.free_between-before.result c.free_between-after.result c.self.invariant c.fill.ensures (omega (arith, c.requires.within, ap length c.self.view_is)) b a
