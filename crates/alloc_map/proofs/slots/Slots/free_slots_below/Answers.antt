use Rattle.std.proofs.Common.{◌≡◌, ◌+◌, ◌-◌, ◌/◌, min, length, arith}
use Rattle.alloc_map.proofs.CellLaws.{free-slots}
use Rattle.alloc_map.proofs.slots.Slots.free_slots_below.Goals as goal

pub returns : goal.returns
returns c =
    let used = c.self.inside.used in
    let slots : c.min-slots.result ≡ min ((c.args.eof - 17408 + 63) / 64) (length used) = omega (arith, c.min-slots.ensures, c.saturating_sub.ensures, c.self.invariant.whole, c.len.ensures) in
    rw (← c.self.view_is) (rw (c.bits.ensures, free-slots used c.args.eof c.min-slots.result slots) at c.clear_before.ensures)
