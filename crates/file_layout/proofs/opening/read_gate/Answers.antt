use Rattle.std.proofs.Common.{◌≡◌, ◌∙◌, ap, sym, arith, length}
use Rattle.pst_outside.specs.World.{Image}
use Rattle.file_layout.proofs.Gates.{not_open, gate_byte}
use Rattle.file_layout.proofs.opening.read_gate.Goals as goal

pub returns-then-side_len-ne-SIDE_LEN-clause-gate : goal.returns-then-side_len-ne-SIDE_LEN-clause-gate
returns-then-side_len-ne-SIDE_LEN-clause-gate g c = λ told. sym (not_open (g.W.Outside.view c.args.w.now).here.side (λ is. omega (arith, c.requires told)))

pub returns-clause-gate : goal.returns-clause-gate
returns-clause-gate g c = λ told.
    let same = c.read_part.ensures.same.stays in
    let size : length (g.W.Outside.view c.read_part.new.w).here.side ≡ 580 = ap (λ (i : Image). length i.side) (same.here told) ∙ c.requires (same.told told) ∙ omega arith in
    gate_byte (g.W.Outside.view c.read_part.new.w).here.side c.read_part.new.buf size (c.in_ok-read_part.ensures.whole told (omega arith))
