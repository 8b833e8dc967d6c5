use Rattle.std.proofs.Common.{◌∙◌, ap, arith, drop, length}
use Rattle.line_server.proofs.Ranges.{slice_range-behind, length-range}
use Rattle.line_server.proofs.lines.LineBuffer.pass.Goals as goal

pub returns : goal.returns
returns c =
    let size = length-range c.self.inside.start c.self.inside.end c.self.inside.bytes.items c.self.invariant.order (omega (arith, c.self.invariant.size, c.self.invariant.within)) in
    slice_range-behind c.args.n c.self.inside.start c.self.inside.end c.self.inside.bytes.items (omega (arith, size, ap length c.self.view_is, c.requires)) ∙ ap (drop c.args.n) c.self.view_is
