use Rattle.std.proofs.Common.{◌∙◌, ◌+◌, ◌++◌, ap, arith}
use Rattle.std.specs.Prelude.{slice_range}
use Rattle.line_server.proofs.Ranges.{slice_range-more, slice_range-kept, length-range}
use Rattle.line_server.proofs.lines.LineBuffer.fill.Goals as goal

pub returns-clause-taken : goal.returns-clause-taken
returns-clause-taken g c =
    let start = c.make_room-start.result.0 in
    let end = c.make_room-start.result.1 in
    let n = c.in_ok-n.n in
    let bytes = c.take_at.new.bytes.items in
    let held = slice_range-kept start end bytes c.make_room-start.new.bytes.items c.make_room-start.ensures.order c.take_at.ensures.kept ∙ c.make_room-start.ensures.same ∙ c.self.view_is in
    record {
      more = slice_range bytes end (end + n);
      count = length-range end (end + n) bytes (omega arith) (omega (arith, c.in_ok-n.ensures.within, c.take_at.ensures.size)) ∙ omega arith;
      behind = slice_range-more start end n bytes c.make_room-start.ensures.order ∙ ap (λ front. front ++ slice_range bytes end (end + n)) held;
      input = c.in_ok-n.ensures.input;
      end = c.in_ok-n.ensures.end;
    }
