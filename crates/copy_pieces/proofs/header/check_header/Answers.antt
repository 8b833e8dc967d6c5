use Rattle.std.proofs.Common.{◌≡◌, Ok, sym, subst}
use Rattle.pst_outside.specs.World.{Image}
use Rattle.file_layout.specs.Opening.{opening}
use Rattle.lays_kept.proofs.Opened.{opens_parts}
use Rattle.copy_pieces.proofs.StopLaws.{changed-stop, counted}
use Rattle.copy_pieces.proofs.header.check_header.Goals as goal

pub counted_header-requires : goal.counted_header-requires
counted_header-requires g c = λ told. let i = (g.W.Outside.view c.args.w.now).here in (opens_parts i.main i.side c.args.header.now (c.requires told)).0

pub returns-then-not-is_header-clause-stops : goal.returns-then-not-is_header-clause-stops
returns-then-not-is_header-clause-stops g c = changed-stop c.changed.result (g.W.Outside.view c.counted_header.new.w) c.changed.ensures (λ told.
    let now = (g.W.Outside.view c.counted_header.new.w).here in
    let same = c.counted_header.ensures.same.stays in
    let reads = counted now c.args.header.now c.in_ok-bytes.bytes (subst (λ (i : Image). opening i.main i.side ≡ Ok c.args.header.now) (sym (same.here told)) (c.requires (same.told told))) (c.in_ok-bytes.ensures.bytes told) in
    let is = c.is_header.ensures.reads.1 reads in
    absurd (cc (is, c.if-not-is_header.true)))
