use Rattle.std.proofs.Common.{◌∙◌, ◌+◌, ◌*◌, ℕ, List, ap}
use Rattle.pst_outside.specs.World.{after_write}
use Rattle.copy_part.proofs.Keeping.{keeps_along}
use Rattle.copy_pieces.proofs.AddLaws.{adds-write}
use Rattle.copy_pieces.proofs.FixedLaws.{fixed-more}
use Rattle.copy_pieces.proofs.fixed.put_fixed.Goals as goal

pub returns-in_err-put-clause-keeps : goal.returns-in_err-put-clause-keeps
returns-in_err-put-clause-keeps g c = keeps_along c.loop-r.invariant.keeps c.in_err-put.ensures.keeps

pub loop-r-preserved : goal.loop-r-preserved
loop-r-preserved g c =
    let inv = c.loop-r.invariant in
    let keeps = c.in_ok-put.ensures.keeps in
    let old = g.W.Outside.view c.args.w.now in
    let mid = g.W.Outside.view c.loop-r.w in
    let new = g.W.Outside.view c.put.new.w in
    let bytes : List ℕ = c.in_ok-bytes.bytes.items in
    let at : ℕ = 17408 + 253952 * c.from.result in
    record {
      keeps = keeps_along inv.keeps keeps;
      copy = λ told.
          fixed-more c.args.slots.now c.loop-r.r old.here.copy mid.here.copy new.here.copy (record { at = at; bytes = bytes }) (inv.copy (keeps.told told))
          (record { place = ap (λ (n : ℕ). 17408 + 253952 * n) c.from.ensures; size = c.in_ok-bytes.ensures.size; maps = c.in_ok-bytes.ensures.maps })
          (adds-write mid.here.copy new.here.copy at bytes (c.in_ok-put.ensures.copy told ∙ ap (after_write mid.here.copy at) c.as_slice.ensures.value));
    }
