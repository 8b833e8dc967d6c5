use Rattle.std.proofs.Common.{◌≡◌, ◌-◌, ◌∷◌, [], ℕ, List, subst, arith}
use Rattle.copy_part.proofs.Keeping.{keeps_along}
use Rattle.copy_pieces.specs.Fixed.{AddsFixed}
use Rattle.copy_pieces.proofs.AddLaws.{adds-write}
use Rattle.copy_pieces.proofs.PlaceLaws.{same-file}
use Rattle.alloc_map.specs.Slots.{regions_of}
use Rattle.compactor.specs.Steps.{layout_of}
use Rattle.compactor.specs.Written.{AddsParts}
use Rattle.compactor.proofs.ReadyLaws.{ready-after}
use Rattle.compactor.proofs.writing.put_all.Goals as goal

pub put_parts-requires : goal.put_parts-requires
put_parts-requires g c = record { ready = ready-after (g.W.Outside.view c.args.w.now) (g.W.Outside.view c.put.new.w) c.args.eof c.args.nodes.now c.args.plan.now c.in_ok-put.ensures.keeps c.requires.ready }

pub returns-in_err-put_parts-clause-keeps : goal.returns-in_err-put_parts-clause-keeps
returns-in_err-put_parts-clause-keeps g c = keeps_along c.in_ok-put.ensures.keeps c.in_err-put_parts.ensures.keeps

pub returns-in_err-put_fixed-clause-keeps : goal.returns-in_err-put_fixed-clause-keeps
returns-in_err-put_fixed-clause-keeps g c = keeps_along (keeps_along c.in_ok-put.ensures.keeps c.in_ok-put_parts.ensures.keeps) c.in_err-put_fixed.ensures.keeps

pub returns-in_err-put_dense-clause-keeps : goal.returns-in_err-put_dense-clause-keeps
returns-in_err-put_dense-clause-keeps g c = keeps_along (keeps_along (keeps_along c.in_ok-put.ensures.keeps c.in_ok-put_parts.ensures.keeps) c.in_ok-put_fixed.ensures.keeps) c.in_err-put_dense.ensures.keeps

pub returns-clause-keeps : goal.returns-clause-keeps
returns-clause-keeps g c = keeps_along (keeps_along (keeps_along c.in_ok-put.ensures.keeps c.in_ok-put_parts.ensures.keeps) c.in_ok-put_fixed.ensures.keeps) c.in_ok-put_dense.ensures.keeps

pub returns-clause-copy : goal.returns-clause-copy
returns-clause-copy g c = λ told.
    let fixed = c.in_ok-put_dense.ensures.keeps.told told in
    let parts = c.in_ok-put_fixed.ensures.keeps.told fixed in
    let last = c.in_ok-put_parts.ensures.keeps.told parts in
    let plan = c.args.plan.now in
    let old = g.W.Outside.view c.args.w.now in
    let grown = g.W.Outside.view c.put.new.w in
    let laid = g.W.Outside.view c.put_parts.new.w in
    let mapped = g.W.Outside.view c.put_fixed.new.w in
    let size = c.regions.ensures.size in
    let count : c.regions.result ≡ regions_of c.args.slots.now = omega (arith, size) in
    record {
      grown = grown.here.copy;
      last = adds-write old.here.copy grown.here.copy (plan.eof - 1) (0 ∷ []) (c.in_ok-put.ensures.copy last);
      laid = laid.here.copy;
      parts = subst (λ (f : List ℕ). AddsParts f plan.chosen.items c.args.nodes.now (layout_of plan) grown.here.copy laid.here.copy) (same-file (c.in_ok-put.ensures.keeps.same last)) (c.in_ok-put_parts.ensures.copy parts);
      mapped = mapped.here.copy;
      fixed = subst (λ (n : ℕ). AddsFixed c.args.slots.now n laid.here.copy mapped.here.copy) count (c.in_ok-put_fixed.ensures.copy fixed);
      dense = c.in_ok-put_dense.ensures.copy told;
    }
