use Rattle.std.proofs.Common.{◌≡◌, ℕ, ◌<◌, ◌^◌, get_or, ap, ◌∙◌, arith}
use Rattle.pst_header.specs.Format.{index_cells}
use Rattle.pst_base.specs.Cells.{written}
use Rattle.pst_header.proofs.LayoutLaws.{fit_more, fit_none, indexes_more, indexes_none}
use Rattle.pst_header.proofs.fields.put_indexes.Goals as goal

pub loop-kind-init : goal.loop-kind-init
loop-kind-init c = record {
  written = indexes_none c.args.indexes.now c.args.b.now;
  fits = fit_none c.args.indexes.now;
}

pub loop-kind-preserved : goal.loop-kind-preserved
loop-kind-preserved c =
    let xs = c.args.indexes.now in
    let k = c.loop-kind.kind in
    let fit : get_or xs k 0 < 256 ^ 4 = omega (arith, c.fits-indexes k) in
    let more = indexes_more xs c.args.b.now k in
    let so_far = c.loop-kind.invariant.written in
    record {
      written = cc;
      fits = fit_more xs k (omega arith) fit c.loop-kind.invariant.fits;
    }

pub returns : goal.returns
returns c =
    let e : c.loop-kind.kind ≡ 32 = omega arith in
    record {
      written = c.loop-kind.invariant.written ∙ ap (λ (k : ℕ). written (index_cells c.args.indexes.now k) c.args.b.now) e;
      fits = rw e at c.loop-kind.invariant.fits;
    }
