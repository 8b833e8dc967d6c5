use Rattle.std.proofs.Common.{◌≡◌, ◌++◌}
use Rattle.pst_base.specs.Cells.{Fit}
use Rattle.pst_base.proofs.CoverLaws.{Fit-append}
use Rattle.pst_header.specs.Format.{crc_cells, full_of, index_cells, own_cells, partial_of, root_cells, with_fields}
use Rattle.pst_header.proofs.codec.sealed.Goals as goal

pub returns-clause-fits : goal.returns-clause-fits
returns-clause-fits c =
    let h = c.args.h.now in
    let b = with_fields h h.kept in
    let p = partial_of b in
    let f = full_of b in
    let e_p : c.partial_crc-partial.result ≡ p = cc in
    let e_f : c.full_crc-full.result ≡ f = cc in
    let crcs : Fit 564 (crc_cells p f) = rw (e_p, e_f) at c.put_crcs.ensures.fits in
    let fields = c.put_fields.ensures in
    Fit-append 564 (crc_cells p f) (root_cells h ++ (own_cells h ++ index_cells h.indexes 32)) crcs
    (Fit-append 564 (root_cells h) (own_cells h ++ index_cells h.indexes 32) fields.root
    (Fit-append 564 (own_cells h) (index_cells h.indexes 32) fields.own fields.indexes))
