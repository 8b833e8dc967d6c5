use Rattle.std.proofs.Common.{◌≡◌, [], ◌∷◌, length, ap, sym, ◌∙◌, subst, arith}
use Rattle.pst_base.specs.Cells.{Fit, written}
use Rattle.pst_base.specs.Fields.{replaced}
use Rattle.pst_header.proofs.NewLaws.{IsNew, new_cells, new-written}
use Rattle.pst_header.proofs.fields.new_bytes.Goals as goal

is_new : (c : goal.After-b-16-1) → IsNew c.put_u32.new.b
unfolding written
is_new c =
    let base = c.put_u16-2.new.b in
    let len : length base ≡ 564 = omega arith in
    let fit : Fit (length base) new_cells = (omega arith, c.put_u32.ensures.fits, (omega arith, c.put_u16-4.ensures.fits, (omega arith, c.put_u16-3.ensures.fits, (omega arith, c.put_u8-2.ensures.fits, tt)))) in
    let is : written new_cells base ≡ c.put_u32.new.b =
    sym (c.put_u32.ensures.written ∙ ap (replaced 0 (33 ∷ 66 ∷ 68 ∷ 78 ∷ []))
    (c.put_u16-4.ensures.written ∙ ap (replaced 8 (83 ∷ 77 ∷ [])) (c.put_u16-3.ensures.written ∙ ap (replaced 10 (23 ∷ 0 ∷ [])) c.put_u8-2.ensures.written))) in
    subst IsNew is (new-written base fit)

pub returns-clause-magic : goal.returns-clause-magic
returns-clause-magic c = (is_new c).magic

pub returns-clause-client : goal.returns-clause-client
returns-clause-client c = (is_new c).client

pub returns-clause-version : goal.returns-clause-version
returns-clause-version c = (is_new c).version

pub returns-clause-plain : goal.returns-clause-plain
returns-clause-plain c = (is_new c).plain
