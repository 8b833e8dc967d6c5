use Rattle.std.proofs.Common.{refl}
use Rattle.pst_outside.proofs.Moments.{weaker}
use Rattle.lays_kept.specs.Kept.{Scattered}
use Rattle.lays_kept.specs.Saved.{last_byte}
use Rattle.pst_commit.specs.Commit.{Writes}
use Rattle.pst_commit.proofs.Saves.{byte_writes}
use Rattle.pst_commit.proofs.save.lengthen.Goals as goal

pub returns-in_err-write_through-clause-content : goal.returns-in_err-write_through-clause-content
returns-in_err-write_through-clause-content g c = λ told. byte_writes c.args.eof c.args.end _ 1 c.if-end-eof.false refl refl (c.write_through.ensures.content.here told)

pub returns-in_err-write_through-clause-any_moment : goal.returns-in_err-write_through-clause-any_moment
returns-in_err-write_through-clause-any_moment g c = λ settled.
    let old = g.W.Outside.view c.args.w.now in
    weaker (Writes (Scattered (last_byte c.args.eof c.args.end) old.here.main) old.here) (c.write_through.ensures.any_moment settled) (λ i told torn. byte_writes c.args.eof c.args.end _ 1 c.if-end-eof.false refl refl torn)

pub returns-clause-content : goal.returns-clause-content
returns-clause-content g c = λ told. byte_writes c.args.eof c.args.end _ 1 c.if-end-eof.false refl refl (c.write_through.ensures.content.here told)

pub returns-clause-any_moment : goal.returns-clause-any_moment
returns-clause-any_moment g c = λ settled.
    let old = g.W.Outside.view c.args.w.now in
    weaker (Writes (Scattered (last_byte c.args.eof c.args.end) old.here.main) old.here) (c.write_through.ensures.any_moment settled) (λ i told torn. byte_writes c.args.eof c.args.end _ 1 c.if-end-eof.false refl refl torn)
