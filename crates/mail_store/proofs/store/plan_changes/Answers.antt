use Rattle.std.proofs.Common.{ℕ}
use Rattle.std.proofs.lemmas.Result.{err_from_is_err_and}
use Rattle.mail_draft.specs.Drafts.{changed_of}
use Rattle.mail_store.proofs.SpaceLaws.{has_cells, hindered}
use Rattle.mail_store.proofs.store.plan_changes.Goals as goal

pub returns-clause-room : goal.returns-clause-room
returns-clause-room g c = λ T s.
    has_cells (g.K.NodeReader.room c.args.keeper.now) (changed_of c.args.draft.now) c.in_ok-nodes.nodes.items c.space_needed.result c.in_ok-prepare.field-0 c.in_ok-nodes.ensures.written c.space_needed.ensures (c.in_ok-prepare.ensures.full s.nodes s.held)

pub returns-in_err-prepare-clause-hindered : goal.returns-in_err-prepare-clause-hindered
returns-in_err-prepare-clause-hindered g c =
    let p = err_from_is_err_and c.from_residual-in_err-prepare.result c.from_residual-in_err-prepare.ensures.1 in
    rw (p.1, p.2) (λ T s.
    hindered ℕ (g.K.NodeReader.room c.args.keeper.now) (changed_of c.args.draft.now) c.in_ok-nodes.nodes.items c.space_needed.result _ _ _ _ s.nodes c.in_err-prepare.field-0.0 c.in_ok-nodes.ensures.written c.space_needed.ensures c.requires.some s.held
    (c.in_err-prepare.ensures.full s.nodes s.held) c.in_err-prepare.ensures.stops)
