use Rattle.std.proofs.Common.{ℕ}
use Rattle.mapi_values.specs.Messages.{Mes}
use Rattle.mapi_values.specs.Properties.{put}
use Rattle.mail_tree.specs.Names.{unless_nameless}
use Rattle.mail_tree.specs.Values.{with_props}
use Rattle.embedded_obj.specs.Embedding.{becoming, set_inside}
use Rattle.mail_parts.specs.mail_messages.Parts.{may_put, may_set}
use Rattle.mail_parts.proofs.mail_draft_laws.DeskCalls.{answers_at, answers_exit, answers_then, regrouped, told}
use Rattle.mail_embedding.proofs.putting.set_inside.Goals as goal

pub returns-in_err-check_put-clause-answer : goal.returns-in_err-check_put-clause-answer
unfolding set_inside
returns-in_err-check_put-clause-answer g c =
    let m = c.args.mail in let v = c.args.value.now in
    regrouped (λ T D. may_set v.id m.props) (λ T D u. unless_nameless T v.id) (λ T D u. becoming m (with_props (put v m.props) m))
    (answers_exit _ (answers_at (λ (id : ℕ) T D. may_put T id m.props) c.id.ensures c.in_err-check_put.ensures.answer) c.from_residual.ensures.1)

pub returns-clause-answer : goal.returns-clause-answer
unfolding set_inside
returns-clause-answer g c =
    let m = c.args.mail in let v = c.args.value.now in
    regrouped (λ T D. may_set v.id m.props) (λ T D u. unless_nameless T v.id) (λ T D u. becoming m (with_props (put v m.props) m))
    (answers_then _ (answers_at (λ (id : ℕ) T D. may_put T id m.props) c.id.ensures c.in_ok-check_put.ensures.answer) c.in_ok-check_put.ensures.reads
    (told (λ (e : Mes). e) (becoming m (with_props (put v m.props) m)) _ c.put_inside.ensures.answer))
