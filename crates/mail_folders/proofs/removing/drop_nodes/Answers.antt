use Rattle.std.proofs.Common.{ℕ, None, Ok}
use Rattle.mail_tree.specs.Changing.{contents, hierarchy, with_object}
use Rattle.mail_draft.proofs.DeskCalls.{both_change, changes_at, first_exits}
use Rattle.mail_folders.proofs.removing.drop_nodes.Goals as goal

pub returns-in_err-put-clause-answer : goal.returns-in_err-put-clause-answer
returns-in_err-put-clause-answer g c =
    let f = c.args.folder.bits in
    first_exits (λ T D. Ok (with_object (contents f) None (with_object (hierarchy f) None D))) c.in_err-put.ensures.answer c.from_residual.ensures.1

pub returns-in_err-put-2-clause-answer : goal.returns-in_err-put-2-clause-answer
returns-in_err-put-2-clause-answer g c =
    let f = c.args.folder.bits in
    both_change (λ T D. Ok (with_object (contents f) None (with_object (hierarchy f) None D))) c.in_ok-put.ensures.answer c.in_ok-put.ensures.drafts
    (first_exits (λ T D. Ok (with_object (contents f) None D)) (changes_at (λ (q : ℕ) T D. Ok (with_object q None D)) c.hierarchy.ensures c.in_err-put-2.ensures.answer) c.from_residual-in_err-put-2.ensures.1)

pub returns-clause-answer : goal.returns-clause-answer
returns-clause-answer g c =
    let f = c.args.folder.bits in
    both_change (λ T D. Ok (with_object (contents f) None (with_object (hierarchy f) None D))) c.in_ok-put.ensures.answer c.in_ok-put.ensures.drafts
    (both_change (λ T D. Ok (with_object (contents f) None D)) (changes_at (λ (q : ℕ) T D. Ok (with_object q None D)) c.hierarchy.ensures c.in_ok-put-2.ensures.answer) c.in_ok-put-2.ensures.drafts (changes_at (λ (q : ℕ) T D. Ok (with_object q None D)) c.contents.ensures c.put-3.ensures.answer))
