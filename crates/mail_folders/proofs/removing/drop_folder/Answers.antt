use Rattle.std.proofs.Common.{ℕ, Bool, None, Ok, sym}
use Rattle.mail_tree.specs.Changing.{associated, with_object}
use Rattle.mail_tree.specs.Folders.{without_node}
use Rattle.mail_tree.specs.Ids.{is_taken}
use Rattle.mail_folders.specs.Pieces.{without_nodes}
use Rattle.mail_draft.proofs.DeskCalls.{answers_at, both_change, changes_at, changes_exit, changes_then, first_exits, same_stop}
use Rattle.mail_folders.proofs.removing.drop_folder.Goals as goal

pub returns-in_err-has_associated-clause-answer : goal.returns-in_err-has_associated-clause-answer
returns-in_err-has_associated-clause-answer g c =
    let f = c.args.folder.bits in
    changes_exit (λ T D b. Ok (without_node (associated f) b (without_nodes f D))) (answers_at (λ q T D. Ok (is_taken T q)) c.associated.ensures c.in_err-has_associated.ensures.answer) c.from_residual.ensures.1

pub returns-in_err-drop_nodes-clause-answer : goal.returns-in_err-drop_nodes-clause-answer
returns-in_err-drop_nodes-clause-answer g c =
    let f = c.args.folder.bits in
    changes_then (λ T D b. Ok (without_node (associated f) b (without_nodes f D))) (answers_at (λ q T D. Ok (is_taken T q)) c.associated.ensures c.in_ok-has_associated.ensures.answer) c.in_ok-has_associated.ensures.reads
    (first_exits (λ T D. Ok (without_node (associated f) c.in_ok-has_associated.has_associated D)) c.in_err-drop_nodes.ensures.answer c.from_residual-in_err-drop_nodes.ensures.1)

pub returns-then-not-has_associated-clause-answer : goal.returns-then-not-has_associated-clause-answer
returns-then-not-has_associated-clause-answer g c =
    let f = c.args.folder.bits in
    changes_then (λ T D b. Ok (without_node (associated f) b (without_nodes f D))) (answers_at (λ q T D. Ok (is_taken T q)) c.associated.ensures c.in_ok-has_associated.ensures.answer) c.in_ok-has_associated.ensures.reads
    (changes_at (λ (b : Bool) T D. Ok (without_node (associated f) b (without_nodes f D))) (sym c.if-not-has_associated.true) c.in_ok-drop_nodes.ensures.answer)

pub returns-clause-answer : goal.returns-clause-answer
returns-clause-answer g c =
    let f = c.args.folder.bits in
    changes_then (λ T D b. Ok (without_node (associated f) b (without_nodes f D))) (answers_at (λ q T D. Ok (is_taken T q)) c.associated.ensures c.in_ok-has_associated.ensures.answer) c.in_ok-has_associated.ensures.reads
    (changes_at (λ (b : Bool) T D. Ok (without_node (associated f) b (without_nodes f D))) (sym c.if-not-has_associated.false)
    (both_change (λ T D. Ok (with_object (associated f) None D)) c.in_ok-drop_nodes.ensures.answer c.in_ok-drop_nodes.ensures.drafts (changes_at (λ (q : ℕ) T D. Ok (with_object q None D)) c.associated-2.ensures c.put.ensures.answer)))
