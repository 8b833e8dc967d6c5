use Rattle.std.proofs.Common.{◌≡◌, ◌∙◌, ℕ, List, [], Ok, Some, ap}
use Rattle.mail_tree.specs.mail_objects.Forms.{Ctx}
use Rattle.mail_tree.specs.mail_objects.declared.object.Object.TheVariants.{Context}
use Rattle.mail_tree.specs.Changing.{with_object}
use Rattle.mail_tree.specs.Values.{folder_props}
use Rattle.mail_folders.specs.Pieces.{with_tables}
use Rattle.mail_draft.proofs.DeskCalls.{both_change, changes_at, first_exits}
use Rattle.mail_folders.proofs.Calls.{context_is}
use Rattle.mail_folders.proofs.making.put_folder.Goals as goal

pub returns-in_err-put-clause-answer : goal.returns-in_err-put-clause-answer
returns-in_err-put-clause-answer g c =
    let f = c.args.folder.bits in let new = c.new-context.ensures in
    let is : c.new-context.result ≡ record { parent = c.args.parent.bits; props = folder_props c.args.name.now; kept = [] } = context_is c.new-context.result new.parent (new.props ∙ c.in_ok-props.ensures) (new.kept ∙ c.new.ensures) in
    first_exits (λ T D. Ok (with_tables f D)) (changes_at (λ (x : Ctx) T D. Ok (with_object c.args.folder.bits (Some (Context x)) D)) is c.in_err-put.ensures.answer) c.from_residual-in_err-put.ensures.1

pub returns-clause-answer : goal.returns-clause-answer
returns-clause-answer g c =
    let f = c.args.folder.bits in let new = c.new-context.ensures in
    let is : c.new-context.result ≡ record { parent = c.args.parent.bits; props = folder_props c.args.name.now; kept = [] } = context_is c.new-context.result new.parent (new.props ∙ c.in_ok-props.ensures) (new.kept ∙ c.new.ensures) in
    both_change (λ T D. Ok (with_tables f D)) (changes_at (λ (x : Ctx) T D. Ok (with_object c.args.folder.bits (Some (Context x)) D)) is c.in_ok-put.ensures.answer) c.in_ok-put.ensures.drafts c.put_tables.ensures.answer
