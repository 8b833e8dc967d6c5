use Rattle.std.proofs.Common.{ℕ, List}
use Rattle.mapi_values.specs.Values.{Val}
use Rattle.mail_tree.specs.Changing.{add_shown, hierarchy}
use Rattle.mail_tree.specs.Values.{folder_props}
use Rattle.mail_draft.proofs.DeskCalls.{both_change, first_exits}
use Rattle.mail_folders.proofs.Calls.{changes_at2}
use Rattle.mail_folders.proofs.making.add_folder.Goals as goal

pub returns-in_err-put_folder-clause-answer : goal.returns-in_err-put_folder-clause-answer
returns-in_err-put_folder-clause-answer g c =
    let f = c.args.folder.bits in let parent = c.args.parent.bits in let name = c.args.name.now in
    first_exits (λ T. add_shown T (hierarchy parent) f (folder_props name)) c.in_err-put_folder.ensures.answer c.from_residual-in_err-put_folder.ensures.1

pub returns-clause-answer : goal.returns-clause-answer
returns-clause-answer g c =
    let f = c.args.folder.bits in let parent = c.args.parent.bits in let name = c.args.name.now in
    both_change (λ T. add_shown T (hierarchy parent) f (folder_props name)) c.in_ok-put_folder.ensures.answer c.in_ok-put_folder.ensures.drafts
    (changes_at2 (λ (q : ℕ) (props : List Val) T. add_shown T q f props) c.hierarchy.ensures c.in_ok-props.ensures c.add_shown.ensures.answer)
