use Rattle.std.proofs.Common.{◌≡◌, ◌∙◌, ℕ, List, ap}
use Rattle.std.proofs.lemmas.Result.{IfOk-weaker}
use Rattle.mapi_values.specs.Messages.{Mes}
use Rattle.mapi_values.specs.Values.{Val}
use Rattle.mail_tree.specs.Ids.{new_id}
use Rattle.mail_tree.specs.Messages.{plain_message}
use Rattle.mail_tree.specs.Values.{finished, message_props}
use Rattle.mail_messages.proofs.making.new_mail.Goals as goal

pub returns : goal.returns
returns c =
    let f = c.args.folder.bits in let class = c.args.class.now in let time = c.args.time in let store = c.args.store.now.props in let values = c.args.values.now in
    let nid = c.new_id-nid.result.bits in
    let mail : Mes = plain_message (new_id 4 c.args.index) f (message_props (new_id 4 c.args.index) class time store values) in
    let is : c.plain_message.result ≡ mail = c.plain_message.ensures
    ∙ ap (λ (ps : List Val). plain_message nid f ps) (c.in_ok-props.ensures ∙ ap (λ (ps : List Val). message_props nid class time ps values) c.props.ensures)
    ∙ ap (λ (m : ℕ). plain_message m f (message_props m class time store values)) c.new_id-nid.ensures in
    IfOk-weaker c.finished.result (λ m. m ≡ finished c.plain_message.result) (λ m. m ≡ finished mail) (λ m e. e ∙ ap finished is) c.finished.ensures
