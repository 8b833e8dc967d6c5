use Rattle.std.proofs.Common.{◌≡◌, ◌∙◌, List, ap, rules}
use Rattle.mapi_values.specs.Values.{Val}
use Rattle.mail_tree.specs.Values.{own_props, put_all}
use Rattle.mail_messages.proofs.mails.message_props.Goals as goal

pub returns : goal.returns
returns c =
    let own : c.put.new.self ≡ own_props c.args.message.bits c.args.class.now c.args.time c.args.store.now = search rules in
    c.in_ok-put_values.ensures ∙ ap (λ (vs : List Val). put_all vs c.put.new.self) c.values.ensures.value ∙ ap (put_all c.args.values.now) own
