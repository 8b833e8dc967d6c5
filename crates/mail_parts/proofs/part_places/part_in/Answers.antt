use Rattle.std.proofs.Common.{◌≡◌, ◌∙◌, List, Some, get_or, sym, ap}
use Rattle.mapi_values.specs.declared.part.Part.{Part}
use Rattle.mapi_values.specs.Messages.{Mes, part_id}
use Rattle.mapi_values.proofs.KeyedLaws.{find-gap, find-here}
use Rattle.mail_parts.proofs.part_places.part_in.Goals as goal

pub returns-in-Ok : goal.returns-in-Ok
returns-in-Ok c =
    let M = c.args.mail.now in let i = c.in-Ok.i in let found = c.index.result.now in
    let is : c.behind-mail.inside.parts.items ≡ M.parts = ap (λ (m : Mes). m.parts) (c.behind-mail.view_is ∙ c.message.ensures.message) in
    ap Some (c.index.ensures ∙ ap (λ (ps : List Part). get_or ps i found) is) ∙ sym (find-here part_id 0 c.args.nid.bits M.parts i found c.in-Ok.ensures.ascend c.in-Ok.ensures.place)

pub returns-in-Err : goal.returns-in-Err
returns-in-Err c = sym (find-gap part_id c.args.nid.bits c.args.mail.now.parts _ c.in-Err.ensures.place)
