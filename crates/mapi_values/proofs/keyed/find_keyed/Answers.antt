use Rattle.std.proofs.Common.{sym, ap, ◌∙◌, Some}
use Rattle.mapi_values.proofs.KeyedLaws.{find-here, find-gap}
use Rattle.mapi_values.proofs.keyed.find_keyed.Goals as goal

pub returns-in-Ok : goal.returns-in-Ok
returns-in-Ok g c =
    ap Some c.index-items-i.is ∙ sym (find-here g.T.Keyed.key_of 0 c.args.key c.args.items.now c.in-Ok.i c.index-items-i.result c.requires c.in-Ok.ensures)

pub returns-in-Err : goal.returns-in-Err
returns-in-Err g c = sym (find-gap g.T.Keyed.key_of c.args.key c.args.items.now _ c.in-Err.ensures)
