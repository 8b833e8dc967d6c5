use Rattle.std.proofs.Common.{rules, sym, ap, ◌∙◌}
use Rattle.std.specs.Option.{is_some}
use Rattle.mapi_values.specs.Keyed.{IsHere, IsGap}
use Rattle.mapi_values.proofs.KeyedLaws.{drop-here, find-here, drop-gap, find-gap}
use Rattle.mapi_values.proofs.keyed.drop_keyed.Goals as goal

pub returns-in-Ok-clause-others : goal.returns-in-Ok-clause-others
returns-in-Ok-clause-others g c =
    let here : IsHere g.T.Keyed.key_of c.args.key c.args.items.now.items c.in-Ok.i = search rules in
    c.remove-dropped.ensures.items ∙ sym (drop-here g.T.Keyed.key_of 0 c.args.key c.args.items.now.items c.in-Ok.i c.requires here)

pub returns-in-Ok-clause-found : goal.returns-in-Ok-clause-found
returns-in-Ok-clause-found g c =
    let here : IsHere g.T.Keyed.key_of c.args.key c.args.items.now.items c.in-Ok.i = search rules in
    sym (ap is_some (find-here g.T.Keyed.key_of 0 c.args.key c.args.items.now.items c.in-Ok.i c.remove-dropped.result c.requires here))

pub returns-in-Err-clause-others : goal.returns-in-Err-clause-others
returns-in-Err-clause-others g c =
    let gap : IsGap g.T.Keyed.key_of c.args.key c.args.items.now.items c.in-Err.field-0 = search rules in
    sym (drop-gap g.T.Keyed.key_of c.args.key c.args.items.now.items _ gap)

pub returns-in-Err-clause-found : goal.returns-in-Err-clause-found
returns-in-Err-clause-found g c =
    let gap : IsGap g.T.Keyed.key_of c.args.key c.args.items.now.items c.in-Err.field-0 = search rules in
    sym (ap is_some (find-gap g.T.Keyed.key_of c.args.key c.args.items.now.items _ gap))
