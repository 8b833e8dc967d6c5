use Rattle.std.proofs.Common.{rules, sym, ◌∙◌}
use Rattle.mapi_values.proofs.KeyedLaws.{put-here, put-gap}
use Rattle.mapi_values.proofs.keyed.put_keyed.Goals as goal

pub returns-in-Ok-clause-ok : goal.returns-in-Ok-clause-ok
returns-in-Ok-clause-ok g c =
    sym (put-here g.T.Keyed.key_of 0 c.args.item c.args.items.now.items c.in-Ok.i c.requires (search rules))

pub returns-in_ok-insert-in-Err-clause-ok : goal.returns-in_ok-insert-in-Err-clause-ok
returns-in_ok-insert-in-Err-clause-ok g c =
    c.in_ok-insert-in-Err.ensures.items ∙ sym (put-gap g.T.Keyed.key_of c.args.item c.args.items.now.items c.in-Err.i (search rules))
