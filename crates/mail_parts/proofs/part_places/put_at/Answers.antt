use Rattle.std.proofs.Common.{◌∙◌, sym}
use Rattle.mapi_values.specs.Messages.{part_id}
use Rattle.mapi_values.proofs.KeyedLaws.{put-gap, put-here}
use Rattle.mail_parts.proofs.part_places.put_at.Goals as goal

pub returns-in-Ok : goal.returns-in-Ok
returns-in-Ok c = sym (put-here part_id 0 c.args.part c.args.parts.now.items c.in-Ok.i c.requires.ascend (rw c.in-Ok.is at c.requires.place))

pub returns-in_ok-insert-in-Err : goal.returns-in_ok-insert-in-Err
returns-in_ok-insert-in-Err c =
    c.in_ok-insert-in-Err.ensures.items ∙ sym (put-gap part_id c.args.part c.args.parts.now.items c.in-Err.i (rw c.in-Err.is at c.requires.place))
