use Rattle.content_plan.proofs.KeepLaws.{put-key}
use Rattle.content_plan.proofs.keep.put_key.Goals as goal

pub returns-in_ok-insert : goal.returns-in_ok-insert
returns-in_ok-insert c = λ ks has. rw (c.in-Some.is, ← c.key.ensures) (put-key c.key.result c.args.keys.now c.insert.new.self c.in_ok-insert.ensures.updates.0 ks has)
