use Rattle.std.proofs.Common.{refl}
use Rattle.content_plan.proofs.TellLaws.{keeps-nodes}
use Rattle.content_plan.proofs.node.look.Goals as goal

pub returns-in-Ok-clause-keeps : goal.returns-in-Ok-clause-keeps
returns-in-Ok-clause-keeps g c = keeps-nodes {header = c.args.header.now} {caches = c.args.caches.now} {now = record { blocks = c.args.caches.now.blocks; nodes = c.entry_at.new.cache }} c.entry_at.ensures.same c.entry_at.ensures.caches refl

pub returns-in-Err-clause-keeps : goal.returns-in-Err-clause-keeps
returns-in-Err-clause-keeps g c = keeps-nodes {header = c.args.header.now} {caches = c.args.caches.now} {now = record { blocks = c.args.caches.now.blocks; nodes = c.entry_at.new.cache }} c.entry_at.ensures.same c.entry_at.ensures.caches refl
