use Rattle.mail_searches.proofs.SearchOrder.{put_ascends}
use Rattle.mail_searches.proofs.following.Searches.put.Goals as goal

pub invariant_of-self : goal.invariant_of-self
invariant_of-self c = put_ascends c.put_keyed.result c.args.search _ _ c.put_keyed.ensures.ok c.put_keyed.ensures.err c.self.invariant
