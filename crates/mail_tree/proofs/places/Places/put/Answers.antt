use Rattle.mail_tree.proofs.PlaceLaws.{put_ascends}
use Rattle.mail_tree.proofs.places.Places.put.Goals as goal

pub invariant_of-self : goal.invariant_of-self
invariant_of-self c = put_ascends c.put_keyed.result c.args.place _ _ c.put_keyed.ensures.ok c.put_keyed.ensures.err c.self.invariant
