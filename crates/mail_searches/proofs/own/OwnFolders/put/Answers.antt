use Rattle.mail_searches.specs.declared.own.OwnFolder.{OwnFolder}
use Rattle.mail_searches.proofs.OwnLaws.{put_kept}
use Rattle.mail_searches.proofs.own.OwnFolders.put.Goals as goal

pub invariant_of-self : goal.invariant_of-self
invariant_of-self c = put_kept c.put_keyed.result (λ (f : OwnFolder). f.nid.bits) _ _ _ c.put_keyed.ensures.ok c.put_keyed.ensures.err c.self.invariant
