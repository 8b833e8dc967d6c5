use Rattle.std.proofs.Common.{◌∙◌, ap, map}
use Rattle.mapi_values.specs.Keyed.{keys_ascend}
use Rattle.mail_searches.specs.declared.own.OwnFolder.{OwnFolder}
use Rattle.mail_searches.proofs.OwnLaws.{drop_ascends}
use Rattle.mail_searches.proofs.own.OwnFolders.without.Goals as goal

pub invariant_of-result : goal.invariant_of-result
invariant_of-result c =
    drop_ascends (λ (f : OwnFolder). f.nid.bits) _ c.in_ok-folders.folders.items _ c.drop_keyed-was_there.ensures.others
    (ap (λ folders. keys_ascend (λ k. k) 0 (map (λ (f : OwnFolder). f.nid.bits) folders)) (c.in_ok-folders.ensures.items ∙ c.as_slice.ensures.value) ∙ c.self.invariant)
