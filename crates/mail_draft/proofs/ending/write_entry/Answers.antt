use Rattle.std.proofs.Common.{◌≡◌, true, Option, subst}
use Rattle.mail_objects.specs.declared.object.Object.{Object}
use Rattle.mail_tree.specs.Changing.{entry_fits}
use Rattle.mail_draft.proofs.ending.write_entry.Goals as goal

pub write_object-requires : goal.write_object-requires
write_object-requires c = subst (λ (x : Option Object). entry_fits (0, x) ≡ true) c.in-Some.is (c.requires 0)
