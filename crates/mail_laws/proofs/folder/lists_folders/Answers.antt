use Rattle.std.proofs.Common.{refl}
use Rattle.mail_tree.specs.Folders.{listing}
use Rattle.mail_tree.specs.Step.{outcome}
use Rattle.mail_laws.proofs.LawSteps.{before}
use Rattle.mail_laws.proofs.Listings.{shows_all}
use Rattle.mail_laws.proofs.folder.lists_folders.Goals as goal

pub returns : goal.returns
unfolding outcome listing
returns c = record {
  plain = λ T f p w found plain. shows_all T (before T w) f.bits p found plain;
  foreign = λ T f p found foreign. rw (found, foreign) refl;
  missing = λ T f none. rw none refl;
}
