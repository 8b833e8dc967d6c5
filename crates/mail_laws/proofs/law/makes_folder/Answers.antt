use Rattle.std.proofs.Common.{Some}
use Rattle.command_text.specs.declared.command.Command.TheVariants.{MakeFolder}
use Rattle.mail_laws.proofs.LawSteps.{before, both_hold, named, was_nothing}
use Rattle.mail_laws.proofs.PlaceEffects.{MadeFolder, makes_folder, only_place}
use Rattle.mail_tree.specs.Folders.{nid, place}
use Rattle.mail_tree.specs.Step.{outcome}
use Rattle.mail_laws.proofs.law.makes_folder.Goals as goal

pub returns : goal.returns
unfolding outcome
returns c T parent name w = let b = before T w in both_hold T (MakeFolder parent name) w (MadeFolder T parent.bits name) _ (makes_folder T parent.bits name b)
    (λ o k r. (nid r.0, r.1, was_nothing T r.0 r.2, only_place T r.0 (Some (place r.0 parent.bits)) o b k r.3, named T o r.0 name r.4))
