use Rattle.std.proofs.Common.{[], refl, sym, ap, ◌∙◌}
use Rattle.mail_tree.specs.Folders.{made_folder, nid}
use Rattle.mail_tree.specs.Step.{outcome}
use Rattle.mail_tree.specs.Values.{folder_props}
use Rattle.mail_tree.proofs.AfterTree.{after_now}
use Rattle.mail_laws.proofs.Keeping.{if_weaker}
use Rattle.mail_laws.proofs.LawSteps.{before}
use Rattle.mail_laws.proofs.Newness.{finds_none}
use Rattle.mail_laws.proofs.PlaceEffects.{MadeFolder, makes_folder}
use Rattle.mail_laws.proofs.folder.makes_bare_folder.Goals as goal

pub returns : goal.returns
unfolding outcome
returns c T parent name w = if_weaker (MadeFolder T parent.bits name) _ (made_folder T parent.bits name) (makes_folder T parent.bits name (before T w)) (λ o r. (
  nid r.0,
  record { parent = parent.bits; props = folder_props name; kept = [] },
  r.1,
  ap (λ g. g r.0) (sym (after_now T o)) ∙ r.6,
  record { parent_is = refl; name_is = refl; no_messages = refl; none_unread = refl; no_folders = refl; no_other = λ id other. finds_none id (folder_props name) other; none_kept = refl },
))
