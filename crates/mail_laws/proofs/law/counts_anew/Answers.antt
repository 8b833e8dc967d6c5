use Rattle.std.proofs.Common.{◌≡◌, ℕ, Some, subst}
use Rattle.mapi_values.specs.Messages.{Mes}
use Rattle.mail_tree.specs.Changing.{nothing, now_at}
use Rattle.mail_tree.specs.Folders.{Outcome, made_folder, moved_folder, nid, removed_folder}
use Rattle.mail_laws.specs.Laws.{AreCountedBut, CountsOf, message_with}
use Rattle.mail_tree.specs.Messages.{added_attachment, added_recipient, appended_data, copied_message, moved_message, new_message, removed_attachment, removed_message, removed_recipient, set_value, unset_value, set_embedded}
use Rattle.mail_tree.specs.Step.{after, outcome}
use Rattle.mail_tree.specs.Tree.{Tree}
use Rattle.mail_tree.proofs.AfterTree.{after_now}
use Rattle.mail_laws.proofs.CountCommands.{Ends, EndsBoth, Home, MadeFolder, Moved, MovedFolder, RemovedFolder, adds_attachment, adds_recipient, appends_data, copies, makes, makes_folder, moves, moves_folder, removes, removes_attachment, removes_folder, removes_recipient, sets, unsets, sets_embedded}
use Rattle.mail_laws.proofs.Keeping.{if_weaker}
use Rattle.mail_laws.proofs.LawSteps.{before, was_message}
use Rattle.mail_laws.proofs.MessageSteps.{Before}
use Rattle.mail_laws.proofs.law.counts_anew.Goals as goal

-- whatever the counts were
any : (T : Tree) → AreCountedBut (λ x. Unit {0}) T.places (now_at T nothing)
any T f p c t e plain free = absurd (free tt)

right : (T : Tree) (w : Before T) (F : ℕ) (o : Outcome) → Ends T w (λ x. Unit {0}) (any T) F o → CountsOf (after T o) F
unfolding Ends
right T w F o k = subst (AreCountedBut (λ g. g ≡ F → ⊥) o.places) (after_now T o) (λ f p c t e plain free is_c is_t. k f p c t e plain (λ h. free h.1) is_c is_t)

home : (T : Tree) (w : Before T) (m : ℕ) (o : Outcome) → Home T w (λ x. Unit {0}) (any T) m o → (M : Mes) × (message_with T m ≡ Some M) × CountsOf (after T o) M.folder
unfolding Home
home T w m o k = (k.0, was_message T m k.0 k.1, right T w k.0.folder o k.2)

-- those of both folders
both_right : (T : Tree) (w : Before T) (F G : ℕ) (o : Outcome) → EndsBoth T w (λ x. Unit {0}) (any T) F G o → CountsOf (after T o) F × CountsOf (after T o) G
unfolding EndsBoth
both_right T w F G o k = (
  subst (AreCountedBut (λ g. g ≡ F → ⊥) o.places) (after_now T o) (λ f p c t e plain free is_c is_t. k f p c t e plain (λ h. free h.0.1) is_c is_t),
  subst (AreCountedBut (λ g. g ≡ G → ⊥) o.places) (after_now T o) (λ f p c t e plain free is_c is_t. k f p c t e plain (λ h. free h.1) is_c is_t),
)

pub returns : goal.returns
unfolding outcome
returns c = record {
  makes = λ T folder class time values w. let b = before T w in if_weaker (Ends T b (λ x. Unit {0}) (any T) folder.bits) _ (new_message T folder.bits class time values) (makes T b (λ x. Unit {0}) (any T) folder.bits class time values) (λ o k. right T b folder.bits o k);
  copies = λ T m folder w. let b = before T w in if_weaker (Ends T b (λ x. Unit {0}) (any T) folder.bits) _ (copied_message T m.bits folder.bits) (copies T b (λ x. Unit {0}) (any T) m.bits folder.bits) (λ o k. right T b folder.bits o k);
  sets = λ T m v w. let b = before T w in if_weaker (Home T b (λ x. Unit {0}) (any T) m.bits) _ (set_value T m.bits v) (sets T b (λ x. Unit {0}) (any T) m.bits v) (λ o k. home T b m.bits o k);
  unsets = λ T m tag w. let b = before T w in if_weaker (Home T b (λ x. Unit {0}) (any T) m.bits) _ (unset_value T m.bits tag) (unsets T b (λ x. Unit {0}) (any T) m.bits tag) (λ o k. home T b m.bits o k);
  removes = λ T m w. let b = before T w in if_weaker (Home T b (λ x. Unit {0}) (any T) m.bits) _ (removed_message T m.bits) (removes T b (λ x. Unit {0}) (any T) m.bits) (λ o k. home T b m.bits o k);
  adds_recipient = λ T m kind address name w. let b = before T w in if_weaker (Home T b (λ x. Unit {0}) (any T) m.bits) _ (added_recipient T m.bits kind address name) (adds_recipient T b (λ x. Unit {0}) (any T) m.bits kind address name) (λ o k. home T b m.bits o k);
  removes_recipient = λ T m row w. let b = before T w in if_weaker (Home T b (λ x. Unit {0}) (any T) m.bits) _ (removed_recipient T m.bits row) (removes_recipient T b (λ x. Unit {0}) (any T) m.bits row) (λ o k. home T b m.bits o k);
  adds_attachment = λ T m name held w. let b = before T w in if_weaker (Home T b (λ x. Unit {0}) (any T) m.bits) _ (added_attachment T m.bits name held) (adds_attachment T b (λ x. Unit {0}) (any T) m.bits name held) (λ o k. home T b m.bits o k);
  appends_data = λ T m n bytes w. let b = before T w in if_weaker (Home T b (λ x. Unit {0}) (any T) m.bits) _ (appended_data T m.bits n.bits bytes) (appends_data T b (λ x. Unit {0}) (any T) m.bits n.bits bytes) (λ o k. home T b m.bits o k);
  sets_embedded = λ T m n node w. let b = before T w in if_weaker (Home T b (λ x. Unit {0}) (any T) m.bits) _ (set_embedded T m.bits n.bits node) (sets_embedded T b (λ x. Unit {0}) (any T) m.bits n.bits node) (λ o k. home T b m.bits o k);
  removes_attachment = λ T m n w. let b = before T w in if_weaker (Home T b (λ x. Unit {0}) (any T) m.bits) _ (removed_attachment T m.bits n.bits) (removes_attachment T b (λ x. Unit {0}) (any T) m.bits n.bits) (λ o k. home T b m.bits o k);
  moves = λ T m folder w. let b = before T w in if_weaker (Moved T b (λ x. Unit {0}) (any T) m.bits folder.bits) _ (moved_message T m.bits folder.bits) (moves T b (λ x. Unit {0}) (any T) m.bits folder.bits)
      (λ o k. (k.0, was_message T m.bits k.0 k.1, λ other. both_right T b k.0.folder folder.bits o (k.3 other)));
  makes_folder = λ T parent name w. let b = before T w in if_weaker (MadeFolder T b (λ x. Unit {0}) (any T) parent.bits) _ (made_folder T parent.bits name) (makes_folder T b (λ x. Unit {0}) (any T) parent.bits name)
      (λ o k. let both = both_right T b k.0 parent.bits o k.2 in (nid k.0, k.1, both.0, both.1));
  moves_folder = λ T f parent w. let b = before T w in if_weaker (MovedFolder T b (λ x. Unit {0}) (any T) f.bits parent.bits) _ (moved_folder T f.bits parent.bits) (moves_folder T b (λ x. Unit {0}) (any T) f.bits parent.bits)
      (λ o k. (k.0, k.1, λ other. both_right T b k.0.parent.bits parent.bits o (k.3 other)));
  removes_folder = λ T f w. let b = before T w in if_weaker (RemovedFolder T b (λ x. Unit {0}) (any T) f.bits) _ (removed_folder T f.bits) (removes_folder T b (λ x. Unit {0}) (any T) f.bits)
      (λ o k. (k.0, k.1, right T b k.0.parent.bits o k.2));
}
