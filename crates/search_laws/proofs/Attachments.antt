-- Rows of attachments mirror them still.
use Rattle.std.proofs.Common.{◌≡◌, ◌∙◌, ℕ, List, IfOk, sym}
use Rattle.command_text.specs.declared.command.Command.{Command}
use Rattle.mail_tree.specs.Start.{IsStart}
use Rattle.mail_tree.specs.Step.{after, outcome}
use Rattle.mail_tree.specs.Tree.{Tree, object_at}
use Rattle.mail_tree.specs.Whole.{IsWhole}
use Rattle.mail_laws.specs.AttachmentLaws.{AllMirrorAttachments}
use Rattle.mail_laws.specs.Laws.{message_with}
use Rattle.mail_laws.proofs.Keeping.{if_weaker}
use Rattle.mail_laws.proofs.LawSteps.{is_message}
use Rattle.mail_laws.proofs.PartCommands.{Mirror, mirror_after}
use Rattle.mail_laws.proofs.Starting.{starts_empty}

-- after a command of the tree
pub attachments_after : (T : Tree) (c : Command) → IsWhole T → AllMirrorAttachments T → IfOk (outcome T c) (λ o. AllMirrorAttachments (after T o))
attachments_after T c w s =
    let any : ℕ → Type 0 = λ x. Unit {0} in
    if_weaker (Mirror T w any (λ k M d is. s k M is) (λ q d none x. tt)) (λ o. AllMirrorAttachments (after T o)) (outcome T c) (mirror_after T w any (λ k M d is. s k M is) (λ q d none x. tt) c) (λ o k m M is. k m M tt is)

-- where each message is as it was
pub attachments_still : (T T' : Tree) → ((m : ℕ) → message_with T' m ≡ message_with T m) → AllMirrorAttachments T → AllMirrorAttachments T'
attachments_still T T' same s m M is = s m M (sym (same m) ∙ is)

-- a new store has no messages
pub attachments_start : (name : List ℕ) (T : Tree) → IsStart name T → AllMirrorAttachments T
attachments_start name T s m M is = absurd (starts_empty name T s m M (is_message (object_at T m) M is))
