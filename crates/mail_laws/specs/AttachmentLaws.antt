-- The rows of a message's table of attachments show its attachments.
use Rattle.std.specs.Prelude.{◌≡◌, ℕ, IfOk, List, [], map, Option, None, Some}
use Rattle.mapi_values.specs.Messages.{Mes}
use Rattle.mapi_values.specs.Tables.{Tab}
use Rattle.mapi_values.specs.declared.part.Part.{Part}
use Rattle.command_text.specs.declared.command.Command.{Command}
use Rattle.mail_tree.specs.Tree.{Tree}
use Rattle.mail_tree.specs.Parts.{part_row}
use Rattle.mail_tree.specs.Start.{IsStart}
use Rattle.mail_tree.specs.Step.{after, outcome}
use Rattle.mail_tree.specs.Whole.{IsWhole}
use Rattle.mail_laws.specs.Laws.{message_with}

-- the rows mirror just these attachments, in their order; where there is no table there is none
abbrev pub MirrorParts : Option Tab → List Part → Type 0
MirrorParts None parts = parts ≡ []
MirrorParts (Some t) parts = t.rows ≡ map (part_row t.columns) parts

-- the rows of the message's attachments mirror them
abbrev pub MirrorsAttachments : Mes → Type 0
MirrorsAttachments M = MirrorParts M.attachments M.parts

-- in each message of the tree they do
abbrev pub AllMirrorAttachments : Tree → Type 0
AllMirrorAttachments T = (m : ℕ) (M : Mes) → message_with T m ≡ Some M → MirrorsAttachments M

-- the rows of attachments go on mirroring them: in each message by itself, and in all where they do in all, as in a new store
pub record AttachmentsStay : Type 0 where
  pub each : (T : Tree) (c : Command) (m : ℕ) (old : Mes) → IsWhole T → message_with T m ≡ Some old → MirrorsAttachments old
      → IfOk (outcome T c) (λ o. (new : Mes) → message_with (after T o) m ≡ Some new → MirrorsAttachments new)
  pub all : (T : Tree) (c : Command) → IsWhole T → AllMirrorAttachments T → IfOk (outcome T c) (λ o. AllMirrorAttachments (after T o))
  pub starts : (name : List ℕ) (T : Tree) → IsStart name T → AllMirrorAttachments T
