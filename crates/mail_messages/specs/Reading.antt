-- The value that `get` replies.
use Rattle.std.specs.Prelude.{◌≡◌, ℕ, Ok, Result}
use Rattle.command_text.specs.declared.reply.Reply.{Reply}
use Rattle.mapi_values.specs.Messages.{Mes}
use Rattle.mapi_values.specs.declared.value.Tag.{Tag}
use Rattle.mail_tree.specs.Tree.{Tree}
use Rattle.mail_tree.specs.Changing.{Answer, ◌>>=◌, message_at, nothing}
use Rattle.mail_draft.specs.declared.stop.Stop.{Stop}
use Rattle.mail_draft.specs.Answers.{Says}
use Rattle.mail_draft.specs.Sight.{Sight}
use Rattle.mail_messages.specs.Parts.{value_reply}

-- the value of this id and kind of the message at an id, as a reply
unfoldable pub value_at : Tree → ℕ → Tag → Answer Reply
value_at T m tag = message_at T nothing m >>= λ M. value_reply tag M.props

-- The result is the value of this id and kind of the message at an id as a reply, if what is known of the message is so.
abbrev pub TellsReply : {A : Type 0} → Sight A → ℕ → Tag → (Mes → Type 0) → Result Reply Stop → Type 0
TellsReply desk m tag IsSo result = (T : Tree) → desk.shows T → (M : Mes) → message_at T nothing m ≡ Ok M → IsSo M → Says (λ r. r) (value_reply tag M.props) result
