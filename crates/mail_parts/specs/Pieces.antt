-- The commands on recipients and attachments, part by part.
use Rattle.std.specs.Prelude.{ℕ, List, not, None}
use Rattle.std.specs.Option.{is_some}
use Rattle.pst_base.specs.declared.subs.Sub.{Sub}
use Rattle.command_text.specs.declared.command.Held.{Held}
use Rattle.command_text.specs.declared.reply.CommandRefusal.TheVariants.{Limit, Object, Property}
use Rattle.command_text.specs.declared.reply.Limit.TheVariants.{Rows}
use Rattle.command_text.specs.declared.reply.LastLine.TheVariants.{Done}
use Rattle.mapi_values.specs.Messages.{Mes}
use Rattle.mapi_values.specs.Values.{Val}
use Rattle.mapi_values.specs.declared.part.Part.{Part}
use Rattle.mail_tree.specs.Tree.{Tree}
use Rattle.mail_tree.specs.Values.{bytes_of}
use Rattle.mail_tree.specs.Changing.{Answer, ◌>>=◌, found, refused_if}
use Rattle.mail_tree.specs.Folders.{Outcome}
use Rattle.mail_tree.specs.Messages.{adding_attachment, adding_recipient, appending, remaking}
use Rattle.mail_tree.specs.Parts.{attachment_tags, data_tag, has_recipient, is_full, is_wide, next_part, next_row, part_holding, part_in, recipient_tags, rows_of, with_part, without_attachment, without_recipient}
use Rattle.mail_messages.specs.Parts.{telling_value}

-- a message with a recipient table that has room gets a recipient
abbrev pub adding_to : Tree → Mes → List Val → Answer Outcome
adding_to T M props = refused_if (is_wide recipient_tags M.recipients) (Limit Rows) >>= λ u. adding_recipient T M props (next_row (rows_of M.recipients))

-- a message gets a recipient of these values
abbrev pub adding_one : Tree → Mes → List Val → Answer Outcome
adding_one T M props = refused_if (is_full M.recipients) (Limit Rows) >>= λ u. adding_to T M props

-- a message loses the recipient in this row
abbrev pub removing_one : Tree → ℕ → Mes → Answer Outcome
removing_one T row M = refused_if (not (has_recipient row M)) Object >>= λ u. remaking T (without_recipient row M) None Done

-- a message with an attachment table that has room gets an attachment
abbrev pub attaching_to : Tree → Mes → List ℕ → Held → Answer Outcome
attaching_to T M name held = refused_if (is_wide attachment_tags M.attachments) (Limit Rows) >>= λ u. adding_attachment T M name held (next_part M)

-- a message gets an attachment of this name that holds this
abbrev pub attaching : Tree → Mes → List ℕ → Held → Answer Outcome
attaching T M name held = refused_if (is_full M.attachments) (Limit Rows) >>= λ u. attaching_to T M name held

-- this attachment of a message gets another message
abbrev pub holding : Tree → Sub → Part → Mes → Answer Outcome
holding T node part M = remaking T (with_part (part_holding node part) M) None Done

-- the attachment of a message with this id gets another message
abbrev pub holding_in : Tree → ℕ → Sub → Mes → Answer Outcome
holding_in T n node M = found Object (part_in n M) >>= λ part. holding T node part M

-- a message loses the attachment with this id
abbrev pub detaching : Tree → ℕ → Mes → Answer Outcome
detaching T n M = refused_if (not (is_some (part_in n M))) Object >>= λ u. remaking T (without_attachment n M) None Done

-- an attachment of a message gets bytes behind its data, if it has any
abbrev pub appending_to : Tree → List ℕ → Mes → Part → Answer Outcome
appending_to T more M part = found Property (bytes_of 0x3701 0x0102 part.props) >>= λ old. appending T M part old more

-- the attachment of a message with this id gets bytes behind its data
abbrev pub appending_in : Tree → ℕ → List ℕ → Mes → Answer Outcome
appending_in T n more M = found Object (part_in n M) >>= λ part. appending_to T more M part

-- the data of the attachment with this id is the reply
abbrev pub telling_data : Tree → ℕ → Mes → Answer Outcome
telling_data T n M = found Object (part_in n M) >>= λ part. telling_value T data_tag part.props
