-- Which messages a command touches.
use Rattle.std.specs.Prelude.{ℕ, ◌&&◌, ◌==◌, ◌++◌, Bool, false, List, [], ◌∷◌, Some, Ok, if◌then◌else◌}
use Rattle.std.specs.Option.{is_some}
use Rattle.std.specs.FinMap as map
use Rattle.mail_tree.specs.command_text.declared.command.Command.{Command}
use Rattle.mail_tree.specs.command_text.declared.command.Command.TheVariants.{MoveFolder, NewMessage, SetProperty, UnsetProperty, MoveMessage, CopyMessage, RemoveMessage, AddRecipient, RemoveRecipient, AddAttachment, AppendData, RemoveAttachment, SetEmbedded}
use Rattle.mail_tree.specs.command_text.declared.reply.LastLine.{LastLine}
use Rattle.mail_tree.specs.command_text.declared.reply.LastLine.TheVariants.{Made}
use Rattle.restr_eval.specs.Eval.{holds_of}
use Rattle.mail_tree.specs.declared.places.FolderPlace.{FolderPlace}
use Rattle.mail_tree.specs.Changing.{Answer, ◌>>=◌, as_message, contents, message_at, nothing, now_at, table_at}
use Rattle.mail_tree.specs.Folders.{Outcome}
use Rattle.mail_tree.specs.Places.{is_plain, is_within, parent_in, place_id}
use Rattle.mail_tree.specs.Settling.{message_ids}
use Rattle.mail_tree.specs.Tree.{Tree, object_at}
use Rattle.mail_searches.specs.Searches.{Search}
use Rattle.mail_searches.specs.Relisting.{Touch, with_searches}

-- the message with this id, before and after a command that comes to this
abbrev pub touch_at : Tree → Outcome → ℕ → Touch
touch_at T o m = record { nid = m; old = as_message (object_at T m); new = as_message (now_at T o.changed m); anew = is_some (map.get o.changed.objects m) }

-- the message that was made, by the reply
abbrev pub made : Tree → Outcome → LastLine → List Touch
made T o (Made n) = touch_at T o n.bits ∷ []
made T o other = []

-- messages that stay as they are, while the folder in which they stand moves
abbrev pub carried : Tree → List ℕ → Answer (List Touch)
carried T [] = Ok []
carried T (m ∷ ms) = message_at T nothing m >>= λ M. carried T ms >>= λ ts. Ok (record { nid = m; old = Some M; new = Some M; anew = false } ∷ ts)

-- the messages in those of these folders that are plain and stand within f
abbrev pub messages_below : Tree → ℕ → List FolderPlace → Answer (List Touch)
messages_below T f [] = Ok []
messages_below T f (p ∷ ps) = if is_plain p && is_within T.places f (place_id p)
    then (table_at T nothing (contents (place_id p)) >>= λ t. carried T (message_ids t.table) >>= λ ts. messages_below T f ps >>= λ more. Ok (ts ++ more))
    else messages_below T f ps

-- the folder stands directly in that one
abbrev pub stands_in : Tree → ℕ → ℕ → Bool
stands_in T f parent = holds_of (λ p. p == parent) (parent_in T.places f)

-- The messages that a command touches, where it comes to this: the one that it names or makes, and all within a folder that moves.
abbrev pub touched : Tree → Command → Outcome → Answer (List Touch)
touched T (NewMessage folder class time values) o = Ok (made T o o.reply.last)
touched T (CopyMessage message folder) o = Ok (made T o o.reply.last)
touched T (SetProperty message value) o = Ok (touch_at T o message.bits ∷ [])
touched T (UnsetProperty message tag) o = Ok (touch_at T o message.bits ∷ [])
touched T (MoveMessage message folder) o = Ok (touch_at T o message.bits ∷ [])
touched T (RemoveMessage message) o = Ok (touch_at T o message.bits ∷ [])
touched T (AddRecipient message kind address name) o = Ok (touch_at T o message.bits ∷ [])
touched T (RemoveRecipient message row) o = Ok (touch_at T o message.bits ∷ [])
touched T (AddAttachment message name held) o = Ok (touch_at T o message.bits ∷ [])
touched T (AppendData message attachment bytes) o = Ok (touch_at T o message.bits ∷ [])
touched T (SetEmbedded message attachment node) o = Ok (touch_at T o message.bits ∷ [])
touched T (RemoveAttachment message attachment) o = Ok (touch_at T o message.bits ∷ [])
touched T (MoveFolder folder parent) o = if stands_in T folder.bits parent.bits then Ok [] else messages_below T folder.bits T.places
touched T other o = Ok []

-- what a command comes to, with the searches of the store
abbrev pub followed : Tree → List Search → Command → Outcome → Answer Outcome
followed T ss c o = touched T c o >>= λ ts. with_searches T ss ts o
