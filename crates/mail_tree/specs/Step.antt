-- What a command does to the tree, and what is replied.
use Rattle.std.specs.Prelude.{ℕ, List, [], ◌∷◌, Option, None, Some, Ok, Err}
use Rattle.std.specs.FinMap as map
use Rattle.command_text.specs.declared.command.Command.{Command}
use Rattle.command_text.specs.declared.command.Command.TheVariants.{MakeFolder, RenameFolder, MoveFolder, RemoveFolder, ListFolder, NewMessage, SetProperty, UnsetProperty, GetProperty, ListProperties, MoveMessage, CopyMessage, RemoveMessage, AddRecipient, RemoveRecipient, AddAttachment, AppendData, SetEmbedded, RemoveAttachment, FetchData, Save, Quit, NameProperty, MakeSearch, SetCriteria, GetCriteria}
use Rattle.command_text.specs.declared.reply.CommandRefusal.TheVariants.{Line}
use Rattle.command_text.specs.declared.reply.LastLine.TheVariants.{Done, Refused}
use Rattle.command_text.specs.declared.reply.Reply.{Reply}
use Rattle.mail_objects.specs.declared.object.Object.{Object}
use Rattle.node_port.specs.Nodes.{Nodes, set_at}
use Rattle.mail_tree.specs.Tree.{Objects, Tree}
use Rattle.mail_tree.specs.Changing.{Answer}
use Rattle.mail_tree.specs.Folders.{Outcome, listing, made_folder, moved_folder, removed_folder, renamed_folder, replied, unchanged}
use Rattle.mail_tree.specs.Messages.{added_attachment, added_recipient, appended_data, copied_message, details, fetched_data, moved_message, new_message, removed_attachment, removed_message, removed_recipient, set_embedded, set_value, unset_value, value_in}
use Rattle.mail_tree.specs.Names.{named_property}

-- what a command comes to, or why it is refused; a tree by itself knows no searches, and their lines are none of its
unfoldable pub outcome : Tree → Command → Answer Outcome
outcome T (MakeFolder parent name) = made_folder T parent.bits name
outcome T (RenameFolder folder name) = renamed_folder T folder.bits name
outcome T (MoveFolder folder parent) = moved_folder T folder.bits parent.bits
outcome T (RemoveFolder folder) = removed_folder T folder.bits
outcome T (ListFolder folder) = listing T folder.bits
outcome T (NewMessage folder class time values) = new_message T folder.bits class time values
outcome T (SetProperty message value) = set_value T message.bits value
outcome T (UnsetProperty message tag) = unset_value T message.bits tag
outcome T (GetProperty message tag) = value_in T message.bits tag
outcome T (ListProperties message) = details T message.bits
outcome T (MoveMessage message folder) = moved_message T message.bits folder.bits
outcome T (CopyMessage message folder) = copied_message T message.bits folder.bits
outcome T (RemoveMessage message) = removed_message T message.bits
outcome T (AddRecipient message kind address name) = added_recipient T message.bits kind address name
outcome T (RemoveRecipient message row) = removed_recipient T message.bits row
outcome T (AddAttachment message name held) = added_attachment T message.bits name held
outcome T (AppendData message attachment bytes) = appended_data T message.bits attachment.bits bytes
outcome T (SetEmbedded message attachment node) = set_embedded T message.bits attachment.bits node
outcome T (RemoveAttachment message attachment) = removed_attachment T message.bits attachment.bits
outcome T (FetchData message attachment) = fetched_data T message.bits attachment.bits
outcome T (NameProperty guid number) = named_property T guid number
outcome T (MakeSearch parent name) = Err (Some Line)
outcome T (SetCriteria search flags scope restriction) = Err (Some Line)
outcome T (GetCriteria search) = Err (Some Line)
outcome T Save = Ok (unchanged T (replied Done))
outcome T Quit = Ok (unchanged T (replied Done))

abbrev pub set_object : Objects → ℕ → Option Object → Objects
set_object objects q None = map.remove objects q
set_object objects q (Some object) = map.insert objects q object

-- the objects after all changes
abbrev pub with_changes : List (ℕ × Option Object) → Objects → Objects
with_changes [] objects = objects
with_changes (c ∷ cs) objects = set_object (with_changes cs objects) c.0 c.1

-- the other nodes, of which none stands where something changed
abbrev pub without_changed : List (ℕ × Option Object) → Nodes → Nodes
without_changed [] others = others
without_changed (c ∷ cs) others = set_at (without_changed cs others) c.0 None

-- the tree after a command came to this
abbrev pub after : Tree → Outcome → Tree
after T o = record { places = o.places; objects = with_changes (map.entries o.changed.objects) T.objects; others = without_changed (map.entries o.changed.objects) T.others; last = o.last }

-- the tree and the reply after a command: a refusal changes nothing
abbrev pub stepped : Tree → Answer Outcome → Option (Tree × Reply)
stepped T (Ok o) = Some (after T o, o.reply)
stepped T (Err (Some refusal)) = Some (T, replied (Refused refusal))
stepped T (Err None) = None

-- The step of a command: the tree after it, and the reply; none where something in the tree isn't of its form.
abbrev pub step : Tree → Command → Option (Tree × Reply)
step T c = stepped T (outcome T c)
