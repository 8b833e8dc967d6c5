-- Which messages a command touches, by its form.
use Rattle.std.specs.Prelude.{◌≡◌, true, List, [], ◌∷◌, None, Ok, if◌then◌else◌}
use Rattle.std.specs.Option.{is_some}
use Rattle.command_text.specs.declared.command.Command.{Command}
use Rattle.command_text.specs.declared.command.Command.TheVariants.{MakeFolder, RenameFolder, MoveFolder, RemoveFolder, ListFolder, NewMessage, SetProperty, UnsetProperty, GetProperty, ListProperties, MoveMessage, CopyMessage, RemoveMessage, AddRecipient, RemoveRecipient, AddAttachment, AppendData, RemoveAttachment, FetchData, NameProperty, MakeSearch, SetCriteria, GetCriteria, Save, Quit, SetEmbedded}
use Rattle.command_text.specs.declared.reply.LastLine.{LastLine}
use Rattle.command_text.specs.declared.reply.LastLine.TheVariants.{Made}
use Rattle.mail_tree.specs.Changing.{Answer, as_message}
use Rattle.mail_tree.specs.Folders.{Outcome}
use Rattle.mail_tree.specs.Tree.{Tree, object_at}
use Rattle.mail_searches.specs.Relisting.{Touch}
use Rattle.mail_searches.specs.Touching.{made, messages_below, stands_in, touch_at}
use Rattle.search_results.specs.declared.forms.TouchForm.{TouchForm}
use Rattle.search_results.specs.declared.forms.TouchForm.TheVariants as forms

-- which messages a command touches
abbrev pub form_of : Command → TouchForm
form_of (MakeFolder parent name) = forms.Nothing
form_of (RenameFolder folder name) = forms.Nothing
form_of (MoveFolder folder parent) = forms.Within folder parent
form_of (RemoveFolder folder) = forms.Nothing
form_of (ListFolder folder) = forms.Nothing
form_of (NewMessage folder class time values) = forms.Made
form_of (SetProperty message value) = forms.Message message
form_of (UnsetProperty message tag) = forms.Message message
form_of (GetProperty message tag) = forms.Nothing
form_of (ListProperties message) = forms.Nothing
form_of (MoveMessage message folder) = forms.Message message
form_of (CopyMessage message folder) = forms.Made
form_of (RemoveMessage message) = forms.Message message
form_of (AddRecipient message kind address name) = forms.Message message
form_of (RemoveRecipient message row) = forms.Message message
form_of (AddAttachment message name held) = forms.Message message
form_of (AppendData message attachment bytes) = forms.Message message
form_of (SetEmbedded message attachment node) = forms.Message message
form_of (RemoveAttachment message attachment) = forms.Message message
form_of (FetchData message attachment) = forms.Nothing
form_of (NameProperty guid number) = forms.Nothing
form_of (MakeSearch parent name) = forms.Nothing
form_of (SetCriteria search flags scope restriction) = forms.Nothing
form_of (GetCriteria search) = forms.Nothing
form_of Save = forms.Nothing
form_of Quit = forms.Nothing

-- the messages that a command of this form touches, where it comes to this
abbrev pub touched_by : Tree → TouchForm → Outcome → Answer (List Touch)
touched_by T forms.Nothing o = Ok []
touched_by T forms.Made o = Ok (made T o o.reply.last)
touched_by T (forms.Message m) o = Ok (touch_at T o m.bits ∷ [])
touched_by T (forms.Within folder parent) o = if stands_in T folder.bits parent.bits then Ok [] else messages_below T folder.bits T.places

-- the message that was made, by the reply, wasn't there before
abbrev pub IsNew : Tree → LastLine → Type 0
IsNew T (Made n) = as_message (object_at T n.bits) ≡ None
IsNew T other = Unit {0}

-- the message that a command of this form names was there before, and one that it makes wasn't
abbrev pub Stood : Tree → TouchForm → Outcome → Type 0
Stood T forms.Nothing o = Unit {0}
Stood T forms.Made o = IsNew T o.reply.last
Stood T (forms.Message m) o = is_some (as_message (object_at T m.bits)) ≡ true
Stood T (forms.Within folder parent) o = Unit {0}
