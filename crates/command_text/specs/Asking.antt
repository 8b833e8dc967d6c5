-- Which commands only ask.
use Rattle.std.specs.Prelude.{Bool, true, false}
use Rattle.command_text.specs.declared.command.Command.{Command}
use Rattle.command_text.specs.declared.command.Command.TheVariants.{MakeFolder, RenameFolder, MoveFolder, RemoveFolder, ListFolder, NewMessage, SetProperty, UnsetProperty, GetProperty, ListProperties, MoveMessage, CopyMessage, RemoveMessage, AddRecipient, RemoveRecipient, AddAttachment, AppendData, SetEmbedded, RemoveAttachment, FetchData, Save, Quit, NameProperty, MakeSearch, SetCriteria, GetCriteria}

-- whether a command only asks
unfoldable pub asks : Command → Bool
asks (MakeFolder parent name) = false
asks (RenameFolder folder name) = false
asks (MoveFolder folder parent) = false
asks (RemoveFolder folder) = false
asks (ListFolder folder) = true
asks (NewMessage folder class time values) = false
asks (SetProperty message value) = false
asks (UnsetProperty message tag) = false
asks (GetProperty message tag) = true
asks (ListProperties message) = true
asks (MoveMessage message folder) = false
asks (CopyMessage message folder) = false
asks (RemoveMessage message) = false
asks (AddRecipient message kind address name) = false
asks (RemoveRecipient message row) = false
asks (AddAttachment message name held) = false
asks (AppendData message attachment content) = false
asks (SetEmbedded message attachment node) = false
asks (RemoveAttachment message attachment) = false
asks (FetchData message attachment) = true
asks (NameProperty guid number) = false
asks (MakeSearch parent name) = false
asks (SetCriteria search flags scope restriction) = false
asks (GetCriteria search) = true
asks Save = false
asks Quit = false
