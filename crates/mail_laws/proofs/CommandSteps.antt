-- Each command leaves a tree whole.
use Rattle.command_text.specs.declared.command.Command.{Command}
use Rattle.command_text.specs.declared.command.Command.TheVariants.{MakeFolder, RenameFolder, MoveFolder, RemoveFolder, ListFolder, NewMessage, SetProperty, UnsetProperty, GetProperty, ListProperties, MoveMessage, CopyMessage, RemoveMessage, AddRecipient, RemoveRecipient, AddAttachment, AppendData, RemoveAttachment, FetchData, Save, Quit, NameProperty, MakeSearch, SetCriteria, GetCriteria, SetEmbedded}
use Rattle.mail_tree.specs.Step.{outcome}
use Rattle.mail_tree.specs.Tree.{Tree}
use Rattle.mail_tree.specs.Whole.{Fine, HasNoStray}
use Rattle.mail_laws.proofs.FolderSteps.{fine_listing, fine_made_folder, fine_moved_folder, fine_removed_folder, fine_renamed}
use Rattle.mail_laws.proofs.MessageSteps.{Before, Keeps, fine_copied, fine_details, fine_get, fine_moved, fine_new, fine_removed, fine_set, fine_unset, fine_added_recipient, fine_removed_recipient, fine_added_attachment, fine_appended_data, fine_removed_attachment, fine_set_embedded, fine_fetched_data}
use Rattle.mail_laws.proofs.NameSteps.{fine_named}

pub keeps_whole : (T : Tree) (c : Command) → Before T → HasNoStray T → Fine (outcome T c) (Keeps T)
unfolding outcome
keeps_whole T (MakeFolder parent name) w clear = fine_made_folder T parent.bits name w
keeps_whole T (RenameFolder folder name) w clear = fine_renamed T folder.bits name w
keeps_whole T (MoveFolder folder parent) w clear = fine_moved_folder T folder.bits parent.bits w
keeps_whole T (RemoveFolder folder) w clear = fine_removed_folder T folder.bits w clear
keeps_whole T (ListFolder folder) w clear = fine_listing T folder.bits w
keeps_whole T (NewMessage folder class time values) w clear = fine_new T folder.bits class time values w
keeps_whole T (SetProperty message value) w clear = fine_set T message.bits value w
keeps_whole T (UnsetProperty message tag) w clear = fine_unset T message.bits tag w
keeps_whole T (GetProperty message tag) w clear = fine_get T message.bits tag w
keeps_whole T (ListProperties message) w clear = fine_details T message.bits w
keeps_whole T (MoveMessage message folder) w clear = fine_moved T message.bits folder.bits w
keeps_whole T (CopyMessage message folder) w clear = fine_copied T message.bits folder.bits w
keeps_whole T (RemoveMessage message) w clear = fine_removed T message.bits w
keeps_whole T (AddRecipient message kind address name) w clear = fine_added_recipient T message.bits kind address name w
keeps_whole T (RemoveRecipient message row) w clear = fine_removed_recipient T message.bits row w
keeps_whole T (AddAttachment message name held) w clear = fine_added_attachment T message.bits name held w
keeps_whole T (AppendData message attachment bytes) w clear = fine_appended_data T message.bits attachment.bits bytes w
keeps_whole T (SetEmbedded message attachment node) w clear = fine_set_embedded T message.bits attachment.bits node w
keeps_whole T (RemoveAttachment message attachment) w clear = fine_removed_attachment T message.bits attachment.bits w
keeps_whole T (FetchData message attachment) w clear = fine_fetched_data T message.bits attachment.bits w
keeps_whole T (NameProperty guid number) w clear = fine_named T guid number w
keeps_whole T (MakeSearch parent name) w clear = tt
keeps_whole T (SetCriteria folder flags scope restriction) w clear = tt
keeps_whole T (GetCriteria folder) w clear = tt
keeps_whole T Save w clear = w
keeps_whole T Quit w clear = w
