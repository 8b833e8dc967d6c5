-- Where a message is found, and what it tells of itself.
use Rattle.std.specs.Prelude.{◌≡◌, ◌↔◌, ℕ, ◌/◌, ◌%◌, ◌==◌, Bool, false, IfOk, List, [], ◌∷◌, Option, None, Some, Ok, Err}
use Rattle.std.specs.List.{list_any}
use Rattle.pst_base.specs.declared.ids.Nid.{Nid}
use Rattle.mapi_values.specs.Messages.{Mes, size}
use Rattle.mapi_values.specs.Properties.{find}
use Rattle.mapi_values.specs.Values.{Val}
use Rattle.command_text.specs.declared.command.Command.{Command}
use Rattle.command_text.specs.declared.command.Command.TheVariants.{NewMessage, SetProperty, UnsetProperty, AddRecipient, RemoveRecipient, AddAttachment, AppendData, RemoveAttachment, SetEmbedded}
use Rattle.command_text.specs.declared.reply.CommandRefusal.TheVariants.{Object}
use Rattle.command_text.specs.declared.reply.LastLine.TheVariants.{Made}
use Rattle.mail_objects.specs.Forms.{Ctx}
use Rattle.mail_objects.specs.declared.object.Object.TheVariants.{Context}
use Rattle.mail_tree.specs.Tree.{Tree, object_at}
use Rattle.mail_tree.specs.Values.{has_parts, number, number_of, put_all, search_key, text, time_value, value}
use Rattle.mail_tree.specs.Folders.{replied}
use Rattle.mail_tree.specs.Messages.{message_in}
use Rattle.mail_tree.specs.Step.{after, outcome}
use Rattle.mail_tree.specs.Whole.{IsWhole}
use Rattle.mail_laws.specs.Laws.{message_with}

-- a command finds a message exactly where the tree has it, and is refused where the tree has none
pub record FindsMessages : Type 0 where
  pub finds : (T : Tree) (m : ℕ) (M : Mes) → IsWhole T → (message_in T m ≡ Ok M) ↔ (message_with T m ≡ Some M)
  pub refuses : (T : Tree) (m : ℕ) → IsWhole T → (message_in T m ≡ Err (Some Object)) ↔ (message_with T m ≡ None)

-- bit 10h of the message's flags, which says that it has attachments
abbrev pub attachment_flag : Mes → Bool
attachment_flag M = number_of 0x0E07 M.props / 16 % 2 == 1

-- the message tells its own size, and whether it has attachments
pub record TellsOfItself (M : Mes) : Type 0 where
  pub size_is : find 0x0E08 M.props ≡ Some (number 0x0E08 (size M))
  pub flag_is : attachment_flag M ≡ has_parts M.parts

-- the message whose values, recipients or attachments the command changes
abbrev pub changes : Command → Option ℕ
changes (SetProperty message value) = Some message.bits
changes (UnsetProperty message tag) = Some message.bits
changes (AddRecipient message kind address name) = Some message.bits
changes (RemoveRecipient message row) = Some message.bits
changes (AddAttachment message name held) = Some message.bits
changes (AppendData message attachment bytes) = Some message.bits
changes (SetEmbedded message attachment node) = Some message.bits
changes (RemoveAttachment message attachment) = Some message.bits
changes other = None

-- a message that was made or changed tells of itself rightly, whatever it told before
pub record TellRightly : Type 0 where
  pub makes : (T : Tree) (folder : Nid) (class : List ℕ) (time : ℕ) (values : List Val) → IsWhole T → IfOk (outcome T (NewMessage folder class time values)) (λ o. (n : Nid) × (M : Mes) × (o.reply ≡ replied (Made n)) × (message_with (after T o) n.bits ≡ Some M) × TellsOfItself M)
  pub changed : (T : Tree) (c : Command) (m : ℕ) → IsWhole T → changes c ≡ Some m → IfOk (outcome T c) (λ o. (M : Mes) × (message_with (after T o) m ≡ Some M) × TellsOfItself M)

-- the ids of the values that each new message has
abbrev pub is_new_message_value : ℕ → Bool
is_new_message_value id = list_any (λ own. own == id) (0x001A ∷ 0x0E07 ∷ 0x0E08 ∷ 0x3007 ∷ 0x3008 ∷ 0x300B ∷ [])

-- A new message of this id, in that folder of a store of these values, given those: what each id of a property finds, and nothing else.
pub record IsNewMessage (m folder : ℕ) (class : List ℕ) (time : ℕ) (store values : List Val) (M : Mes) : Type 0 where
  pub folder_is : M.folder ≡ folder
  pub class_is : find 0x001A M.props ≡ Some (text 0x001A class)
  pub flags_are : find 0x0E07 M.props ≡ Some (number 0x0E07 0)
  pub size_is : find 0x0E08 M.props ≡ Some (number 0x0E08 (size M))
  pub made_at : find 0x3007 M.props ≡ Some (time_value 0x3007 time)
  pub changed_at : find 0x3008 M.props ≡ Some (time_value 0x3008 time)
  pub key_is : find 0x300B M.props ≡ Some (value 0x300B 0x0102 (search_key m store))
  pub no_other : (id : ℕ) → is_new_message_value id ≡ false → find id M.props ≡ find id (put_all values [])
  pub no_recipients : M.recipients ≡ None
  pub no_attachments : (M.attachments ≡ None) × (M.parts ≡ [])
  pub none_kept : M.kept ≡ []

-- `new` makes a message with just these values and those that it is given
abbrev pub MakesBareMessage : Type 0
MakesBareMessage = (T : Tree) (folder : Nid) (class : List ℕ) (time : ℕ) (values : List Val) → IsWhole T → IfOk (outcome T (NewMessage folder class time values)) (λ o. (n : Nid) × (M : Mes) × (store : Ctx) × (o.reply ≡ replied (Made n))
    × (message_with (after T o) n.bits ≡ Some M) × (object_at T 0x21 ≡ Some (Context store)) × IsNewMessage n.bits folder.bits class time store.props values M)
