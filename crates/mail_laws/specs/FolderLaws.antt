-- What a new folder has, and what a listing shows.
use Rattle.std.specs.Prelude.{◌≡◌, ◌↔◌, ℕ, ◌==◌, Bool, true, false, IfOk, List, [], ◌∷◌, ◌++◌, map, Option, None, Some, Ok, Err}
use Rattle.std.specs.List.{list_any}
use Rattle.pst_base.specs.declared.ids.Nid.{Nid}
use Rattle.mapi_values.specs.Keyed.{find_key, keys_ascend}
use Rattle.mapi_values.specs.Messages.{Mes}
use Rattle.mapi_values.specs.Properties.{find}
use Rattle.mapi_values.specs.Values.{Val}
use Rattle.command_text.specs.declared.command.Command.TheVariants.{ListFolder, MakeFolder}
use Rattle.command_text.specs.declared.reply.CommandRefusal.TheVariants.{Object as NoObject}
use Rattle.command_text.specs.declared.reply.DataLine.{DataLine}
use Rattle.command_text.specs.declared.reply.DataLine.TheVariants as lines
use Rattle.command_text.specs.declared.reply.LastLine.TheVariants.{Made}
use Rattle.mail_objects.specs.Forms.{Ctx}
use Rattle.mail_objects.specs.declared.object.Object.{Object}
use Rattle.mail_objects.specs.declared.object.Object.TheVariants.{Context}
use Rattle.mail_tree.specs.declared.places.FolderPlace.{FolderPlace}
use Rattle.mail_tree.specs.Places.{find_place, is_child, is_plain, place_id}
use Rattle.mail_tree.specs.Tree.{Tree, object_at}
use Rattle.mail_tree.specs.Values.{number, number_of, text, text_of, truth}
use Rattle.mail_tree.specs.Folders.{folder_line, listed, nid, replied, unchanged}
use Rattle.mail_tree.specs.Step.{after, outcome}
use Rattle.mail_tree.specs.Whole.{IsWhole}
use Rattle.mail_laws.specs.Laws.{message_with}

-- the ids of a new folder's values
abbrev pub is_new_folder_value : ℕ → Bool
is_new_folder_value id = list_any (λ own. own == id) (0x3001 ∷ 0x3602 ∷ 0x3603 ∷ 0x360A ∷ [])

-- A new folder of this name in that parent: what each id of a property finds, and nothing else.
pub record IsNewFolder (parent : ℕ) (name : List ℕ) (c : Ctx) : Type 0 where
  pub parent_is : c.parent ≡ parent
  pub name_is : find 0x3001 c.props ≡ Some (text 0x3001 name)
  pub no_messages : find 0x3602 c.props ≡ Some (number 0x3602 0)
  pub none_unread : find 0x3603 c.props ≡ Some (number 0x3603 0)
  pub no_folders : find 0x360A c.props ≡ Some (truth 0x360A false)
  pub no_other : (id : ℕ) → is_new_folder_value id ≡ false → find id c.props ≡ None
  pub none_kept : c.kept ≡ []

-- `mkdir` makes a folder with just these values
abbrev pub MakesBareFolder : Type 0
MakesBareFolder = (T : Tree) (parent : Nid) (name : List ℕ) → IsWhole T → IfOk (outcome T (MakeFolder parent name)) (λ o. (f : Nid) × (c : Ctx) × (o.reply ≡ replied (Made f))
    × (object_at (after T o) f.bits ≡ Some (Context c)) × IsNewFolder parent.bits name c)

-- the values of what stands there, if it is a folder
abbrev pub values_of : Option Object → List Val
values_of (Some (Context c)) = c.props
values_of other = []

-- the line that shows a folder: its id, its name, and whether it holds messages
abbrev pub line_of_folder : Tree → FolderPlace → DataLine
line_of_folder T p = folder_line p (values_of (object_at T (place_id p)))

-- the line that shows a message: its id, what it tells of its size, and its subject
abbrev pub line_of_message : Mes → DataLine
line_of_message M = lines.Message (nid M.nid) (number_of 0x0E08 M.props) (text_of 0x0037 M.props)

-- The lines show just the folders that stand in this one, ascending by their ids, and then just the messages whose folder it is, ascending by theirs.
pub record ShowsAll (T : Tree) (f : ℕ) (shown : List DataLine) : Type 0 where
  pub folders : List FolderPlace
  pub messages : List Mes
  pub lines_are : shown ≡ map (line_of_folder T) folders ++ map line_of_message messages
  pub folders_ascend : keys_ascend place_id 0 folders ≡ true
  pub messages_ascend : keys_ascend (λ (M : Mes). M.nid) 0 messages ≡ true
  pub each_folder : (g : ℕ) (p : FolderPlace) → (find_place g folders ≡ Some p) ↔ ((find_place g T.places ≡ Some p) × (is_child f p ≡ true))
  pub each_message : (m : ℕ) (M : Mes) → (find_key (λ (N : Mes). N.nid) m messages ≡ Some M) ↔ ((message_with T m ≡ Some M) × (M.folder ≡ f))

-- `ls` shows all that is in a plain folder, and nothing of another one; where there is no folder it is refused
pub record ListsFolders : Type 0 where
  pub plain : (T : Tree) (f : Nid) (p : FolderPlace) → IsWhole T → find_place f.bits T.places ≡ Some p → is_plain p ≡ true
      → (shown : List DataLine) × (outcome T (ListFolder f) ≡ Ok (unchanged T (listed shown))) × ShowsAll T f.bits shown
  pub foreign : (T : Tree) (f : Nid) (p : FolderPlace) → find_place f.bits T.places ≡ Some p → is_plain p ≡ false → outcome T (ListFolder f) ≡ Ok (unchanged T (listed []))
  pub missing : (T : Tree) (f : Nid) → find_place f.bits T.places ≡ None → outcome T (ListFolder f) ≡ Err (Some NoObject)
