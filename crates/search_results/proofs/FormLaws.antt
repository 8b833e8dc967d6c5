-- A command touches the messages that its form says.
use Rattle.std.proofs.Common.{◌≡◌, ℕ, List, [], Result, Ok, refl, ap, sym, subst, ◌∙◌, if◌then◌else◌}
use Rattle.command_text.specs.declared.command.Command.{Command}
use Rattle.command_text.specs.declared.command.Command.TheVariants.{MakeFolder, RenameFolder, MoveFolder, RemoveFolder, ListFolder, NewMessage, SetProperty, UnsetProperty, GetProperty, ListProperties, MoveMessage, CopyMessage, RemoveMessage, AddRecipient, RemoveRecipient, AddAttachment, AppendData, RemoveAttachment, FetchData, NameProperty, MakeSearch, SetCriteria, GetCriteria, Save, Quit, SetEmbedded}
use Rattle.mail_tree.specs.Folders.{Outcome}
use Rattle.mail_tree.specs.Changing.{Answer}
use Rattle.mail_tree.specs.Tree.{Tree}
use Rattle.mail_searches.specs.Relisting.{Touch}
use Rattle.mail_searches.specs.Touching.{stands_in, messages_below, touched}
use Rattle.pst_base.specs.declared.ids.Nid.{Nid}
use Rattle.mail_draft.specs.declared.stop.Stop.{Stop}
use Rattle.mail_draft.specs.Answers.{Says}
use Rattle.search_results.specs.declared.forms.TouchForm.{TouchForm}
use Rattle.search_results.specs.declared.forms.TouchForm.TheVariants as forms
use Rattle.search_results.specs.Forms.{form_of, touched_by}
use Rattle.search_results.specs.Moving.{carried_along}
use Rattle.search_results.proofs.JoinLaws.{below_joined}

pub touched_is : (T : Tree) (c : Command) (o : Outcome) → touched T c o ≡ touched_by T (form_of c) o
touched_is T (MakeFolder parent name) o = refl
touched_is T (RenameFolder folder name) o = refl
touched_is T (MoveFolder folder parent) o = refl
touched_is T (RemoveFolder folder) o = refl
touched_is T (ListFolder folder) o = refl
touched_is T (NewMessage folder class time values) o = refl
touched_is T (SetProperty message value) o = refl
touched_is T (UnsetProperty message tag) o = refl
touched_is T (GetProperty message tag) o = refl
touched_is T (ListProperties message) o = refl
touched_is T (MoveMessage message folder) o = refl
touched_is T (CopyMessage message folder) o = refl
touched_is T (RemoveMessage message) o = refl
touched_is T (AddRecipient message kind address name) o = refl
touched_is T (RemoveRecipient message row) o = refl
touched_is T (AddAttachment message name held) o = refl
touched_is T (AppendData message attachment bytes) o = refl
touched_is T (SetEmbedded message attachment node) o = refl
touched_is T (RemoveAttachment message attachment) o = refl
touched_is T (FetchData message attachment) o = refl
touched_is T (NameProperty guid number) o = refl
touched_is T (MakeSearch parent name) o = refl
touched_is T (SetCriteria search flags scope restriction) o = refl
touched_is T (GetCriteria search) o = refl
touched_is T Save o = refl
touched_is T Quit o = refl

-- what moves along with a folder is all below it
pub along_is : (T : Tree) (f parent : ℕ) → carried_along T f parent ≡ (if stands_in T f parent then Ok [] else messages_below T f T.places)
along_is T f parent = ap (λ (a : Answer (List Touch)). if stands_in T f parent then Ok [] else a) (below_joined T f T.places)

-- what is said of the messages that a form touches
pub by_form : {D : Type 0} (view : D → List Touch) (T : Tree) (c : Command) (o : Outcome) (form : TouchForm) (r : Result D Stop) → form ≡ form_of c → Says view (touched_by T form o) r → Says view (touched T c o) r
by_form view T c o form r e h = subst (λ (a : Answer (List Touch)). Says view a r) (ap (λ f. touched_by T f o) e ∙ sym (touched_is T c o)) h

-- what moves along
pub from_along : {D : Type 0} (view : D → List Touch) (T : Tree) (folder parent : Nid) (o : Outcome) (r : Result D Stop) → Says view (carried_along T folder.bits parent.bits) r → Says view (touched_by T (forms.Within folder parent) o) r
from_along view T folder parent o r h = subst (λ (a : Answer (List Touch)). Says view a r) (along_is T folder.bits parent.bits) h
