-- From the steps of a proof to the words of mail.
use Rattle.std.proofs.Common.{◌≡◌, ℕ, filter, List, inl, inr, true, Option, None, Some, IfOk, Ok, refl, sym, subst, ap, ◌∙◌}
use Rattle.std.proofs.lemmas.Bool.{cases_Bool, eq-eqb}
use Rattle.mapi_values.specs.Messages.{Mes}
use Rattle.mapi_values.specs.Properties.{find}
use Rattle.mapi_values.specs.Values.{Val}
use Rattle.command_text.specs.declared.command.Command.{Command}
use Rattle.command_text.specs.declared.command.Command.TheVariants.{MakeFolder, RenameFolder, MoveFolder, RemoveFolder, ListFolder, NewMessage, SetProperty, UnsetProperty, GetProperty, ListProperties, MoveMessage, CopyMessage, RemoveMessage, AddRecipient, RemoveRecipient, AddAttachment, AppendData, RemoveAttachment, FetchData, Save, Quit, NameProperty, MakeSearch, SetCriteria, GetCriteria, SetEmbedded}
use Rattle.command_text.specs.declared.reply.LastLine.TheVariants.{Value}
use Rattle.mail_objects.specs.declared.object.Object.{Object}
use Rattle.mail_objects.specs.declared.object.Object.TheVariants.{Context, Table, Message, Bare}
use Rattle.mail_tree.specs.Tree.{Tree, object_at}
use Rattle.mail_tree.specs.Changing.{as_message, contents, nothing, now_at, table_at}
use Rattle.mail_tree.specs.Places.{find_place, is_child, is_plain}
use Rattle.mail_tree.specs.Settling.{message_ids}
use Rattle.mail_tree.specs.Folders.{Outcome, folder_lines, listing, message_lines, replied, unchanged}
use Rattle.mail_tree.specs.Messages.{details, fetched_data, message_in, value_in, value_of}
use Rattle.mail_tree.specs.Step.{after, outcome}
use Rattle.mail_laws.specs.Laws.{IsNamed, message_with, only_reads}
use Rattle.mail_tree.specs.Whole.{AreWhole, IsWhole}
use Rattle.mail_tree.proofs.AfterTree.{after_now, now_nothing}
use Rattle.mail_laws.proofs.CommandSteps.{keeps_whole}
use Rattle.mail_laws.proofs.Effects.{message_found}
use Rattle.mail_laws.proofs.Keeping.{both, from_fine, if_any, if_found, if_then}
use Rattle.mail_tree.specs.Parts.{data_tag, part_in}
use Rattle.command_text.specs.declared.reply.CommandRefusal.TheVariants.{Object as NoObject, Property as NoProperty}
use Rattle.mail_tree.proofs.FineLaws.{cases_Option}
use Rattle.mail_laws.proofs.PlaceEffects.{NamedNow}
use Rattle.mail_laws.proofs.MessageSteps.{Before, Keeps}

pub before : (T : Tree) → IsWhole T → Before T
before T w = subst (AreWhole T.places) (sym (now_nothing T)) w.objects

-- what a command does, and that the tree is whole after it
pub both_hold : (T : Tree) (c : Command) → IsWhole T → (P Q : Outcome → Type 0) → IfOk (outcome T c) P → ((o : Outcome) → Keeps T o → P o → Q o) → IfOk (outcome T c) Q
both_hold T c w P Q p next = both (Keeps T) P Q (outcome T c) (from_fine (Keeps T) (outcome T c) (keeps_whole T c (before T w) w.no_stray)) p next

pub was_message : (T : Tree) (m : ℕ) (M : Mes) → now_at T nothing m ≡ Some (Message M) → message_with T m ≡ Some M
was_message T m M is = ap (λ g. as_message (g m)) (sym (now_nothing T)) ∙ ap as_message is

pub was_nothing : (T : Tree) (q : ℕ) → now_at T nothing q ≡ None → object_at T q ≡ None
was_nothing T q is = ap (λ g. g q) (sym (now_nothing T)) ∙ is

-- an object that is a message
pub is_message : (o : Option Object) (M : Mes) → as_message o ≡ Some M → o ≡ Some (Message M)
is_message None M e = cc
is_message (Some (Context c)) M e = cc
is_message (Some (Table t)) M e = cc
is_message (Some (Bare parent)) M e = cc
is_message (Some (Message N)) M e = cc

-- `get` replies what a message has
pub gets : (T : Tree) (o : Outcome) (m : ℕ) (v : Val) (M : Mes) → Keeps T o → as_message (now_at T o.changed m) ≡ Some M → find v.id M.props ≡ Some v
    → value_in (after T o) m (record { id = v.id; kind = v.kind }) ≡ Ok (unchanged (after T o) (replied (Value v)))
unfolding value_in
gets T o m v M k is found =
    let T' = after T o in
    let w : Before T' = subst (AreWhole o.places) (after_now T o ∙ sym (now_nothing T')) k in
    let at : object_at T' m ≡ Some (Message M) = ap (λ g. g m) (sym (after_now T o)) ∙ is_message (now_at T o.changed m) M is in
    let at' : now_at T' nothing m ≡ Some (Message M) = ap (λ g. g m) (now_nothing T') ∙ at in
    rw (message_found T' m M w at', found, eq-eqb v.kind v.kind refl) refl

-- a folder that has a name now has it after the command
pub named : (T : Tree) (o : Outcome) (f : ℕ) (name : List ℕ) → NamedNow T f name o → IsNamed (after T o) f name
named T o f name n = (n.0, ap (λ g. g f) (sym (after_now T o)) ∙ n.1, n.2)

-- what only looks changes nothing
list_reads : (T : Tree) (f : ℕ) → IfOk (listing T f) (λ o. o ≡ unchanged T o.reply)
unfolding listing
list_reads T f = elim (cases_Option (find_place f T.places)) [
  | inl e ↦ rw e tt
  | inr p ↦ rw p.1 (elim (cases_Bool (is_plain p.0)) [
    | inr plain ↦ rw plain refl
    | inl plain ↦ rw plain (
        if_then (λ l. Unit {0}) _ (folder_lines T (filter (is_child f) T.places)) _ (if_any (folder_lines T (filter (is_child f) T.places))) (λ l u.
        if_then (λ t. Unit {0}) _ (table_at T nothing (contents f)) _ (if_any (table_at T nothing (contents f))) (λ t u.
        if_then (λ k. Unit {0}) _ (message_lines T (message_ids t.table)) _ (if_any (message_lines T (message_ids t.table))) (λ k u. refl))))
  ])
]

pub reads_only : (T : Tree) (c : Command) → only_reads c ≡ true → IfOk (outcome T c) (λ o. o ≡ unchanged T o.reply)
unfolding outcome value_in details fetched_data
reads_only T (ListFolder folder) e = list_reads T folder.bits
reads_only T (GetProperty message tag) e = if_then (λ M. Unit {0}) _ (message_in T message.bits) _ (if_any (message_in T message.bits)) (λ M u. elim (cases_Option (value_of tag M.props)) [ inl none ↦ rw none tt | inr v ↦ rw v.1 refl ])
reads_only T (ListProperties message) e = if_then (λ M. Unit {0}) _ (message_in T message.bits) _ (if_any (message_in T message.bits)) (λ M u. refl)
reads_only T (FetchData message attachment) e = if_then (λ M. Unit {0}) _ (message_in T message.bits) _ (if_any (message_in T message.bits)) (λ M u.
    if_found _ NoObject (part_in attachment.bits M) _ (λ part is. if_found _ NoProperty (value_of data_tag part.props) _ (λ v is'. refl)))
reads_only T (MakeSearch parent name) e = tt
reads_only T (SetCriteria folder flags scope restriction) e = tt
reads_only T (GetCriteria folder) e = tt
reads_only T Save e = refl
reads_only T Quit e = refl
reads_only T (MakeFolder parent name) e = cc
reads_only T (RenameFolder folder name) e = cc
reads_only T (MoveFolder folder parent) e = cc
reads_only T (RemoveFolder folder) e = cc
reads_only T (NewMessage folder class time values) e = cc
reads_only T (SetProperty message value) e = cc
reads_only T (UnsetProperty message tag) e = cc
reads_only T (MoveMessage message folder) e = cc
reads_only T (CopyMessage message folder) e = cc
reads_only T (RemoveMessage message) e = cc
reads_only T (AddRecipient message kind address name) e = cc
reads_only T (RemoveRecipient message row) e = cc
reads_only T (AddAttachment message name held) e = cc
reads_only T (AppendData message attachment bytes) e = cc
reads_only T (SetEmbedded message attachment node) e = cc
reads_only T (RemoveAttachment message attachment) e = cc
reads_only T (NameProperty guid number) e = cc
