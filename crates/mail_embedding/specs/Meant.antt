-- What a line on the message in an attachment comes to.
use Rattle.std.specs.Prelude.{◌≡◌, ◌⊎◌, ℕ, List, None, Some, Result, Ok, Err}
use Rattle.pst_base.specs.declared.ids.Nid.{Nid}
use Rattle.pst_base.specs.declared.subs.Sub.{Sub}
use Rattle.mapi_values.specs.Messages.{Mes, size}
use Rattle.mapi_values.specs.declared.part.Part.{Part}
use Rattle.command_text.specs.declared.command.Command.{Command}
use Rattle.command_text.specs.declared.command.Command.TheVariants.{AddAttachment, SetEmbedded}
use Rattle.command_text.specs.declared.command.Held.TheVariants.{Message}
use Rattle.command_text.specs.declared.embedded.EmbeddedCommand.{EmbeddedCommand}
use Rattle.command_text.specs.declared.embedded.EmbeddedCommand.TheVariants.{Embed, List as ListsInside, Get, Set, Unset}
use Rattle.command_text.specs.declared.reply.CommandRefusal.TheVariants.{Embedded, Object}
use Rattle.mail_tree.specs.Tree.{Tree}
use Rattle.mail_tree.specs.Changing.{Answer, ◌>>=◌, found}
use Rattle.mail_tree.specs.Folders.{listed}
use Rattle.mail_tree.specs.Messages.{message_in}
use Rattle.mail_tree.specs.Parts.{new_part, part_holding, part_in}
use Rattle.embedded_obj.specs.Embedding.{EMBEDDED, IsInner, ShowsInner, embedded, embedding, set_inside, unset_inside}
use Rattle.mail_parts.specs.mail_messages.Parts.{detail_lines, value_reply}
use Rattle.mail_parts.specs.mail_draft.declared.stop.Stop.{Stop}
use Rattle.mail_parts.specs.mail_draft.Answers.{IsNoMatter, Says}
use Rattle.mail_embedding.specs.declared.meaning.Meaning.{Meaning}
use Rattle.mail_embedding.specs.declared.meaning.Meaning.TheVariants.{Replies, Becomes}

-- The result is the answer, unless the disk failed or memory ran out; each thing that is asked is of its form.
abbrev pub Tells : {A : Type 0} → Answer A → Result A Stop → Type 0
Tells (Ok x) result = Says (λ y. y) (Ok x) result
Tells (Err (Some refusal)) result = Says (λ y. y) (Err (Some refusal)) result
Tells (Err None) result = ⊥

-- the disk failed or memory ran out
abbrev pub IsLost : {A : Type 0} → Result A Stop → Type 0
IsLost (Ok x) = ⊥
IsLost (Err stop) = IsNoMatter stop

-- an attachment of a message
unfoldable pub attachment_of : Tree → ℕ → ℕ → Answer Part
attachment_of T m n = message_in T m >>= λ M. found Object (part_in n M)

-- what is made of an attachment and the message that it holds; it is refused where it holds none
abbrev pub Inside : {A : Type 0} → Answer Part → (Part → Mes → Result A Stop → Type 0) → Result A Stop → Type 0
Inside (Ok part) P result = ((m : Mes) × ShowsInner part m × P part m result) ⊎ ((IsInner part None × Tells (Err (Some Embedded)) result) ⊎ IsLost result)
Inside (Err reason) P result = Tells (Err reason) result

-- the answer becomes a command of the store
abbrev pub Puts : Answer Mes → (Mes → Command → Type 0) → Result Meaning Stop → Type 0
Puts (Ok m) P (Ok (Becomes c)) = P m c
Puts (Ok m) P (Ok (Replies reply)) = ⊥
Puts (Ok m) P (Err stop) = IsNoMatter stop
Puts (Err reason) P result = Tells (Err reason) result

-- the message that is to be embedded in another
unfoldable pub embedding_of : Tree → ℕ → ℕ → List ℕ → Answer Mes
embedding_of T m source name = message_in T m >>= λ M. message_in T source >>= λ x. embedding M x name >>= λ u. Ok x

-- The command gives a message an attachment of this name that holds the other, as it is but for its id and its folder: so it does under whatever id.
pub record IsAdded (m : Nid) (name : List ℕ) (x : Mes) (c : Command) : Type 0 where
  pub node : Sub
  pub holds : (n : Nid) → ShowsInner (new_part n name (Message (size x) node)) (embedded EMBEDDED x)
  pub is : c ≡ AddAttachment m name (Message (size x) node)

-- The command puts another message into an attachment, which holds this then, in the place of its own subnode: no other one that the attachment keeps is touched.
pub record IsPut (m n : Nid) (part : Part) (e : Mes) (c : Command) : Type 0 where
  pub node : Sub
  pub place : node.nid.bits ≡ e.nid
  pub holds : ShowsInner (part_holding node part) e
  pub is : c ≡ SetEmbedded m n node

-- what a line on the message in an attachment comes to: a reply, a command of the store, or a refusal
abbrev pub Means : Tree → EmbeddedCommand → Result Meaning Stop → Type 0
Means T (Embed m source name) result = Puts (embedding_of T m.bits source.bits name) (IsAdded m name) result
Means T (ListsInside m n) result = Inside (attachment_of T m.bits n.bits) (λ part e. Tells (Ok (Replies (listed (detail_lines e))))) result
Means T (Get m n tag) result = Inside (attachment_of T m.bits n.bits) (λ part e. Tells (value_reply tag e.props >>= λ r. Ok (Replies r))) result
Means T (Set m n v) result = Inside (attachment_of T m.bits n.bits) (λ part e. Puts (set_inside T v e) (IsPut m n part)) result
Means T (Unset m n tag) result = Inside (attachment_of T m.bits n.bits) (λ part e. Puts (unset_inside tag e) (IsPut m n part)) result
