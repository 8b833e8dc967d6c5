-- A line on the message in an attachment that only reads it becomes no command.
use Rattle.std.proofs.Common.{inl, inr, None, Some, Result, Ok, Err}
use Rattle.pst_base.specs.declared.ids.Nid.{Nid}
use Rattle.mapi_values.specs.Messages.{Mes}
use Rattle.mapi_values.specs.declared.part.Part.{Part}
use Rattle.mapi_values.specs.declared.value.Tag.{Tag}
use Rattle.command_text.specs.declared.command.Command.{Command}
use Rattle.command_text.specs.declared.embedded.EmbeddedCommand.TheVariants.{Get, List as ListsInside}
use Rattle.command_text.specs.declared.reply.Reply.{Reply}
use Rattle.mail_tree.specs.Tree.{Tree}
use Rattle.mail_tree.specs.Changing.{Answer, ◌>>=◌}
use Rattle.mail_tree.specs.Folders.{listed}
use Rattle.mail_parts.specs.mail_messages.Parts.{detail_lines, value_reply}
use Rattle.mail_parts.specs.mail_draft.declared.stop.Stop.{Stop}
use Rattle.mail_embedding.specs.Meant.{Inside, Means, Tells, attachment_of}
use Rattle.mail_embedding.specs.declared.meaning.Meaning.{Meaning}
use Rattle.mail_embedding.specs.declared.meaning.Meaning.TheVariants.{Replies, Becomes}

module _ (c : Command) where
  reply_becomes : (a : Answer Reply) → Tells (a >>= λ r. Ok (Replies r)) (Ok (Becomes c)) → ⊥
  reply_becomes (Ok reply) is = absurd (cc)
  reply_becomes (Err (Some refusal)) is = is
  reply_becomes (Err None) is = is

  inside_becomes : (a : Answer Part) (P : Part → Mes → Result Meaning Stop → Type 0) → ((part : Part) (m : Mes) → P part m (Ok (Becomes c)) → ⊥) → Inside a P (Ok (Becomes c)) → ⊥
  inside_becomes (Ok part) P never (inl is) = never part is.0 is.2
  inside_becomes (Ok part) P never (inr (inl is)) = is.1
  inside_becomes (Ok part) P never (inr (inr is)) = is
  inside_becomes (Err (Some refusal)) P never is = is
  inside_becomes (Err None) P never is = is

  pub lists_only : (T : Tree) (m n : Nid) → Means T (ListsInside m n) (Ok (Becomes c)) → ⊥
  lists_only T m n is = inside_becomes (attachment_of T m.bits n.bits) _ (λ part e k. reply_becomes (Ok (listed (detail_lines e))) k) is

  pub gets_only : (T : Tree) (m n : Nid) (tag : Tag) → Means T (Get m n tag) (Ok (Becomes c)) → ⊥
  gets_only T m n tag is = inside_becomes (attachment_of T m.bits n.bits) _ (λ part e k. reply_becomes (value_reply tag e.props) k) is
