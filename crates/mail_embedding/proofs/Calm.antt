-- Nothing is ever found changed by a line on the message in an attachment.
use Rattle.std.proofs.Common.{inl, inr, ℕ, None, Some, Result, Ok, Err}
use Rattle.mapi_values.specs.Messages.{Mes}
use Rattle.mapi_values.specs.declared.part.Part.{Part}
use Rattle.command_text.specs.declared.command.Command.{Command}
use Rattle.command_text.specs.declared.embedded.EmbeddedCommand.{EmbeddedCommand}
use Rattle.command_text.specs.declared.embedded.EmbeddedCommand.TheVariants.{Embed, List as ListsInside, Get, Set, Unset}
use Rattle.mail_tree.specs.Tree.{Tree}
use Rattle.mail_tree.specs.Changing.{Answer, ◌>>=◌}
use Rattle.mail_tree.specs.Folders.{listed}
use Rattle.embedded_obj.specs.Embedding.{set_inside, unset_inside}
use Rattle.mail_parts.specs.mail_messages.Parts.{detail_lines, value_reply}
use Rattle.mail_parts.specs.mail_draft.declared.stop.Stop.{Stop}
use Rattle.mail_parts.specs.mail_draft.declared.stop.Stop.TheVariants.{Changed}
use Rattle.mail_embedding.specs.Meant.{Inside, IsAdded, IsPut, Means, Puts, Tells, attachment_of, embedding_of}
use Rattle.mail_embedding.specs.declared.meaning.Meaning.TheVariants.{Replies}

module _ (ib stored computed : ℕ) where
  tells_calm : {A : Type 0} (a : Answer A) → Tells a (Err (Changed ib stored computed)) → ⊥
  tells_calm (Ok x) is = is
  tells_calm (Err (Some refusal)) is = is
  tells_calm (Err None) is = is

  puts_calm : (a : Answer Mes) (P : Mes → Command → Type 0) → Puts a P (Err (Changed ib stored computed)) → ⊥
  puts_calm (Ok m) P is = is
  puts_calm (Err (Some refusal)) P is = is
  puts_calm (Err None) P is = is

  inside_calm : {A : Type 0} (a : Answer Part) (P : Part → Mes → Result A Stop → Type 0) → ((part : Part) (m : Mes) → P part m (Err (Changed ib stored computed)) → ⊥) → Inside a P (Err (Changed ib stored computed)) → ⊥
  inside_calm (Ok part) P calm (inl is) = calm part is.0 is.2
  inside_calm (Ok part) P calm (inr (inl is)) = is.1
  inside_calm (Ok part) P calm (inr (inr is)) = is
  inside_calm (Err (Some refusal)) P calm is = is
  inside_calm (Err None) P calm is = is

  pub never_changed : (T : Tree) (line : EmbeddedCommand) → Means T line (Err (Changed ib stored computed)) → ⊥
  never_changed T (Embed m source name) is = puts_calm (embedding_of T m.bits source.bits name) (IsAdded m name) is
  never_changed T (ListsInside m n) is = inside_calm (attachment_of T m.bits n.bits) _ (λ part e k. tells_calm (Ok (Replies (listed (detail_lines e)))) k) is
  never_changed T (Get m n tag) is = inside_calm (attachment_of T m.bits n.bits) _ (λ part e k. tells_calm (value_reply tag e.props >>= λ r. Ok (Replies r)) k) is
  never_changed T (Set m n v) is = inside_calm (attachment_of T m.bits n.bits) _ (λ part e k. puts_calm (set_inside T v e) (IsPut m n part) k) is
  never_changed T (Unset m n tag) is = inside_calm (attachment_of T m.bits n.bits) _ (λ part e k. puts_calm (unset_inside tag e) (IsPut m n part) k) is
