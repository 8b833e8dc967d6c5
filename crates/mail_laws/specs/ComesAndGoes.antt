-- Which objects come and go with each command.
use Rattle.std.specs.Prelude.{◌≡◌, ℕ, ◌==◌, Bool, true, false, IfOk, IsSome, None}
use Rattle.pst_base.specs.Ids.{index_of}
use Rattle.command_text.specs.declared.command.Command.{Command}
use Rattle.command_text.specs.declared.command.Command.TheVariants.{RemoveFolder, RemoveMessage}
use Rattle.command_text.specs.declared.reply.LastLine.{LastLine}
use Rattle.command_text.specs.declared.reply.LastLine.TheVariants.{Made}
use Rattle.mail_tree.specs.Tree.{Tree, object_at}
use Rattle.mail_tree.specs.Step.{after, outcome}
use Rattle.mail_tree.specs.Whole.{IsWhole}

-- the command takes away what stands at this id: the message, or what stands at a folder's index
abbrev pub takes : Command → ℕ → Bool
takes (RemoveFolder folder) q = index_of q == index_of folder.bits
takes (RemoveMessage message) q = q == message.bits
takes other q = false

-- what comes at this id has the index of the id that is replied
abbrev pub Brings : LastLine → ℕ → Type 0
Brings (Made n) q = index_of q ≡ index_of n.bits
Brings other q = ⊥

-- objects come only with the folder or the message that a command makes, and go only with the one that it removes
pub record ComesAndGoes : Type 0 where
  pub comes : (T : Tree) (c : Command) → IsWhole T → IfOk (outcome T c) (λ o. (q : ℕ) → object_at T q ≡ None → IsSome (object_at (after T o) q) → Brings o.reply.last q)
  pub goes : (T : Tree) (c : Command) → IsWhole T → IfOk (outcome T c) (λ o. (q : ℕ) → IsSome (object_at T q) → object_at (after T o) q ≡ None → takes c q ≡ true)
