-- What a command comes to, from and to other images of the same disks.
use Rattle.std.proofs.Common.{◌≡◌, inl, inr, ℕ, Bool, true, false, List, Option, Ok, Err, subst, arith}
use Rattle.pst_outside.specs.World.{Image}
use Rattle.pst_outside.proofs.Moments.{same_disk}
use Rattle.pst_base.specs.declared.ids.Nid.{Nid}
use Rattle.command_text.specs.declared.command.Command.{Command}
use Rattle.node_port.specs.Stops.{Room}
use Rattle.node_port.specs.declared.node.NodeRec.{NodeRec}
use Rattle.mail_tree.specs.Changing.{Answer}
use Rattle.mail_searches.specs.Criteria.{Coming}
use Rattle.mail_searches.specs.Searching.{Searching}
use Rattle.mail_searches.specs.Step.{outcome}
use Rattle.store_session.specs.Disks.{Becomes, CommitsAnswer, CommitsNodes, Effects, Medium, Moves, SameMedium, is_save}
use Rattle.store_session.specs.Run.{CommandAnswers, Stays}

pub same_between : {old from new to : Medium} → old ≡ from → SameMedium new to → SameMedium old new → SameMedium from to
same_between {old} {from} {new} {to} s e same = subst (λ (m : Medium). SameMedium m to) s (record { disk = same_disk same.disk e.disk; written = omega (arith, same.written, e.written) })

made_between : (made : ℕ → Image → Image → Type 0) {old from new to : Medium} → old ≡ from → SameMedium new to → Becomes made old new → Becomes made from to
made_between made {old} {from} {new} {to} s e is =
    subst (λ (m : Medium). Becomes made m to) s (record { image = is.image; bytes = is.bytes; made = is.made; same = same_disk is.same e.disk; few = omega (arith, is.few, e.written) })

nodes_between : (applied : List (Nid × Option NodeRec) → ℕ → Image → Image → Type 0) (o : Coming) {old from new to : Medium} → old ≡ from → SameMedium new to → CommitsNodes applied o old new → CommitsNodes applied o from to
nodes_between applied o s e is = record { nodes = is.nodes; are = is.are; disk = made_between (applied is.nodes) s e is.disk }

commits_between : (applied : List (Nid × Option NodeRec) → ℕ → Image → Image → Type 0) (answer : Answer Coming) {old from new to : Medium} → old ≡ from → SameMedium new to → CommitsAnswer applied answer old new → CommitsAnswer applied answer from to
commits_between applied (Ok o) s e is = record { written = λ writes. nodes_between applied o s e (is.written writes); unwritten = λ none. same_between s e (is.unwritten none) }
commits_between applied (Err refusal) s e is = same_between s e is

moves_between : (effects : Effects) (saving : Bool) (answer : Answer Coming) {old from new to : Medium} → old ≡ from → SameMedium new to → Moves effects saving answer old new → Moves effects saving answer from to
moves_between effects true answer s e is = made_between effects.saved s e is
moves_between effects false answer s e is = commits_between effects.applied answer s e is

module _ (effects : Effects) (room : Room) (X : Searching) {old from new to : Medium} {told also : Type 0} (tells : also → told) (starts : also → old ≡ from) (ends : also → SameMedium new to) where
  pub stays_on : (Y : Searching) → Stays effects room X old told Y new → Stays effects room X from also Y to
  stays_on Y is = (is.0, λ t. same_between (starts t) (ends t) (is.1 (tells t)))

  pub command_on : (c : Command) (said : List ℕ) (Y : Searching) → CommandAnswers effects room X old told c said Y new → CommandAnswers effects room X from also c said Y to
  command_on c said Y (inl (inl is)) = inl (inl (is.0, is.1, λ t. moves_between effects (is_save c) (outcome X c) (starts t) (ends t) (is.2 (tells t))))
  command_on c said Y (inl (inr is)) = inl (inr (is.0, λ t. same_between (starts t) (ends t) (is.1 (tells t))))
  command_on c said Y (inr is) = inr (is.0, stays_on Y is.1)
