-- What a desk over a keeper shows.
use Rattle.std.proofs.Common.{subst}
use Rattle.std.specs.Prelude.{◌≡◌, ℕ, List, Option}
use Rattle.node_port.specs.Nodes.{Nodes, node_at}
use Rattle.mail_objects.specs.Forms.{Ctx}
use Rattle.mail_tree.specs.declared.places.FolderPlace.{FolderPlace}
use Rattle.mail_tree.specs.Flags.{AreFlags, FlagList}
use Rattle.mail_tree.specs.Tree.{Shown, StandsAt, Tree, object_at}
use Rattle.mail_objects.specs.declared.object.Object.{Object}
use Rattle.mail_draft.specs.Seen.{AreThere}
use Rattle.mail_draft.specs.Sight.{AreOwn}

-- the nodes show the tree, what is known of it is so, and what was read is what it has
pub record Showing (holds : Nodes → Type 0) (last : List ℕ) (folders : List FolderPlace) (notes : FlagList) (seen : List (ℕ × Ctx)) (T : Tree) : Type 0 where
  pub shown : Shown holds last T
  pub places : T.places ≡ folders
  pub flags : AreFlags (object_at T) notes
  pub there : AreThere (object_at T) seen

-- messages of a tree that nodes show stand at their own ids
pub own_ids : {holds : Nodes → Type 0} {last : List ℕ} (T : Tree) → Shown holds last T → AreOwn T
own_ids T s q m is = (subst (λ (object : Option Object). StandsAt q (node_at s.nodes q) object (node_at T.others q)) is (s.at q)).1.2.message.id
