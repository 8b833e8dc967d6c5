-- What a store knows of its tree beside the nodes.
use Rattle.std.specs.Prelude.{◌≡◌}
use Rattle.mail_tree.specs.declared.known.Known.{Known}
use Rattle.mail_tree.specs.Flags.{AreFlags}
use Rattle.mail_tree.specs.Tree.{Tree, object_at}

-- what is known of the tree is so
pub record Knows (T : Tree) (known : Known) : Type 0 where
  pub places : T.places ≡ known.places
  pub flags : AreFlags (object_at T) known.flags
