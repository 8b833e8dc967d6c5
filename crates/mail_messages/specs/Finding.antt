-- The message that an id names, part by part.
use Rattle.std.specs.Prelude.{ℕ, ◌==◌, not, List}
use Rattle.std.specs.Option.{is_some}
use Rattle.pst_base.specs.Ids.{kind_of}
use Rattle.command_text.specs.declared.reply.CommandRefusal.{CommandRefusal}
use Rattle.command_text.specs.declared.reply.CommandRefusal.TheVariants.{Object}
use Rattle.mapi_values.specs.Tables.{find_row}
use Rattle.mail_tree.specs.declared.places.FolderPlace.{FolderPlace}
use Rattle.mail_tree.specs.Places.{find_place, is_plain}
use Rattle.mail_tree.specs.Tree.{Tree}
use Rattle.mail_tree.specs.Changing.{Answer, ◌>>=◌, contents, found, nothing, refused_if, table_at}
use Rattle.mail_tree.specs.Messages.{parent_at}

-- there is a folder with this id, and it is plain: where it isn't, the command is refused by `reserved`
abbrev pub plain_at : ℕ → CommandRefusal → List FolderPlace → Answer (Unit {0})
plain_at f reserved places = found Object (find_place f places) >>= λ p. refused_if (not (is_plain p)) reserved

-- the folder's table lists the message
unfoldable pub is_listed : Tree → ℕ → ℕ → Answer (Unit {0})
is_listed T m f = table_at T nothing (contents f) >>= λ t. refused_if (not (is_some (find_row m t.table.rows))) Object

-- the folder is plain, and lists the message
unfoldable pub listed_below : Tree → ℕ → ℕ → Answer (Unit {0})
listed_below T m f = found Object (find_place f T.places) >>= λ p. refused_if (not (is_plain p)) Object >>= λ u. is_listed T m f

-- the parent of the message's node is a plain folder, which lists it
unfoldable pub is_there : Tree → ℕ → Answer (Unit {0})
is_there T m = refused_if (not (kind_of m == 4)) Object >>= λ u. found Object (parent_at T m) >>= listed_below T m
