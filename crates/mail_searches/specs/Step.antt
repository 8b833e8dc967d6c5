-- What a command does to a tree with searches, and what is replied.
use Rattle.std.specs.Prelude.{ℕ, List, Option, None, Some, Ok, Err, if◌then◌else◌}
use Rattle.mail_tree.specs.command_text.declared.command.Command.{Command}
use Rattle.mail_tree.specs.command_text.declared.command.Command.TheVariants.{RenameFolder, MoveFolder, RemoveFolder, ListFolder, MakeSearch, SetCriteria, GetCriteria}
use Rattle.mail_tree.specs.command_text.declared.reply.LastLine.TheVariants.{Refused}
use Rattle.mail_tree.specs.command_text.declared.reply.Reply.{Reply}
use Rattle.mail_tree.specs.Changing.{Answer, ◌>>=◌, within_limits}
use Rattle.mail_tree.specs.Folders.{Outcome, listing, made_id, replied}
use Rattle.mail_tree.specs.Step as tree
use Rattle.mail_searches.specs.Criteria.{Coming, given_criteria, made_search, marked, search_listing, staying, told_criteria}
use Rattle.mail_tree.specs.Tree.{Tree}
use Rattle.mail_searches.specs.Searches.{Search}
use Rattle.mail_searches.specs.Moving.{moved_search, removed_search, renamed_search}
use Rattle.mail_searches.specs.Searching.{Searching, is_own}
use Rattle.mail_searches.specs.Touching.{followed}

-- `ls`
unfoldable pub listing_in : Searching → ℕ → Answer Outcome
listing_in X f = if is_own X.own f then search_listing X.tree f else (listing X.tree f >>= λ o. Ok (record o { reply = marked X.own o.reply }))

-- what a command comes to in a tree keeps to the limits
abbrev pub if_within : Tree → Outcome → Answer Outcome
if_within T o = within_limits T (made_id o.reply.last) o.changed >>= λ u. Ok o

-- what a command that knows no searches comes to: what it comes to in the tree, with what the messages that it touches change in the lists of searches, if all that keeps to the limits
unfoldable pub concluded : Tree → List Search → Command → Outcome → Answer Outcome
concluded T ss c o = followed T ss c o >>= if_within T

-- what a command comes to that names no own search folder and knows no searches
abbrev pub plain_outcome : Searching → Command → Answer Coming
plain_outcome X c = tree.outcome X.tree c >>= concluded X.tree X.searches c >>= staying X

-- what a command comes to, or why it is refused
unfoldable pub outcome : Searching → Command → Answer Coming
outcome X (MakeSearch parent name) = made_search X parent.bits name
outcome X (SetCriteria search flags scope restriction) = given_criteria X search.bits flags scope restriction
outcome X (GetCriteria search) = told_criteria X search.bits >>= staying X
outcome X (ListFolder folder) = listing_in X folder.bits >>= staying X
outcome X (RenameFolder folder name) = if is_own X.own folder.bits then (renamed_search X.tree folder.bits name >>= staying X) else plain_outcome X (RenameFolder folder name)
outcome X (MoveFolder folder parent) = if is_own X.own folder.bits then (moved_search X.tree folder.bits parent.bits >>= staying X) else plain_outcome X (MoveFolder folder parent)
outcome X (RemoveFolder folder) = if is_own X.own folder.bits then removed_search X folder.bits else plain_outcome X (RemoveFolder folder)
outcome X c = plain_outcome X c

-- the tree and its searches after a command came to this
abbrev pub after : Searching → Coming → Searching
after X o = record { tree = tree.after X.tree o.outcome; own = o.own; searches = o.searches }

-- the tree with its searches and the reply after a command: a refusal changes nothing
abbrev pub stepped : Searching → Answer Coming → Option (Searching × Reply)
stepped X (Ok o) = Some (after X o, o.outcome.reply)
stepped X (Err (Some refusal)) = Some (X, replied (Refused refusal))
stepped X (Err None) = None

-- The step of a command: the tree with its searches after it, and the reply; none where something in the tree isn't of its form.
abbrev pub step : Searching → Command → Option (Searching × Reply)
step X c = stepped X (outcome X c)
