-- What a command comes to where a store is only read.
use Rattle.std.specs.Prelude.{◌≡◌, Bool, true, Some, Ok, Err, if◌then◌else◌}
use Rattle.command_text.specs.Asking.{asks}
use Rattle.command_text.specs.declared.command.Command.{Command}
use Rattle.command_text.specs.declared.command.Command.TheVariants.{FetchData, GetProperty, ListProperties, Quit}
use Rattle.command_text.specs.declared.reply.CommandRefusal.TheVariants.{Line}
use Rattle.command_text.specs.declared.reply.LastLine.TheVariants.{Done}
use Rattle.mail_tree.specs.Changing.{Answer}
use Rattle.mail_tree.specs.Folders.{Outcome, replied, unchanged}
use Rattle.mail_tree.specs.Messages.{details, fetched_data, value_in}
use Rattle.mail_tree.specs.Tree.{Tree}
use Rattle.mail_tree.specs.Whole.{Fine, IsWhole}
use Rattle.mail_searches.specs.Criteria.{Coming}
use Rattle.mail_searches.specs.Searching.{AreSearches, Searching}
use Rattle.mail_searches.specs.Step.{after, outcome}

-- the command only asks, or ends the session
abbrev pub reads : Command → Bool
reads Quit = true
reads c = asks c

-- what a command that only reads comes to; any other is no line of such a session
abbrev pub asked : Searching → Command → Answer Coming
asked X c = if reads c then outcome X c else Err (Some Line)

-- what a command comes to that reads messages, or nothing; any other is none of these
unfoldable pub read : Tree → Command → Answer Outcome
read T (GetProperty message tag) = value_in T message.bits tag
read T (ListProperties message) = details T message.bits
read T (FetchData message attachment) = fetched_data T message.bits attachment.bits
read T Quit = Ok (unchanged T (replied Done))
read T c = Err (Some Line)

-- on a whole tree whose searches are those of its nodes, whatever these list, a command that only reads is answered or refused, and leaves them
abbrev pub ReadsLeave : Type 0
ReadsLeave = (X : Searching) (c : Command) → IsWhole X.tree → AreSearches X → reads c ≡ true → Fine (outcome X c) (λ o. after X o ≡ X)
