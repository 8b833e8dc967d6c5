use Rattle.std.proofs.Common.{◌≡◌, length, ◌++◌}
use Rattle.mail_tree.specs.Start.{utf8_of}
use Rattle.new_store.proofs.keys.utf8_of.Given as goal

-- what is written so far, with the rest as UTF-8, is all as UTF-8
abbrev pub invariant-loop-character : goal.invariant-loop-character
invariant-loop-character l = l.bytes.items ++ utf8_of l.rest ≡ utf8_of l.initial.rest

abbrev pub decreases-loop-character : goal.decreases-loop-character
decreases-loop-character l = length l.rest
