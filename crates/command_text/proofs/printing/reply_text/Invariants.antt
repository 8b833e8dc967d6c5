use Rattle.std.proofs.Common.{◌≡◌, take}
use Rattle.std.specs.Prelude.{string_bytes}
use Rattle.std.specs.List.{flat_map}
use Rattle.command_text.specs.Replies.{data_text}
use Rattle.command_text.proofs.printing.reply_text.Given as goal

-- the lines of data so far are printed
abbrev pub invariant-loop-line : goal.invariant-loop-line
invariant-loop-line l = string_bytes l.text ≡ flat_map data_text (take l.line-index l.line-items)
