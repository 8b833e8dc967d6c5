use Rattle.std.proofs.Common.{◌≡◌, ◌++◌, drop}
use Rattle.std.specs.Prelude.{map, string_bytes}
use Rattle.command_text.specs.Replies.{more_ids_text}
use Rattle.command_text.proofs.printing.push_more_ids.Given as goal

-- the ids so far, with those of the rest, are all
abbrev pub invariant-loop-id : goal.invariant-loop-id
invariant-loop-id l = string_bytes l.text ++ more_ids_text (map (λ n. n.bits) (drop l.id-index l.ids)) ≡ string_bytes l.fn.text ++ more_ids_text (map (λ n. n.bits) l.ids)
