use Rattle.std.proofs.Common.{◌≡◌, Some}
use Rattle.std.specs.Prelude.{map}
use Rattle.command_text.specs.Words.{all_ids}
use Rattle.command_text.proofs.words.read_ids.Given as goal

-- the words so far write the ids so far
abbrev pub invariant-loop-piece : goal.invariant-loop-piece
invariant-loop-piece l =
    goal.iterator-loop-piece.can_next l.piece-iterator × goal.iterator-loop-piece.is_finite l.piece-iterator
    × (all_ids (map (λ b. b.now) l.yielded) ≡ Some (map (λ n. n.bits) l.ids.items))
