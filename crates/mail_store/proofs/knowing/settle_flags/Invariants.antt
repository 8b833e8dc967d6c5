use Rattle.std.proofs.Common.{◌≡◌, ℕ}
use Rattle.std.specs.Vec.Iter.{into_iter_items}
use Rattle.mail_tree.specs.Flags.{has_room, known_note}
use Rattle.mail_store.proofs.FlagLaws.{known_in_turn}
use Rattle.mail_store.proofs.knowing.settle_flags.Given as goal

-- what the rest of the changes makes known is what all make
abbrev pub invariant-loop-nid : goal.invariant-loop-nid
invariant-loop-nid l = record {
  can_next : (goal.iterator-loop-nid).can_next l.nid-iterator;
  is_finite : (goal.iterator-loop-nid).is_finite l.nid-iterator;
  so_far : (q : ℕ) → known_in_turn q l.fn.changes.items (has_room q l.initial.flags) (known_note q l.initial.flags) ≡ known_in_turn q (into_iter_items l.nid-iterator) (has_room q l.flags) (known_note q l.flags);
}
