use Rattle.std.proofs.Common.{take}
use Rattle.mail_tree.specs.Flags.{SameFlags}
use Rattle.mail_store.specs.Knowing.{HasRooms}
use Rattle.mail_store.proofs.knowing.make_rooms.Given as goal

-- the changes so far have their entries
abbrev pub invariant-loop-change : goal.invariant-loop-change
invariant-loop-change l = record {
  same : SameFlags l.initial.flags l.flags;
  rooms : HasRooms l.flags (take l.change-index l.changes);
}
