use Rattle.alloc_map.proofs.TakeLaws.{block-takes, page-takes, room-suffices, sixteen-each}
use Rattle.alloc_map.proofs.law.room_taken.Goals as goal

pub returns : goal.returns
returns c = record {
  block = block-takes;
  page = page-takes;
  cell = sixteen-each;
  suffices = room-suffices;
}
