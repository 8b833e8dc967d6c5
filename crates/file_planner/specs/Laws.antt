-- What a planner knows is right.
use Rattle.std.specs.Prelude.{refl}
use Rattle.pst_commit.specs.Held.{opened_of}
use Rattle.pst_commit.specs.Keeping.{IsKnowledge}
use Rattle.file_planner.specs.declared.planner.FilePlanner.{FilePlanner}
use Rattle.file_planner.specs.Knowing.{Knows, cells_of, placing, spent}

-- it has the used slots and the room of each file of which it knows
pub known_right : (p : FilePlanner) → IsKnowledge (Knows p) p.slots (opened_of p.held.pins.items) (cells_of p)
known_right p = record {
  measured = λ header file m is knows.
      let known = knows.known m is in
      record {
        size = known.size;
        covered = known.used;
        all = placing p;
        with_held = knows.holding.with_held;
        free = refl;
        pages = known.pages;
        spent = λ i. spent (known.next_block i) (known.next_page i);
      };
}
