-- Worlds that tell less: one whose room may run out, and one that tells its counts alone.
use Rattle.std.specs.Prelude.{◌≡◌, ℕ, List, [], Bool, false}
use Rattle.pst_outside.specs.World.{Image, World}

-- a world that never fails, tells what it holds while it isn't full, and never tells what a crash may leave
abbrev pub sure : Bool → Image → ℕ → List ℕ → World
sure full image written input = record {
  in_faults = 0;
  out_faults = 0;
  disk_faults = 0;
  written = written;
  tells = full ≡ false;
  here = image;
  input = input;
  may_leave = λ c. ⊥;
  moment = 0;
  left_since = λ t c. ⊥;
  told = λ t c left. absurd left;
  said = λ c left. absurd left;
  counts_now = λ t c le left. left;
  only_now = λ c left. left;
}

abbrev pub nothing : Image
nothing = record { main = []; side = []; copy = []; said = [] }

-- a world that tells its counts alone
abbrev pub silent : ℕ → ℕ → ℕ → ℕ → World
silent in_faults out_faults disk_faults written = record {
  in_faults = in_faults;
  out_faults = out_faults;
  disk_faults = disk_faults;
  written = written;
  tells = ⊥;
  here = nothing;
  input = [];
  may_leave = λ c. ⊥;
  moment = 0;
  left_since = λ t c. ⊥;
  told = λ t c left. left;
  said = λ c left. absurd left;
  counts_now = λ t c le left. left;
  only_now = λ c left. left;
}
