-- What a commit leaves of the two files.
use Rattle.std.specs.Prelude.{◌≡◌, ◌⊎◌, ℕ, ◌+◌, List, [], ◌∷◌, ◌++◌, length, drop}
use Rattle.pst_outside.specs.World.{Image, World, SameBut}
use Rattle.pst_outside.specs.Calls.{LeavesOnly}
use Rattle.pst_outside.specs.declared.outside.Part.TheVariants.{Main}
use Rattle.gate_file.specs.Gate.{IsShut}
use Rattle.node_port.specs.Nodes.{Nodes}
use Rattle.lays_kept.specs.declared.Piece.{Piece}
use Rattle.lays_kept.specs.Stands.{Stands}

-- how many bytes the pieces have
abbrev pub bytes_in : List Piece → ℕ
bytes_in [] = 0
bytes_in (p ∷ ps) = length p.bytes + bytes_in ps

-- Main has this, and all else is as it was
pub record Writes (file_has : List ℕ → Type 0) (old new : Image) : Type 0 where
  pub file : file_has new.main
  pub others : SameBut Main old new

-- Main had this when all was written, then the header was put before it, and the gate is shut; all else is as it was.
pub record IsApplied (file_has : List ℕ → Type 0) (header : List ℕ) (old new : Image) : Type 0 where
  pub mid : List ℕ
  pub file : file_has mid
  pub main : new.main ≡ header ++ drop 564 mid
  pub shut : IsShut new.side
  pub copy : new.copy ≡ old.copy
  pub said : new.said ≡ old.said

-- a crash at any moment between leaves the nodes and counters from before or those after, and what was said
abbrev pub LeavesEither : World → World → List ℕ → Nodes → List ℕ → Nodes → List ℕ → Type 0
LeavesEither old new found N last M next = LeavesOnly old new (λ c. (c.said ≡ old.here.said) × (Stands found c N last ⊎ Stands found c M next))

-- a crash at any moment between leaves these nodes and counters, and what was said
abbrev pub LeavesNodes : World → World → List ℕ → Nodes → List ℕ → Type 0
LeavesNodes old new found N last = LeavesOnly old new (λ c. (c.said ≡ old.here.said) × Stands found c N last)
