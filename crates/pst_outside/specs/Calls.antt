-- What a call does to the world.
use Rattle.std.specs.Prelude.{◌≡◌, ◌⊎◌, ℕ, ◌+◌, ◌-◌, ◌^◌, ◌≤◌, min, List, ◌++◌, length, take, replicate}
use Rattle.pst_outside.specs.World.{Image, World, TornAt, SameDisk}
use Rattle.pst_outside.specs.declared.outside.Part.{Part}

-- the count rose, or stands at its end
abbrev pub Rose : ℕ → ℕ → Type 0
Rose before now = min (before + 1) (2 ^ 64 - 1) ≤ now

-- bytes asked for by one more write, up to the count's end
abbrev pub raised : ℕ → ℕ → ℕ
raised before n = min (before + n) (2 ^ 128 - 1)

-- no count of faults falls
pub record NeverFall (old new : World) : Type 0 where
  pub in_faults : old.in_faults ≤ new.in_faults
  pub out_faults : old.out_faults ≤ new.out_faults
  pub disk_faults : old.disk_faults ≤ new.disk_faults

-- what the world holds, has said and has left of the input is the same, if it still tells
pub record Stays (old new : World) : Type 0 where
  pub written : new.written ≡ old.written
  pub told : new.tells → old.tells
  pub here : new.tells → new.here ≡ old.here
  pub input : new.tells → new.input ≡ old.input

-- the same but for the input
pub record StaysButInput (old new : World) : Type 0 where
  pub written : new.written ≡ old.written
  pub told : new.tells → old.tells
  pub here : new.tells → new.here ≡ old.here

-- the same but for what has been said
pub record StaysButSaid (old new : World) : Type 0 where
  pub written : new.written ≡ old.written
  pub told : new.tells → old.tells
  pub here : new.tells → SameDisk old.here new.here
  pub input : new.tells → new.input ≡ old.input

-- the same but for a range of one part
pub record StaysButRange (part : Part) (at n : ℕ) (old new : World) : Type 0 where
  pub written : new.written ≡ raised old.written n
  pub told : new.tells → old.tells
  pub here : new.tells → TornAt part at n old.here new.here
  pub input : new.tells → new.input ≡ old.input

-- a crash may leave nothing more than before
abbrev pub NoMore : World → World → Type 0
NoMore old new = (c : Image) → new.may_leave c → old.may_leave c

-- each new outcome of a crash is an old outcome after a step
abbrev pub Follows : (Image → Image → Type 0) → World → World → Type 0
Follows step old new = (c : Image) → new.may_leave c → (d : Image) × old.may_leave d × step d c

-- Time goes on: a crash since t might have left what it might have left before, or what it may leave now.
pub record Elapses (old new : World) : Type 0 where
  pub later : old.moment ≤ new.moment
  pub nothing_else : (t : ℕ) (c : Image) → t ≤ old.moment → new.left_since t c → old.left_since t c ⊎ new.may_leave c
  pub keeps : (t : ℕ) (c : Image) → t ≤ old.moment → old.left_since t c → new.left_since t c

-- A crash at any moment since old leaves what has P, and so does the world itself.
pub record LeavesOnly (old new : World) (P : Image → Type 0) : Type 0 where
  pub later : old.moment ≤ new.moment
  pub each : (c : Image) → new.left_since old.moment c → P c
  pub here : new.tells → P new.here
  -- for a run that began earlier
  pub before : (t : ℕ) (c : Image) → t ≤ old.moment → new.left_since t c → old.left_since t c ⊎ P c

-- Nothing is pending: a crash at this moment leaves what the world holds and has said.
abbrev pub Settled : World → Type 0
Settled world = (c : Image) → world.may_leave c → c ≡ world.here

-- The call changed nothing: what the world holds, has said and may leave is as before, and it tells where it told.
pub record Untouched (old new : World) : Type 0 where
  pub counts : NeverFall old new
  pub stays : Stays old new
  pub keeps_told : old.tells → new.tells
  pub crash : NoMore old new
  pub time : Elapses old new

-- the first n bytes, with zeros where there are fewer
abbrev pub filled : ℕ → List ℕ → List ℕ
filled n bytes = take n (bytes ++ replicate n 0)

-- An outcome of a crash of the old world, or what it held, after which a first part of the text was said too.
pub record SaysSome (old : World) (text : List ℕ) (c : Image) : Type 0 where
  pub from : Image
  pub was : old.may_leave from ⊎ (from ≡ old.here)
  pub disk : SameDisk from c
  pub so_far : ℕ
  pub within : so_far ≤ length text
  pub said : c.said ≡ old.here.said ++ take so_far text
