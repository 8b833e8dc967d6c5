-- The world as contracts see it: what it holds and has said, and what a crash may leave.
use Rattle.std.specs.Prelude.{◌≡◌, ℕ, ◌+◌, ◌-◌, ◌<◌, ◌≤◌, max, List, ◌++◌, length, take, drop, replicate, slice_index}
use Rattle.pst_outside.specs.declared.outside.Part.{Part}
use Rattle.pst_outside.specs.declared.outside.Part.TheVariants.{Main, Side, Copy}

-- the bytes of the three parts, and what has been said
pub record Image : Type 0 where
  pub main : List ℕ
  pub side : List ℕ
  pub copy : List ℕ
  pub said : List ℕ

-- the bytes of one part
abbrev pub content : Part → Image → List ℕ
content Main image = image.main
content Side image = image.side
content Copy image = image.copy

-- all but that part is the same
abbrev pub SameBut : Part → Image → Image → Type 0
SameBut Main old new = (new.side ≡ old.side) × (new.copy ≡ old.copy) × (new.said ≡ old.said)
SameBut Side old new = (new.main ≡ old.main) × (new.copy ≡ old.copy) × (new.said ≡ old.said)
SameBut Copy old new = (new.main ≡ old.main) × (new.side ≡ old.side) × (new.said ≡ old.said)

-- all three parts are the same
pub record SameDisk (old new : Image) : Type 0 where
  pub main : new.main ≡ old.main
  pub side : new.side ≡ old.side
  pub copy : new.copy ≡ old.copy

-- a part after a write: these bytes at this place, and zeros between the old end and the place
abbrev pub after_write : List ℕ → ℕ → List ℕ → List ℕ
after_write old at bytes = take at old ++ replicate (at - length old) 0 ++ bytes ++ drop (at + length bytes) old

-- After a write of n bytes at `at` that a crash cuts short: any bytes in the range and past the old end, the same
-- elsewhere, and a length between.
pub record Torn (at n : ℕ) (old new : List ℕ) : Type 0 where
  pub no_shorter : length old ≤ length new
  pub no_longer : length new ≤ max (length old) (at + n)
  pub below : (i : ℕ) → i < length old → i < at → slice_index new i ≡ slice_index old i
  pub above : (i : ℕ) → i < length old → at + n ≤ i → slice_index new i ≡ slice_index old i

-- the same of one part, where all else is the same
pub record TornAt (part : Part) (at n : ℕ) (old new : Image) : Type 0 where
  pub torn : Torn at n (content part old) (content part new)
  pub others : SameBut part old new

pub record World : Type 1 where
  -- how often each device has failed
  pub in_faults : ℕ
  pub out_faults : ℕ
  pub disk_faults : ℕ
  -- how many bytes writes were asked for
  pub written : ℕ
  -- whether the world tells what it holds, what it has said and what input is left
  pub tells : Type 0
  -- what a read gives, and what has been said
  pub here : Image
  -- the input that is left
  pub input : List ℕ
  -- What a crash at this moment may leave. A world that doesn't tell this has none, and then a clause on each image says nothing.
  pub may_leave : Image → Type 0
  -- the moment, as a number that doesn't fall
  pub moment : ℕ
  -- what a crash at some moment from that one on might have left, during a call or between two
  pub left_since : ℕ → Image → Type 0
  -- a world that tells images tells the rest too
  pub told : (t : ℕ) (c : Image) → left_since t c → tells
  -- what has been said stays
  pub said : (c : Image) → may_leave c → c.said ≡ here.said
  -- this moment is one of those since an earlier one
  pub counts_now : (t : ℕ) (c : Image) → t ≤ moment → may_leave c → left_since t c
  -- since this moment there is no other
  pub only_now : (c : Image) → left_since moment c → may_leave c
