-- Numbers of n bytes, the lowest first, in a list of bytes.
use Rattle.std.specs.Prelude.{ℕ, ◌+◌, List, ◌++◌, length, take, drop}
use Rattle.byteorder.specs.Endian.{little_number}

-- the number in the n bytes from a place on
unfoldable pub number_at : ℕ → ℕ → List ℕ → ℕ
number_at n at b = little_number n (drop at b)

-- the bytes b with those of bs in place of its own from a place on
unfoldable pub replaced : ℕ → List ℕ → List ℕ → List ℕ
replaced at bs b = take at b ++ (bs ++ drop (at + length bs) b)
