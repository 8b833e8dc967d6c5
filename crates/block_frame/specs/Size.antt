-- How many bytes a block takes in the file.
use Rattle.std.specs.Prelude.{ℕ, ◌+◌, ◌*◌, ◌/◌}

-- so many data bytes and a trailer of 16, rounded up to a multiple of 64
abbrev pub disk_size_of : ℕ → ℕ
disk_size_of cb = (cb + 79) / 64 * 64
