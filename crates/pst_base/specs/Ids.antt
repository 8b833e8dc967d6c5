-- Node ids and block ids, taken apart and put together.
use Rattle.std.specs.Prelude.{◌≡◌, ℕ, ◌+◌, ◌-◌, ◌*◌, ◌/◌, ◌%◌}

-- the kind of a node: the low 5 bits of its id
abbrev pub kind_of : ℕ → ℕ
kind_of nid = nid % 32

-- the index of a node: the bits above
abbrev pub index_of : ℕ → ℕ
index_of nid = nid / 32

-- the id of a node of this kind and index
abbrev pub nid_of : ℕ → ℕ → ℕ
nid_of kind index = index * 32 + kind

-- a block's id without its bit 0, by which blocks are compared
abbrev pub key_of : ℕ → ℕ
key_of bid = bid - bid % 2

-- bit 1 is set
abbrev pub IsInternal : ℕ → Type 0
IsInternal bid = bid / 2 % 2 ≡ 1
