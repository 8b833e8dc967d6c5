-- Where so many bytes may stand.
use Rattle.std.proofs.Common.{true, ◌≡◌, ℕ, ◌+◌, ◌-◌, ◌%◌, ◌≤◌}
use Rattle.std.proofs.lemmas.Bool.{leb-true, eqb-true, and_parts}
use Rattle.file_blocks.specs.Blocks.{has_room}

-- what room for bytes says
pub room-above : (eof len ib : ℕ) → has_room eof len ib ≡ true → 0x4400 ≤ ib
room-above eof len ib room = leb-true 0x4400 ib (and_parts _ _ room).0

pub room-whole : (eof len ib : ℕ) → has_room eof len ib ≡ true → ib % 64 ≡ 0
room-whole eof len ib room = eqb-true (ib % 64) 0 (and_parts _ _ (and_parts _ _ room).1).0

pub room-before : (eof len ib : ℕ) → has_room eof len ib ≡ true → ib + len ≤ eof
room-before eof len ib room = leb-true (ib + len) eof (and_parts _ _ (and_parts _ _ room).1).1
