-- The header of a copy.
use Rattle.std.specs.Prelude.{◌≡◌, ℕ, ◌+◌, ◌%◌, ◌^◌}
use Rattle.pst_header.specs.declared.header.Header.{Header}

-- the copy's header keeps what the source's has but for what says where the trees, the maps and the end are, and for its numbers
pub record Succeeds (old new : Header) (block page eof : ℕ) : Type 0 where
  pub version : new.wver ≡ old.wver
  pub plain : new.crypt ≡ old.crypt
  pub unique : new.unique ≡ (old.unique + 1) % 2 ^ 32
  pub next_block : new.next_block ≡ block
  pub next_page : new.next_page ≡ page
  pub indexes : new.indexes ≡ old.indexes
  pub eof_is : new.eof ≡ eof
  pub kept : new.kept ≡ old.kept
  pub maps : new.maps ≡ 2
