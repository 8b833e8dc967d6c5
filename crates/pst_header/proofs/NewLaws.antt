-- What stands in the bytes of a new header.
use Rattle.std.proofs.Common.{◌≡◌, ℕ, List, [], ◌∷◌, length, refl, ◌∙◌}
use Rattle.pst_base.specs.Cells.{Cell, Fit, is_apart, value_at, written}
use Rattle.pst_base.specs.Fields.{number_at}
use Rattle.pst_base.proofs.CellLaws.{number_at-written}
use Rattle.pst_header.specs.Format.{IsWritable, header_of, cell}
use Rattle.pst_header.proofs.LayoutLaws.{blanked_twice, magics_blanked}

-- both magic numbers, the version and the encoding
abbrev pub new_cells : List Cell
new_cells = cell 0 4 0x4e444221 ∷ cell 8 2 0x4d53 ∷ cell 10 2 23 ∷ cell 513 1 0 ∷ []

-- what bytes have in which these were put last
pub record IsNew (b : List ℕ) : Type 0 where
  pub magic : number_at 4 0 b ≡ 0x4e444221
  pub client : number_at 2 8 b ≡ 0x4d53
  pub version : number_at 2 10 b ≡ 23
  pub plain : number_at 1 513 b ≡ 0

pub new-written : (b : List ℕ) → Fit (length b) new_cells → IsNew (written new_cells b)
unfolding is_apart value_at
new-written b fit = record {
  magic = number_at-written 4 0 new_cells b fit refl;
  client = number_at-written 2 8 new_cells b fit refl;
  version = number_at-written 2 10 new_cells b fit refl;
  plain = number_at-written 1 513 new_cells b fit refl;
}

-- such a header can be written
pub new-writable : (b : List ℕ) → length b ≡ 564 → IsNew b → IsWritable (header_of b)
unfolding header_of
new-writable b len is =
    let magics = magics_blanked b len in
    record {
      version = is.version;
      plain = is.plain;
      magic = magics.0 ∙ is.magic;
      client = magics.1 ∙ is.client;
      blank = blanked_twice b len;
    }
