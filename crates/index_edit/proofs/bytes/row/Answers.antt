use Rattle.std.proofs.Common.{◌∷◌, [], ℕ, List, sym, subst}
use Rattle.byteorder.specs.Endian.{little_bytes}
use Rattle.index_edit.proofs.RowLaws.{Spells, spells-row, to-whole}
use Rattle.index_edit.proofs.bytes.row.Goals as goal

pub returns-clause-row : goal.returns-clause-row
returns-clause-row c =
    to-whole c.joined.result ((c.args.key, little_bytes 4 c.args.entry) ∷ [])
    (subst (λ (x : List ℕ). Spells x ((c.args.key, little_bytes 4 c.args.entry) ∷ [])) (sym c.joined.ensures) (spells-row c.args.key c.args.entry c.ranges.key.fits))
