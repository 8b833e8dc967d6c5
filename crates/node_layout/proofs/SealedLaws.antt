-- Blocks that stand as they were sealed are whole, and have their data.
use Rattle.std.proofs.Common.{Bool, true, false, not, ◌≡◌, ◌∙◌, ℕ, ◌+◌, ◌≤◌, eqb, List, [], ◌∷◌, length, map, take, drop, Ok, Err, sym, ap, subst, arith, if◌then◌else◌}
use Rattle.std.proofs.lemmas.List.{take-take}
use Rattle.pst_base.specs.declared.ids.Bid.{Bid}
use Rattle.pst_base.specs.declared.ids.Bref.{Bref}
use Rattle.pst_checksum.specs.Crc.{crc_of}
use Rattle.pst_base.specs.Fields.{number_at}
use Rattle.pst_base.specs.Ids.{key_of}
use Rattle.pst_checksum.specs.Sig.{sig_of}
use Rattle.block_frame.specs.declared.block.BlockFault.{BlockFault}
use Rattle.block_frame.specs.declared.block.BlockFault.TheVariants as faults
use Rattle.block_frame.specs.Block.{reading, trailer_at}
use Rattle.block_frame.specs.Size.{disk_size_of}
use Rattle.btree_pages.specs.declared.entry.BlockEntry.{BlockEntry}
use Rattle.file_blocks.specs.Blocks.{Stands}
use Rattle.file_layout.specs.Trees.{IsPlace}
use Rattle.file_layout.specs.Nodes.{place_of}
use Rattle.lays_kept.specs.declared.Piece.{Piece}
use Rattle.lays_kept.specs.Kept.{Each}
use Rattle.lays_kept.proofs.Renewed.{block_stands}
use Rattle.node_layout.specs.Lookups.{Each as EachOf}
use Rattle.node_layout.specs.Pieces.{EachStands}
use Rattle.node_layout.specs.Sealed.{IsSealed, AreSealed}

-- a block that reads has its data in front
reads-front : (cb : ℕ) (at : Bref) (b body : List ℕ) → reading cb at b ≡ Ok body → take cb b ≡ body
unfolding reading
reads-front cb at b body e = by (not (eqb (number_at 2 (trailer_at cb) b) cb)) (not (eqb (number_at 4 (trailer_at cb + 4) b) (crc_of (take cb b)))) (not (eqb (number_at 2 (trailer_at cb + 2) b) (sig_of at.ib (number_at 8 (trailer_at cb + 8) b))))
    (not (eqb (key_of (number_at 8 (trailer_at cb + 8) b)) (key_of (at.bid).bits))) (faults.Length (number_at 2 (trailer_at cb) b) cb) (faults.Crc (number_at 4 (trailer_at cb + 4) b) (crc_of (take cb b)))
    (faults.Sig (number_at 2 (trailer_at cb + 2) b) (sig_of at.ib (number_at 8 (trailer_at cb + 8) b))) (faults.Bid (key_of (number_at 8 (trailer_at cb + 8) b)) (key_of (at.bid).bits)) e
  where
    by : (one two three four : Bool) (x y z w : BlockFault) → (if one then Err x else (if two then Err y else (if three then Err z else (if four then Err w else Ok (take cb b))))) ≡ Ok body → take cb b ≡ body
    by true two three four x y z w e = absurd (cc)
    by false true three four x y z w e = absurd (cc)
    by false false true four x y z w e = absurd (cc)
    by false false false true x y z w e = absurd (cc)
    by false false false false x y z w e = cc

-- the data stands at the block's place
pub sealed-data : (file : List ℕ) (block : Bid × List ℕ) (entry : BlockEntry) (piece : Piece) → IsSealed block entry piece → take (length piece.bytes) (drop piece.at file) ≡ piece.bytes
    → take (length block.1) (drop (entry.at).ib file) ≡ block.1
sealed-data file block entry piece is stands =
    let n : ℕ = length block.1 in
    let ib : ℕ = (entry.at).ib in
    let front : take n piece.bytes ≡ block.1 = reads-front n entry.at piece.bytes block.1 is.sealed.1 in
    let size = is.sealed.0 in
    let least : n ≤ length piece.bytes = omega (arith, size) in
    sym (take-take n (length piece.bytes) (drop ib file) least) ∙ ap (λ (k : ℕ). take n (take (length piece.bytes) (drop k file))) (sym is.place) ∙ ap (take n) stands ∙ front

-- and the block is whole
pub sealed-stands : (file : List ℕ) (eof : ℕ) (block : Bid × List ℕ) (entry : BlockEntry) (piece : Piece) → IsSealed block entry piece → IsPlace eof (place_of entry) → take (length piece.bytes) (drop piece.at file) ≡ piece.bytes → Stands file eof entry
sealed-stands file eof block entry piece is place stands =
    let size : length piece.bytes ≡ disk_size_of entry.cb = is.sealed.0 ∙ ap disk_size_of (sym is.size) in
    block_stands file eof entry block.1 piece.bytes is.sealed is.size is.short place
    (ap (λ (n : ℕ). take n (drop (entry.at).ib file)) (sym size) ∙ ap (λ (k : ℕ). take (length piece.bytes) (drop k file)) (sym is.place) ∙ stands)

-- all blocks of a plan
pub all-sealed : (file : List ℕ) (eof : ℕ) (blocks : List (Bid × List ℕ)) (entries : List BlockEntry) (pieces : List Piece) → AreSealed blocks entries pieces → Each (IsPlace eof) (map place_of entries) → EachStands file pieces → EachOf (Stands file eof) entries
all-sealed file eof [] entries pieces are places stands = subst (EachOf (Stands file eof)) (sym are.0) tt
all-sealed file eof (b ∷ bs) [] pieces are places stands = tt
all-sealed file eof (b ∷ bs) (e ∷ es) [] are places stands = absurd are
all-sealed file eof (b ∷ bs) (e ∷ es) (p ∷ ps) are places stands = (sealed-stands file eof b e p are.0 places.0 stands.0, all-sealed file eof bs es ps are.1 places.1 stands.1)
