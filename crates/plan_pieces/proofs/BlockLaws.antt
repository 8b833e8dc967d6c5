-- New blocks and the places that fit them.
use Rattle.std.proofs.Common.{◌≡◌, ◌∙◌, ℕ, ◌+◌, ◌-◌, ◌%◌, ◌<◌, ◌≤◌, List, [], ◌∷◌, ◌++◌, map, length, take, get_or, replicate, refl, sym, ap, subst, arith, length-append}
use Rattle.std.proofs.lemmas.List.{get_or-map, length-map, length-replicate, take_more}
use Rattle.std.proofs.lemmas.List.Elements.{All-map, All-weaker}
use Rattle.std.specs.List.{All}
use Rattle.pst_base.specs.Cells.{written}
use Rattle.pst_checksum.specs.Crc.{crc_of}
use Rattle.pst_base.specs.Fields.{replaced}
use Rattle.pst_checksum.specs.Sig.{sig_of}
use Rattle.pst_base.specs.declared.ids.Bid.{Bid}
use Rattle.pst_base.specs.declared.ids.Bref.{Bref}
use Rattle.pst_base.specs.declared.places.Place.{Place}
use Rattle.alloc_map.specs.Slots.{slots_in}
use Rattle.block_frame.specs.Block.{block_of, trailer_at, trailer_of}
use Rattle.block_frame.specs.Size.{disk_size_of}
use Rattle.btree_pages.specs.declared.entry.BlockEntry.{BlockEntry}
use Rattle.data_tree.specs.Plan.{AreSmall}
use Rattle.file_layout.specs.Nodes.{place_of}
use Rattle.lays_kept.specs.declared.Piece.{Piece}
use Rattle.node_layout.specs.Pieces.{piece_place}
use Rattle.node_layout.specs.Sealed.{AreSealed, IsSealed}
use Rattle.plan_pieces.specs.Blocks.{slots_of}
use Rattle.plan_pieces.proofs.ListLaws.{place-parts}

length-trailer : (cb signature checksum bid : ℕ) → length (trailer_of cb signature checksum bid) ≡ 16
unfolding trailer_of written replaced
length-trailer cb signature checksum bid = refl

-- a block has its disk size
pub length-block_of : (at : Bref) (body : List ℕ) → length (block_of at body) ≡ disk_size_of (length body)
unfolding block_of
length-block_of at body =
    let cb = length body in
    let zeros : List ℕ = replicate (trailer_at cb - cb) 0 in
    let trailer = trailer_of cb (sig_of at.ib at.bid.bits) (crc_of body) at.bid.bits in
    let a : length (body ++ zeros ++ trailer) ≡ length (body ++ zeros) + length trailer = length-append (body ++ zeros) trailer in
    let b : length (body ++ zeros) ≡ cb + length zeros = length-append body zeros in
    let z : length zeros ≡ trailer_at cb - cb = length-replicate {A = ℕ} (trailer_at cb - cb) 0 in
    let t = length-trailer cb (sig_of at.ib at.bid.bits) (crc_of body) at.bid.bits in
    omega (arith, a, b, z, t)

-- each block takes from 1 to 128 slots
pub slots-low : (blocks : List (Bid × List ℕ)) → All (λ n. 1 ≤ n) (map slots_of blocks)
slots-low blocks = All-map (λ (n : ℕ). 1 ≤ n) slots_of blocks (λ k d lt. omega arith)

pub slots-high : (blocks : List (Bid × List ℕ)) → AreSmall blocks → All (λ n. n ≤ 128) (map slots_of blocks)
slots-high blocks small = All-map (λ (n : ℕ). n ≤ 128) slots_of blocks (All-weaker (λ (b : Bid × List ℕ). length b.1 ≤ 8176) (λ b. slots_of b ≤ 128) (λ b le. omega (arith, le)) blocks small)

-- a place of as many slots as a block takes has its size
pub place-sized : (block : Bid × List ℕ) (p : Place) → p.len % 64 ≡ 0 → slots_in p ≡ slots_of block → p.len ≡ disk_size_of (length block.1)
place-sized block p whole same = omega (arith, whole, same)

pub sized-at : (blocks : List (Bid × List ℕ)) (places : List Place) (i : ℕ) (b : Bid × List ℕ) (p : Place) → i < length blocks → map slots_in places ≡ map slots_of blocks → (i < length places) × (slots_in (get_or places i p) ≡ slots_of (get_or blocks i b))
sized-at blocks places i b p lt same =
    let n = sym (length-map places slots_in) ∙ ap (λ (l : List ℕ). length l) same ∙ length-map blocks slots_of in
    let within : i < length places = omega (arith, n, lt) in
    (within, sym (get_or-map slots_in places i p 0 within) ∙ ap (λ (l : List ℕ). get_or l i 0) same ∙ get_or-map slots_of blocks i b 0 lt)

-- a block that is sealed for a place of its size fills it
pub fills : (block : Bid × List ℕ) (entry : BlockEntry) (piece : Piece) (p : Place) → IsSealed block entry piece → (entry.at).ib ≡ p.ib → p.len ≡ disk_size_of (length block.1) → (piece_place piece ≡ p) × (place_of entry ≡ p)
fills block entry piece p is ib len = (
  place-parts p piece.at (length piece.bytes) (is.place ∙ ib) (is.sealed.0 ∙ sym len),
  place-parts p (entry.at).ib (disk_size_of entry.cb) ib (ap disk_size_of is.size ∙ sym len),
)

sealed-push : (bs : List (Bid × List ℕ)) (es : List BlockEntry) (ps : List Piece) (b : Bid × List ℕ) (e : BlockEntry) (p : Piece) → AreSealed bs es ps → IsSealed b e p → AreSealed (bs ++ b ∷ []) (es ++ e ∷ []) (ps ++ p ∷ [])
sealed-push [] es ps b e p are is =
    subst (λ (l : List BlockEntry). AreSealed (b ∷ []) (l ++ e ∷ []) (ps ++ p ∷ [])) (sym are.0) (subst (λ (l : List Piece). AreSealed (b ∷ []) (e ∷ []) (l ++ p ∷ [])) (sym are.1) (is, (refl, refl)))
sealed-push (x ∷ bs) [] ps b e p are is = absurd are
sealed-push (x ∷ bs) (y ∷ es) [] b e p are is = absurd are
sealed-push (x ∷ bs) (y ∷ es) (z ∷ ps) b e p are is = (are.0, sealed-push bs es ps b e p are.1 is)

-- one more block is sealed
pub more-sealed : (blocks : List (Bid × List ℕ)) (i : ℕ) (b : Bid × List ℕ) (es es' : List BlockEntry) (ps ps' : List Piece) (e : BlockEntry) (p : Piece) → i < length blocks → b ≡ get_or blocks i b
    → AreSealed (take i blocks) es ps → IsSealed b e p → es' ≡ es ++ e ∷ [] → ps' ≡ ps ++ p ∷ [] → AreSealed (take (i + 1) blocks) es' ps'
more-sealed blocks i b es es' ps ps' e p lt here are is first second =
    subst (AreSealed (take (i + 1) blocks) es') (sym second) (subst (λ (l : List BlockEntry). AreSealed (take (i + 1) blocks) l (ps ++ p ∷ [])) (sym first)
    (subst (λ (l : List (Bid × List ℕ)). AreSealed l (es ++ e ∷ []) (ps ++ p ∷ [])) (ap (λ (x : Bid × List ℕ). take i blocks ++ x ∷ []) here ∙ sym (take_more blocks i b lt)) (sealed-push (take i blocks) es ps b e p are is)))
