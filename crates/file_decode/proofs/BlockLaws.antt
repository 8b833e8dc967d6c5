-- A block that stands, read again, and each data block in its turn.
use Rattle.std.proofs.Common.{Bool, IsTrue, true, false, ◌≡◌, ◌↔◌, ◌∙◌, ℕ, ◌+◌, ◌/◌, ◌%◌, ◌<◌, ◌≤◌, List, [], length, take, drop, get_or, count_by, if◌then◌else◌, eqb, eqb-true, not, Option, Some, None, Result, Ok, Err, refl, sym, ap, subst, arith, length-drop}
use Rattle.std.proofs.lemmas.List.{take_all}
use Rattle.std.proofs.lemmas.List.Sums.{count_by_more_no, count_by_more_yes}
use Rattle.pst_base.specs.Ids.{IsInternal}
use Rattle.pst_outside.specs.World.{Image, after_write}
use Rattle.gate_file.specs.Effective.{effective}
use Rattle.block_frame.specs.declared.block.BlockFault.{BlockFault}
use Rattle.block_frame.specs.Block.{reading}
use Rattle.block_frame.specs.Size.{disk_size_of}
use Rattle.block_encoding.specs.declared.decoding.Method.{Method}
use Rattle.btree_pages.specs.declared.entry.BlockEntry.{BlockEntry}
use Rattle.data_tree.proofs.ListingLaws.{drop-here}
use Rattle.file_blocks.specs.declared.check.BlockRefusal.{BlockRefusal}
use Rattle.file_blocks.specs.Blocks.{AllStand, Stands, data_at, faulty, file_of, misplaced, unless}
use Rattle.file_blocks.specs.Stops.{IsPlaced}
use Rattle.file_blocks.proofs.FileLaws.{behind_header, same_length}
use Rattle.file_scan.specs.Parts.{AllPlaced}
use Rattle.file_decode.specs.Decoding.{bytes_at, decoded_block, is_data, with_blocks}
use Rattle.copy_part.specs.Keeps.{SameSource}
use Rattle.file_decode.proofs.CopyLaws.{next-block}

by_frame : (o : Option BlockRefusal) (r : Result (List ℕ) BlockFault) (content : List ℕ) → unless o (faulty r) ≡ Ok content → r ≡ Ok content
by_frame None (Ok x) content h = cc
by_frame None (Err fault) content h = absurd (cc)
by_frame (Some refusal) r content h = absurd (cc)

-- the frame of a block that stands holds
pub frame-holds : (file : List ℕ) (eof : ℕ) (e : BlockEntry) (content : List ℕ) → data_at file eof e ≡ Ok content → reading e.cb e.at (bytes_at e file) ≡ Ok content
unfolding data_at
frame-holds file eof e content h = by_frame (misplaced eof e) (reading e.cb e.at (bytes_at e file)) content h

-- the bytes that were read of Main are those of the file
pub read-again : (old new : Image) (buf : List ℕ) (eof n : ℕ) (e : BlockEntry) → new ≡ old → IsPlaced eof e → eof ≤ length old.main → n ≡ disk_size_of e.cb
    → (e.at.ib + n ≤ length new.main → buf ≡ take n (drop e.at.ib new.main)) → buf ≡ bytes_at e (file_of old)
read-again old new buf eof n e same placed whole size read =
    let above = placed.above in
    let before = placed.before in
    let main : new.main ≡ old.main = ap (λ (i : Image). i.main) same in
    let long : length new.main ≡ length old.main = ap length main in
    read (omega (arith, before, whole, size, long))
    ∙ (λ i. take (size i) (drop e.at.ib (main i)))
    ∙ behind_header old.main old.side e.at.ib (disk_size_of e.cb) (omega (arith, above))

-- the file is the same where Main and Side are
pub same-file : {old new : Image} → SameSource old new → file_of new ≡ file_of old
same-file same = λ i. file_of (record { main = same.main i; side = same.side i; copy = []; said = [] })

-- behind the header the file is Main
pub whole-behind : (main side : List ℕ) → 564 ≤ length main → drop 564 main ≡ drop 564 (effective main side)
whole-behind main side long =
    let n : ℕ = length main in
    sym (take_all n (drop 564 main) (omega (arith, length-drop 564 main)))
    ∙ behind_header main side 564 n (omega arith)
    ∙ take_all n (drop 564 (effective main side)) (omega (arith, length-drop 564 (effective main side), same_length main side long))

-- ---- the entry in turn

abbrev pub no_block : BlockEntry
no_block = record { at = record { bid = record { bits = 0 }; ib = 0 }; cb = 0; refs = 0 }

pub placed-here : (eof : ℕ) (es : List BlockEntry) (i : ℕ) → i < length es → AllPlaced eof (drop i es) → IsPlaced eof (get_or es i no_block) × AllPlaced eof (drop (i + 1) es)
placed-here eof es i within placed = subst (AllPlaced eof) (drop-here es i no_block within) placed

pub stands-here : (file : List ℕ) (eof : ℕ) (es : List BlockEntry) (i : ℕ) → i < length es → AllStand file eof (drop i es) → Stands file eof (get_or es i no_block) × AllStand file eof (drop (i + 1) es)
stands-here file eof es i within stand = subst (AllStand file eof) (drop-here es i no_block within) stand

by_test : (n : ℕ) (test : Bool) → eqb n 1 ≡ test → (n ≡ 1 → ⊥) → not test ≡ true
by_test n true e none = absurd (none (eqb-true n 1 e))
by_test n false e none = refl

pub holds-data : (e : BlockEntry) → (IsTrue false ↔ IsInternal e.at.bid.bits) → is_data e ≡ true
holds-data e is = by_test (e.at.bid.bits / 2 % 2) (eqb (e.at.bid.bits / 2 % 2) 1) refl (λ internal. let wrong : false ≡ true = is.1 internal in cc)

pub holds-none : (e : BlockEntry) → (IsTrue true ↔ IsInternal e.at.bid.bits) → is_data e ≡ false
holds-none e is = ap (λ (n : ℕ). not (eqb n 1)) (is.0 refl)

-- the count, and the copy, of an entry in turn
module _ (es : List BlockEntry) (i : ℕ) (within : i < length es) where
  pub count-data : (n : ℕ) → is_data (get_or es i no_block) ≡ true → n ≡ count_by is_data (take i es) → n + 1 ≡ count_by is_data (take (i + 1) es)
  count-data n is so_far = omega (arith, so_far, count_by_more_yes is_data es i no_block within is)

  pub count-none : (n : ℕ) → is_data (get_or es i no_block) ≡ false → n ≡ count_by is_data (take i es) → n ≡ count_by is_data (take (i + 1) es)
  count-none n is so_far = so_far ∙ sym (count_by_more_no is_data es i no_block within is)

  pub copy-data : (m : Method) (file copy next whole : List ℕ) → is_data (get_or es i no_block) ≡ true
      → next ≡ after_write copy (get_or es i no_block).at.ib (decoded_block m (get_or es i no_block) (bytes_at (get_or es i no_block) file))
      → with_blocks m file (drop i es) copy ≡ whole → with_blocks m file (drop (i + 1) es) next ≡ whole
  copy-data m file copy next whole is made so_far =
      let e : BlockEntry = get_or es i no_block in
      let step : (if is_data e then after_write copy e.at.ib (decoded_block m e (bytes_at e file)) else copy) ≡ next =
      ap (λ (b : Bool). if b then after_write copy e.at.ib (decoded_block m e (bytes_at e file)) else copy) is ∙ sym made in
      sym (next-block m file es i no_block copy within ∙ ap (with_blocks m file (drop (i + 1) es)) step) ∙ so_far

  pub copy-none : (m : Method) (file copy whole : List ℕ) → is_data (get_or es i no_block) ≡ false → with_blocks m file (drop i es) copy ≡ whole → with_blocks m file (drop (i + 1) es) copy ≡ whole
  copy-none m file copy whole is so_far =
      let e : BlockEntry = get_or es i no_block in
      let step : (if is_data e then after_write copy e.at.ib (decoded_block m e (bytes_at e file)) else copy) ≡ copy =
      ap (λ (b : Bool). if b then after_write copy e.at.ib (decoded_block m e (bytes_at e file)) else copy) is in
      sym (next-block m file es i no_block copy within ∙ ap (with_blocks m file (drop (i + 1) es)) step) ∙ so_far
