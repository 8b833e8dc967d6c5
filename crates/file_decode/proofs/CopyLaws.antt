-- The bytes of a copy: each data block, decoded over the bytes that were copied.
use Rattle.std.proofs.Common.{Bool, true, false, ◌≡◌, ◌∙◌, ℕ, ◌+◌, ◌<◌, ◌≤◌, List, [], ◌∷◌, ◌++◌, length, take, drop, get_or, Option, Some, None, refl, sym, ap, arith, if◌then◌else◌, length-append, length-drop}
use Rattle.std.proofs.lemmas.List.{append-nil, drop_at}
use Rattle.pst_outside.specs.World.{after_write}
use Rattle.block_encoding.specs.declared.decoding.Method.{Method}
use Rattle.btree_pages.specs.declared.entry.BlockEntry.{BlockEntry}
use Rattle.data_tree.proofs.ListingLaws.{drop-here}
use Rattle.file_scan.specs.Parts.{AllPlaced}
use Rattle.file_decode.specs.Decoding.{bytes_at, decoded_block, decoded_blocks, decoded_file, is_data, no_header, with_block, with_blocks}
use Rattle.file_decode.proofs.Pieces.{no_shorter, same_behind, same_length, write_behind, write_front}

-- one entry more
pub next-block : (m : Method) (file : List ℕ) (es : List BlockEntry) (i : ℕ) (d : BlockEntry) (copy : List ℕ) → i < length es
    → with_blocks m file (drop i es) copy ≡ with_blocks m file (drop (i + 1) es) (with_block m file (get_or es i d) copy)
unfolding with_blocks
next-block m file es i d copy within = ap (λ (l : List BlockEntry). with_blocks m file l copy) (drop-here es i d within)

pub none-left : (m : Method) (file copy : List ℕ) → with_blocks m file [] copy ≡ copy
unfolding with_blocks
none-left m file copy = refl

-- what two copies have in common that are the same behind the header
pub record Alike (a b : List ℕ) : Type 0 where
  pub long : length a ≡ length b
  pub same : drop 564 a ≡ drop 564 b

block-alike : (is : Bool) (a b bytes : List ℕ) (at : ℕ) → 564 ≤ at → at ≤ length a → Alike a b
    → Alike (if is then after_write a at bytes else a) (if is then after_write b at bytes else b)
block-alike true a b bytes at low within alike = record { long = same_length a b bytes at alike.long; same = same_behind a b bytes 564 at low within alike.long alike.same }
block-alike false a b bytes at low within alike = alike

block-long : (is : Bool) (a bytes : List ℕ) (at eof : ℕ) → eof ≤ length a → eof ≤ length (if is then after_write a at bytes else a)
block-long true a bytes at eof h = omega (arith, h, no_shorter a bytes at)
block-long false a bytes at eof h = h

pub blocks-alike : (m : Method) (file : List ℕ) (eof : ℕ) (es : List BlockEntry) (a b : List ℕ) → AllPlaced eof es → eof ≤ length a → Alike a b → Alike (with_blocks m file es a) (with_blocks m file es b)
unfolding with_blocks
blocks-alike m file eof [] a b placed whole alike = alike
blocks-alike m file eof (e ∷ es) a b placed whole alike =
    let bytes : List ℕ = decoded_block m e (bytes_at e file) in
    let above = placed.0.above in
    let before = placed.0.before in
    blocks-alike m file eof es (with_block m file e a) (with_block m file e b) placed.1 (block-long (is_data e) a bytes e.at.ib eof whole)
    (block-alike (is_data e) a b bytes e.at.ib (omega (arith, above)) (omega (arith, before, whole)) alike)

pub any-alike : (m : Option Method) (file : List ℕ) (eof : ℕ) (es : List BlockEntry) (a b : List ℕ) → AllPlaced eof es → eof ≤ length a → Alike a b → Alike (decoded_blocks m file es a) (decoded_blocks m file es b)
any-alike None file eof es a b placed whole alike = alike
any-alike (Some m) file eof es a b placed whole alike = blocks-alike m file eof es a b placed whole alike

pub no-header : length no_header ≡ 564
unfolding no_header
no-header = refl

-- the copy as it begins
pub zeros-first : (copy bytes main : List ℕ) → copy ≡ [] → bytes ≡ no_header → after_write copy 0 bytes ≡ no_header ++ take 0 (drop 564 main)
zeros-first copy bytes main none is = (λ i. after_write (none i) 0 (is i)) ∙ write_behind [] no_header 0 refl ∙ sym (append-nil no_header)

-- the bytes that were copied are the file's behind the header
copied-alike : (main file : List ℕ) → 564 ≤ length main → length file ≡ length main → drop 564 main ≡ drop 564 file → Alike (no_header ++ drop 564 main) file
copied-alike main file whole long same = record {
  long = omega (arith, length-append no_header (drop 564 main), no-header, length-drop 564 main, whole, long);
  same = drop_at no_header (drop 564 main) 564 no-header ∙ same;
}

-- the copy, once the header stands in it
pub copy-decoded : (m : Option Method) (file main header decoded copy : List ℕ) (eof : ℕ) (es : List BlockEntry)
    → 564 ≤ length main → length file ≡ length main → drop 564 main ≡ drop 564 file → length header ≡ 564 → eof ≤ length main → AllPlaced eof es
    → decoded ≡ decoded_blocks m file es (no_header ++ drop 564 main) → copy ≡ after_write decoded 0 header → copy ≡ decoded_file m header file es
copy-decoded m file main header decoded copy eof es whole long same size within placed is last =
    let start : Alike (no_header ++ drop 564 main) file = copied-alike main file whole long same in
    let fits : eof ≤ length (no_header ++ drop 564 main) = omega (arith, length-append no_header (drop 564 main), no-header, length-drop 564 main, whole, within) in
    let alike : Alike (decoded_blocks m file es (no_header ++ drop 564 main)) (decoded_blocks m file es file) = any-alike m file eof es (no_header ++ drop 564 main) file placed fits start in
    last ∙ write_front decoded header
    ∙ (λ i. header ++ drop (size i) (is i))
    ∙ ap (λ (l : List ℕ). header ++ l) alike.same
