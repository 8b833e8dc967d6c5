-- What stands in a file once its data blocks were decoded, each in its place.
use Rattle.std.proofs.Common.{Bool, true, false, ◌≡◌, inl, inr, ◌∙◌, ℕ, ◌+◌, ◌≤◌, List, [], ◌∷◌, ◌++◌, length, take, drop, map, if◌then◌else◌, Option, Some, None, refl, sym, ap, arith, length-drop, length-take, ⊎_elim}
use Rattle.pst_base.specs.declared.places.Place.{Place}
use Rattle.pst_outside.specs.World.{after_write}
use Rattle.pst_outside.proofs.Bytes.{after_write_span, after_write_torn, length-after_write, torn_span}
use Rattle.alloc_map.specs.Covered.{IsTwice, Once}
use Rattle.alloc_map.specs.Standing.{Covers, SomeCovers}
use Rattle.alloc_map.proofs.CoverLaws.{covers_first, covers_last}
use Rattle.block_frame.specs.Size.{disk_size_of}
use Rattle.block_encoding.specs.declared.decoding.Method.{Method}
use Rattle.block_encoding.specs.Encoding.{decoded}
use Rattle.btree_pages.specs.declared.entry.BlockEntry.{BlockEntry}
use Rattle.file_layout.specs.Nodes.{place_of}
use Rattle.lays_kept.specs.Kept.{Each, SameAt}
use Rattle.lays_kept.proofs.Beside.{Apart, IsWhole, apart_slots}
use Rattle.file_decode.proofs.DataLaws.{decoded-length}
use Rattle.file_decode.proofs.FrameLaws.{length-with}
use Rattle.file_decode.specs.Decoding.{bytes_at, decoded_block, decoded_blocks, is_data, with_block, with_blocks}

-- ---- places

-- the place has no byte in common with the blocks of these entries
abbrev pub IsClearOf : Place → List BlockEntry → Type 0
IsClearOf p [] = Unit {0}
IsClearOf p (e ∷ es) = Apart p (place_of e) × IsClearOf p es

-- no two blocks have one
abbrev pub AreApart : List BlockEntry → Type 0
AreApart [] = Unit {0}
AreApart (e ∷ es) = IsClearOf (place_of e) es × AreApart es

clear-slots : (p : Place) (es : List BlockEntry) → IsWhole p → Each IsWhole (map place_of es) → ((slot : ℕ) → Covers p slot → SomeCovers (map place_of es) slot → ⊥) → IsClearOf p es
unfolding SomeCovers
clear-slots p [] whole wholes none = tt
clear-slots p (e ∷ es) whole wholes none = (
  apart_slots p (place_of e) whole wholes.0 (λ slot one two. none slot one (inl two)),
  clear-slots p es whole wholes.1 (λ slot one two. none slot one (inr two)),
)

pub blocks-apart : (es : List BlockEntry) (rest : List Place) → Each IsWhole (map place_of es) → Once (map place_of es ++ rest) → AreApart es
unfolding IsTwice
blocks-apart [] rest wholes once = tt
blocks-apart (e ∷ es) rest wholes once = (
  clear-slots (place_of e) es wholes.0 wholes.1 (λ slot one two. once slot (inl (one, covers_first (map place_of es) rest slot two))),
  blocks-apart es rest wholes.1 (λ slot twice. once slot (inr twice)),
)

pub places-clear : (ps : List Place) (es : List BlockEntry) (rest : List Place) → Each IsWhole ps → Each IsWhole (map place_of es) → Once (ps ++ (map place_of es ++ rest)) → Each (λ p. IsClearOf p es) ps
unfolding IsTwice
places-clear [] es rest wholes blocks once = tt
places-clear (p ∷ ps) es rest wholes blocks once = (
  clear-slots p es wholes.0 blocks (λ slot one two. once slot (inl (one, covers_last ps (map place_of es ++ rest) slot (covers_first (map place_of es) rest slot two)))),
  places-clear ps es rest wholes.1 blocks (λ slot twice. once slot (inr twice)),
)

pub rest-once : (ps qs : List Place) → Once (ps ++ qs) → Once qs
unfolding IsTwice
rest-once [] qs once = once
rest-once (p ∷ ps) qs once = rest-once ps qs (λ slot twice. once slot (inr twice))

-- ---- blocks

-- the bytes of an entry's block in the copy
abbrev pub bytes_now : Option Method → List ℕ → BlockEntry → List ℕ
bytes_now None file e = bytes_at e file
bytes_now (Some method) file e = if is_data e then decoded_block method e (bytes_at e file) else bytes_at e file

-- the block of each entry stands decoded in the copy
abbrev pub AreDecoded : Option Method → List ℕ → List ℕ → List BlockEntry → Type 0
AreDecoded method file copy [] = Unit {0}
AreDecoded method file copy (e ∷ es) = (bytes_at e copy ≡ bytes_now method file e) × AreDecoded method file copy es

-- each block lies within the file
abbrev pub AreWithin : List ℕ → List BlockEntry → Type 0
AreWithin file [] = Unit {0}
AreWithin file (e ∷ es) = (e.at.ib + disk_size_of e.cb ≤ length file) × AreWithin file es

-- the bytes of each block are those of the file
abbrev pub AreThere : List ℕ → List ℕ → List BlockEntry → Type 0
AreThere file copy [] = Unit {0}
AreThere file copy (e ∷ es) = (bytes_at e copy ≡ bytes_at e file) × AreThere file copy es

pub there-first : (file : List ℕ) (es : List BlockEntry) → AreThere file file es
there-first file [] = tt
there-first file (e ∷ es) = (refl, there-first file es)

bytes-size : (file : List ℕ) (e : BlockEntry) → e.at.ib + disk_size_of e.cb ≤ length file → length (bytes_at e file) ≡ disk_size_of e.cb
bytes-size file e within = omega (arith, length-take (disk_size_of e.cb) (drop e.at.ib file), length-drop e.at.ib file, within)

pub block-size : (m : Method) (file : List ℕ) (e : BlockEntry) → e.at.ib + disk_size_of e.cb ≤ length file → length (decoded_block m e (bytes_at e file)) ≡ disk_size_of e.cb
unfolding decoded_block
block-size m file e within =
    let b = bytes_at e file in
    let size = bytes-size file e within in
    let own : length (decoded m e.at.bid.bits (take e.cb b)) ≡ e.cb = decoded-length m e.at.bid.bits (take e.cb b) ∙ omega (arith, length-take e.cb b, size) in
    length-with e.cb (decoded m e.at.bid.bits (take e.cb b)) b size own

-- one block more in the copy: its bytes, how long the copy is, and what stands elsewhere
module _ (m : Method) (file copy : List ℕ) (e : BlockEntry) (long : length copy ≡ length file) (within : e.at.ib + disk_size_of e.cb ≤ length file) where
  block : List ℕ
  block = decoded_block m e (bytes_at e file)

  with-length : (is : Bool) → length (if is then after_write copy e.at.ib (decoded_block m e (bytes_at e file)) else copy) ≡ length file
  with-length true = omega (arith, length-after_write copy e.at.ib (decoded_block m e (bytes_at e file)), block-size m file e within, long, within)
  with-length false = long

  with-elsewhere : (is : Bool) (p : Place) → p.ib + p.len ≤ length file → Apart p (place_of e) → SameAt copy (if is then after_write copy e.at.ib (decoded_block m e (bytes_at e file)) else copy) p
  with-elsewhere true p inside apart =
      torn_span (after_write_torn copy e.at.ib (decoded_block m e (bytes_at e file))) p.ib p.len (omega (arith, long, inside))
      (⊎_elim (λ before. inl before) (λ behind. inr (omega (arith, behind, block-size m file e within))) apart)
  with-elsewhere false p inside apart = refl

  with-here : (is : Bool) → bytes_at e copy ≡ bytes_at e file
      → bytes_at e (if is then after_write copy e.at.ib (decoded_block m e (bytes_at e file)) else copy) ≡ (if is then decoded_block m e (bytes_at e file) else bytes_at e file)
  with-here true there =
      ap (λ (n : ℕ). take n (drop e.at.ib (after_write copy e.at.ib (decoded_block m e (bytes_at e file))))) (sym (block-size m file e within))
      ∙ after_write_span copy e.at.ib (decoded_block m e (bytes_at e file))
  with-here false there = there

-- a place that is clear of the blocks keeps its bytes
pub clear-kept : (m : Method) (file copy : List ℕ) (es : List BlockEntry) (p : Place) → length copy ≡ length file → AreWithin file es → p.ib + p.len ≤ length file → IsClearOf p es
    → SameAt copy (with_blocks m file es copy) p
unfolding with_blocks
clear-kept m file copy [] p long within inside clear = refl
clear-kept m file copy (e ∷ es) p long within inside clear =
    clear-kept m file (with_block m file e copy) es p (with-length m file copy e long within.0 (is_data e)) within.1 inside clear.1
    ∙ with-elsewhere m file copy e long within.0 (is_data e) p inside clear.0

still-there : (m : Method) (file copy : List ℕ) (e : BlockEntry) (es : List BlockEntry) → length copy ≡ length file → e.at.ib + disk_size_of e.cb ≤ length file → AreWithin file es
    → IsClearOf (place_of e) es → AreThere file copy es → AreThere file (with_block m file e copy) es
still-there m file copy e [] long within others clear there = tt
still-there m file copy e (f ∷ es) long within others clear there = (
  with-elsewhere m file copy e long within (is_data e) (place_of f) others.0 (⊎_elim inr inl clear.0) ∙ there.0,
  still-there m file copy e es long within others.1 clear.1 there.1,
)

-- and each block stands decoded
pub blocks-decoded : (m : Method) (file copy : List ℕ) (es : List BlockEntry) → length copy ≡ length file → AreWithin file es → AreApart es → AreThere file copy es
    → AreDecoded (Some m) file (with_blocks m file es copy) es
unfolding with_blocks
blocks-decoded m file copy [] long within apart there = tt
blocks-decoded m file copy (e ∷ es) long within apart there =
    let now = with-length m file copy e long within.0 (is_data e) in (
      clear-kept m file (with_block m file e copy) es (place_of e) now within.1 within.0 apart.0 ∙ with-here m file copy e long within.0 (is_data e) there.0,
      blocks-decoded m file (with_block m file e copy) es now within.1 apart.1 (still-there m file copy e es long within.0 within.1 apart.0 there.1),
    )

pub blocks-length : (m : Method) (file copy : List ℕ) (es : List BlockEntry) → length copy ≡ length file → AreWithin file es → length (with_blocks m file es copy) ≡ length file
unfolding with_blocks
blocks-length m file copy [] long within = long
blocks-length m file copy (e ∷ es) long within = blocks-length m file (with_block m file e copy) es (with-length m file copy e long within.0 (is_data e)) within.1

-- ---- the same by the encoding, if there is one

pub any-length : (method : Option Method) (file : List ℕ) (es : List BlockEntry) → AreWithin file es → length (decoded_blocks method file es file) ≡ length file
any-length None file es within = refl
any-length (Some m) file es within = blocks-length m file file es refl within

pub any-kept : (method : Option Method) (file : List ℕ) (es : List BlockEntry) (p : Place) → AreWithin file es → p.ib + p.len ≤ length file → IsClearOf p es → SameAt file (decoded_blocks method file es file) p
any-kept None file es p within inside clear = refl
any-kept (Some m) file es p within inside clear = clear-kept m file file es p refl within inside clear

none-decoded : (file : List ℕ) (es : List BlockEntry) → AreDecoded None file file es
none-decoded file [] = tt
none-decoded file (e ∷ es) = (refl, none-decoded file es)

pub any-decoded : (method : Option Method) (file : List ℕ) (es : List BlockEntry) → AreWithin file es → AreApart es → AreDecoded method file (decoded_blocks method file es file) es
any-decoded None file es within apart = none-decoded file es
any-decoded (Some m) file es within apart = blocks-decoded m file file es refl within apart (there-first file es)
