-- Places of pages.
use Rattle.std.proofs.Common.{true, ◌≡◌, ℕ, List, [], ◌∷◌, ◌++◌, refl}
use Rattle.pst_base.specs.declared.ids.Bref.{Bref}
use Rattle.file_blocks.proofs.RoomLaws.{room-above, room-whole, room-before}
use Rattle.file_layout.specs.Trees.{is_placed, page_place, IsPlace, AllPages}

page-is-place : (eof : ℕ) (at : Bref) → is_placed eof at.ib ≡ true → IsPlace eof (page_place at)
page-is-place eof at placed = record { above = room-above eof 512 at.ib placed; start = room-whole eof 512 at.ib placed; whole = refl; before = room-before eof 512 at.ib placed }

-- a page behind others
pub pages-more : (eof : ℕ) (at : Bref) (pages : List Bref) → AllPages eof pages → is_placed eof at.ib ≡ true → AllPages eof (pages ++ at ∷ [])
pages-more eof at [] all placed = (page-is-place eof at placed, tt)
pages-more eof at (p ∷ ps) all placed = (all.0, pages-more eof at ps all.1 placed)
