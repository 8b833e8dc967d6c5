-- How the bytes of the input are cut into lines.
use Rattle.std.specs.Prelude.{◌≡◌, ◌≢◌, ℕ, ◌-◌, ◌<◌, ◌≤◌, Bool, true, false, ◌==◌, List, [], ◌∷◌, ◌++◌, length, take, slice_index, slice_range, codes, nat_eq, if◌then◌else◌}
use Rattle.std.specs.Cmp.Lexicographic.{pointwise}

-- the most bytes that a line may have before its LF, a CR included
abbrev pub LINE_LIMIT : ℕ
LINE_LIMIT = 1048576

-- What is answered at a time: a line, the first piece of a line that is too long, or a further piece of it.
pub data Piece : Type 0 where
  line : List ℕ → Piece
  too_long : Piece
  further : Piece

-- the bytes without a CR at their end
unfoldable pub without_cr : List ℕ → List ℕ
without_cr bytes = if slice_index bytes (length bytes - 1) == 13 then take (length bytes - 1) bytes else bytes

-- the piece that ends at an LF
abbrev pub ending : Bool → List ℕ → Piece
ending true front = further
ending false front = line (without_cr front)

-- the piece that is full, behind which its line goes on
abbrev pub full : Bool → Piece
full true = further
full false = too_long

-- the piece behind the last LF, at the end of the input
abbrev pub last_piece : Bool → List ℕ → Piece
last_piece true front = further
last_piece false front = line front

-- the same, if there is any
abbrev pub last : Bool → List ℕ → List Piece
last long [] = []
last long (b ∷ front) = last_piece long (b ∷ front) ∷ []

-- The pieces of the bytes. `ended` says that they are all of the input: what follows the last LF then counts. `long`
-- says that they go on with a line that is too long, and front is what was read of the present piece.
unfoldable pub cut : Bool → Bool → List ℕ → List ℕ → List Piece
cut ended long front [] = if ended then last long front else []
cut ended long front (b ∷ bytes) =
    if b == 10 then ending long front ∷ cut ended false [] bytes
    else (if length front == LINE_LIMIT then full long ∷ cut ended true (b ∷ []) bytes
    else cut ended long (front ++ b ∷ []) bytes)

abbrev pub is_quit : Piece → Bool
is_quit (line bytes) = pointwise nat_eq bytes (codes "quit")
is_quit too_long = false
is_quit further = false

-- the pieces up to and with the first `quit`
abbrev pub up_to_quit : List Piece → List Piece
up_to_quit [] = []
up_to_quit (piece ∷ pieces) = piece ∷ (if is_quit piece then [] else up_to_quit pieces)

-- what a session answers of these bytes of its input
abbrev pub lines : Bool → List ℕ → List Piece
lines ended bytes = up_to_quit (cut ended false [] bytes)

-- none of the first n bytes is an LF
abbrev pub NoFeedBelow : ℕ → List ℕ → Type 0
NoFeedBelow n bytes = (k : ℕ) → k < n → slice_index bytes k ≢ 10

-- The bytes from start to end are held, and the first `scanned` of them hold no LF.
pub record IsLaid (bytes : List ℕ) (start end scanned : ℕ) : Type 0 where
  pub size : length bytes ≡ 1048577
  pub order : start ≤ end
  pub within : end ≤ 1048577
  pub seen : scanned ≤ end - start
  pub clean : NoFeedBelow scanned (slice_range bytes start end)
