-- What stands at the front of bytes.
use Rattle.std.specs.Prelude.{◌≡◌, Bool, true, ℕ, ◌<◌, ◌≤◌, List, length, slice_index}
use Rattle.line_server.specs.Lines.{LINE_LIMIT, NoFeedBelow}
use Rattle.line_server.specs.declared.lines.Front.{Front}
use Rattle.line_server.specs.declared.lines.Front.TheVariants.{Line, Overlong, Open}

-- the first LF stands at that place, or there is none and the bytes are more than a line may have, or not more
abbrev pub StandsAt : Front → List ℕ → Type 0
StandsAt (Line feed) bytes = (feed < length bytes) × (slice_index bytes feed ≡ 10) × NoFeedBelow feed bytes
StandsAt Overlong bytes = (length bytes ≡ 1048577) × NoFeedBelow (length bytes) bytes
StandsAt Open bytes = (length bytes ≤ LINE_LIMIT) × NoFeedBelow (length bytes) bytes

-- how many bytes hold no LF for certain, of so many bytes
abbrev pub clean_of : Front → ℕ → ℕ
clean_of (Line feed) held = feed
clean_of Overlong held = held
clean_of Open held = held

-- there is something to answer, or the input has ended
pub record IsReady (front : Front) (ended : Bool) (bytes : List ℕ) : Type 0 where
  pub stands : StandsAt front bytes
  pub closed : front ≡ Open → ended ≡ true
