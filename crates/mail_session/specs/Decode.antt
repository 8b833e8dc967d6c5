-- What `decode` says and how it ends.
use Rattle.std.specs.Prelude.{◌≡◌, ◌⊎◌, ℕ, List, [], ◌++◌, codes}
use Rattle.std.specs.Fmt.{decimal}
use Rattle.pst_outside.specs.World.{Image, World}
use Rattle.file_layout.specs.declared.stops.OpenRefusal.{OpenRefusal}
use Rattle.file_decode.specs.Decoded.{IsDecoded, IsUnread}
use Rattle.mail_session.specs.Copies.{CopyEnds}
use Rattle.mail_session.specs.Texts.{line, not_empty_line, refusal_line}
use Rattle.mail_session.specs.declared.exit.Status.{Status}

-- the line of a copy that was made
abbrev pub decoded_line : ℕ → List ℕ
decoded_line count = line (codes "decoded " ++ decimal count)

-- the line of a copy that was made of these files, with each data block decoded
abbrev pub IsDecodedText : Image → List ℕ → List ℕ → Type 0
IsDecodedText image copy text = (count : ℕ) × IsDecoded image count copy × (text ≡ decoded_line count)

-- the line of a refusal: that there is a copy, or one that holds of the files as if neither encoding were one
abbrev pub IsUnreadText : Image → List ℕ → Type 0
IsUnreadText image text = ((image.copy ≡ [] → ⊥) × (text ≡ not_empty_line)) ⊎ ((refusal : OpenRefusal) × IsUnread image refusal × (text ≡ refusal_line refusal))

-- How a call of `decode` ends, over any world.
abbrev pub DecodeEnds : World → World → Status → Type 0
DecodeEnds old new status = CopyEnds IsDecodedText IsUnreadText old new status
