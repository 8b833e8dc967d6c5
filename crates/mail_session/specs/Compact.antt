-- What `compact` says and how it ends.
use Rattle.std.specs.Prelude.{◌≡◌, ◌⊎◌, ℕ, List, [], ◌++◌, codes}
use Rattle.std.specs.Fmt.{decimal}
use Rattle.pst_outside.specs.World.{Image, World}
use Rattle.pst_outside.specs.Calls.{Rose, Untouched}
use Rattle.compactor.specs.Compacted.{IsCompacted}
use Rattle.compactor.specs.Layout.{IsTooLarge}
use Rattle.compactor.specs.declared.source.Source.{Source}
use Rattle.copy_pieces.specs.declared.stops.CompactStop.{CompactStop}
use Rattle.copy_pieces.specs.declared.stops.CompactStop.TheVariants as compacts
use Rattle.file_mending.specs.file_open.Opening.{IsFileRefused, Reads, ReadsFresh}
use Rattle.file_mending.specs.file_open.declared.stops.FileRefusal.{FileRefusal}
use Rattle.file_mending.specs.file_open.declared.stops.FileStop.{FileStop}
use Rattle.file_mending.specs.file_open.declared.stops.FileStop.TheVariants as opens
use Rattle.mail_searches.specs.Searching.{Searching}
use Rattle.mail_session.specs.Copies.{CopyEnds}
use Rattle.mail_session.specs.Texts.{file_line, line, not_empty_line}
use Rattle.mail_session.specs.declared.compacting.CopyStop.{CopyStop}
use Rattle.mail_session.specs.declared.compacting.CopyStop.TheVariants.{Changed, Fault, Large, Memory, NotEmpty, Refused}
use Rattle.mail_session.specs.declared.exit.Status.{Status}

-- ---- what is said

-- the line of a copy that was made, and of one that would be too large
abbrev pub compacted_line : ℕ → List ℕ
compacted_line eof = line (codes "compacted " ++ decimal eof)

abbrev pub large_line : ℕ → List ℕ
large_line eof = line (codes "refused large " ++ decimal eof)

-- the bytes as a file alone
abbrev pub file_alone : List ℕ → Image
file_alone bytes = record { main = bytes; side = []; copy = []; said = [] }

-- the line of a copy that was made of these files: it is read as the tree that they are read as
pub record IsCompactedText (image : Image) (copy text : List ℕ) : Type 0 where
  pub source : Source
  pub eof : ℕ
  pub compacted : IsCompacted image source eof copy
  pub reads : (X : Searching) → ReadsFresh image X → Reads (file_alone copy) X
  pub text_is : text ≡ compacted_line eof

-- the files are refused, for what is at fault with them: no tree with numbers left can be read from them
abbrev pub IsUnopened : Image → FileRefusal → Type 0
IsUnopened image refusal = IsFileRefused image refusal × ((X : Searching) → ReadsFresh image X → ⊥)

-- the copy of the files would end there, past the most regions that a file may have
abbrev pub IsLarge : Image → ℕ → Type 0
IsLarge image eof = (source : Source) × IsTooLarge image source eof

-- the line of a refusal: that there is a copy, one that holds of the files, or that the copy would be too large
abbrev pub IsUnmadeText : Image → List ℕ → Type 0
IsUnmadeText image text = ((image.copy ≡ [] → ⊥) × (text ≡ not_empty_line)) ⊎ ((refusal : FileRefusal) × IsUnopened image refusal × (text ≡ file_line refusal)) ⊎ ((eof : ℕ) × IsLarge image eof × (text ≡ large_line eof))

-- ---- how it ends

-- How a call of `compact` ends, over any world.
abbrev pub CompactEnds : World → World → Status → Type 0
CompactEnds old new status = CopyEnds IsCompactedText IsUnmadeText old new status

-- ---- stops

abbrev pub of_file : FileStop → CopyStop
of_file (opens.Refused refusal) = Refused refusal
of_file opens.Fault = Fault
of_file (opens.Changed ib stored computed) = Changed ib stored computed
of_file opens.Memory = Memory

abbrev pub of_compact : CompactStop → CopyStop
of_compact compacts.Fault = Fault
of_compact (compacts.Changed ib stored computed) = Changed ib stored computed
of_compact (compacts.Large eof) = Large eof
of_compact compacts.Memory = Memory

-- How the making of a copy stops. A refusal holds of the files, and comes before anything is written.
abbrev pub StopsCopying : CopyStop → World → World → Type 0
StopsCopying NotEmpty old new = Untouched old new × (new.tells → old.here.copy ≡ [] → ⊥)
StopsCopying (Refused refusal) old new = Untouched old new × (new.tells → IsUnopened old.here refusal)
StopsCopying (Large eof) old new = Untouched old new × (new.tells → IsLarge old.here eof)
StopsCopying Fault old new = Rose old.disk_faults new.disk_faults
StopsCopying (Changed ib stored computed) old new = new.tells → ⊥
StopsCopying Memory old new = Unit {0}
