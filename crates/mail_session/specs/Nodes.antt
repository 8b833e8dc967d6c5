-- What `nodes` says and how it ends.
use Rattle.std.specs.Prelude.{◌≡◌, ◌⊎◌, ℕ, List, [], ◌++◌, take, Ok}
use Rattle.pst_outside.specs.World.{Image, World}
use Rattle.pst_outside.specs.Calls.{Rose}
use Rattle.pst_header.specs.declared.header.Header.{Header}
use Rattle.file_scan.specs.declared.nodes.NodeLine.{NodeLine}
use Rattle.file_layout.specs.declared.stops.OpenRefusal.{OpenRefusal}
use Rattle.file_layout.specs.Nodes.{NodeMap, Lays}
use Rattle.file_scan.specs.Lines.{lines_of}
use Rattle.file_layout.specs.Opening.{opening}
use Rattle.file_scan.specs.Scan.{Scans, IsRefused}
use Rattle.file_layout.specs.Trees.{file_of}
use Rattle.mail_session.specs.Texts.{nodes_text, refusal_line}
use Rattle.mail_session.specs.Worlds.{KeepsDisk}
use Rattle.mail_session.specs.declared.exit.ChangedAt.{ChangedAt}
use Rattle.mail_session.specs.declared.exit.Status.{Status}
use Rattle.mail_session.specs.declared.exit.Status.TheVariants.{Done, Refused, Disk, Output, Memory, Changed}

-- the text of the node map that the files lay, and they lay no other
pub record IsNodesText (image : Image) (text : List ℕ) : Type 0 where
  pub lines : List NodeLine
  pub scans : Scans image lines
  pub only : (header : Header) (nodes : NodeMap) → opening image.main image.side ≡ Ok header → Lays header (file_of image) nodes → lines ≡ lines_of nodes
  pub text_is : text ≡ nodes_text lines

-- the line of a refusal that holds of the files
pub record IsRefusalText (image : Image) (text : List ℕ) : Type 0 where
  pub refusal : OpenRefusal
  pub holds : IsRefused image refusal
  pub text_is : text ≡ refusal_line refusal

-- What was said of these files before a call ended so: the nodes; a refusal; where the output failed, a front of such a text; else
-- nothing. Files whose bytes are told never change while they are read.
abbrev pub SaysOf : Status → Image → List ℕ → Type 0
SaysOf Done image said = IsNodesText image said
SaysOf Refused image said = IsRefusalText image said
SaysOf Output image said = (text : List ℕ) × (k : ℕ) × (IsNodesText image text ⊎ IsRefusalText image text) × (said ≡ take k text)
SaysOf Disk image said = said ≡ []
SaysOf Memory image said = said ≡ []
SaysOf (Changed at) image said = ⊥
SaysOf other image said = ⊥

-- How a call of `nodes` ends, over any world. Where the world tells, what it says is the text of the node map that the files lay,
-- or of a refusal that holds of them.
pub record NodesEnds (old new : World) (status : Status) : Type 0 where
  pub keeps : KeepsDisk old new
  pub input : new.tells → new.input ≡ old.input
  pub disk_failed : status ≡ Disk → Rose old.disk_faults new.disk_faults
  pub output_failed : status ≡ Output → Rose old.out_faults new.out_faults
  pub statuses : (status ≡ Done) ⊎ (status ≡ Refused) ⊎ (status ≡ Disk) ⊎ (status ≡ Output) ⊎ (status ≡ Memory) ⊎ ((at : ChangedAt) × (status ≡ Changed at))
  pub said : new.tells → (text : List ℕ) × SaysOf status old.here text × (new.here.said ≡ old.here.said ++ text)
