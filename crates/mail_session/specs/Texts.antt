-- What the program says, as lists of bytes.
use Rattle.std.specs.Prelude.{ℕ, ◌^◌, ◌-◌, Bool, false, List, [], ◌∷◌, ◌++◌, codes, length, if◌then◌else◌}
use Rattle.std.specs.List.{flat_map}
use Rattle.std.specs.Fmt.{decimal, digits, padded_integral, format_spec}
use Rattle.pst_header.specs.declared.header.Header.{Header}
use Rattle.pst_header.specs.declared.header.HeaderRefusal.{HeaderRefusal}
use Rattle.pst_header.specs.declared.header.HeaderRefusal.TheVariants.{NotPst, Version, Crc, Encoded}
use Rattle.pst_base.specs.declared.stops.PageFault.TheVariants.{Kind, Crc as BadCrc, Sig, Bid, Count, Level, Key}
use Rattle.block_frame.specs.declared.block.BlockFault.TheVariants as block_faults
use Rattle.file_blocks.specs.declared.check.BlockRefusal.{BlockRefusal}
use Rattle.file_blocks.specs.declared.check.BlockRefusal.TheVariants as blocks
use Rattle.file_scan.specs.declared.nodes.NodeLine.{NodeLine}
use Rattle.file_layout.specs.declared.stops.NodeFault.{NodeFault}
use Rattle.file_layout.specs.declared.stops.NodeFault.TheVariants.{Deep, Many, Long}
use Rattle.file_layout.specs.declared.stops.PageRefusal.{PageRefusal}
use Rattle.file_layout.specs.declared.stops.PageRefusal.TheVariants.{Outside, Faulty}
use Rattle.file_layout.specs.declared.stops.OpenRefusal.{OpenRefusal}
use Rattle.file_layout.specs.declared.stops.OpenRefusal.TheVariants as refusals
use Rattle.mail_objects.specs.declared.message.fault.MessageFault.{MessageFault}
use Rattle.mail_objects.specs.declared.message.fault.MessageFault.TheVariants as forms
use Rattle.tree_look.specs.declared.stops.LookRefusal.{LookRefusal}
use Rattle.tree_look.specs.declared.stops.LookRefusal.TheVariants as looks
use Rattle.tree_look.specs.declared.stops.TreeFault.{TreeFault}
use Rattle.tree_look.specs.declared.stops.TreeFault.TheVariants as trees
use Rattle.search_look.specs.declared.stops.SearchRefusal.{SearchRefusal}
use Rattle.search_look.specs.declared.stops.SearchRefusal.TheVariants as searches
use Rattle.file_mending.specs.store_open.declared.stops.TreeRefusal.{TreeRefusal}
use Rattle.file_mending.specs.store_open.declared.stops.TreeRefusal.TheVariants as stores
use Rattle.file_mending.specs.file_open.declared.stops.FileRefusal.{FileRefusal}
use Rattle.file_mending.specs.file_open.declared.stops.FileRefusal.TheVariants as files

-- the number in lower-case hexadecimal digits, behind `0x`
abbrev pub hex : ℕ → List ℕ
hex n = codes "0x" ++ digits 16 false n

abbrev pub gate_text : Bool → List ℕ
gate_text opened = if opened then codes "open" else codes "closed"

-- the text as a line
abbrev pub line : List ℕ → List ℕ
line text = text ++ 10 ∷ []

-- the seven lines of `info`
abbrev pub info_text : Header → Bool → List ℕ
info_text h opened =
    line (codes "version " ++ decimal h.wver)
    ++ line (codes "crypt " ++ decimal h.crypt)
    ++ line (codes "eof " ++ decimal h.eof)
    ++ line (codes "next block " ++ hex h.next_block)
    ++ line (codes "next page " ++ hex h.next_page)
    ++ line (codes "maps " ++ decimal h.maps)
    ++ line (codes "gate " ++ gate_text opened)

-- the number in 8 lower-case hexadecimal digits, with zeros in front
abbrev pub hex8 : ℕ → List ℕ
hex8 n = padded_integral (format_spec 32 0 4 8 (2 ^ 64 - 1)) false [] (digits 16 false n)

abbrev pub crc_text : Bool → List ℕ
crc_text full = if full then codes "full" else codes "partial"

-- the line of a header's refusal
abbrev pub header_line : HeaderRefusal → List ℕ
header_line NotPst = line (codes "refused not-pst")
header_line (Version found) = line (codes "refused version " ++ decimal found)
header_line (Crc full stored computed) = line (codes "refused crc " ++ crc_text full ++ codes " " ++ hex8 stored ++ codes " " ++ hex8 computed)
header_line (Encoded method) = line (codes "refused encoded " ++ decimal method)

-- the word for what is wrong with a page
abbrev pub page_word : PageRefusal → List ℕ
page_word Outside = codes "outside"
page_word (Faulty (Kind stored computed)) = codes "kind"
page_word (Faulty (BadCrc stored computed)) = codes "crc"
page_word (Faulty (Sig stored computed)) = codes "sig"
page_word (Faulty (Bid stored computed)) = codes "bid"
page_word (Faulty Count) = codes "count"
page_word (Faulty Level) = codes "level"
page_word (Faulty Key) = codes "key"

-- the word for what is wrong with a block
abbrev pub block_word : BlockRefusal → List ℕ
block_word blocks.Outside = codes "outside"
block_word blocks.Length = codes "length"
block_word (blocks.Faulty (block_faults.Length stored computed)) = codes "length"
block_word (blocks.Faulty (block_faults.Crc stored computed)) = codes "crc"
block_word (blocks.Faulty (block_faults.Sig stored computed)) = codes "sig"
block_word (blocks.Faulty (block_faults.Bid stored computed)) = codes "bid"
block_word blocks.Form = codes "form"

-- the word for what is wrong with what a node leads to
abbrev pub node_word : NodeFault → List ℕ
node_word Deep = codes "deep"
node_word Many = codes "many"
node_word Long = codes "long"

-- the line of a refusal
abbrev pub refusal_line : OpenRefusal → List ℕ
refusal_line refusals.Empty = line (codes "refused empty")
refusal_line (refusals.Gate len) = line (codes "refused gate " ++ decimal len)
refusal_line (refusals.Short len) = line (codes "refused short " ++ decimal len)
refusal_line (refusals.Header refusal) = header_line refusal
refusal_line (refusals.Truncated len eof) = line (codes "refused truncated " ++ decimal len ++ codes " " ++ decimal eof)
refusal_line (refusals.Large eof) = line (codes "refused large " ++ decimal eof)
refusal_line (refusals.Page ib fault) = line (codes "refused page " ++ hex ib ++ codes " " ++ page_word fault)
refusal_line (refusals.Block ib fault) = line (codes "refused block " ++ hex ib ++ codes " " ++ block_word fault)
refusal_line (refusals.Missing bid) = line (codes "refused missing " ++ hex bid.bits)
refusal_line (refusals.Overlap ib) = line (codes "refused overlap " ++ hex ib)
refusal_line (refusals.Node nid fault) = line (codes "refused node " ++ hex nid.bits ++ codes " " ++ node_word fault)

-- the line of a node: its id and its parent's, how many bytes its data has, and how many subnodes it has
abbrev pub node_line : NodeLine → List ℕ
node_line node = line (codes "- " ++ hex node.nid.bits ++ codes " " ++ hex node.parent.bits ++ codes " " ++ decimal node.bytes ++ codes " " ++ decimal node.subs)

-- the line of each node, and how many they are
abbrev pub nodes_text : List NodeLine → List ℕ
nodes_text nodes = flat_map node_line nodes ++ line (codes "ok " ++ decimal (length nodes))

-- the word for what is wrong with the bytes of a node
abbrev pub form_word : MessageFault → List ℕ
form_word forms.Heap = codes "heap"
form_word forms.Bth = codes "bth"
form_word forms.Pc = codes "pc"
form_word forms.Tc = codes "tc"
form_word forms.Attach = codes "attach"

-- the word for how folders and tables don't fit together
abbrev pub tree_word : TreeFault → List ℕ
tree_word trees.Missing = codes "missing"
tree_word trees.Table = codes "table"
tree_word trees.Parent = codes "parent"
tree_word trees.Depth = codes "depth"
tree_word trees.Cycle = codes "cycle"

-- the line of what is wrong with folders, tables and messages
abbrev pub look_line : LookRefusal → List ℕ
look_line (looks.Node nid fault) = line (codes "refused node " ++ hex nid.bits ++ codes " " ++ form_word fault)
look_line (looks.Tree nid fault) = line (codes "refused tree " ++ hex nid.bits ++ codes " " ++ tree_word fault)
look_line looks.Names = line (codes "refused node 0x61 names")

-- the line of what is wrong with a search of the store's own
abbrev pub search_line : SearchRefusal → List ℕ
search_line (searches.Node nid fault) = line (codes "refused node " ++ hex nid.bits ++ codes " " ++ form_word fault)
search_line (searches.Criteria nid) = line (codes "refused node " ++ hex nid.bits ++ codes " criteria")
search_line (searches.Stale folder) = line (codes "refused stale " ++ hex folder.bits)

-- the line of why nodes are no store
abbrev pub store_line : TreeRefusal → List ℕ
store_line (stores.Folders refusal) = look_line refusal
store_line (stores.Searches refusal) = search_line refusal

-- the line of an opening's refusal
abbrev pub file_line : FileRefusal → List ℕ
file_line (files.Scan refusal) = refusal_line refusal
file_line (files.Tree refusal) = store_line refusal
file_line files.Ids = line (codes "refused ids")

-- what `new` says of a file that is there, and of one that it made
abbrev pub not_empty_line : List ℕ
not_empty_line = line (codes "refused not-empty")

abbrev pub made_line : List ℕ
made_line = line (codes "made")
