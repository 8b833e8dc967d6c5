-- What a decoded copy lays.
use Rattle.std.specs.Prelude.{◌≡◌, ℕ, if◌then◌else◌, List, [], take, drop, Option, Some, None, Ok}
use Rattle.pst_header.specs.declared.header.Header.{Header}
use Rattle.block_encoding.specs.declared.decoding.Method.{Method}
use Rattle.block_encoding.specs.Encoding.{decoded}
use Rattle.btree_pages.specs.declared.entry.BlockEntry.{BlockEntry}
use Rattle.file_blocks.specs.Blocks.{entry_with}
use Rattle.file_layout.specs.Nodes.{Node, Lays}
use Rattle.file_layout.specs.Opening.{opening}
use Rattle.file_decode.specs.Decoding.{is_data}

-- the data of an entry's block, decoded if it is one of data
abbrev pub decoded_data : Option Method → BlockEntry → List ℕ → List ℕ
decoded_data None e body = body
decoded_data (Some method) e body = if is_data e then decoded method e.at.bid.bits body else body

abbrev pub decoded_of : Option Method → List ℕ → Option BlockEntry → Option (List ℕ)
decoded_of method file None = None
decoded_of method file (Some e) = Some (decoded_data method e (take e.cb (drop e.at.ib file)))

-- the decoded data of the block of a key, where the block tree has these entries
abbrev pub decoded_in : Option Method → List ℕ → List BlockEntry → ℕ → Option (List ℕ)
decoded_in method file entries key = decoded_of method file (entry_with key entries)

-- a file alone opens with this header and lays these nodes
pub record LaysNodes (header : Header) (nodes : List Node) (copy : List ℕ) : Type 0 where
  pub opened : opening copy [] ≡ Ok header
  pub lays : Lays header copy (record { counters = header.indexes; nodes = nodes })
