-- What is told of a file's nodes.
use Rattle.std.specs.Prelude.{List, map}
use Rattle.data_tree.specs.Measure.{bytes_in}
use Rattle.subnode_tree.specs.Counts.{directs}
use Rattle.file_layout.specs.Nodes.{Node, NodeMap}
use Rattle.file_scan.specs.declared.nodes.NodeLine.{NodeLine}

-- what is told of a node: how many bytes its own data has, and how many subnodes stand directly in it
abbrev pub line_of : Node → NodeLine
line_of n = record { nid = record { bits = n.nid }; parent = record { bits = n.parent }; bytes = bytes_in n.blocks; subs = directs n.subs }

abbrev pub lines_of : NodeMap → List NodeLine
lines_of m = map line_of m.nodes
