-- The same tree in another file.
use Rattle.std.specs.Prelude.{ℕ, List}
use Rattle.file_layout.specs.Trees.{FileTree}

-- the tree in a file with other bytes and another end
abbrev pub moved : FileTree → List ℕ → ℕ → FileTree
moved t file eof = record { file = file; eof = eof; kind = t.kind; leaf = t.leaf; rule = t.rule }
