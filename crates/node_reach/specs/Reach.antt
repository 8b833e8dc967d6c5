-- The blocks that a node reaches, as their keys: each place that names one gives it once.
use Rattle.std.specs.Prelude.{◌≡◌, ℕ, ◌+◌, List, [], ◌∷◌, ◌++◌, Option, Some, Result, Ok}
use Rattle.btree_pages.specs.declared.entry.NodeEntry.{NodeEntry}
use Rattle.data_tree.specs.declared.source.TreeStop.{TreeStop}
use Rattle.data_tree.specs.Keys.{count_of, data_keys, data_keys_read}
use Rattle.data_tree.specs.Tree.{and_then}
use Rattle.subnode_tree.specs.KeyReads.{sub_keys_read}
use Rattle.subnode_tree.specs.Keys.{sub_keys}

-- the blocks that a node reaches
unfoldable pub node_keys : (ℕ → Option (List ℕ)) → NodeEntry → List ℕ
node_keys find e = data_keys find e.content ++ sub_keys find e.subnodes

-- the same as a reading, which has the faults of the ids' own
abbrev pub node_keys_read : (ℕ → Option (List ℕ)) → ℕ → NodeEntry → Result (List ℕ) TreeStop
node_keys_read find eof e = and_then (data_keys_read find e.content) (λ content. and_then (sub_keys_read find eof e.subnodes) (λ subs. Ok (content ++ subs)))

-- ---- counts

-- how often the nodes of some entries reach a block
abbrev pub uses_of : (ℕ → Option (List ℕ)) → ℕ → List NodeEntry → ℕ
uses_of find key [] = 0
uses_of find key (e ∷ es) = count_of key (node_keys find e) + uses_of find key es

-- two finders agree on these keys
abbrev pub AgreeOn : (ℕ → Option (List ℕ)) → (ℕ → Option (List ℕ)) → List ℕ → Type 0
AgreeOn find other [] = Unit {0}
AgreeOn find other (k ∷ ks) = (other k ≡ find k) × AgreeOn find other ks

-- a block is found under each key
abbrev pub AllFound : (ℕ → Option (List ℕ)) → List ℕ → Type 0
AllFound find [] = Unit {0}
AllFound find (k ∷ ks) = ((b : List ℕ) × (find k ≡ Some b)) × AllFound find ks
