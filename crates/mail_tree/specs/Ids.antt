-- The ids of new folders and messages.
use Rattle.std.specs.Prelude.{ℕ, zero, suc, Bool, max, min, nat_lt, List, [], ◌∷◌, get_or, if◌then◌else◌, ◌||◌}
use Rattle.std.specs.Option.{is_some}
use Rattle.std.specs.List.{list_any}
use Rattle.pst_base.specs.Ids.{nid_of}
use Rattle.node_port.specs.Nodes.{node_at}
use Rattle.mail_tree.specs.Tree.{Tree, object_at}

-- the last index
abbrev pub LAST_INDEX : ℕ
LAST_INDEX = 134217727

-- an object or another node stands at the id
abbrev pub is_taken : Tree → ℕ → Bool
is_taken T q = is_some (object_at T q) || is_some (node_at T.others q)

-- the index is that of a node of one of these kinds
abbrev pub is_used : Tree → List ℕ → ℕ → Bool
is_used T kinds index = list_any (λ kind. is_taken T (nid_of kind index)) kinds

-- the greatest number from 1 to n that passes a test, or 0
unfoldable pub greatest : (ℕ → Bool) → ℕ → ℕ
greatest test zero = zero
greatest test (suc n) = if test (suc n) then suc n else greatest test n

-- the kinds of a folder's nodes
abbrev pub folder_kinds : List ℕ
folder_kinds = 0x02 ∷ 0x0D ∷ 0x0E ∷ 0x0F ∷ []

abbrev pub message_kinds : List ℕ
message_kinds = 0x04 ∷ []

-- the index that follows the counter of a kind and all indexes that nodes of these kinds have
unfoldable pub next_index : Tree → ℕ → List ℕ → ℕ
next_index T kind kinds = suc (max (get_or T.last kind 0) (greatest (is_used T kinds) LAST_INDEX))

-- no index is left
abbrev pub is_spent : ℕ → Bool
is_spent index = nat_lt LAST_INDEX index

-- the id of this kind and index; where no index is left, changes are planned with the last one
abbrev pub new_id : ℕ → ℕ → ℕ
new_id kind index = nid_of kind (min index LAST_INDEX)
