-- Which folders a search is about. Folders are listed with their parents.
use Rattle.std.specs.Prelude.{ℕ, ◌==◌, ◌&&◌, Bool, true, false, not, List, [], ◌∷◌, reverse, ◌||◌}
use Rattle.std.specs.List.{list_any}
use Rattle.std.specs.Option.{is_some}
use Rattle.pst_base.specs.declared.ids.Nid.{Nid}
use Rattle.mapi_values.specs.Keyed.{find_key}
use Rattle.search_obj.specs.declared.scoping.Member.{Member}
use Rattle.search_obj.specs.Crits.{CritSet}

-- an id is one of these
abbrev pub is_among : List ℕ → ℕ → Bool
is_among ids id = list_any (λ i. i == id) ids

-- a folder and its parent, by their ids
abbrev pub ids_of_pair : Nid × Nid → ℕ × ℕ
ids_of_pair p = (p.0.bits, p.1.bits)

-- the folder is one of those that are listed
abbrev pub is_plain : List (ℕ × ℕ) → ℕ → Bool
is_plain plain f = list_any (λ p. p.0 == f) plain

-- the folder is in the scope, among folders that are listed from the last back to the first: it is given, or folders below are searched too and its parent, which is listed before it, is in the scope
abbrev pub in_scope_back : Bool → (ℕ → Bool) → List (ℕ × ℕ) → ℕ → Bool
in_scope_back deep given [] f = false
in_scope_back deep given (p ∷ before) f = ((p.0 == f) && ((deep && in_scope_back deep given before p.1) || given p.0)) || in_scope_back deep given before f

-- the plain folder is in the scope of a search: it is given, or the search is recursive and its parent is in the scope
unfoldable pub in_scope : CritSet → List (ℕ × ℕ) → ℕ → Bool
in_scope s plain f = in_scope_back s.flags.recursive (is_among s.scope) (reverse plain) f

-- each folder is listed once, and after its parent, if it isn't its own; told from the last back to the first
abbrev pub are_in_order_back : List (ℕ × ℕ) → Bool
are_in_order_back [] = true
are_in_order_back (p ∷ before) = not (is_plain before p.0) && (((p.1 == p.0) || is_plain before p.1) && are_in_order_back before)

-- the same of folders that are listed from the first on
abbrev pub are_in_order : List (ℕ × ℕ) → Bool
are_in_order plain = are_in_order_back (reverse plain)

-- the folder is listed with this parent
abbrev pub is_listed : List (ℕ × ℕ) → ℕ → ℕ → Bool
is_listed plain f parent = list_any (λ p. (p.0 == f) && (p.1 == parent)) plain

-- a folder in a set
abbrev pub member_id : Member → ℕ
member_id m = m.nid.bits

-- the folder is in the set
abbrev pub is_member : List Member → ℕ → Bool
is_member members f = is_some (find_key member_id f members)
