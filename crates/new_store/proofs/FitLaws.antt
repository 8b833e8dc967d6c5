-- The objects of a new store, and that they are small enough to be written.
use Rattle.std.proofs.Common.{◌≡◌, ℕ, ◌≤◌, true, List, [], ◌∷◌, ◌++◌, length, None, Some, refl, arith, inl, inr}
use Rattle.std.proofs.lemmas.Bool.{and_from, cases_Bool, le-leb}
use Rattle.std.specs.List.{list_all}
use Rattle.mapi_values.specs.Columns.{in_cell, suits_cell}
use Rattle.mapi_values.specs.Tables.{is_mirrored, mirror, value_suits}
use Rattle.mapi_values.specs.Values.{Val, in_field}
use Rattle.write_limits.specs.Limits.{heap_bytes, is_long, long_value, long_values, matrix, props_fit, table_fits}
use Rattle.mail_tree.specs.Folders.{nid}
use Rattle.mail_tree.specs.Start.{DELETED, SEARCH_ROOT, TOP, context, deleted_name, folder_nodes, names_props, root_hierarchy, search_name, start_objects, start_others, store_props, top_name}
use Rattle.new_store.specs.Entries.{can_write, entries_of, root_nodes, start_entries, template_nodes}

one-long : (v : Val) → long_value v ≤ 1
unfolding long_value
one-long v = elim (cases_Bool (is_long v)) [ inl t ↦ rw t (omega arith) | inr f ↦ rw f (omega arith) ]

long-few : (vs : List Val) → long_values vs ≤ length vs
long-few [] = omega arith
long-few (v ∷ vs) = omega (arith, one-long v, long-few vs)

-- few values can be written, however long they are
few-fit : (vs : List Val) → length vs ≤ 173400 → props_fit vs [] ≡ true
unfolding props_fit
few-fit vs h = le-leb _ _ (omega (arith, long-few vs))

store-fits : (name : List ℕ) → props_fit (store_props name) [] ≡ true
unfolding store_props
store-fits name = few-fit (store_props name) (omega arith)

-- all entries can be written
pub all-can : (name : List ℕ) → list_all can_write (start_entries name) ≡ true
unfolding start_entries start_objects start_others root_hierarchy props_fit table_fits matrix long_value heap_bytes mirror is_mirrored value_suits suits_cell in_cell in_field
all-can name = and_from _ _ (and_from _ _ (store-fits name) refl) refl

-- all entries, from the first to the last
pub entries-are : (name : List ℕ)
    → (nid 0x21, Some (context 0 (store_props name))) ∷ (nid 0x61, Some (context 0 names_props)) ∷ entries_of root_nodes
    ++ ((nid 0x1E1, None) ∷ (nid 0x201, None) ∷ entries_of template_nodes
    ++ (entries_of (folder_nodes TOP top_name) ++ (entries_of (folder_nodes SEARCH_ROOT search_name) ++ entries_of (folder_nodes DELETED deleted_name))))
    ≡ start_entries name
unfolding start_entries start_objects start_others
entries-are name = refl
