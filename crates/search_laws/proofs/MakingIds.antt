-- Nothing stands at the ids of a new search, and no folder lists it.
use Rattle.std.proofs.Common.{◌≡◌, ℕ, ◌≤◌, ◌&&◌, Bool, true, false, get_or, [], ◌∷◌, None, Some, is_some, arith, sym, ap, ◌∙◌, inl, inr}
use Rattle.std.specs.List.{list_any}
use Rattle.std.proofs.lemmas.Bool.{and_cases, false≢true, or_parts}
use Rattle.node_port.specs.Nodes.{node_at}
use Rattle.pst_base.specs.Ids.{nid_of}
use Rattle.mapi_values.specs.Tables.{find_row}
use Rattle.mail_objects.specs.Forms.{Tbl}
use Rattle.mail_objects.specs.declared.object.Object.TheVariants.{Table}
use Rattle.mail_tree.specs.declared.places.FolderPlace.{FolderPlace}
use Rattle.mail_tree.specs.Places.{find_place, is_plain, place_id}
use Rattle.mail_tree.specs.Tree.{Tree, object_at}
use Rattle.mail_tree.specs.Changing.{as_table, beside, hierarchy}
use Rattle.mail_tree.specs.Ids.{LAST_INDEX, greatest, is_spent, is_taken, is_used, new_id}
use Rattle.mail_laws.proofs.Depths.{none_passes}
use Rattle.mail_laws.proofs.NewIds.{above_fails, new_id_is, next_above, not_there}
use Rattle.mail_laws.proofs.PlaceEffects.{found_id}
use Rattle.mail_searches.specs.Criteria.{has_row, is_row_of_folder, is_search_index, next_search_index, search_kinds}
use Rattle.mail_searches.specs.Searches.{criteria_node, results, updates}

-- Nothing stands where the nodes of this search are to stand, and no plain folder's table of folders has a row of it.
pub record IsFree (T : Tree) (s : ℕ) : Type 0 where
  pub own_free : object_at T s ≡ None
  pub updates_free : object_at T (updates s) ≡ None
  pub criteria_free : object_at T (criteria_node s) ≡ None
  pub results_free : object_at T (results s) ≡ None
  pub unlisted : (f : ℕ) (p : FolderPlace) (t : Tbl) → find_place f T.places ≡ Some p → is_plain p ≡ true → object_at T (hierarchy f) ≡ Some (Table t) → is_some (find_row s t.table.rows) ≡ false

-- the next index is none of a search's node, where one is left
pub next_is_free : (T : Tree) → is_spent (next_search_index T) ≡ false → (is_search_index T (next_search_index T) ≡ false) × (next_search_index T ≤ LAST_INDEX)
unfolding next_search_index
next_is_free T e =
    let p = next_above (get_or T.last 3 0) (greatest (is_search_index T) LAST_INDEX) LAST_INDEX e in
    (above_fails (is_search_index T) LAST_INDEX _ p.0 p.1, p.1)

next_to : (index kind : ℕ) → beside (nid_of 3 index) kind ≡ nid_of kind index
next_to index kind = omega arith

untaken : (T : Tree) (q r : ℕ) → q ≡ r → is_taken T r ≡ false → object_at T q ≡ None
untaken T q r same e = ap (object_at T) same ∙ not_there (object_at T r) (or_parts (is_some (object_at T r)) (is_some (node_at T.others r)) e).0

-- a table that a folder has has no such row
no_row : (id : ℕ) (p : FolderPlace) (t : Tbl) (T : Tree) → is_plain p ≡ true → object_at T (hierarchy (place_id p)) ≡ Some (Table t)
    → (is_plain p && has_row id (as_table (object_at T (hierarchy (place_id p))))) ≡ false → is_some (find_row id t.table.rows) ≡ false
no_row id p t T plain is none = elim (and_cases (is_plain p) _ none) [
  | inl foreign ↦ absurd (false≢true (sym foreign ∙ plain))
  | inr missing ↦ sym (ap (λ o. has_row id (as_table o)) is) ∙ missing
]

pub new_search_free : (T : Tree) → is_spent (next_search_index T) ≡ false → IsFree T (new_id 3 (next_search_index T))
new_search_free T left =
    let index = next_search_index T in
    let free = next_is_free T left in
    let id = new_id_is 3 index free.1 in
    let taken : ℕ → Bool = λ kind. is_taken T (nid_of kind index) in
    let all = or_parts (is_used T search_kinds index) (is_row_of_folder T (nid_of 3 index)) free.0 in
    let a = or_parts (taken 0x03) (list_any taken (0x06 ∷ 0x07 ∷ 0x10 ∷ [])) all.0 in
    let b = or_parts (taken 0x06) (list_any taken (0x07 ∷ 0x10 ∷ [])) a.1 in
    let c = or_parts (taken 0x07) (list_any taken (0x10 ∷ [])) b.1 in
    let d = or_parts (taken 0x10) false c.1 in
    record {
      own_free = untaken T (new_id 3 index) (nid_of 3 index) id a.0;
      updates_free = untaken T (updates (new_id 3 index)) (nid_of 6 index) (ap updates id ∙ next_to index 6) b.0;
      criteria_free = untaken T (criteria_node (new_id 3 index)) (nid_of 7 index) (ap criteria_node id ∙ next_to index 7) c.0;
      results_free = untaken T (results (new_id 3 index)) (nid_of 16 index) (ap results id ∙ next_to index 16) d.0;
      unlisted = λ f p t e plain is.
          let same = found_id f T.places p e in
          ap (λ x. is_some (find_row x t.table.rows)) id
          ∙ no_row (nid_of 3 index) p t T plain (ap (λ x. object_at T (hierarchy x)) same ∙ is) (none_passes (λ q. is_plain q && has_row (nid_of 3 index) (as_table (object_at T (hierarchy (place_id q))))) T.places f p e all.1);
    }
