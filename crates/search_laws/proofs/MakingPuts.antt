-- The nodes of a search leave a tree whole, but for what is said of its folder.
use Rattle.std.proofs.Common.{◌≡◌, ℕ, ◌%◌, ◌==◌, Bool, true, false, List, [], Option, Some, arith, refl, sym, subst, ap, ◌∙◌, inl, inr, ◌||◌}
use Rattle.std.proofs.lemmas.Bool.{eq-eqb, false≢true, or_right, cases_eq}
use Rattle.std.proofs.lemmas.Option.{same_Some}
use Rattle.mapi_values.specs.Keyed.{keys_ascend, put_key}
use Rattle.mapi_values.proofs.KeyedLaws.{put-ascends}
use Rattle.mail_objects.specs.Forms.{Ctx, Tbl}
use Rattle.mail_objects.specs.declared.object.Object.{Object}
use Rattle.mail_objects.specs.declared.object.Object.TheVariants.{Bare, Context, Table}
use Rattle.mail_tree.specs.declared.places.FolderPlace.{FolderPlace}
use Rattle.mail_tree.specs.Places.{ROOT, find_place, is_plain, place_id}
use Rattle.mail_tree.specs.Tree.{Tree}
use Rattle.mail_tree.specs.Changing.{Changed, hierarchy, nothing, now_at, with_object}
use Rattle.mail_tree.specs.Columns.{contents_table}
use Rattle.mail_tree.specs.Folders.{nid}
use Rattle.mail_tree.specs.Values.{folder_props}
use Rattle.mail_tree.specs.Whole.{AreWhole, HasRow, fits_id, kind_of_sort}
use Rattle.mail_tree.proofs.AfterTree.{puts_object}
use Rattle.mail_tree.proofs.KeyedFinds.{find-put_other, find-put_same}
use Rattle.mail_tree.proofs.KindsOfPuts.{beside_kind, folder_fits, same_table}
use Rattle.mail_tree.proofs.Nearly.{AreNearly, Puts, folder_kind, message_id, nearly, plain_id, puts_suiting}
use Rattle.search_obj.specs.Changing.{unset}
use Rattle.search_obj.specs.Writing.{written}
use Rattle.mail_laws.proofs.FoundSteps.{kind_apart}
use Rattle.mail_searches.specs.Criteria.{no_criteria, search_place, with_search}
use Rattle.mail_searches.specs.Searches.{criteria_node, results, updates}

-- a kind of a search's nodes
abbrev pub is_search_kind : ℕ → Bool
is_search_kind kind = (kind == 3) || ((kind == 6) || ((kind == 7) || (kind == 16)))

-- a node of a search has no id of another kind
pub other_kind : (n k : ℕ) → is_search_kind n ≡ true → is_search_kind k ≡ false → n ≡ k → ⊥
other_kind n k is other same = false≢true (sym (ap is_search_kind same ∙ other) ∙ is)

-- a node of a search is put: its values, which needn't matter, or what fits beside them
pub puts_of_search : (E : ℕ → Type 0) (places : List FolderPlace) (at at' : ℕ → Option Object) (q : ℕ) (o : Option Object) → AreNearly E places at → is_search_kind (q % 32) ≡ true
    → ((x : Object) → o ≡ Some x → fits_id q x ≡ true) → ((t : Tbl) → o ≡ Some (Table t) → keys_ascend (λ r. r.0) 0 t.table.rows ≡ true)
    → (q % 32 ≡ 3 → E q × ((c : Ctx) × (o ≡ Some (Context c)))) → Puts at at' q o → AreNearly E places at'
puts_of_search E places at at' q o n kind fits ascend own puts = puts_suiting E places at at' q o n puts (record {
  typed = fits;
  rows_ascend = ascend;
  store = λ e. absurd (other_kind (q % 32) 1 kind refl (ap (λ x. x % 32) e));
  names = λ e. absurd (other_kind (q % 32) 1 kind refl (ap (λ x. x % 32) e));
  context = λ p e. elim (folder_kind p.sort q (n.kinds q p e)) [
    | inl two ↦ absurd (other_kind (q % 32) 2 kind refl two)
    | inr three ↦ let h = own three in (h.1.0, h.1.1, λ no_root free. absurd (free h.0))
  ];
  folders = λ f p e plain same. absurd (other_kind (q % 32) 13 kind refl (ap (λ x. x % 32) same ∙ beside_kind f 13 (omega arith)));
  messages = λ f p e plain same. absurd (other_kind (q % 32) 14 kind refl (ap (λ x. x % 32) same ∙ beside_kind f 14 (omega arith)));
  message = λ free four. other_kind (q % 32) 4 kind refl four;
})

-- what is put fits where it stands
pub one_fits : (q : ℕ) (y : Object) → fits_id q y ≡ true → (x : Object) → Some y ≡ Some x → fits_id q x ≡ true
one_fits q y fits x e = subst (λ z. fits_id q z ≡ true) (same_Some y x e) fits

criteria_fits : (q : ℕ) (c : Ctx) → q % 32 ≡ 7 → fits_id q (Context c) ≡ true
criteria_fits q c e = or_right (q == 0x21) _ (or_right (q == 0x61) _ (or_right (q % 32 == 2) _ (or_right (q % 32 == 3) (q % 32 == 7) (eq-eqb (q % 32) 7 e))))

results_fit : (q : ℕ) (t : Tbl) → q % 32 ≡ 16 → fits_id q (Table t) ≡ true
results_fit q t e = or_right (q % 32 == 13) _ (or_right (q % 32 == 14) _ (or_right (q % 32 == 15) (q % 32 == 16) (eq-eqb (q % 32) 16 e)))

-- the values of a new search's criteria object
abbrev pub unset_values : Ctx
unset_values = record { parent = 0; props = written unset []; kept = [] }

-- the values of a new search's folder
abbrev pub new_values : ℕ → List ℕ → Ctx
new_values parent name = record { parent = parent; props = folder_props name; kept = [] }

-- What stands at the ids of a new search, and elsewhere.
pub record HasNodes (T : Tree) (s parent : ℕ) (name : List ℕ) (D : Changed) : Type 0 where
  pub values : now_at T D s ≡ Some (Context (new_values parent name))
  pub updates_there : now_at T D (updates s) ≡ Some (Bare (nid 0))
  pub criteria_there : now_at T D (criteria_node s) ≡ Some no_criteria
  pub list_there : now_at T D (results s) ≡ Some (Table contents_table)
  pub others : (x : ℕ) → (x ≡ s → ⊥) → (x ≡ updates s → ⊥) → (x ≡ criteria_node s → ⊥) → (x ≡ results s → ⊥) → now_at T D x ≡ now_at T nothing x

module _ (T : Tree) (s parent : ℕ) (name : List ℕ) (three : s % 32 ≡ 3) where
  abbrev pub Own : Object
  Own = Context (new_values parent name)

  abbrev pub D1 : Changed
  D1 = with_object s (Some Own) nothing

  abbrev pub D2 : Changed
  D2 = with_object (updates s) (Some (Bare (nid 0))) D1

  abbrev pub D3 : Changed
  D3 = with_object (criteria_node s) (Some no_criteria) D2

  pub puts_values : Puts (now_at T nothing) (now_at T D1) s (Some Own)
  puts_values = puts_object T nothing s (Some Own)

  pub puts_updates : Puts (now_at T D1) (now_at T D2) (updates s) (Some (Bare (nid 0)))
  puts_updates = puts_object T D1 (updates s) (Some (Bare (nid 0)))

  pub puts_criteria : Puts (now_at T D2) (now_at T D3) (criteria_node s) (Some no_criteria)
  puts_criteria = puts_object T D2 (criteria_node s) (Some no_criteria)

  pub puts_list : Puts (now_at T D3) (now_at T (with_search s parent name nothing)) (results s) (Some (Table contents_table))
  puts_list = puts_object T D3 (results s) (Some (Table contents_table))

  updates_kind : updates s % 32 ≡ 6
  updates_kind = beside_kind s 6 (omega arith)

  criteria_kind : criteria_node s % 32 ≡ 7
  criteria_kind = beside_kind s 7 (omega arith)

  results_kind : results s % 32 ≡ 16
  results_kind = beside_kind s 16 (omega arith)

  pub search_nodes : HasNodes T s parent name (with_search s parent name nothing)
  search_nodes = record {
    values = puts_list.others s (kind_apart s s 16 (omega arith) (λ e. omega arith)) ∙ puts_criteria.others s (kind_apart s s 7 (omega arith) (λ e. omega arith)) ∙ puts_updates.others s (kind_apart s s 6 (omega arith) (λ e. omega arith)) ∙ puts_values.here;
    updates_there = puts_list.others (updates s) (λ e. omega (arith, updates_kind, results_kind)) ∙ puts_criteria.others (updates s) (λ e. omega (arith, updates_kind, criteria_kind)) ∙ puts_updates.here;
    criteria_there = puts_list.others (criteria_node s) (λ e. omega (arith, criteria_kind, results_kind)) ∙ puts_criteria.here;
    list_there = puts_list.here;
    others = λ x a b c d. puts_list.others x d ∙ puts_criteria.others x c ∙ puts_updates.others x b ∙ puts_values.others x a;
  }

  -- the tree with them is whole but for what is said of the search's folder
  pub nodes_nearly : AreWhole T.places (now_at T nothing) → AreNearly (λ x. x ≡ s) T.places (now_at T (with_search s parent name nothing))
  nodes_nearly w =
      let E : ℕ → Type 0 = λ x. x ≡ s in
      let n1 = puts_of_search E T.places (now_at T nothing) (now_at T D1) s (Some Own) (nearly E T.places (now_at T nothing) w) (ap is_search_kind three) (one_fits s Own (folder_fits s (new_values parent name) (inr three))) (λ t e. cc)
      (λ e. (refl, (new_values parent name, refl))) puts_values in
      let n2 = puts_of_search E T.places (now_at T D1) (now_at T D2) (updates s) (Some (Bare (nid 0))) n1 (ap is_search_kind updates_kind) (one_fits (updates s) (Bare (nid 0)) (eq-eqb (updates s % 32) 6 updates_kind)) (λ t e. cc)
      (λ e. absurd (omega (arith, updates_kind))) puts_updates in
      let n3 = puts_of_search E T.places (now_at T D2) (now_at T D3) (criteria_node s) (Some no_criteria) n2 (ap is_search_kind criteria_kind) (one_fits (criteria_node s) no_criteria (criteria_fits (criteria_node s) unset_values criteria_kind)) (λ t e. cc)
      (λ e. absurd (omega (arith, criteria_kind))) puts_criteria in
      puts_of_search E T.places (now_at T D3) (now_at T (with_search s parent name nothing)) (results s) (Some (Table contents_table)) n3 (ap is_search_kind results_kind) (one_fits (results s) (Table contents_table) (results_fit (results s) contents_table results_kind))
      (λ t e. subst (λ (x : Tbl). keys_ascend (λ r. r.0) 0 x.table.rows ≡ true) (same_table contents_table t e) refl)
      (λ e. absurd (omega (arith, results_kind))) puts_list

-- the place of a new search beside the others
module _ (places : List FolderPlace) (s parent : ℕ) where
  abbrev pub with_place : List FolderPlace
  with_place = put_key place_id (search_place s parent) places

  pub place_here : find_place s with_place ≡ Some (search_place s parent)
  place_here = find-put_same place_id (search_place s parent) places

  pub place_others : (g : ℕ) → (g ≡ s → ⊥) → find_place g with_place ≡ find_place g places
  place_others g other = find-put_other place_id g (search_place s parent) places other

  pub was_placed : (g : ℕ) (p : FolderPlace) → (g ≡ s → ⊥) → find_place g with_place ≡ Some p → find_place g places ≡ Some p
  was_placed g p other e = sym (place_others g other) ∙ e

  pub is_search_place : (g : ℕ) (p : FolderPlace) → g ≡ s → find_place g with_place ≡ Some p → search_place s parent ≡ p
  is_search_place g p same e = same_Some (search_place s parent) p (sym (ap (λ x. find_place x with_place) same ∙ place_here) ∙ e)

  -- a plain folder isn't the search's
  pub plain_apart : (g : ℕ) (p : FolderPlace) → find_place g with_place ≡ Some p → is_plain p ≡ true → g ≡ s → ⊥
  plain_apart g p e plain same = false≢true (ap is_plain (is_search_place g p same e) ∙ plain)

  pub plain_was : (g : ℕ) (p : FolderPlace) → find_place g with_place ≡ Some p → is_plain p ≡ true → find_place g places ≡ Some p
  plain_was g p e plain = was_placed g p (plain_apart g p e plain) e

-- a search takes a place in a plain folder that lists it
pub whole_search : (places : List FolderPlace) (at : ℕ → Option Object) (s parent : ℕ) (q : FolderPlace) → AreNearly (λ x. x ≡ s) places at → s % 32 ≡ 3
    → find_place parent places ≡ Some q → is_plain q ≡ true → HasRow (at (hierarchy parent)) s → ((c : Ctx) × (at s ≡ Some (Context c)) × (c.parent ≡ parent))
    → AreWhole (put_key place_id (search_place s parent) places) at
whole_search places at s parent q n three found plain row values = record {
  ascend = put-ascends place_id 0 (search_place s parent) places (omega arith) n.ascend;
  root = let r = n.root in (r.0, still ROOT r.0 r.1 r.2, r.2, r.3);
  kinds = λ g p e. elim (cases_eq g s) [
    | inl same ↦ subst (λ x. g % 32 ≡ kind_of_sort x.sort) (is_search_place places s parent g p same e) (ap (λ x. x % 32) same ∙ three)
    | inr other ↦ n.kinds g p (was_placed places s parent g p other e)
  ];
  parents = λ g p e no_root. elim (cases_eq g s) [
    | inl same ↦ subst (λ x. (q : FolderPlace) × (find_place x.parent.bits (with_place places s parent) ≡ Some q) × (is_plain q ≡ true) × HasRow (at (hierarchy x.parent.bits)) g) (is_search_place places s parent g p same e)
        (q, still parent q found plain, plain, subst (λ x. HasRow (at (hierarchy parent)) x) (sym same) row)
    | inr other ↦ let v = n.parents g p (was_placed places s parent g p other e) no_root other in (v.0, still p.parent.bits v.0 v.1 v.2, v.2, v.3)
  ];
  typed = n.typed;
  rows_ascend = n.rows_ascend;
  store = n.store;
  names = n.names;
  contexts = λ g p e. elim (cases_eq g s) [
    | inl same ↦ (values.0, ap at same ∙ values.1, λ no_root. values.2 ∙ ap (λ x. x.parent.bits) (is_search_place places s parent g p same e))
    | inr other ↦ let w = n.contexts g p (was_placed places s parent g p other e) in (w.0, w.1, λ no_root. w.2 no_root other)
  ];
  tables = λ g p e plain. n.tables g p (plain_was places s parent g p e plain) plain;
  listed = λ g p t m e plain at_t row_m four. n.listed g p t m (plain_was places s parent g p e plain) plain at_t row_m four (λ e. omega arith);
  held = λ m M is.
      let four = (message_id m M (n.typed m _ is)).0 in
      let v = n.held m M is (λ e. omega arith) in (v.0, still M.folder v.0 v.1 v.2, v.2, v.3);
}
  where
    -- a plain folder stands where it stood
    still : (g : ℕ) (p : FolderPlace) → find_place g places ≡ Some p → is_plain p ≡ true → find_place g (put_key place_id (search_place s parent) places) ≡ Some p
    still g p e plain = place_others places s parent g (λ same. omega (arith, plain_id n g p e plain)) ∙ e
