-- After a new search was made the counts of folders are right.
use Rattle.std.proofs.Common.{◌≡◌, ℕ, ◌%◌, List, Option, None, Some, IfOk, arith, refl, sym, subst, ap, ◌∙◌, true}
use Rattle.std.specs.List.{list_any}
use Rattle.std.proofs.lemmas.Bool.{ne_eqb}
use Rattle.std.proofs.lemmas.Option.{none-some}
use Rattle.mail_objects.specs.declared.object.Object.{Object}
use Rattle.mail_objects.specs.declared.object.Object.TheVariants.{Bare, Table}
use Rattle.mail_tree.specs.declared.places.FolderPlace.{FolderPlace}
use Rattle.mail_tree.specs.Places.{find_place, is_child, is_plain, place_id}
use Rattle.mail_tree.specs.Tree.{Tree}
use Rattle.mail_tree.specs.Values.{folder_props}
use Rattle.mail_tree.specs.Changing.{add_shown, hierarchy, nothing, now_at}
use Rattle.mail_tree.specs.Columns.{contents_table}
use Rattle.mail_tree.specs.Folders.{nid}
use Rattle.mail_tree.proofs.AfterTree.{now_nothing}
use Rattle.mail_tree.proofs.KindsOfPuts.{beside_kind}
use Rattle.mail_tree.proofs.Nearly.{Puts, nearly, plain_id}
use Rattle.mail_laws.specs.Laws.{AreCountedBut, Counts}
use Rattle.mail_laws.proofs.CountSteps.{PlainIds, add_counts, any_put, counted_fewer, counted_places, counted_put, no_contents, then_counts}
use Rattle.mail_laws.proofs.Keeping.{if_weaker}
use Rattle.mail_laws.proofs.MessageSteps.{Before}
use Rattle.mail_searches.specs.Criteria.{no_criteria, search_place, with_search}
use Rattle.mail_searches.specs.Searches.{criteria_node, results, updates}
use Rattle.search_laws.proofs.MakingPuts.{D1, D2, D3, Own, is_search_kind, other_kind, plain_was, puts_criteria, puts_list, puts_updates, puts_values, with_place}
use Rattle.search_laws.proofs.MakingTree.{steps}

-- a node of a search is put: it counts nowhere
search_put : (E : ℕ → Type 0) (places : List FolderPlace) (at at' : ℕ → Option Object) (q : ℕ) (o : Option Object) → PlainIds places → is_search_kind (q % 32) ≡ true → AreCountedBut E places at → Puts at at' q o → AreCountedBut E places at'
search_put E places at at' q o ids kind s puts = counted_put E places at at' q o s puts
    (λ f p c e plain free same is. absurd (other_kind (q % 32) 2 kind refl (ap (λ x. x % 32) same ∙ ids f p e plain)))
    (λ f p e plain free same. other_kind (q % 32) 14 kind refl (ap (λ x. x % 32) same ∙ beside_kind f 14 (omega arith)))
    (λ f p t e plain free is row four. other_kind (q % 32) 4 kind refl four)

module _ (T : Tree) (w : Before T) (s parent : ℕ) (q : FolderPlace) (name : List ℕ) (three : s % 32 ≡ 3) (found : find_place parent T.places ≡ Some q) (plain : is_plain q ≡ true) (unplaced : find_place s T.places ≡ None) where
  abbrev places : List FolderPlace
  places = with_place T.places s parent

  ids_before : PlainIds T.places
  ids_before f p e plain_p = plain_id (nearly (λ x. ⊥) T.places (now_at T nothing) w) f p e plain_p

  ids_after : PlainIds places
  ids_after f p e plain_p = ids_before f p (plain_was T.places s parent f p e plain_p) plain_p

  -- as many folders stand in any other one
  children_same : (g : ℕ) → (parent ≡ g → ⊥) → list_any (is_child g) places ≡ list_any (is_child g) T.places
  children_same g other = any_put place_id (is_child g) (search_place s parent) T.places (rw (ne_eqb parent g other) refl) (λ x e. absurd (none-some x (sym unplaced ∙ e)))

  -- the nodes of the search: the counts of all but its parent are right
  nodes_counted : Counts T → AreCountedBut (λ x. x ≡ parent) places (now_at T (with_search s parent name nothing))
  nodes_counted counts =
      let E : ℕ → Type 0 = λ x. x ≡ parent in
      let at0 = now_at T nothing in
      let k = counted_fewer (λ x. ⊥) E T.places at0 (λ x e. absurd e) (subst (AreCountedBut (λ x. ⊥) T.places) (sym (now_nothing T)) counts) in
      let k0 = counted_places E T.places places at0 k (λ g p e plain_p free. (p, plain_was T.places s parent g p e plain_p, plain_p, children_same g (λ same. free (sym same)))) in
      let k1 = search_put E places at0 (now_at T (D1 T s parent name three)) s (Some (Own T s parent name three)) ids_after (ap is_search_kind three) k0 (puts_values T s parent name three) in
      let k2 = search_put E places (now_at T (D1 T s parent name three)) (now_at T (D2 T s parent name three)) (updates s) (Some (Bare (nid 0))) ids_after (ap is_search_kind (beside_kind s 6 (omega arith))) k1 (puts_updates T s parent name three) in
      let k3 = search_put E places (now_at T (D2 T s parent name three)) (now_at T (D3 T s parent name three)) (criteria_node s) (Some no_criteria) ids_after (ap is_search_kind (beside_kind s 7 (omega arith))) k2 (puts_criteria T s parent name three) in
      search_put E places (now_at T (D3 T s parent name three)) (now_at T (with_search s parent name nothing)) (results s) (Some (Table contents_table)) ids_after (ap is_search_kind (beside_kind s 16 (omega arith))) k3 (puts_list T s parent name three)

  -- and after all steps those of its parent too
  pub steps_count : Counts T → IfOk (steps T s parent name) (λ D. AreCountedBut (λ x. ⊥) places (now_at T D))
  steps_count counts =
      let E : ℕ → Type 0 = λ x. x ≡ parent in
      let D0 = with_search s parent name nothing in
      let a = add_shown T (hierarchy parent) s (folder_props name) D0 in
      let Left : ℕ → Type 0 = λ x. E x × (x ≡ parent → ⊥) in
      if_weaker (λ D. AreCountedBut Left places (now_at T D)) (λ D. AreCountedBut (λ x. ⊥) places (now_at T D)) (steps T s parent name)
      (then_counts T places ids_after E a parent (ids_before parent q found plain) (add_counts T places ids_after E D0 (hierarchy parent) s (folder_props name) (omega (arith, beside_kind parent 13 (omega arith))) (no_contents T places ids_after E parent) (nodes_counted counts)))
      (λ D k. counted_fewer Left (λ x. ⊥) places (now_at T D) (λ x h. h.1 h.0) k)
