-- After a new search was made rows mirror what they show.
use Rattle.std.proofs.Common.{◌≡◌, ℕ, ◌%◌, true, List, Some, IfOk, arith, refl, sym, subst, ap, ◌∙◌, inl, inr}
use Rattle.std.proofs.lemmas.Bool.{cases_eq}
use Rattle.mail_objects.specs.declared.object.Object.TheVariants.{Bare, Table}
use Rattle.mail_tree.specs.declared.places.FolderPlace.{FolderPlace}
use Rattle.mail_tree.specs.Places.{find_place, is_plain}
use Rattle.mail_tree.specs.Tree.{Tree}
use Rattle.mail_tree.specs.Values.{folder_props}
use Rattle.mail_tree.specs.Changing.{add_shown, hierarchy, nothing, now_at}
use Rattle.mail_tree.specs.Columns.{contents_table}
use Rattle.mail_tree.specs.Folders.{nid}
use Rattle.mail_tree.proofs.AfterTree.{now_nothing}
use Rattle.mail_tree.proofs.KindsOfPuts.{beside_kind}
use Rattle.mail_tree.proofs.Nearly.{folder_kind, nearly, plain_id}
use Rattle.mail_laws.specs.Laws.{AreShown, Mirrors}
use Rattle.mail_laws.proofs.MessageSteps.{Before}
use Rattle.mail_laws.proofs.MirrorPuts.{AreShownBut, FolderIds, all_shown, shown_but, shown_places, shown_put}
use Rattle.mail_laws.proofs.MirrorSteps.{add_folder, then_shows}
use Rattle.mail_laws.proofs.Keeping.{if_weaker}
use Rattle.mail_searches.specs.Criteria.{no_criteria, with_search}
use Rattle.mail_searches.specs.Searches.{criteria_node, results, updates}
use Rattle.search_laws.proofs.MakingPuts.{D1, D2, D3, Own, new_values, puts_criteria, puts_list, puts_updates, puts_values, search_nodes, was_placed, with_place}
use Rattle.search_laws.proofs.MakingTree.{steps}

module _ (T : Tree) (w : Before T) (s parent : ℕ) (q : FolderPlace) (name : List ℕ) (three : s % 32 ≡ 3) (found : find_place parent T.places ≡ Some q) (plain : is_plain q ≡ true) where
  abbrev places : List FolderPlace
  places = with_place T.places s parent

  ids_before : FolderIds T.places
  ids_before g p e = folder_kind p.sort g (w.kinds g p e)

  ids_after : FolderIds places
  ids_after g p e = elim (cases_eq g s) [
    | inl same ↦ inr (ap (λ x. x % 32) same ∙ three)
    | inr other ↦ ids_before g p (was_placed T.places s parent g p other e)
  ]

  -- an id of another kind is no folder's
  no_place : (x kind : ℕ) (p : FolderPlace) → x % 32 ≡ kind → (kind ≡ 2 → ⊥) → (kind ≡ 3 → ⊥) → find_place x T.places ≡ Some p → ⊥
  no_place x kind p is a b e = elim (ids_before x p e) [ inl k ↦ a (sym is ∙ k) | inr k ↦ b (sym is ∙ k) ]

  -- the nodes of the search: but for its row all rows show what they name
  nodes_shown : Mirrors T → AreShownBut (λ x. x ≡ s) places (now_at T (with_search s parent name nothing))
  nodes_shown mirrors =
      let E : ℕ → Type 0 = λ x. x ≡ s in
      let none : ℕ → Type 0 = λ x. ⊥ in
      let k6 = beside_kind s 6 (omega arith) in let k7 = beside_kind s 7 (omega arith) in let k16 = beside_kind s 16 (omega arith) in
      let start = shown_but T.places (now_at T nothing) (subst (AreShown T.places) (sym (now_nothing T)) mirrors) in
      let s1 = shown_put none E T.places (now_at T nothing) (now_at T (D1 T s parent name three)) s (Some (Own T s parent name three)) start (λ x e. absurd e) (puts_values T s parent name three)
      (λ e. omega arith) (λ e. omega arith) (λ p e. refl) (λ M e. cc) in
      let s2 = shown_put E E T.places (now_at T (D1 T s parent name three)) (now_at T (D2 T s parent name three)) (updates s) (Some (Bare (nid 0))) s1 (λ x e. e) (puts_updates T s parent name three)
      (λ e. omega arith) (λ e. omega arith) (λ p e. absurd (no_place (updates s) 6 p k6 (λ x. omega arith) (λ x. omega arith) e)) (λ M e. cc) in
      let s3 = shown_put E E T.places (now_at T (D2 T s parent name three)) (now_at T (D3 T s parent name three)) (criteria_node s) (Some no_criteria) s2 (λ x e. e) (puts_criteria T s parent name three)
      (λ e. omega arith) (λ e. omega arith) (λ p e. absurd (no_place (criteria_node s) 7 p k7 (λ x. omega arith) (λ x. omega arith) e)) (λ M e. cc) in
      let s4 = shown_put E E T.places (now_at T (D3 T s parent name three)) (now_at T (with_search s parent name nothing)) (results s) (Some (Table contents_table)) s3 (λ x e. e) (puts_list T s parent name three)
      (λ e. omega arith) (λ e. omega arith) (λ p e. absurd (no_place (results s) 16 p k16 (λ x. omega arith) (λ x. omega arith) e)) (λ M e. cc) in
      shown_places E T.places places (now_at T (with_search s parent name nothing)) s4 (λ g p e free. was_placed T.places s parent g p free e)

  -- and after all steps they show it
  pub steps_show : Mirrors T → IfOk (steps T s parent name) (λ D. AreShown places (now_at T D))
  steps_show mirrors =
      let D0 = with_search s parent name nothing in
      let a = add_shown T (hierarchy parent) s (folder_props name) D0 in
      let two = plain_id (nearly (λ x. ⊥) T.places (now_at T nothing) w) parent q found plain in
      if_weaker (λ D. AreShownBut (λ x. ⊥) places (now_at T D)) (λ D. AreShown places (now_at T D)) (steps T s parent name)
      (then_shows T places ids_after a parent (inl two) (add_folder T places ids_after D0 s (new_values parent name) (inr three) (nodes_shown mirrors) (search_nodes T s parent name three).values))
      (λ D k. all_shown places (now_at T D) k)
