-- A new search leaves a tree whole.
use Rattle.std.proofs.Common.{◌≡◌, ℕ, ◌%◌, true, false, List, Some, arith, refl, ap, ◌∙◌, inl, inr}
use Rattle.std.proofs.lemmas.Bool.{cases_Bool}
use Rattle.std.specs.Prelude.{set}
use Rattle.mapi_values.specs.Characters.{folded}
use Rattle.mail_objects.specs.Forms.{Tbl}
use Rattle.mail_objects.specs.declared.object.Object.TheVariants.{Table}
use Rattle.command_text.specs.declared.reply.CommandRefusal.TheVariants.{Ids}
use Rattle.command_text.specs.declared.reply.LastLine.TheVariants.{Made}
use Rattle.mail_tree.specs.declared.places.FolderPlace.{FolderPlace}
use Rattle.mail_tree.specs.Places.{ROOT, children, find_place, is_deep, is_plain}
use Rattle.mail_tree.specs.Tree.{Tree}
use Rattle.mail_tree.specs.Values.{folder_props}
use Rattle.mail_tree.specs.Changing.{Answer, Changed, ◌>>=◌, add_shown, contents, hierarchy, nothing, now_at}
use Rattle.mail_tree.specs.Ids.{is_spent, new_id}
use Rattle.mail_tree.specs.Folders.{Outcome, making, nid, replied, unless_full, unless_named}
use Rattle.mail_tree.specs.Settling.{settled}
use Rattle.mail_tree.specs.Whole.{AreWhole, Fine, HasRow}
use Rattle.mail_tree.proofs.FineLaws.{after_test, cases_Option, fine_then, fine_weaker}
use Rattle.mail_tree.proofs.KindsOfPuts.{beside_kind}
use Rattle.mail_tree.proofs.Nearly.{AreNearly, plain_id, table_of, nearly}
use Rattle.mail_tree.proofs.Settles.{each_message, folders_of}
use Rattle.mail_laws.proofs.FolderSteps.{RowsChange, added_folder, children_of, fine_named}
use Rattle.mail_laws.proofs.FoundSteps.{kind_apart}
use Rattle.mail_laws.proofs.MessageSteps.{Before, fine_unless_full}
use Rattle.mail_laws.proofs.Spent.{IsReadable, fine_read, new_id_kind}
use Rattle.mail_searches.specs.Criteria.{making_search, making_search_in, with_search}
use Rattle.search_laws.proofs.MakingPuts.{new_values, nodes_nearly, place_others, search_nodes, whole_search, with_place}
use Rattle.search_laws.proofs.MakingStood.{search_limits, steps_stood, steps_few}
use Rattle.mail_searches.specs.Searches.{criteria_node}

-- the steps of a new search: its nodes, the row that shows it, and its parent, which is counted anew
abbrev pub steps : Tree → ℕ → ℕ → List ℕ → Answer Changed
steps T s parent name = add_shown T (hierarchy parent) s (folder_props name) (with_search s parent name nothing) >>= settled T (with_place T.places s parent) parent

-- what `mksearch` comes to after these changes
abbrev pub made : Tree → ℕ → ℕ → Changed → Outcome
made T parent index D = record { changed = D; places = with_place T.places (new_id 3 index) parent; last = set T.last 3 index; reply = replied (Made (nid (new_id 3 index))) }

-- a plain folder's table of folders
table_in : {E : ℕ → Type 0} {places : List FolderPlace} {at : ℕ → _} → AreNearly E places at → (f : ℕ) (p : FolderPlace) → find_place f places ≡ Some p → is_plain p ≡ true → (t : Tbl) × (at (hierarchy f) ≡ Some (Table t))
table_in {at = at} n f p e plain = table_of (hierarchy f) (at (hierarchy f)) (n.typed (hierarchy f)) (inl (beside_kind f 13 (omega arith))) (n.tables f p e plain).0

-- where a tree is whole but for what is said of a search's folder, each plain folder can be counted and shown
readable : (places : List FolderPlace) (at : ℕ → _) (s : ℕ) → AreNearly (λ x. x ≡ s) places at → s % 32 ≡ 3 → (f : ℕ) (p : FolderPlace) → find_place f places ≡ Some p → is_plain p ≡ true → IsReadable at f
readable places at s n three f p e plain =
    let free : f ≡ s → ⊥ = λ same. omega (arith, plain_id n f p e plain) in
    let t = table_of (contents f) (at (contents f)) (n.typed (contents f)) (inr (inl (beside_kind f 14 (omega arith)))) (n.tables f p e plain).1 in
    record {
      root = let r = n.root in table_in n ROOT r.0 r.1 r.2;
      context = let c = n.contexts f p e in (
        c.0,
        c.1,
        λ no_root. let q = n.parents f p e no_root free in let u = table_in n p.parent.bits q.0 q.1 q.2 in (u.0, ap (λ x. at (hierarchy x)) (c.2 no_root free) ∙ u.1),
      );
      table = (t.0, t.1, each_message at t.0.table.rows (λ m has four. let M = n.listed f p t.0 m e plain t.1 has four (λ same. omega arith) in (M.0, M.1)));
    }

module _ (T : Tree) (w : Before T) (s parent : ℕ) (q : FolderPlace) (name : List ℕ) (three : s % 32 ≡ 3) (found : find_place parent T.places ≡ Some q) (plain : is_plain q ≡ true) where
  -- the nodes of a search and its row
  listed_new : Fine (add_shown T (hierarchy parent) s (folder_props name) (with_search s parent name nothing))
      (λ D. RowsChange (λ x. x ≡ s) T.places parent (now_at T (with_search s parent name nothing)) (now_at T D) × HasRow (now_at T D (hierarchy parent)) s)
  listed_new = added_folder (λ x. x ≡ s) T.places T (with_search s parent name nothing) parent q s (folder_props name) (nodes_nearly T s parent name three w) found plain

  -- a search that is planned at an id of its kind
  pub planned : Fine (steps T s parent name) (λ D. Unit {0})
  planned = fine_then _ (λ D. Unit {0}) (add_shown T (hierarchy parent) s (folder_props name) (with_search s parent name nothing)) (settled T (with_place T.places s parent) parent) listed_new
      (λ D r. fine_read T (with_place T.places s parent) parent D (plain_id r.0.nearly_whole parent q found plain) (readable T.places (now_at T D) s r.0.nearly_whole three parent q found plain))

  -- its parent stands where it stood
  pub parent_still : find_place parent (with_place T.places s parent) ≡ Some q
  parent_still = place_others T.places s parent parent (λ same. omega (arith, plain_id (nodes_nearly T s parent name three w) parent q found plain)) ∙ found

  -- the tree is whole with its nodes, its row and its place
  pub listed_whole : Fine (add_shown T (hierarchy parent) s (folder_props name) (with_search s parent name nothing)) (λ D. AreWhole (with_place T.places s parent) (now_at T D))
  listed_whole = fine_weaker _ (λ D. AreWhole (with_place T.places s parent) (now_at T D)) (add_shown T (hierarchy parent) s (folder_props name) (with_search s parent name nothing)) listed_new (λ D r.
      let nodes = search_nodes T s parent name three in
      whole_search T.places (now_at T D) s parent q r.0.nearly_whole three found plain r.1
      (new_values parent name, r.0.others s (kind_apart s parent 13 (omega arith) (λ e. omega arith)) ∙ nodes.values, refl))

-- what holds after the steps of a new search, where an index is left, holds after `mksearch`
pub fine_making : (T : Tree) (parent : ℕ) (name : List ℕ) (index : ℕ) (Q : Outcome → Type 0) → Before T
    → (is_spent index ≡ false → (q : FolderPlace) → find_place parent T.places ≡ Some q → is_plain q ≡ true → is_deep T.places parent ≡ false → Fine (steps T (new_id 3 index) parent name) (λ D. Q (made T parent index D)))
    → Fine (making_search_in T parent name index) Q
unfolding making_search_in making_search
fine_making T parent name index Q w next = elim (cases_Option (find_place parent T.places)) [
  | inl e ↦ rw e tt
  | inr p ↦ rw p.1 (elim (cases_Bool (is_plain p.0)) [
    | inr plain ↦ rw plain tt
    | inl plain ↦ rw plain (fine_then (λ u. Unit {0}) Q (unless_named T (folded false name) (children parent T.places)) _ (fine_named T (folded false name) (children parent T.places) (children_of w parent)) (λ u u'.
        elim (cases_Bool (is_deep T.places parent)) [
          | inl b ↦ rw b tt
          | inr b ↦
              let t = folders_of w parent p.0 p.1 plain in
              rw b (fine_then (λ v. Unit {0}) Q (unless_full T (hierarchy parent)) _ (fine_unless_full T (hierarchy parent) t.0 t.1) (λ v v'. makes p.0 p.1 plain b))
        ]))
  ])
]
  where
    makes : (q : FolderPlace) → find_place parent T.places ≡ Some q → is_plain q ≡ true → is_deep T.places parent ≡ false
        → Fine (steps T (new_id 3 index) parent name >>= making T (with_place T.places (new_id 3 index) parent) 3 index) Q
    makes q found plain deep =
        let s = new_id 3 index in
        let three = new_id_kind 3 index (omega arith) in
        let two = plain_id (nearly (λ x. ⊥) T.places (now_at T nothing) w) parent q found plain in
        let seven : criteria_node s % 32 ≡ 7 = beside_kind s 7 (omega arith) in
        let stood = steps_stood T s parent name (with_place T.places s parent) in
        let few = steps_few T s parent name (with_place T.places s parent) (λ e. omega (arith, three, seven)) (λ e. omega (arith, two, seven)) in
        elim (cases_Bool (is_spent index)) [
          | inl spent ↦ search_limits T s (λ D. Unit {0}) Q (steps T s parent name) _ (planned T w s parent q name three found plain) stood few (λ D u. rw spent tt)
          | inr left ↦ search_limits T s (λ D. Q (made T parent index D)) Q (steps T s parent name) _ (next left q found plain deep) stood few (λ D k. after_test Q (is_spent index) Ids _ (λ e. k))
        ]
