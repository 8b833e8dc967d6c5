-- What stands in a tree after a new search was made.
use Rattle.std.proofs.Common.{◌≡◌, ℕ, ◌%◌, true, List, None, Some, arith, refl, subst, ap, ◌∙◌, ◌⊎◌, inl, inr}
use Rattle.std.specs.FinMap as map
use Rattle.std.specs.Ordering.{nat_cmp}
use Rattle.std.proofs.lemmas.Bool.{cases_eq}
use Rattle.mail_objects.specs.Forms.{Ctx, Tbl}
use Rattle.mail_objects.specs.declared.object.Object.TheVariants.{Bare, Context, Table}
use Rattle.mail_tree.specs.declared.places.FolderPlace.{FolderPlace}
use Rattle.mail_tree.specs.Places.{find_place, is_plain}
use Rattle.mail_tree.specs.Tree.{Tree, object_at}
use Rattle.mail_tree.specs.Values.{folder_props}
use Rattle.mail_tree.specs.Changing.{Changed, add_shown, hierarchy, newest, nothing, now_at}
use Rattle.mail_tree.specs.Columns.{contents_table}
use Rattle.mail_tree.specs.Folders.{nid}
use Rattle.mail_tree.specs.Settling.{settled}
use Rattle.mail_tree.specs.Whole.{AreWhole, Fine}
use Rattle.mail_tree.proofs.AfterTree.{now_nothing}
use Rattle.mail_tree.proofs.FineLaws.{fine_then, fine_weaker}
use Rattle.mail_tree.proofs.KindsOfPuts.{beside_kind}
use Rattle.mail_tree.proofs.Settles.{fine_settled, folders_of}
use Rattle.mail_laws.proofs.MessageSteps.{Before}
use Rattle.mail_laws.proofs.FoundSteps.{get_other, kind_apart}
use Rattle.mail_laws.proofs.Strays.{fine_with}
use Rattle.mail_searches.specs.Criteria.{no_criteria, with_search}
use Rattle.mail_searches.specs.Searches.{criteria_node, results, updates}
use Rattle.search_laws.proofs.MakingPuts.{HasNodes, D1, D2, D3, new_values, search_nodes, with_place}
use Rattle.search_laws.proofs.MakingSteps.{Follows, IsOfPlain, ListsRow, added_follows, follows_then, settled_follows}
use Rattle.search_laws.proofs.MakingTree.{listed_whole, parent_still, steps}

-- the id is none of this search's nodes
abbrev pub Away : ℕ → ℕ → Type 0
Away s x = (x ≡ s → ⊥) × (x ≡ updates s → ⊥) × (x ≡ criteria_node s → ⊥) × (x ≡ results s → ⊥)

-- the table of the parent has a row of the search
abbrev pub NewRow : ℕ → ℕ → ℕ → ℕ → Type 0
NewRow s parent f r = (hierarchy f ≡ hierarchy parent) × (r ≡ s)

-- What stands after a new search was made, and that all else but plain folders' values and tables of folders stands as it stood.
pub record Makes (T : Tree) (s parent : ℕ) (D : Changed) : Type 0 where
  pub whole : AreWhole (with_place T.places s parent) (now_at T D)
  pub values : (c : Ctx) × (now_at T D s ≡ Some (Context c))
  pub updates_there : now_at T D (updates s) ≡ Some (Bare (nid 0))
  pub criteria_there : now_at T D (criteria_node s) ≡ Some no_criteria
  pub list_there : now_at T D (results s) ≡ Some (Table contents_table)
  pub gets : (k : ℕ) → (k % 32 ≡ 2 → ⊥) → (k % 32 ≡ 13 → ⊥) → Away s k → map.get D.objects k ≡ None
  pub others : (x : ℕ) → Away s x → (now_at T D x ≡ object_at T x) ⊎ IsOfPlain (with_place T.places s parent) x
  pub rows : (f r : ℕ) → ListsRow (now_at T D (hierarchy f)) r → ListsRow (object_at T (hierarchy f)) r ⊎ NewRow s parent f r

-- each id is one of these, or none
pub away_or : (s x : ℕ) → (x ≡ s) ⊎ ((x ≡ updates s) ⊎ ((x ≡ criteria_node s) ⊎ ((x ≡ results s) ⊎ Away s x)))
away_or s x = elim (cases_eq x s) [
  | inl a ↦ inl a
  | inr a ↦ inr (elim (cases_eq x (updates s)) [
    | inl b ↦ inl b
    | inr b ↦ inr (elim (cases_eq x (criteria_node s)) [
      | inl c ↦ inl c
      | inr c ↦ inr (elim (cases_eq x (results s)) [ inl d ↦ inl d | inr d ↦ inr (a, b, c, d) ])
    ])
  ])
]

-- an id of another kind is away
pub away_kind : (s x : ℕ) → s % 32 ≡ 3 → (x % 32 ≡ 3 → ⊥) → (x % 32 ≡ 6 → ⊥) → (x % 32 ≡ 7 → ⊥) → (x % 32 ≡ 16 → ⊥) → Away s x
away_kind s x three a b c d = (λ same. a (ap (λ y. y % 32) same ∙ three), kind_apart x s 6 (omega arith) b, kind_apart x s 7 (omega arith) c, kind_apart x s 16 (omega arith) d)

-- before any step
puts_none : (T : Tree) (s parent : ℕ) (name : List ℕ) → s % 32 ≡ 3 → (k : ℕ) → Away s k → map.get (with_search s parent name nothing).objects k ≡ None
puts_none T s parent name three k away =
    get_other (D3 T s parent name three) (results s) k (Some (Table contents_table)) away.3
    ∙ get_other (D2 T s parent name three) (criteria_node s) k (Some no_criteria) away.2
    ∙ get_other (D1 T s parent name three) (updates s) k (Some (Bare (nid 0))) away.1
    ∙ get_other nothing s k (Some (Context (new_values parent name))) away.0
    ∙ map.get-empty nat_cmp k

module _ (T : Tree) (w : Before T) (s parent : ℕ) (q : FolderPlace) (name : List ℕ) (three : s % 32 ≡ 3) (found : find_place parent T.places ≡ Some q) (plain : is_plain q ≡ true) where
  abbrev places : List FolderPlace
  places = with_place T.places s parent

  abbrev New : ℕ → ℕ → Type 0
  New f r = NewRow s parent f r

  abbrev D0 : Changed
  D0 = with_search s parent name nothing

  nodes : HasNodes T s parent name D0
  nodes = search_nodes T s parent name three

  -- the parent's table is as it was
  table_before : (t : Tbl) × (now_at T D0 (hierarchy parent) ≡ Some (Table t))
  table_before =
      let t = folders_of w parent q found plain in
      let kind = beside_kind parent 13 (omega arith) in
      let away = away_kind s (hierarchy parent) three (λ e. omega arith) (λ e. omega arith) (λ e. omega arith) (λ e. omega arith) in
      (t.0, nodes.others (hierarchy parent) away.0 away.1 away.2 away.3 ∙ t.1)

  -- after all steps the tree is whole, and only plain folders' values and tables of folders changed
  steps_follow : Fine (steps T s parent name) (λ D. AreWhole places (now_at T D) × Follows T places New D0 D)
  steps_follow =
      let t = table_before in
      let still = parent_still T w s parent q name three found plain in
      let a = add_shown T (hierarchy parent) s (folder_props name) D0 in
      let Good : Changed → Type 0 = λ D. AreWhole places (now_at T D) × Follows T places New D0 D in
      fine_then Good Good a (settled T places parent)
      (fine_with (λ D. AreWhole places (now_at T D)) (Follows T places New D0) Good a (listed_whole T w s parent q name three found plain)
      (added_follows T places New D0 parent s q t.0 (folder_props name) still plain t.1 (λ g same. (same, refl))) (λ D v k. (v, k)))
      (λ D k. fine_with (λ D'. AreWhole places (now_at T D')) (Follows T places New D) Good (settled T places parent D) (fine_settled T places parent q D k.0 still plain)
      (settled_follows T places New D k.0 parent q still plain) (λ D' v k'. (v, follows_then T places New D0 D D' k.1 k')))

  before_any : (x : ℕ) → now_at T nothing x ≡ object_at T x
  before_any x = ap (λ g. g x) (now_nothing T)

  -- what stands at an id that is none of a plain folder's values or its table of folders
  stands_still : (D : Changed) → Follows T places New D0 D → (x : ℕ) → (x % 32 ≡ 2 → ⊥) → (x % 32 ≡ 13 → ⊥) → now_at T D x ≡ now_at T D0 x
  stands_still D k x two table = ap (λ g. newest g (object_at T x)) (k.gets x two table)

  makes_of : (D : Changed) → AreWhole places (now_at T D) → Follows T places New D0 D → Makes T s parent D
  makes_of D v k = record {
    whole = v;
    values = (new_values parent name, stands_still D k s (λ e. omega arith) (λ e. omega arith) ∙ nodes.values);
    updates_there = stands_still D k (updates s) (λ e. omega (arith, beside_kind s 6 (omega arith))) (λ e. omega (arith, beside_kind s 6 (omega arith))) ∙ nodes.updates_there;
    criteria_there = stands_still D k (criteria_node s) (λ e. omega (arith, beside_kind s 7 (omega arith))) (λ e. omega (arith, beside_kind s 7 (omega arith))) ∙ nodes.criteria_there;
    list_there = stands_still D k (results s) (λ e. omega (arith, beside_kind s 16 (omega arith))) (λ e. omega (arith, beside_kind s 16 (omega arith))) ∙ nodes.list_there;
    gets = λ x two table away. k.gets x two table ∙ puts_none T s parent name three x away;
    others = λ x away. elim (k.others x) [ inl same ↦ inl (same ∙ nodes.others x away.0 away.1 away.2 away.3 ∙ before_any x) | inr of ↦ inr of ];
    rows = λ f r has. elim (k.rows f r has) [
      | inl old ↦
          let kind = beside_kind f 13 (omega arith) in
          let away = away_kind s (hierarchy f) three (λ e. omega arith) (λ e. omega arith) (λ e. omega arith) (λ e. omega arith) in
          inl (subst (λ o. ListsRow o r) (nodes.others (hierarchy f) away.0 away.1 away.2 away.3 ∙ before_any (hierarchy f)) old)
      | inr new ↦ inr new
    ];
  }

  pub steps_make : Fine (steps T s parent name) (Makes T s parent)
  steps_make = fine_weaker (λ D. AreWhole places (now_at T D) × Follows T places New D0 D) (Makes T s parent) (steps T s parent name) steps_follow (λ D k. makes_of D k.0 k.1)
