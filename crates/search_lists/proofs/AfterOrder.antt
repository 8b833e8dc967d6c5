-- The tree after a command is in order with changes that keep it so.
use Rattle.std.proofs.Common.{◌≡◌, ◌∙◌, ℕ, true, arith, cond, List, [], ◌∷◌, Option, None, Some, IsSome, is_some, ap, sym, refl, subst, inl, inr}
use Rattle.std.specs.FinMap as map
use Rattle.mapi_values.specs.Tables.{find_row}
use Rattle.node_port.specs.Nodes.{node_at}
use Rattle.node_port.specs.declared.node.NodeRec.{NodeRec}
use Rattle.mail_objects.specs.Forms.{Tbl}
use Rattle.mail_objects.specs.declared.object.Object.{Object}
use Rattle.mail_tree.specs.declared.places.FolderPlace.{FolderPlace}
use Rattle.mail_tree.specs.Changing.{Changed, associated, hierarchy, now_at}
use Rattle.mail_tree.specs.Folders.{Outcome}
use Rattle.mail_tree.specs.Found.{IsFoundBeside, named_sort}
use Rattle.mail_tree.specs.Ids.{is_taken}
use Rattle.mail_tree.specs.Places.{find_place}
use Rattle.mail_tree.specs.Step.{after}
use Rattle.mail_tree.specs.Tree.{Tree, object_at}
use Rattle.mail_tree.specs.Whole.{AreWhole, IsWhole}
use Rattle.mail_tree.proofs.AfterLaws.{get-without_changed}
use Rattle.mail_tree.proofs.AfterTree.{after_now}
use Rattle.mail_tree.proofs.FineLaws.{fine_weaker}
use Rattle.mail_tree.proofs.KindsOfPuts.{beside_kind, same_table}
use Rattle.mail_tree.proofs.Settles.{folders_of}
use Rattle.mail_laws.specs.Laws.{AreCountedBut, AreShown}
use Rattle.mail_laws.proofs.MirrorPuts.{all_shown, shown_but}
use Rattle.mail_searches.specs.Searches.{Search}
use Rattle.mail_searches.specs.Searching.{Each, IsOfSearch}
use Rattle.mail_searches.specs.Relisting.{settled_searches, with_results}
use Rattle.search_lists.specs.Keeps.{IsThere, KeepsOrder, ResultsKeepOrder, SettlingKeepsOrder, with_changes}
use Rattle.search_lists.proofs.Quiet.{IsQuiet}
use Rattle.search_lists.proofs.ListSteps.{IsOrderly}
use Rattle.search_lists.proofs.ResultSteps.{results_orderly}
use Rattle.search_lists.proofs.SettleSteps.{Stands, searches_orderly}

-- another node stands after a command where none was changed
pub other_after : (T : Tree) (o : Outcome) (q : ℕ) → node_at (after T o).others q ≡ cond (is_some (map.get o.changed.objects q)) None (node_at T.others q)
other_after T o q = get-without_changed (map.entries o.changed.objects) T.others q
    ∙ ap (λ (x : Option (Option Object)). cond {A = Option NodeRec} (is_some x) None (node_at T.others q)) (sym (map.get-entries o.changed.objects q))

module _ (T : Tree) (o : Outcome) (D : Changed) (quiet : IsQuiet T o.changed D) where
  abbrev O : Outcome
  O = with_changes o D

  -- what stands at an id
  was : (q : ℕ) → object_at (after T o) q ≡ now_at T o.changed q
  was q = ap (λ at. at q) (sym (after_now T o))

  is : (q : ℕ) → object_at (after T O) q ≡ now_at T D q
  is q = ap (λ at. at q) (sym (after_now T O))

  -- where no other node stood none stands
  none_comes : (q : ℕ) → node_at (after T o).others q ≡ None → node_at (after T O).others q ≡ None
  none_comes q none = other_after T O q ∙ elim (quiet.puts q) [
    | inl same ↦ ap (λ (x : Option (Option Object)). cond {A = Option NodeRec} (is_some x) None (node_at T.others q)) same ∙ sym (other_after T o q) ∙ none
    | inr put ↦ rw put.0 refl
  ]

  -- an id is taken just where it was
  taken_still : (q : ℕ) → is_taken (after T O) q ≡ is_taken (after T o) q
  taken_still q =
      let stands : is_some (object_at (after T O) q) ≡ is_some (object_at (after T o) q) = ap is_some (is q) ∙ quiet.stands q ∙ sym (ap is_some (was q)) in
      elim (quiet.puts q) [
        | inl same ↦
            let other : node_at (after T O).others q ≡ node_at (after T o).others q = other_after T O q ∙ ap (λ (x : Option (Option Object)). cond {A = Option NodeRec} (is_some x) None (node_at T.others q)) same ∙ sym (other_after T o q) in
            rw (stands, other) refl
        | inr put ↦
            let here : is_some (object_at (after T O) q) ≡ true = ap is_some (is q) ∙ put.1 in
            let there : is_some (object_at (after T o) q) ≡ true = sym stands ∙ here in
            rw (here, there) refl
      ]

  -- so a row names what it named
  named_still : (r : ℕ) → named_sort (after T O) r ≡ named_sort (after T o) r
  named_still r = rw (taken_still r) refl

  -- an opening finds the tree
  found_still : AreWhole o.places (now_at T o.changed) → (beside : ℕ → Type 0) → IsFoundBeside beside (after T o) → IsFoundBeside beside (after T O)
  found_still w beside f = record {
    listed = λ g p t r sort e plain there row named.
        let old = folders_of w g p e plain in
        let new = quiet.tables (hierarchy g) old.0 old.1 in
        let same : t ≡ new.0 = same_table t new.0 (sym there ∙ is (hierarchy g) ∙ new.1) in
        f.listed g p old.0 r sort e plain (was (hierarchy g) ∙ old.1) (new.2 (beside_kind g 13 (omega arith)) r (subst (λ (x : Tbl). IsSome (find_row r x.table.rows)) same row)) (sym (named_still r) ∙ named);
    reached = f.reached;
    owned = λ q x there.
        let old = quiet.belongs o.places q x (sym (is q) ∙ there) in
        elim (f.owned q old.0 (was q ∙ old.1)) [ inl b ↦ inl b | inr b ↦ inr (old.2 b) ];
  }

-- changes that keep the tree in order do so after the command
keeps_order : (T : Tree) (o : Outcome) (D : Changed) → AreWhole o.places (now_at T o.changed) → IsOrderly T o.places o.changed D → KeepsOrder T o D
keeps_order T o D w k = record {
  whole = λ before. record {
    objects = subst (AreWhole o.places) (after_now T (with_changes o D)) k.whole;
    no_stray = λ f p e plain. none_comes T o D k.quiet (associated f) (before.no_stray f p e plain);
  };
  found = λ own f. found_still T o D k.quiet w (IsOfSearch own) f;
  mirrors = λ before s. subst (AreShown o.places) (after_now T (with_changes o D)) (all_shown o.places (now_at T D) (k.shown (shown_but o.places (now_at T o.changed) (subst (AreShown o.places) (sym (after_now T o)) s))));
  counts = λ before s. subst (AreCountedBut (λ x. ⊥) o.places) (after_now T (with_changes o D)) (k.counted (subst (AreCountedBut (λ x. ⊥) o.places) (sym (after_now T o)) s));
  criteria = k.quiet.criteria;
  messages = k.quiet.messages;
  tables = λ q t sixteen there. let u = k.quiet.tables q t there in (u.0, u.1);
}

-- a folder that is there has a place
a_place : (s : ℕ) (found : Option FolderPlace) → IsSome found → (p : FolderPlace) × (found ≡ Some p)
a_place s (Some p) there = (p, refl)
a_place s None there = cc

stands_there : (T : Tree) (o : Outcome) (s : ℕ) → IsThere T o s → Stands T o.places o.changed s
stands_there T o s there = record { kind = there.kind; placed = a_place s (find_place s o.places) there.placed; table = there.table }

all_stand : (T : Tree) (o : Outcome) (ss : List Search) → Each (λ s. IsThere T o s.nid) ss → Each (λ s. Stands T o.places o.changed s.nid) ss
all_stand T o [] there = tt
all_stand T o (s ∷ ss) there = (stands_there T o s.nid there.0, all_stand T o ss there.1)

-- the objects after a command are whole
whole_now : (T : Tree) (o : Outcome) → IsWhole (after T o) → AreWhole o.places (now_at T o.changed)
whole_now T o w = subst (AreWhole o.places) (sym (after_now T o)) w.objects

pub results_keep_order : ResultsKeepOrder
results_keep_order T o s rows t was before there is ascend =
    let w = whole_now T o before in
    let p = a_place s (find_place s o.places) there.placed in
    fine_weaker (IsOrderly T o.places o.changed) (KeepsOrder T o) (with_results T s rows t o.changed) (results_orderly T o.places s p.0 there.kind p.1 rows t o.changed was w is ascend) (λ D k. keeps_order T o D w k)

pub settling_keeps_order : SettlingKeepsOrder
settling_keeps_order T o d ts ss was before apart there =
    let w = whole_now T o before in
    fine_weaker (IsOrderly T o.places o.changed) (KeepsOrder T o) (settled_searches T d ts ss o.changed) (searches_orderly T was o.places d ts ss o.changed w apart (all_stand T o ss there)) (λ D k. keeps_order T o D w k)
