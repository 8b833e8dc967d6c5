-- An opening finds the tree after a command that moves or removes a search folder.
use Rattle.std.proofs.Common.{◌≡◌, ◌∙◌, ℕ, ◌%◌, ◌==◌, Bool, true, false, cond, Option, None, Some, IsSome, is_some, ap, refl, subst, sym, inl, inr}
use Rattle.std.specs.FinMap as map
use Rattle.std.proofs.lemmas.Bool.{cases_Bool, eqb-true, or_cases, or_left, or_right}
use Rattle.std.proofs.lemmas.Option.{none-some}
use Rattle.node_port.specs.Nodes.{node_at}
use Rattle.node_port.specs.declared.node.NodeRec.{NodeRec}
use Rattle.mail_objects.specs.declared.object.Object.{Object}
use Rattle.mail_tree.specs.declared.places.FolderPlace.{FolderPlace}
use Rattle.mail_tree.specs.declared.places.Sort.{Sort}
use Rattle.mail_tree.specs.Changing.{associated, hierarchy, now_at}
use Rattle.mail_tree.specs.Folders.{Outcome}
use Rattle.mail_tree.specs.Found.{IsFoundBeside, named_sort}
use Rattle.mail_tree.specs.Ids.{is_taken}
use Rattle.mail_tree.specs.Places.{find_place, is_plain}
use Rattle.mail_tree.specs.Step.{after}
use Rattle.mail_tree.specs.Tree.{Tree, object_at}
use Rattle.mail_tree.specs.Whole.{AreWhole, IsWhole}
use Rattle.mail_tree.proofs.AfterLaws.{get-without_changed}
use Rattle.mail_tree.proofs.AfterTree.{after_now}
use Rattle.mail_laws.proofs.Depths.{AreReached}
use Rattle.mail_laws.proofs.FoundSteps.{Finds}

-- another node stands after a command where none was changed
other_after : (T : Tree) (o : Outcome) (q : ℕ) → node_at (after T o).others q ≡ cond (is_some (map.get o.changed.objects q)) None (node_at T.others q)
other_after T o q = get-without_changed (map.entries o.changed.objects) T.others q
    ∙ ap (λ (x : Option (Option Object)). cond {A = Option NodeRec} (is_some x) None (node_at T.others q)) (sym (map.get-entries o.changed.objects q))

none_either : (b : Bool) (x : Option NodeRec) → x ≡ None → cond b None x ≡ None
none_either true x e = refl
none_either false x e = e

some_other : (b : Bool) (x : Option NodeRec) → is_some (cond b None x) ≡ true → is_some x ≡ true
some_other true x e = cc
some_other false x e = e

-- what was whole in what stands is so after the command, if no other node stood where it may not
pub whole_then : (T : Tree) (o : Outcome) → AreWhole o.places (now_at T o.changed) → ((f : ℕ) (p : FolderPlace) → find_place f o.places ≡ Some p → is_plain p ≡ true → node_at T.others (associated f) ≡ None) → IsWhole (after T o)
whole_then T o w free = record {
  objects = subst (AreWhole o.places) (after_now T o) w;
  no_stray = λ f p e plain. other_after T o (associated f) ∙ none_either (is_some (map.get o.changed.objects (associated f))) (node_at T.others (associated f)) (free f p e plain);
}

module _ (T : Tree) (o : Outcome) (stood : (r : ℕ) → r % 32 ≡ 3 → IsSome (now_at T o.changed r) → IsSome (object_at T r)) where
  -- an id of a search folder that is taken was so before
  taken_was : (r : ℕ) → r % 32 ≡ 3 → is_taken (after T o) r ≡ true → is_taken T r ≡ true
  taken_was r three e = elim (or_cases (is_some (object_at (after T o) r)) (is_some (node_at (after T o).others r)) e) [
    | inl object ↦ or_left (is_some (object_at T r)) (is_some (node_at T.others r)) (stood r three (subst IsSome (ap (λ at. at r) (sym (after_now T o))) object))
    | inr other ↦ or_right (is_some (object_at T r)) (is_some (node_at T.others r)) (some_other (is_some (map.get o.changed.objects r)) (node_at T.others r) (sym (ap is_some (other_after T o r)) ∙ other))
  ]

  -- so a row names nothing else
  named_was : (r : ℕ) (sort : Sort) → named_sort (after T o) r ≡ Some sort → named_sort T r ≡ Some sort
  named_was r sort named = elim (cases_Bool (r % 32 == 2)) [
    | inl two ↦ rw two (rw two at named)
    | inr other ↦ elim (cases_Bool (r % 32 == 3)) [
      | inr b ↦ absurd (none-some sort (rw (other, b) at named))
      | inl b ↦ elim (cases_Bool (is_taken (after T o) r)) [
        | inr t ↦ absurd (none-some sort (rw (other, b, t) at named))
        | inl t ↦ rw (other, b, taken_was r (eqb-true (r % 32) 3 b) t) (rw (other, b, t) at named)
      ]
    ]
  ]

  pub found_then : (aside : ℕ → Type 0) → Finds aside T o.places o.changed → AreReached o.places → IsFoundBeside aside (after T o)
  found_then aside s reached = record {
    listed = λ f p t r sort e plain is row named. s.listed f p t r e plain (ap (λ at. at (hierarchy f)) (after_now T o) ∙ is) row sort (named_was r sort named);
    reached = reached;
    owned = λ q x e. s.owned q x (ap (λ at. at q) (after_now T o) ∙ e);
  }
