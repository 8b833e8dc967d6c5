-- A new search leaves all in order.
use Rattle.std.proofs.Common.{◌≡◌, ℕ, ◌%◌, Bool, true, false, List, None, Some, IsSome, arith, refl, sym, subst, ap, ◌∙◌, inl, inr}
use Rattle.std.proofs.lemmas.Bool.{false_from_ne_true, false≢true}
use Rattle.std.specs.FinMap as map
use Rattle.node_port.specs.Nodes.{node_at}
use Rattle.mail_tree.specs.declared.places.FolderPlace.{FolderPlace}
use Rattle.mail_tree.specs.Places.{find_place, is_deep, is_plain}
use Rattle.mail_tree.specs.Tree.{Tree, object_at}
use Rattle.mail_tree.specs.Changing.{Changed, associated, newest, now_at}
use Rattle.mail_tree.specs.Folders.{Outcome}
use Rattle.mail_tree.specs.Ids.{is_spent, new_id}
use Rattle.mail_tree.specs.Step as tree
use Rattle.mail_tree.specs.Whole.{AreWhole, Fine}
use Rattle.mail_tree.proofs.AfterTree.{after_now, now_nothing}
use Rattle.mail_tree.proofs.FineLaws.{fine_then}
use Rattle.mail_laws.specs.Laws.{AreCountedBut, AreShown}
use Rattle.mail_laws.proofs.FolderSteps.{not_placed}
use Rattle.mail_laws.proofs.MessageSteps.{Before}
use Rattle.mail_laws.proofs.Spent.{new_id_kind}
use Rattle.mail_laws.proofs.Strays.{fine_with, no_node_comes}
use Rattle.mail_searches.specs.Criteria.{Coming, made_search, making_search_in, next_search_index}
use Rattle.mail_searches.specs.Searches.{updates}
use Rattle.mail_searches.specs.Searching.{Searching, is_own}
use Rattle.mail_searches.specs.Step.{after}
use Rattle.search_lists.specs.Order.{AreMarked, InOrder}
use Rattle.search_lists.proofs.ResultSteps.{if_given}
use Rattle.search_laws.specs.Laws.{MakesInOrder}
use Rattle.search_laws.proofs.Attachments.{attachments_still}
use Rattle.search_laws.proofs.Marked.{marks_stay, none_beside}
use Rattle.search_laws.proofs.MakingLists.{lists_there}
use Rattle.search_laws.proofs.MakingCounted.{steps_count}
use Rattle.search_laws.proofs.MakingFound.{among_kept, among_new, among_was, found_after, with_id}
use Rattle.search_laws.proofs.MakingIds.{IsFree, new_search_free}
use Rattle.search_laws.proofs.MakingMade.{Away, Makes, steps_make}
use Rattle.search_laws.proofs.MakingPuts.{place_others, plain_was, with_place}
use Rattle.search_laws.proofs.MakingSearches.{fresh_after, same_message, searches_after, show_after}
use Rattle.search_laws.proofs.MakingShown.{steps_show}
use Rattle.search_laws.proofs.MakingTree.{fine_making, made, steps}

module _ (tidy : Bool) (X : Searching) (order : InOrder tidy X) (parent : ℕ) (name : List ℕ) where
  abbrev T : Tree
  T = X.tree

  abbrev index : ℕ
  index = next_search_index T

  abbrev s : ℕ
  s = new_id 3 index

  -- what the tree's changes come to
  abbrev coming : Outcome → Coming
  coming o = record { outcome = o; own = with_id s X.own; searches = X.searches }

  abbrev Good : Outcome → Type 0
  Good o = InOrder tidy (after X (coming o))

  w : Before T
  w = subst (AreWhole T.places) (sym (now_nothing T)) order.whole.objects

  three : s % 32 ≡ 3
  three = new_id_kind 3 index (omega arith)

  module _ (left : is_spent index ≡ false) (q : FolderPlace) (found : find_place parent T.places ≡ Some q) (plain : is_plain q ≡ true) (deep : is_deep T.places parent ≡ false) where
    free : IsFree T s
    free = new_search_free T left

    abbrev places : List FolderPlace
    places = with_place T.places s parent

    not_there : find_place s T.places ≡ None
    not_there = not_placed T s w (ap (λ g. g s) (now_nothing T) ∙ free.own_free)

    -- the new search is own, and beside it no other node stands; each other search folder stands where it stood
    marked : (D : Changed) → Makes T s parent D → AreMarked (after X (coming (made T parent index D)))
    marked D m =
        let o = made T parent index D in
        marks_stay X (coming o) order.marked
        (λ f kind other there.
        let apart : f ≡ s → ⊥ = λ same. false≢true (sym other ∙ ap (is_own (with_id s X.own)) same ∙ among_new s X.own) in
        (subst IsSome (place_others T.places s parent f apart) there, false_from_ne_true (is_own X.own f) (λ old. false≢true (sym other ∙ among_kept s f X.own old))))
        (λ f own. elim (among_was s f X.own own) [
          | inl same ↦ inr (ap (λ x. node_at (tree.after T o).others (updates x)) same ∙ none_beside T o (updates s) _ free.updates_free m.updates_there)
          | inr old ↦ inl old
        ])

    in_order : (D : Changed) → Makes T s parent D → (tidy ≡ true → AreShown places (now_at T D)) → (tidy ≡ true → AreCountedBut (λ x. ⊥) places (now_at T D)) → Good (made T parent index D)
    in_order D m shown counted =
        let o = made T parent index D in
        let objects : AreWhole places (object_at (tree.after T o)) = subst (AreWhole places) (after_now T o) m.whole in
        let none = not_there in
        let others : (x : ℕ) → Away s x → (x % 32 ≡ 2 → ⊥) → (x % 32 ≡ 13 → ⊥) → object_at (tree.after T o) x ≡ object_at T x = λ x away two table.
        ap (λ g. g x) (sym (after_now T o)) ∙ ap (λ g. newest g (object_at T x)) (m.gets x two table away) in
        let now : (x : ℕ) → object_at (tree.after T o) x ≡ now_at T D x = λ x. ap (λ g. g x) (sym (after_now T o)) in
        record {
          whole = record {
            objects = objects;
            no_stray = λ f p e plain_p. no_node_comes (map.entries D.objects) T.others (associated f) (order.whole.no_stray f p (plain_was T.places s parent f p e plain_p) plain_p);
          };
          found = found_after T w X.own s parent q three free found plain deep order.found o refl m;
          mirrors = λ t. subst (AreShown places) (after_now T o) (shown t);
          counts = λ t. subst (AreCountedBut (λ x. ⊥) places) (after_now T o) (counted t);
          attachments = λ t. attachments_still T (tree.after T o) (same_message X s parent three free order.whole order.searches none (tree.after T o) refl others objects (now _ ∙ m.criteria_there) (now _ ∙ m.list_there)) (order.attachments t);
          lists = λ t. show_after X s parent three free order.whole order.searches none (tree.after T o) refl others objects (now _ ∙ m.criteria_there) (now _ ∙ m.list_there) (order.lists t);
          searches = searches_after X s parent three free order.whole order.searches none (tree.after T o) refl others objects (now _ ∙ m.criteria_there) (now _ ∙ m.list_there);
          fresh = fresh_after X s parent three free order.whole order.searches none (tree.after T o) refl others objects (now _ ∙ m.criteria_there) (now _ ∙ m.list_there) order.fresh;
          marked = marked D m;
        }

    steps_in_order : Fine (steps T s parent name) (λ D. Good (made T parent index D))
    steps_in_order =
        let a = steps T s parent name in
        let Shown : Changed → Type 0 = λ D. AreShown places (now_at T D) in
        let Counted : Changed → Type 0 = λ D. AreCountedBut (λ x. ⊥) places (now_at T D) in
        fine_with (λ D. Makes T s parent D × (tidy ≡ true → Shown D)) (λ D. tidy ≡ true → Counted D) (λ D. Good (made T parent index D)) a
        (fine_with (Makes T s parent) (λ D. tidy ≡ true → Shown D) (λ D. Makes T s parent D × (tidy ≡ true → Shown D)) a (steps_make T w s parent q name three found plain)
        (if_given (tidy ≡ true) Shown a (λ t. steps_show T w s parent q name three found plain (order.mirrors t))) (λ D m shown. (m, shown)))
        (if_given (tidy ≡ true) Counted a (λ t. steps_count T w s parent q name three found plain not_there (order.counts t)))
        (λ D m counted. in_order D m.0 m.1 counted)

  makes_order : Fine (made_search X parent name) (λ o. InOrder tidy (after X o))
  unfolding made_search
  makes_order = rw (lists_there T order.whole) (fine_then Good (λ o. InOrder tidy (after X o)) (making_search_in T parent name index) _ (fine_making T parent name index Good w steps_in_order) (λ o k. k))

pub makes_in_order : MakesInOrder
makes_in_order tidy X parent name order = makes_order tidy X order parent name
