-- `rmdir` of an own search folder leaves all in order.
use Rattle.std.proofs.Common.{◌≡◌, ◌∙◌, ℕ, ◌%◌, Bool, true, List, Some, IfOk, IsSome, is_some, ap, arith, refl, subst, sym, inl, inr}
use Rattle.std.proofs.lemmas.Bool.{false≢true}
use Rattle.std.proofs.lemmas.Option.{none-some}
use Rattle.mapi_values.specs.Keyed.{drop_key}
use Rattle.mapi_values.proofs.KeyedLaws.{drop-ascends}
use Rattle.mail_tree.specs.declared.places.FolderPlace.{FolderPlace}
use Rattle.mail_tree.specs.Changing.{Changed, as_message, nothing, now_at}
use Rattle.mail_tree.specs.Folders.{Outcome}
use Rattle.mail_tree.specs.Places.{find_place, place_id}
use Rattle.mail_tree.specs.Step as tree
use Rattle.mail_tree.specs.Tree.{Tree, object_at}
use Rattle.mail_tree.proofs.AfterTree.{after_now}
use Rattle.mail_tree.proofs.FineLaws.{fine_then}
use Rattle.mail_tree.proofs.KeyedFinds.{find-drop_other, find-drop_same}
use Rattle.mail_tree.proofs.KindsOfPuts.{beside_kind}
use Rattle.mail_laws.specs.Laws.{AreCountedBut, AreShown}
use Rattle.mail_laws.proofs.Depths.{AreReached}
use Rattle.mail_laws.proofs.FoundSteps.{Finds}
use Rattle.mail_laws.proofs.Keeping.{KeepsAt}
use Rattle.mail_laws.proofs.LawSteps.{before}
use Rattle.mail_laws.proofs.MessageSteps.{Before, Keeps}
use Rattle.mail_laws.proofs.MirrorPuts.{AreShownBut, all_shown}
use Rattle.mail_searches.specs.Criteria.{Coming}
use Rattle.mail_searches.specs.Moving.{removed_search, removing_search, without_search}
use Rattle.mail_searches.specs.Searches.{criteria_node, find_search, results, search_id}
use Rattle.mail_searches.specs.Searching.{IsOfSearch, Searching, is_own}
use Rattle.mail_searches.specs.Step.{after}
use Rattle.search_lists.specs.Order.{InOrder}
use Rattle.search_lists.proofs.ResultSteps.{if_given}
use Rattle.search_laws.specs.Laws.{RemovesInOrder}
use Rattle.search_lists.proofs.ShowLaws.{tells-same}
use Rattle.search_laws.proofs.AfterFound.{found_then, whole_then}
use Rattle.search_laws.proofs.Attachments.{attachments_still}
use Rattle.search_laws.proofs.Marked.{marks_stay}
use Rattle.search_laws.proofs.OwnStays.{Follows, all_fresh, all_show, searches_stay}
use Rattle.search_laws.proofs.OwnSteps.{IsQuietId, fine_with, if_four, messages_stay, no_root, now_before, place_of}
use Rattle.search_laws.proofs.RemovingFound.{finds_removed, own_gone, own_other, reached_removed}
use Rattle.search_laws.proofs.RemovingRows.{counted_removed, keeps_removed, shown_removed}
use Rattle.search_laws.proofs.RemovingTree.{IsNode, all_gone, fine_removed, goes_elsewhere, if_removed, node_cases, removed_outcome, removing}

module _ (tidy : Bool) (X : Searching) (s : ℕ) (h : InOrder tidy X) (own : is_own X.own s ≡ true) where
  abbrev T : Tree
  T = X.tree

  abbrev own' : List ℕ
  own' = drop_key (λ f. f) s X.own

  abbrev coming : Outcome → Coming
  coming o = record { outcome = o; own = own'; searches = drop_key search_id s X.searches }

  three : s % 32 ≡ 3
  three = h.searches.kinds s own

  w : Before T
  w = before T h.whole

  p : (p : FolderPlace) × (find_place s T.places ≡ Some p)
  p = place_of T.places s (h.searches.placed s own)

  -- What is left of the tree.
  record Gone (o : Outcome) : Type 0 where
    kept : KeepsAt IsQuietId T (without_search T s nothing) o.changed
    finds : Finds (IsOfSearch own') T o.places o.changed
    reached : AreReached o.places
    shown : tidy ≡ true → AreShownBut (λ x. ⊥) o.places (now_at T o.changed)
    counted : tidy ≡ true → AreCountedBut (λ x. ⊥) o.places (now_at T o.changed)
    places_are : o.places ≡ drop_key place_id s T.places

  gone : IfOk (removing_search T s) Gone
  gone =
      let places = drop_key place_id s T.places in
      let root = no_root s three in
      let Shown : Changed → Type 0 = λ D. AreShownBut (λ x. ⊥) places (now_at T D) in
      let Counted : Changed → Type 0 = λ D. AreCountedBut (λ x. ⊥) places (now_at T D) in
      if_removed T s p.0 Gone p.1 (if_four (KeepsAt IsQuietId T (without_search T s nothing)) (Finds (IsOfSearch own') T places) (λ D. tidy ≡ true → Shown D) (λ D. tidy ≡ true → Counted D) (λ D. Gone (removed_outcome T s D)) (removing T s p.0)
      (keeps_removed T s p.0 w three p.1 root) (finds_removed T s p.0 X.own w three p.1 h.found root)
      (if_given (tidy ≡ true) Shown (removing T s p.0) (λ t. shown_removed T s p.0 w three p.1 root (h.mirrors t))) (if_given (tidy ≡ true) Counted (removing T s p.0) (λ t. counted_removed T s p.0 w three p.1 root (h.counts t)))
      (λ D kept finds shown counted. record { kept = kept; finds = finds; reached = reached_removed T s p.0 X.own w three p.1 h.found root; shown = shown; counted = counted; places_are = refl }))

  module _ (o : Outcome) (w' : Keeps T o) (g : Gone o) where
    -- another folder's place is as it was
    place_other : (f : ℕ) → (f ≡ s → ⊥) → find_place f o.places ≡ find_place f T.places
    place_other f other = ap (find_place f) g.places_are ∙ find-drop_other place_id f s T.places other

    -- that of the search is gone
    stands_apart : (f : ℕ) → IsSome (find_place f o.places) → f ≡ s → ⊥
    stands_apart f there same = false≢true (subst IsSome (ap (λ x. find_place x o.places) same ∙ ap (find_place s) g.places_are ∙ find-drop_same place_id 0 s T.places w.ascend) there)

    place_was : (f : ℕ) (q : FolderPlace) → find_place f o.places ≡ Some q → find_place f T.places ≡ Some q
    place_was f q e = sym (place_other f (stands_apart f (ap is_some e))) ∙ e

    -- at other ids than those of folders, of their tables and of the search stands what stood there
    elsewhere : (q : ℕ) → IsQuietId q → (IsNode s q → ⊥) → now_at T o.changed q ≡ object_at T q
    elsewhere q quiet other = g.kept q quiet ∙ goes_elsewhere T s q other ∙ now_before T q

    stood : (r : ℕ) → r % 32 ≡ 3 → IsSome (now_at T o.changed r) → IsSome (object_at T r)
    stood r kind there = elim (node_cases s r) [
      | inl node ↦ absurd (false≢true (subst IsSome (g.kept r ((λ e. omega arith), (λ e. omega arith)) ∙ all_gone T s r node) there))
      | inr other ↦ subst IsSome (elsewhere r ((λ e. omega arith), (λ e. omega arith)) other) there
    ]

    -- the id of a message is none of a search's
    no_message_node : (q : ℕ) → q % 32 ≡ 4 → IsNode s q → ⊥
    no_message_node q four n = elim n [
      | inl e ↦ omega (arith, four, e, three)
      | inr m ↦ elim m [
        | inl e ↦ omega (arith, four, ap (λ x. x % 32) e, beside_kind s 7 (omega arith))
        | inr l ↦ elim l [
          | inl e ↦ omega (arith, four, ap (λ x. x % 32) e, beside_kind s 16 (omega arith))
          | inr e ↦ omega (arith, four, ap (λ x. x % 32) e, beside_kind s 6 (omega arith))
        ]
      ]
    ]

    -- a search that stays is another one
    other_search : (f : ℕ) → is_own own' f ≡ true → f ≡ s → ⊥
    other_search f e same = false≢true (sym (own_gone X.own s h.searches.own_ascend) ∙ ap (is_own own') (sym same) ∙ e)

    stays : (f : ℕ) → is_own own' f ≡ true → is_own X.own f ≡ true
    stays f e = sym (own_other X.own s f (other_search f e)) ∙ e

    -- and its nodes are others
    criteria_other : (f : ℕ) → is_own own' f ≡ true → IsNode s (criteria_node f) → ⊥
    criteria_other f e n =
        let kind = beside_kind f 7 (omega arith) in let kind_f = h.searches.kinds f (stays f e) in
        elim n [
          | inl a ↦ omega (arith, kind, a, three)
          | inr m ↦ elim m [
            | inl a ↦ other_search f e (omega (arith, kind_f, three, a))
            | inr l ↦ elim l [
              | inl a ↦ omega (arith, kind, ap (λ x. x % 32) a, beside_kind s 16 (omega arith))
              | inr a ↦ omega (arith, kind, ap (λ x. x % 32) a, beside_kind s 6 (omega arith))
            ]
          ]
        ]

    list_other : (f : ℕ) → is_own own' f ≡ true → IsNode s (results f) → ⊥
    list_other f e n =
        let kind = beside_kind f 16 (omega arith) in let kind_f = h.searches.kinds f (stays f e) in
        elim n [
          | inl a ↦ omega (arith, kind, a, three)
          | inr m ↦ elim m [
            | inl a ↦ omega (arith, kind, ap (λ x. x % 32) a, beside_kind s 7 (omega arith))
            | inr l ↦ elim l [
              | inl a ↦ other_search f e (omega (arith, kind_f, three, a))
              | inr a ↦ omega (arith, kind, ap (λ x. x % 32) a, beside_kind s 6 (omega arith))
            ]
          ]
        ]

    folder_other : (f : ℕ) → is_own own' f ≡ true → IsNode s f → ⊥
    folder_other f e n =
        let kind_f = h.searches.kinds f (stays f e) in
        elim n [
          | inl a ↦ other_search f e a
          | inr m ↦ elim m [
            | inl a ↦ omega (arith, kind_f, a, beside_kind s 7 (omega arith))
            | inr l ↦ elim l [
              | inl a ↦ omega (arith, kind_f, a, beside_kind s 16 (omega arith))
              | inr a ↦ omega (arith, kind_f, a, beside_kind s 6 (omega arith))
            ]
          ]
        ]

    follows : Follows X s (coming o)
    follows = record {
      own_ascend = drop-ascends (λ f. f) 0 s X.own h.searches.own_ascend;
      ascend = drop-ascends search_id 0 s X.searches h.searches.ascend;
      stays = stays;
      found = λ f e. find-drop_other search_id f s X.searches (other_search f e);
      among = λ f t e.
          let other : f ≡ s → ⊥ = λ same. none-some t (sym (find-drop_same search_id 0 s X.searches h.searches.ascend) ∙ ap (λ x. find_search x (drop_key search_id s X.searches)) (sym same) ∙ e) in
          own_other X.own s f other ∙ h.searches.among f t (sym (find-drop_other search_id f s X.searches other) ∙ e);
      placed = λ f e. subst IsSome (sym (place_other f (other_search f e))) (h.searches.placed f (stays f e));
      criteria = λ f e. let kind = beside_kind f 7 (omega arith) in elsewhere (criteria_node f) ((λ a. omega (arith, a, kind)), (λ a. omega (arith, a, kind))) (criteria_other f e);
      lists = λ f e. let kind = beside_kind f 16 (omega arith) in elsewhere (results f) ((λ a. omega (arith, a, kind)), (λ a. omega (arith, a, kind))) (list_other f e);
      values = λ f c e at. let kind = h.searches.kinds f (stays f e) in tells-same (object_at T f) c (sym (elsewhere f ((λ a. omega (arith, a, kind)), (λ a. omega (arith, a, kind))) (folder_other f e)) ∙ at);
      messages = messages_stay T o w w' (λ q four. elsewhere q ((λ e. omega (arith, e, four)), (λ e. omega (arith, e, four))) (no_message_node q four));
      places = place_other;
    }

    in_order : InOrder tidy (after X (coming o))
    in_order = record {
      whole = whole_then T o w' (λ f q e plain. h.whole.no_stray f q (place_was f q e) plain);
      found = found_then T o stood (IsOfSearch own') g.finds g.reached;
      mirrors = λ t. subst (AreShown o.places) (after_now T o) (all_shown o.places (now_at T o.changed) (g.shown t));
      counts = λ t. subst (AreCountedBut (λ x. ⊥) o.places) (after_now T o) (g.counted t);
      attachments = λ t. attachments_still T (tree.after T o) (λ m. ap (λ at. as_message (at m)) (sym (after_now T o)) ∙ follows.messages m) (h.attachments t);
      lists = λ t. all_show X s (coming o) h.whole h.searches three follows (h.lists t);
      searches = searches_stay X s (coming o) h.whole h.searches three follows;
      fresh = all_fresh X s (coming o) h.whole h.searches three follows h.fresh;
      marked = marks_stay X (coming o) h.marked
          (λ f kind other there. let apart = stands_apart f there in (subst IsSome (place_other f apart) there, sym (own_other X.own s f apart) ∙ other))
          (λ f is. inl (stays f is));
    }

pub removes_in_order : RemovesInOrder
unfolding removed_search
removes_in_order tidy X s h own =
    let T = X.tree in
    fine_then (λ o. InOrder tidy (after X (record { outcome = o; own = drop_key (λ f. f) s X.own; searches = drop_key search_id s X.searches }))) (λ c. InOrder tidy (after X c)) (removing_search T s) _
    (fine_with (Keeps T) (Gone tidy X s h own) _ (removing_search T s) (fine_removed T s (p tidy X s h own).0 (w tidy X s h own) (three tidy X s h own) (p tidy X s h own).1) (gone tidy X s h own) (λ o w' g. in_order tidy X s h own o w' g))
    (λ o k. k)
