-- `mvdir` of an own search folder leaves all in order.
use Rattle.std.proofs.Common.{◌≡◌, ◌∙◌, ℕ, ◌%◌, Bool, true, false, Some, IsSome, IfOk, arith, refl, subst, sym}
use Rattle.command_text.specs.declared.reply.LastLine.TheVariants.{Done}
use Rattle.mail_objects.specs.Forms.{Ctx}
use Rattle.mail_objects.specs.declared.object.Object.TheVariants.{Context}
use Rattle.mail_tree.specs.declared.places.FolderPlace.{FolderPlace}
use Rattle.mail_tree.specs.Changing.{Changed, nothing, now_at}
use Rattle.mail_tree.specs.Folders.{replied, unchanged}
use Rattle.mail_tree.specs.Places.{find_place, is_plain, is_within, moves_deep}
use Rattle.mail_tree.specs.Tree.{Tree, object_at}
use Rattle.mail_tree.specs.Whole.{AreWhole, Fine}
use Rattle.mail_tree.proofs.AfterTree.{puts_object}
use Rattle.mail_tree.proofs.FineLaws.{fine_then}
use Rattle.mail_tree.proofs.Nearly.{nearly}
use Rattle.mail_laws.specs.Laws.{AreCountedBut}
use Rattle.mail_laws.proofs.FoundSteps.{Finds}
use Rattle.mail_laws.proofs.Keeping.{KeepsAt}
use Rattle.mail_laws.proofs.LawSteps.{before}
use Rattle.mail_laws.proofs.MessageSteps.{Before}
use Rattle.mail_laws.proofs.MirrorPuts.{AreShownBut}
use Rattle.mail_searches.specs.Criteria.{staying}
use Rattle.mail_searches.specs.Moving.{moved_search}
use Rattle.mail_searches.specs.Searching.{IsOfSearch, Searching, is_own}
use Rattle.mail_searches.specs.Step.{after}
use Rattle.search_lists.specs.Order.{InOrder}
use Rattle.search_lists.proofs.ResultSteps.{if_given}
use Rattle.search_lists.proofs.ShowLaws.{tells-now-as, tells-same}
use Rattle.search_laws.specs.Laws.{MovesInOrder}
use Rattle.search_laws.proofs.OwnShift.{Shifts, finds_before, in_order, same_searches}
use Rattle.search_laws.proofs.OwnSteps.{IsQuietId, counted_before, shown_before, fine_with, if_four, no_root, now_before, place_of}
use Rattle.search_laws.proofs.ShiftingFound.{finds_shifted, reached_shifted}
use Rattle.search_laws.proofs.ShiftingRows.{counted_shifted, keeps_shifted, shown_shifted}
use Rattle.search_laws.proofs.ShiftingTree.{fine_shifted, fine_shifting, in_parent, plain_not_here, shifted, shifted_here, shifted_other, shifted_outcome, shifting, with_parent}
use Rattle.search_laws.proofs.PlainPlaces.{plain_other}

module _ (tidy : Bool) (X : Searching) (s : ℕ) (h : InOrder tidy X) (own : is_own X.own s ≡ true) where
  abbrev T : Tree
  T = X.tree

  three : s % 32 ≡ 3
  three = h.searches.kinds s own

  w : Before T
  w = before T h.whole

  p : (p : FolderPlace) × (find_place s T.places ≡ Some p)
  p = place_of T.places s (h.searches.placed s own)

  -- nothing changes where it stands there
  stays : Shifts tidy X s (unchanged T (replied Done))
  stays = record {
    kept = λ q quiet other. now_before T q;
    values = λ c at. tells-same (object_at T s) c (sym (now_before T s) ∙ at);
    here = h.searches.placed s own;
    others = λ g other. refl;
    foreign = λ g q e plain. plain_other (nearly (λ x. ⊥) T.places (now_at T nothing) w) s three g q e plain;
    finds = finds_before (IsOfSearch X.own) T w h.found;
    reached = h.found.reached;
    shown = λ t. shown_before T (h.mirrors t);
    counted = λ t. counted_before T (h.counts t);
  }

  module _ (to : ℕ) (r : FolderPlace) (at_to : find_place to T.places ≡ Some r) (plain_to : is_plain r ≡ true) (out : is_within T.places s to ≡ false) (deep : moves_deep T.places s to ≡ false) where
    abbrev c : Ctx
    c = (w.contexts s p.0 p.1).0

    moves : IfOk (shifting T s c p.0.parent.bits to) (λ D. Shifts tidy X s (shifted_outcome T s to D))
    moves =
        let places = shifted T.places s to in
        let root = no_root s three in
        let Shown : Changed → Type 0 = λ D. AreShownBut (λ x. ⊥) places (now_at T D) in
        let Counted : Changed → Type 0 = λ D. AreCountedBut (λ x. ⊥) places (now_at T D) in
        if_four (KeepsAt IsQuietId T (with_parent s to c)) (Finds (IsOfSearch X.own) T places) (λ D. tidy ≡ true → Shown D) (λ D. tidy ≡ true → Counted D) (λ D. Shifts tidy X s (shifted_outcome T s to D))
        (shifting T s c p.0.parent.bits to)
        (keeps_shifted T s to p.0 r c w three p.1 at_to plain_to root) (finds_shifted T s to p.0 r (IsOfSearch X.own) w three p.1 at_to plain_to root h.found c)
        (if_given (tidy ≡ true) Shown (shifting T s c p.0.parent.bits to) (λ t. shown_shifted T s to p.0 r c w three p.1 at_to plain_to root (h.mirrors t)))
        (if_given (tidy ≡ true) Counted (shifting T s c p.0.parent.bits to) (λ t. counted_shifted T s to p.0 r c w three p.1 at_to plain_to root (h.counts t)))
        (λ D kept finds shown counted. record {
          kept = λ q quiet other. kept q quiet ∙ (puts_object T nothing s (Some (Context (in_parent to c)))).others q other ∙ now_before T q;
          values = λ x at.
              let stays : now_at T D s ≡ Some (Context (in_parent to c)) = kept s ((λ e. omega (arith, e, three)), (λ e. omega (arith, e, three))) ∙ (puts_object T nothing s (Some (Context (in_parent to c)))).here in
              tells-now-as (object_at T s) (now_at T D s) c (in_parent to c) x (sym (now_before T s) ∙ (w.contexts s p.0 p.1).1) (λ ms told. told) stays at;
          here = subst IsSome (sym (shifted_here T.places s to)) refl;
          others = λ g other. shifted_other T.places s to g other;
          foreign = λ g q e plain. plain_not_here T.places s to g q e plain;
          finds = finds;
          reached = reached_shifted T s to p.0 r (IsOfSearch X.own) w three p.1 at_to plain_to root h.found out deep;
          shown = shown;
          counted = counted;
        })

    moves_fine : Fine (shifting T s c p.0.parent.bits to) (λ D. InOrder tidy (after X (same_searches X (shifted_outcome T s to D))))
    moves_fine = fine_with (λ D. AreWhole (shifted T.places s to) (now_at T D)) (λ D. Shifts tidy X s (shifted_outcome T s to D)) (λ D. InOrder tidy (after X (same_searches X (shifted_outcome T s to D)))) (shifting T s c p.0.parent.bits to)
        (fine_shifting T s to p.0 r w three p.1 at_to plain_to (no_root s three)) moves (λ D w' k. in_order tidy X s h own (shifted_outcome T s to D) w' k)

pub moves_in_order : MovesInOrder
moves_in_order tidy X s to h own =
    fine_then (λ o. InOrder tidy (after X (same_searches X o))) (λ c. InOrder tidy (after X c)) (moved_search X.tree s to) (staying X)
    (fine_shifted X.tree s to (p tidy X s h own).0 (λ o. InOrder tidy (after X (same_searches X o))) (w tidy X s h own) (three tidy X s h own) (p tidy X s h own).1
    (in_order tidy X s h own (unchanged X.tree (replied Done)) (w tidy X s h own) (stays tidy X s h own))
    (λ r at_to plain_to other out deep. moves_fine tidy X s h own to r at_to plain_to out deep))
    (λ o k. k)
