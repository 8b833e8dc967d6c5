-- A command that changes an own search folder's values, its place and the tables that list it leaves all in order.
use Rattle.std.proofs.Common.{◌≡◌, ◌∙◌, ℕ, ◌%◌, Bool, true, Some, IsSome, ap, arith, refl, subst, sym, inl, inr}
use Rattle.std.proofs.lemmas.Bool.{cases_eq, false≢true}
use Rattle.mail_objects.specs.Forms.{Ctx}
use Rattle.mail_objects.specs.declared.object.Object.TheVariants.{Context}
use Rattle.mail_tree.specs.declared.places.FolderPlace.{FolderPlace}
use Rattle.mail_tree.specs.Changing.{as_message, hierarchy, nothing, now_at}
use Rattle.mail_tree.specs.Folders.{Outcome}
use Rattle.mail_tree.specs.Found.{IsFoundBeside}
use Rattle.mail_tree.specs.Places.{find_place, is_plain}
use Rattle.mail_tree.specs.Step as tree
use Rattle.mail_tree.specs.Tree.{Tree, object_at}
use Rattle.mail_tree.proofs.AfterTree.{after_now}
use Rattle.mail_tree.proofs.KindsOfPuts.{beside_kind}
use Rattle.mail_laws.specs.Laws.{AreCountedBut, AreShown}
use Rattle.mail_laws.proofs.Depths.{AreReached}
use Rattle.mail_laws.proofs.FoundSteps.{Finds}
use Rattle.mail_laws.proofs.LawSteps.{before}
use Rattle.mail_laws.proofs.MessageSteps.{Before, Keeps}
use Rattle.mail_laws.proofs.MirrorPuts.{AreShownBut, all_shown}
use Rattle.mail_searches.specs.Criteria.{Coming}
use Rattle.mail_searches.specs.Searches.{criteria_node, results}
use Rattle.mail_searches.specs.Searching.{IsOfSearch, Searching, is_own}
use Rattle.mail_searches.specs.Step.{after}
use Rattle.search_lists.specs.Order.{InOrder}
use Rattle.search_lists.proofs.ShowLaws.{TellsAs, tells-same}
use Rattle.search_laws.proofs.AfterFound.{found_then, whole_then}
use Rattle.search_laws.proofs.Attachments.{attachments_still}
use Rattle.search_laws.proofs.Marked.{marks_still}
use Rattle.search_laws.proofs.OwnStays.{Follows, all_fresh, all_show, searches_stay}
use Rattle.search_laws.proofs.OwnSteps.{IsQuietId, messages_stay, now_before, place_of}
use Rattle.search_laws.proofs.PlainPlaces.{same_context}

-- an opening finds the tree before the command
pub finds_before : (beside : ℕ → Type 0) (T : Tree) → Before T → IsFoundBeside beside T → Finds beside T T.places nothing
finds_before beside T w h = record {
  listed = λ f p t r e plain is row sort named. h.listed f p t r sort e plain (sym (now_before T (hierarchy f)) ∙ is) row named;
  told = λ f p c e plain no_root is. let d = w.contexts f p e in ap (λ (x : Ctx). x.parent) (sym (same_context d.0 c (sym d.1 ∙ is))) ∙ d.2 no_root;
  owned = λ q o e. h.owned q o (sym (now_before T q) ∙ e);
}

-- What a command that names an own search folder left, which has a place still.
pub record Shifts (tidy : Bool) (X : Searching) (s : ℕ) (o : Outcome) : Type 0 where
  pub kept : (q : ℕ) → IsQuietId q → (q ≡ s → ⊥) → now_at X.tree o.changed q ≡ object_at X.tree q
  pub values : (c : Ctx) → now_at X.tree o.changed s ≡ Some (Context c) → TellsAs (object_at X.tree s) c
  pub here : IsSome (find_place s o.places)
  pub others : (g : ℕ) → (g ≡ s → ⊥) → find_place g o.places ≡ find_place g X.tree.places
  pub foreign : (g : ℕ) (q : FolderPlace) → find_place g o.places ≡ Some q → is_plain q ≡ true → g ≡ s → ⊥
  pub finds : Finds (IsOfSearch X.own) X.tree o.places o.changed
  pub reached : AreReached o.places
  pub shown : tidy ≡ true → AreShownBut (λ x. ⊥) o.places (now_at X.tree o.changed)
  pub counted : tidy ≡ true → AreCountedBut (λ x. ⊥) o.places (now_at X.tree o.changed)

-- what such a command comes to
abbrev pub same_searches : Searching → Outcome → Coming
same_searches X o = record { outcome = o; own = X.own; searches = X.searches }

module _ (tidy : Bool) (X : Searching) (s : ℕ) (h : InOrder tidy X) (own : is_own X.own s ≡ true) (o : Outcome) (w' : Keeps X.tree o) (k : Shifts tidy X s o) where
  three : s % 32 ≡ 3
  three = h.searches.kinds s own

  -- what stands at the ids of search folders stood there
  stood : (r : ℕ) → r % 32 ≡ 3 → IsSome (now_at X.tree o.changed r) → IsSome (object_at X.tree r)
  stood r kind is = elim (cases_eq r s) [
    | inl same ↦
        let p = place_of X.tree.places s (h.searches.placed s own) in
        subst IsSome (sym (ap (object_at X.tree) same ∙ (h.whole.objects.contexts s p.0 p.1).1)) refl
    | inr other ↦ subst IsSome (k.kept r ((λ e. omega arith), (λ e. omega arith)) other) is
  ]

  follows : Follows X s (same_searches X o)
  follows = record {
    own_ascend = h.searches.own_ascend;
    ascend = h.searches.ascend;
    stays = λ f e. e;
    found = λ f e. refl;
    among = h.searches.among;
    placed = λ f e. elim (cases_eq f s) [
      | inl same ↦ subst IsSome (ap (λ x. find_place x o.places) (sym same)) k.here
      | inr other ↦ subst IsSome (sym (k.others f other)) (h.searches.placed f e)
    ];
    criteria = λ f e. let kind = beside_kind f 7 (omega arith) in k.kept (criteria_node f) ((λ a. omega (arith, a, kind)), (λ a. omega (arith, a, kind))) (λ a. omega (arith, a, kind, three));
    lists = λ f e. let kind = beside_kind f 16 (omega arith) in k.kept (results f) ((λ a. omega (arith, a, kind)), (λ a. omega (arith, a, kind))) (λ a. omega (arith, a, kind, three));
    values = λ f c e at. elim (cases_eq f s) [
      | inl same ↦ subst (λ x. TellsAs (object_at X.tree x) c) (sym same) (k.values c (ap (now_at X.tree o.changed) (sym same) ∙ at))
      | inr other ↦ let kind = h.searches.kinds f e in tells-same (object_at X.tree f) c (sym (k.kept f ((λ a. omega (arith, a, kind)), (λ a. omega (arith, a, kind))) other) ∙ at)
    ];
    messages = messages_stay X.tree o (before X.tree h.whole) w' (λ q four. k.kept q ((λ e. omega (arith, e, four)), (λ e. omega (arith, e, four))) (λ e. omega (arith, e, four, three)));
    places = k.others;
  }

  pub in_order : InOrder tidy (after X (same_searches X o))
  in_order = record {
    whole = whole_then X.tree o w' (λ f q e plain. h.whole.no_stray f q (sym (k.others f (k.foreign f q e plain)) ∙ e) plain);
    found = found_then X.tree o stood (IsOfSearch X.own) k.finds k.reached;
    mirrors = λ t. subst (AreShown o.places) (after_now X.tree o) (all_shown o.places (now_at X.tree o.changed) (k.shown t));
    counts = λ t. subst (AreCountedBut (λ x. ⊥) o.places) (after_now X.tree o) (k.counted t);
    attachments = λ t. attachments_still X.tree (tree.after X.tree o) (λ m. ap (λ at. as_message (at m)) (sym (after_now X.tree o)) ∙ follows.messages m) (h.attachments t);
    lists = λ t. all_show X s (same_searches X o) h.whole h.searches three follows (h.lists t);
    searches = searches_stay X s (same_searches X o) h.whole h.searches three follows;
    fresh = all_fresh X s (same_searches X o) h.whole h.searches three follows h.fresh;
    marked = marks_still X o X.searches h.marked (λ f kind other. k.others f (λ same. false≢true (sym other ∙ ap (is_own X.own) same ∙ own)));
  }
