-- Rows mirror and counts are right after a search folder went.
use Rattle.std.proofs.Common.{◌≡◌, ◌∙◌, ℕ, ◌%◌, false, List, None, Some, IfOk, ap, arith, refl, subst, sym, inl, inr}
use Rattle.std.proofs.lemmas.Bool.{cases_eq, ne_eqb}
use Rattle.std.proofs.lemmas.Option.{none-some, same_Some}
use Rattle.mapi_values.specs.Keyed.{drop_key}
use Rattle.mail_objects.specs.declared.object.Object.TheVariants.{Context, Message}
use Rattle.mail_tree.specs.declared.places.FolderPlace.{FolderPlace}
use Rattle.mail_tree.specs.Changing.{Changed, drop_shown, hierarchy, nothing, now_at, with_object}
use Rattle.mail_tree.specs.Places.{ROOT, find_place, is_child, place_id}
use Rattle.mail_tree.specs.Tree.{Tree}
use Rattle.mail_tree.proofs.AfterTree.{puts_object}
use Rattle.mail_tree.proofs.KeyedFinds.{find-drop_other, find-drop_same}
use Rattle.mail_tree.proofs.KindsOfPuts.{beside_kind}
use Rattle.mail_tree.proofs.Nearly.{folder_kind, nearly, plain_id}
use Rattle.mail_laws.specs.Laws.{AreCountedBut, Counts, Mirrors}
use Rattle.mail_laws.proofs.CountSteps.{PlainIds, any_drop, counted_fewer, counted_places, counted_put, drop_counts, no_contents, then_counts}
use Rattle.mail_laws.proofs.Keeping.{KeepsAt, drop_keeps, if_weaker, then_settled}
use Rattle.mail_laws.proofs.MessageSteps.{Before}
use Rattle.mail_laws.proofs.MirrorPuts.{AreShownBut, FolderIds, closes, shown_places, shown_put}
use Rattle.mail_laws.proofs.MirrorSteps.{drop_one, then_shows}
use Rattle.mail_searches.specs.Moving.{without_search}
use Rattle.search_laws.proofs.OwnSteps.{IsQuietId, counted_before, no_hierarchy, shown_before}
use Rattle.search_laws.proofs.RemovingTree.{all_gone, goes_by, node_aside, node_free, removing}

-- rows that show what they name do so but for one id
pub shown_less : (e : ℕ) (places : List FolderPlace) (T : Tree) (D : Changed) → AreShownBut (λ x. ⊥) places (now_at T D) → AreShownBut (λ x. x ≡ e) places (now_at T D)
shown_less e places T D k = record { folders = λ f p c is no_root free there. k.folders f p c is no_root (λ x. x) there; messages = λ m M free there. k.messages m M (λ x. x) there }

module _ (T : Tree) (s : ℕ) (p : FolderPlace) (w : Before T) (three : s % 32 ≡ 3) (found : find_place s T.places ≡ Some p) where
  abbrev places' : List FolderPlace
  places' = drop_key place_id s T.places

  abbrev from : ℕ
  from = p.parent.bits

  none : find_place s places' ≡ None
  none = find-drop_same place_id 0 s T.places w.ascend

  was : (g : ℕ) (q : FolderPlace) → find_place g places' ≡ Some q → find_place g T.places ≡ Some q
  was g q e = elim (cases_eq g s) [
    | inl same ↦ absurd (none-some q (sym (ap (λ x. find_place x places') same ∙ none) ∙ e))
    | inr other ↦ sym (find-drop_other place_id g s T.places other) ∙ e
  ]

  folder_ids : FolderIds places'
  folder_ids g q e = folder_kind q.sort g (w.kinds g q (was g q e))

  ids : PlainIds places'
  ids g q e plain = plain_id (nearly (λ x. ⊥) T.places (now_at T nothing) w) g q (was g q e) plain

  two : (s ≡ ROOT → ⊥) → from % 32 ≡ 2
  two no_root = let v = w.parents s p found no_root in plain_id (nearly (λ x. ⊥) T.places (now_at T nothing) w) from v.0 v.1 v.2

  -- at ids of other kinds than those of folders and their tables nothing more changes
  pub keeps_removed : (s ≡ ROOT → ⊥) → IfOk (removing T s p) (KeepsAt IsQuietId T (without_search T s nothing))
  keeps_removed no_root =
      let D = without_search T s nothing in
      then_settled IsQuietId no_hierarchy T places' from D (drop_shown T (hierarchy from) s D) (λ quiet. quiet.0 (two no_root)) (drop_keeps IsQuietId no_hierarchy T (hierarchy from) s D (no_hierarchy from))

  -- rows mirror what they show
  shown_gone : AreShownBut (λ x. ⊥) T.places (now_at T nothing) → AreShownBut (λ x. ⊥) places' (now_at T (without_search T s nothing))
  shown_gone k = goes_by (λ D. AreShownBut (λ x. ⊥) places' (now_at T D)) T s
      (λ D q node k'. let aside = node_aside s q three node in
      shown_put (λ x. ⊥) (λ x. ⊥) places' (now_at T D) (now_at T (with_object q None D)) q None k' (λ x e. e) (puts_object T D q None) aside.2 aside.3 (node_free places' s q folder_ids none node) (λ M e. none-some (Message M) e))
      (shown_places (λ x. ⊥) T.places places' (now_at T nothing) k (λ g q e free. was g q e))

  pub shown_removed : (s ≡ ROOT → ⊥) → Mirrors T → IfOk (removing T s p) (λ D. AreShownBut (λ x. ⊥) places' (now_at T D))
  shown_removed no_root m =
      let D = without_search T s nothing in
      let kind = beside_kind from 13 (omega arith) in
      then_shows T places' folder_ids (drop_shown T (hierarchy from) s D) from (inl (two no_root))
      (if_weaker _ (λ D'. AreShownBut (λ x. ⊥) places' (now_at T D')) (drop_shown T (hierarchy from) s D)
      (drop_one T places' folder_ids D (hierarchy from) s (omega arith) (shown_less s places' T D (shown_gone (shown_before T m))))
      (λ D' k. closes s places' (now_at T D') k.0 (λ q c e other is. absurd (none-some q (sym none ∙ e)))
      (λ M is. absurd (none-some (Message M) (sym (all_gone T s s (inl refl)) ∙ sym (k.1 s (λ e. omega arith)) ∙ is)))))

  -- counts are right
  childless : (f : ℕ) → (f ≡ from → ⊥) → (x : FolderPlace) → find_place s T.places ≡ Some x → is_child f x ≡ false
  childless f other x e =
      let same = same_Some p x (sym found ∙ e) in
      subst (λ (y : FolderPlace). is_child f y ≡ false) same (rw (ne_eqb from f (λ one. other (sym one))) refl)

  counted_gone : AreCountedBut (λ x. ⊥) T.places (now_at T nothing) → AreCountedBut (λ x. x ≡ from) places' (now_at T (without_search T s nothing))
  counted_gone k = goes_by (λ D. AreCountedBut (λ x. x ≡ from) places' (now_at T D)) T s
      (λ D q node k'. let aside = node_aside s q three node in
      counted_put (λ x. x ≡ from) places' (now_at T D) (now_at T (with_object q None D)) q None k' (puts_object T D q None)
      (λ f r c e plain free same is. absurd (none-some (Context c) is))
      (λ f r e plain free same. aside.3 (ap (λ x. x % 32) same ∙ beside_kind f 14 (omega arith)))
      (λ f r t e plain free is row four. aside.1 four))
      (counted_places (λ x. x ≡ from) T.places places' (now_at T nothing) (counted_fewer (λ x. ⊥) (λ x. x ≡ from) T.places (now_at T nothing) (λ x e. absurd e) k)
      (λ f q e plain free. (q, was f q e, plain, any_drop place_id (is_child f) s T.places (childless f free))))

  pub counted_removed : (s ≡ ROOT → ⊥) → Counts T → IfOk (removing T s p) (λ D. AreCountedBut (λ x. ⊥) places' (now_at T D))
  counted_removed no_root k =
      let D = without_search T s nothing in
      let E : ℕ → Type 0 = λ x. x ≡ from in
      let kind = beside_kind from 13 (omega arith) in
      if_weaker (λ D'. AreCountedBut (λ x. E x × (x ≡ from → ⊥)) places' (now_at T D')) (λ D'. AreCountedBut (λ x. ⊥) places' (now_at T D')) (removing T s p)
      (then_counts T places' ids E (drop_shown T (hierarchy from) s D) from (two no_root) (drop_counts T places' ids E D (hierarchy from) s (omega arith) (no_contents T places' ids E from) (counted_gone (counted_before T k))))
      (λ D' k'. counted_fewer (λ x. E x × (x ≡ from → ⊥)) (λ x. ⊥) places' (now_at T D') (λ x e. e.1 e.0) k')
