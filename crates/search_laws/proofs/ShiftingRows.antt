-- Rows mirror and counts are right after a search folder moved.
use Rattle.std.proofs.Common.{◌≡◌, ◌∙◌, ◌⊎◌, ℕ, ◌%◌, ◌<◌, true, false, List, Some, IfOk, ap, arith, refl, sym, inl, inr}
use Rattle.std.proofs.lemmas.Bool.{cases_eq, ne_eqb}
use Rattle.std.proofs.lemmas.Option.{same_Some}
use Rattle.mail_objects.specs.Forms.{Ctx}
use Rattle.mail_objects.specs.declared.object.Object.TheVariants.{Context}
use Rattle.mail_tree.specs.declared.places.FolderPlace.{FolderPlace}
use Rattle.mail_tree.specs.Changing.{Changed, ◌>>=◌, add_shown, drop_shown, hierarchy, nothing, now_at}
use Rattle.mail_tree.specs.Places.{ROOT, find_place, is_child, is_plain, place_id}
use Rattle.mail_tree.specs.Settling.{settled}
use Rattle.mail_tree.specs.Tree.{Tree}
use Rattle.mail_tree.proofs.AfterTree.{puts_object}
use Rattle.mail_tree.proofs.KindsOfPuts.{beside_kind}
use Rattle.mail_tree.proofs.Nearly.{folder_kind, nearly, plain_id}
use Rattle.mail_laws.specs.Laws.{AreCountedBut, Counts, Mirrors}
use Rattle.mail_laws.proofs.CountSteps.{PlainIds, add_counts, any_put, counted_fewer, counted_places, counted_put, drop_counts, no_contents, then_counts}
use Rattle.mail_laws.proofs.Keeping.{KeepsAt, add_keeps, drop_keeps, if_then, if_weaker, then_settled}
use Rattle.mail_laws.proofs.MessageSteps.{Before}
use Rattle.mail_laws.proofs.MirrorPuts.{AreShownBut, FolderIds, shown_places, shown_put}
use Rattle.mail_laws.proofs.MirrorSteps.{add_folder, drop_one, then_shows}
use Rattle.mail_searches.specs.Criteria.{search_place}
use Rattle.search_laws.proofs.ShiftingTree.{in_parent, plain_not_here, shifted, shifted_other, shifting, with_parent}
use Rattle.search_laws.proofs.OwnSteps.{IsQuietId, counted_before, no_hierarchy, shown_before}

-- the id of a search folder is none of a table of folders
apart_table : (s g : ℕ) → s % 32 ≡ 3 → s ≡ hierarchy g → ⊥
apart_table s g three e = omega (arith, three, e, beside_kind g 13 (omega arith))

module _ (T : Tree) (s to : ℕ) (p r : FolderPlace) (c : Ctx) (w : Before T) (three : s % 32 ≡ 3) (found : find_place s T.places ≡ Some p) (at_to : find_place to T.places ≡ Some r) (plain_to : is_plain r ≡ true)
    (no_root : s ≡ ROOT → ⊥) where
  abbrev places : List FolderPlace
  places = shifted T.places s to

  abbrev from : ℕ
  from = p.parent.bits

  abbrev D : Changed
  D = with_parent s to c

  was : (g : ℕ) (q : FolderPlace) → (g ≡ s → ⊥) → find_place g places ≡ Some q → find_place g T.places ≡ Some q
  was g q other e = sym (shifted_other T.places s to g other) ∙ e

  folder_ids : FolderIds places
  folder_ids g q e = elim (cases_eq g s) [
    | inl same ↦ inr (ap (λ x. x % 32) same ∙ three)
    | inr other ↦ folder_kind q.sort g (w.kinds g q (was g q other e))
  ]

  two_of : (g : ℕ) (q : FolderPlace) → find_place g T.places ≡ Some q → is_plain q ≡ true → g % 32 ≡ 2
  two_of g q e plain = plain_id (nearly (λ x. ⊥) T.places (now_at T nothing) w) g q e plain

  ids : PlainIds places
  ids g q e plain = two_of g q (was g q (plain_not_here T.places s to g q e plain) e) plain

  two_from : from % 32 ≡ 2
  two_from = let v = w.parents s p found no_root in two_of from v.0 v.1 v.2

  two_to : to % 32 ≡ 2
  two_to = two_of to r at_to plain_to

  high : (g : ℕ) → 4 < hierarchy g % 32
  high g = omega (arith, beside_kind g 13 (omega arith))

  -- at ids of other kinds than those of folders and their tables nothing more changes
  pub keeps_shifted : IfOk (shifting T s c from to) (KeepsAt IsQuietId T D)
  keeps_shifted =
      if_then (KeepsAt IsQuietId T D) (KeepsAt IsQuietId T D) (drop_shown T (hierarchy from) s D) _ (drop_keeps IsQuietId no_hierarchy T (hierarchy from) s D (no_hierarchy from)) (λ D1 k.
      let a = add_shown T (hierarchy to) s c.props D1 in
      if_weaker (KeepsAt IsQuietId T D1) (KeepsAt IsQuietId T D) (a >>= settled T places from >>= settled T places to)
      (then_settled IsQuietId no_hierarchy T places to D1 (a >>= settled T places from) (λ quiet. quiet.0 two_to)
      (then_settled IsQuietId no_hierarchy T places from D1 a (λ quiet. quiet.0 two_from) (add_keeps IsQuietId no_hierarchy T (hierarchy to) s c.props D1 (no_hierarchy to))))
      (λ D2 k' q quiet. k' q quiet ∙ k q quiet))

  -- rows mirror what they show
  shown_opens : AreShownBut (λ x. ⊥) T.places (now_at T nothing) → AreShownBut (λ x. x ≡ s) places (now_at T D)
  shown_opens k = shown_places (λ x. x ≡ s) T.places places (now_at T D)
      (shown_put (λ x. ⊥) (λ x. x ≡ s) T.places (now_at T nothing) (now_at T D) s (Some (Context (in_parent to c))) k (λ x e. absurd e) (puts_object T nothing s (Some (Context (in_parent to c))))
      (λ e. omega (arith, e, three)) (λ e. omega (arith, e, three)) (λ q e. refl) (λ M e. cc))
      (λ g q e free. was g q free e)

  pub shown_shifted : Mirrors T → IfOk (shifting T s c from to) (λ D'. AreShownBut (λ x. ⊥) places (now_at T D'))
  shown_shifted m =
      if_then _ (λ D'. AreShownBut (λ x. ⊥) places (now_at T D')) (drop_shown T (hierarchy from) s D) _ (drop_one T places folder_ids D (hierarchy from) s (high from) (shown_opens (shown_before T m))) (λ D1 d.
      let a = add_shown T (hierarchy to) s c.props D1 in
      then_shows T places folder_ids (a >>= settled T places from) to (inl two_to)
      (then_shows T places folder_ids a from (inl two_from)
      (add_folder T places folder_ids D1 s (in_parent to c) (inr three) d.0 (d.1 s (apart_table s from three) ∙ (puts_object T nothing s (Some (Context (in_parent to c)))).here))))

  -- counts are right
  abbrev Open : ℕ → Type 0
  Open x = (x ≡ from) ⊎ (x ≡ to)

  no_child : (f parent : ℕ) (q : FolderPlace) → q.parent.bits ≡ parent → (f ≡ parent → ⊥) → is_child f q ≡ false
  no_child f parent q up other = rw (ne_eqb q.parent.bits f (λ e. other (sym e ∙ up))) refl

  counted_opens : AreCountedBut (λ x. ⊥) T.places (now_at T nothing) → AreCountedBut Open places (now_at T D)
  counted_opens k = counted_put Open places (now_at T nothing) (now_at T D) s (Some (Context (in_parent to c)))
      (counted_places Open T.places places (now_at T nothing) (counted_fewer (λ x. ⊥) Open T.places (now_at T nothing) (λ x e. absurd e) k)
      (λ f q e plain free. (
        q,
        was f q (plain_not_here T.places s to f q e plain) e,
        plain,
        any_put place_id (is_child f) (search_place s to) T.places (no_child f to (search_place s to) refl (λ e. free (inr e)))
            (λ x e'. no_child f from x (ap (λ (y : FolderPlace). y.parent.bits) (same_Some x p (sym e' ∙ found))) (λ e. free (inl e))),
      )))
      (puts_object T nothing s (Some (Context (in_parent to c))))
      (λ f q c' e plain free same is. absurd (omega (arith, three, same, ids f q e plain)))
      (λ f q e plain free same. omega (arith, three, same, beside_kind f 14 (omega arith)))
      (λ f q t e plain free is row four. omega (arith, three, four))

  pub counted_shifted : Counts T → IfOk (shifting T s c from to) (λ D'. AreCountedBut (λ x. ⊥) places (now_at T D'))
  counted_shifted k =
      let Half : ℕ → Type 0 = λ x. Open x × (x ≡ from → ⊥) in
      if_then (λ D'. AreCountedBut Open places (now_at T D')) (λ D'. AreCountedBut (λ x. ⊥) places (now_at T D')) (drop_shown T (hierarchy from) s D) _
      (drop_counts T places ids Open D (hierarchy from) s (high from) (no_contents T places ids Open from) (counted_opens (counted_before T k))) (λ D1 k1.
      let a = add_shown T (hierarchy to) s c.props D1 in
      if_weaker (λ D'. AreCountedBut (λ x. Half x × (x ≡ to → ⊥)) places (now_at T D')) (λ D'. AreCountedBut (λ x. ⊥) places (now_at T D')) (a >>= settled T places from >>= settled T places to)
      (then_counts T places ids Half (a >>= settled T places from) to two_to
      (then_counts T places ids Open a from two_from (add_counts T places ids Open D1 (hierarchy to) s c.props (high to) (no_contents T places ids Open to) k1)))
      (λ D2 k2. counted_fewer (λ x. Half x × (x ≡ to → ⊥)) (λ x. ⊥) places (now_at T D2) (λ x e. elim e.0.0 [ inl a ↦ e.0.1 a | inr b ↦ e.1 b ]) k2))
