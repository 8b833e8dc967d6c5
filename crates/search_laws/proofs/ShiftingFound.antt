-- An opening finds the tree in which a search folder moved.
use Rattle.std.proofs.Common.{◌≡◌, ◌∙◌, ℕ, zero, suc, ◌%◌, true, false, List, Some, IsSome, IfOk, ap, arith, refl, subst, sym, inl, inr}
use Rattle.std.proofs.lemmas.Bool.{cases_Bool, cases_eq, eq-eqb, ne_eqb}
use Rattle.std.proofs.lemmas.Option.{none-some, same_Some}
use Rattle.mapi_values.specs.Keyed.{put_key}
use Rattle.mail_objects.specs.Forms.{Ctx}
use Rattle.mail_objects.specs.declared.object.Object.{Object}
use Rattle.mail_objects.specs.declared.object.Object.TheVariants.{Context, Table, Message, Bare}
use Rattle.mail_tree.specs.declared.places.FolderPlace.{FolderPlace}
use Rattle.mail_tree.specs.declared.places.Sort.{Sort}
use Rattle.mail_tree.specs.declared.places.Sort.TheVariants.{Foreign}
use Rattle.mail_tree.specs.Changing.{Changed, ◌>>=◌, add_shown, drop_shown, hierarchy, nothing, now_at}
use Rattle.mail_tree.specs.Folders.{nid, place}
use Rattle.mail_tree.specs.Found.{BelongsAt, IsFoundBeside, StandsBelow, named_sort}
use Rattle.mail_tree.specs.Ids.{is_taken}
use Rattle.mail_tree.specs.Places.{ROOT, find_place, is_plain, is_within, moves_deep, place_id}
use Rattle.mail_tree.specs.Settling.{settled}
use Rattle.mail_tree.specs.Tree.{Tree, object_at}
use Rattle.mail_tree.proofs.AfterTree.{puts_object}
use Rattle.mail_tree.proofs.KeyedFinds.{find-put_other, find-put_same}
use Rattle.mail_tree.proofs.KindsOfPuts.{beside_kind}
use Rattle.mail_tree.proofs.Nearly.{nearly}
use Rattle.mail_laws.proofs.Depths.{AreReached, moved_reached}
use Rattle.mail_laws.proofs.FoundSteps.{Finds, Names, StandRightly, finds_add, owned_put, some_belongs, then_finds}
use Rattle.mail_laws.proofs.Keeping.{if_then}
use Rattle.mail_laws.proofs.MessageSteps.{Before}
use Rattle.mail_searches.specs.Criteria.{search_place}
use Rattle.search_laws.proofs.DroppedRow.{drops, from_then, ids_then}
use Rattle.search_laws.proofs.OwnSteps.{now_before}
use Rattle.search_laws.proofs.PlainPlaces.{plain_other, plain_ids}
use Rattle.search_laws.proofs.ShiftingTree.{in_parent, plain_not_here, shifted, shifted_here, shifted_other, shifting, with_parent}

-- a row of a search folder's id names a search folder, if anything
pub foreign_named : (T : Tree) (s : ℕ) (sort : Sort) → s % 32 ≡ 3 → named_sort T s ≡ Some sort → Foreign ≡ sort
foreign_named T s sort three named =
    let two = ne_eqb (s % 32) 2 (λ e. omega (arith, e, three)) in
    let is = eq-eqb (s % 32) 3 three in
    elim (cases_Bool (is_taken T s)) [
      | inl t ↦ same_Some Foreign sort (rw (two, is, t) at named)
      | inr t ↦ absurd (none-some sort (rw (two, is, t) at named))
    ]

-- folders stand as far below the root where each has the same parent
stands_same : (places places' : List FolderPlace) → ((g : ℕ) (p : FolderPlace) → find_place g places ≡ Some p → (q : FolderPlace) × (find_place g places' ≡ Some q) × (q.parent.bits ≡ p.parent.bits))
    → (n g : ℕ) → StandsBelow places n g → StandsBelow places' n g
stands_same places places' same zero g b = b
stands_same places places' same (suc n) g b =
    let q = same g b.1.0 b.1.1 in
    (b.0, (q.0, q.1, subst (StandsBelow places' n) (sym q.2) (stands_same places places' same n b.1.0.parent.bits b.1.2)))

module _ (T : Tree) (s to : ℕ) (p r : FolderPlace) (beside : ℕ → Type 0) (w : Before T) (three : s % 32 ≡ 3) (found : find_place s T.places ≡ Some p) (at_to : find_place to T.places ≡ Some r) (plain_to : is_plain r ≡ true)
    (no_root : s ≡ ROOT → ⊥) (h : IsFoundBeside beside T) where
  abbrev places : List FolderPlace
  places = shifted T.places s to

  -- the folder stands at most 64 folders below the root where no plain one in its place would stand deeper
  pub reached_shifted : is_within T.places s to ≡ false → moves_deep T.places s to ≡ false → AreReached places
  reached_shifted out deep g q e =
      let moved = put_key place_id (place s to) T.places in
      let n : AreReached moved = moved_reached T.places s to p r h.reached found no_root at_to out deep in
      let there : (x : FolderPlace) × (find_place g moved ≡ Some x) = elim (cases_eq g s) [
        | inl same ↦ (place s to, ap (λ x. find_place x moved) same ∙ find-put_same place_id (place s to) T.places)
        | inr other ↦ (q, find-put_other place_id g (place s to) T.places other ∙ sym (shifted_other T.places s to g other) ∙ e)
      ] in
      let k = n g there.0 there.1 in (
        k.0,
        k.1,
        stands_same moved places (λ x y e'. elim (cases_eq x s) [
          | inl same ↦
              let one = same_Some (place s to) y (sym (ap (λ z. find_place z moved) same ∙ find-put_same place_id (place s to) T.places) ∙ e') in
              (search_place s to, ap (λ z. find_place z places) same ∙ shifted_here T.places s to, ap (λ (z : FolderPlace). z.parent.bits) one)
          | inr other ↦ (y, shifted_other T.places s to x other ∙ sym (find-put_other place_id x (place s to) T.places other) ∙ e', refl)
        ]) k.0 g k.2,
      )

  placed_more : (g : ℕ) → IsSome (find_place g T.places) → IsSome (find_place g places)
  placed_more g is = elim (cases_eq g s) [
    | inl same ↦ subst IsSome (sym (ap (λ x. find_place x places) same ∙ shifted_here T.places s to)) refl
    | inr other ↦ subst IsSome (sym (shifted_other T.places s to g other)) is
  ]

  -- an object that belonged where it stands does so still
  belongs_more : (q : ℕ) (o : Object) → BelongsAt T.places q o → BelongsAt places q o
  belongs_more q (Context c) b = elim b [ inl a ↦ inl a | inr x ↦ inr (elim x [ inl a ↦ inl a | inr is ↦ inr (placed_more q is) ]) ]
  belongs_more q (Table t) b = (b.0, (b.1.0, shifted_other T.places s to b.0 (plain_other (nearly (λ x. ⊥) T.places (now_at T nothing) w) s three b.0 b.1.0 b.1.1 b.1.2) ∙ b.1.1, b.1.2), b.2)
  belongs_more q (Message m) b = tt
  belongs_more q (Bare parent) b = b

  module _ (c : Ctx) where
    abbrev D : Changed
    D = with_parent s to c

    owned_more : StandRightly beside places (now_at T D)
    owned_more = owned_put beside places (now_at T nothing) (now_at T D) s (Some (Context (in_parent to c))) (puts_object T nothing s (Some (Context (in_parent to c))))
        (some_belongs beside places s (Context (in_parent to c)) (inr (inr (inr (subst IsSome (sym (shifted_here T.places s to)) refl)))))
        (λ q o e. elim (h.owned q o (sym (now_before T q) ∙ e)) [ inl b ↦ inl b | inr b ↦ inr (belongs_more q o b) ])

    elsewhere : (q : ℕ) → (q ≡ s → ⊥) → now_at T D q ≡ object_at T q
    elsewhere q other = (puts_object T nothing s (Some (Context (in_parent to c)))).others q other ∙ now_before T q

    tables : (g : ℕ) → now_at T D (hierarchy g) ≡ object_at T (hierarchy g)
    tables g = elsewhere (hierarchy g) (λ e. omega (arith, three, e, beside_kind g 13 (omega arith)))

    values : (g : ℕ) → g % 32 ≡ 2 → now_at T D g ≡ object_at T g
    values g two = elsewhere g (λ e. omega (arith, three, e, two))

    -- its row in the other folder names it
    names_shifted : Names T places to s
    names_shifted sort named =
        let same = foreign_named T s sort three named in
        (no_root, shifted_here T.places s to ∙ ap (λ (x : Sort). Some (record { nid = nid s; parent = nid to; sort = x })) same)

    pub finds_shifted : IfOk (shifting T s c p.parent.bits to) (Finds beside T places)
    finds_shifted =
        let from = p.parent.bits in
        let others : (g : ℕ) → (g ≡ s → ⊥) → find_place g places ≡ find_place g T.places = λ g other. shifted_other T.places s to g other in
        let foreign : (g : ℕ) (q : FolderPlace) → find_place g places ≡ Some q → is_plain q ≡ true → g ≡ s → ⊥ = λ g q e plain. plain_not_here T.places s to g q e plain in
        let ids = ids_then beside beside T s p w three found h places D others foreign tables values owned_more in
        let from_there = from_then beside beside T s p w three found h places D others foreign tables values owned_more no_root in
        let to_there : find_place to places ≡ Some r = others to (plain_other (nearly (λ x. ⊥) T.places (now_at T nothing) w) s three to r at_to plain_to) ∙ at_to in
        let two = (plain_ids T.places (now_at T nothing) w to r at_to plain_to).0 in
        if_then (Finds beside T places) (Finds beside T places) (drop_shown T (hierarchy from) s D) _ (drops beside beside T s p w three found h places D others foreign tables values owned_more no_root) (λ D1 k.
        let a = add_shown T (hierarchy to) s c.props D1 in
        then_finds beside T places ids (a >>= settled T places from) to r to_there plain_to
        (then_finds beside T places ids a from from_there.0 from_there.1 from_there.2
        (finds_add beside T places ids D1 to s c.props two k names_shifted)))
