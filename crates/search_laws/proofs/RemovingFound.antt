-- An opening finds the tree without a search folder that went.
use Rattle.std.proofs.Common.{◌≡◌, ◌∙◌, ℕ, ◌%◌, ◌==◌, true, false, List, [], ◌∷◌, Some, IsSome, is_some, IfOk, ap, arith, refl, subst, sym, inl, inr}
use Rattle.std.proofs.lemmas.Bool.{cases_Bool, cases_eq}
use Rattle.std.proofs.lemmas.Option.{none-some}
use Rattle.mapi_values.specs.Keyed.{drop_key, find_key, keys_ascend}
use Rattle.mail_objects.specs.declared.object.Object.{Object}
use Rattle.mail_objects.specs.declared.object.Object.TheVariants.{Context, Table, Message, Bare}
use Rattle.mail_tree.specs.declared.places.FolderPlace.{FolderPlace}
use Rattle.mail_tree.specs.Changing.{drop_shown, hierarchy, nothing, now_at}
use Rattle.mail_tree.specs.Found.{BelongsAt, IsFoundBeside}
use Rattle.mail_tree.specs.Places.{ROOT, find_place, is_plain, place_id}
use Rattle.mail_tree.specs.Tree.{Tree, object_at}
use Rattle.mail_tree.proofs.AfterTree.{now_nothing}
use Rattle.mail_tree.proofs.KeyedFinds.{find-drop_other, find-drop_same}
use Rattle.mail_tree.proofs.KindsOfPuts.{beside_kind}
use Rattle.mail_tree.proofs.Nearly.{nearly}
use Rattle.mail_laws.proofs.Depths.{AreReached, removed_reached}
use Rattle.mail_laws.proofs.FoundSteps.{Finds, StandRightly, then_finds}
use Rattle.mail_laws.proofs.MessageSteps.{Before}
use Rattle.search_obj.specs.Scope.{is_among}
use Rattle.mail_searches.specs.Moving.{without_search}
use Rattle.mail_searches.specs.Searches.{criteria_node, results, updates}
use Rattle.mail_searches.specs.Searching.{IsOfSearch, is_own}
use Rattle.search_laws.proofs.DroppedRow.{drops, from_then, ids_then}
use Rattle.search_laws.proofs.OwnSteps.{now_before}
use Rattle.search_laws.proofs.RemovingTree.{IsNode, all_gone, goes_elsewhere, node_cases, removing}
use Rattle.search_laws.proofs.PlainPlaces.{plain_other}

-- an id is among those that ascend where it is found
pub among_found : (ids : List ℕ) (f : ℕ) → is_among ids f ≡ is_some (find_key (λ x. x) f ids)
among_found [] f = refl
among_found (x ∷ xs) f = elim (cases_Bool (x == f)) [ inl t ↦ rw t refl | inr b ↦ rw b (among_found xs f) ]

-- the others stay among them
pub own_other : (own : List ℕ) (s f : ℕ) → (f ≡ s → ⊥) → is_own (drop_key (λ x. x) s own) f ≡ is_own own f
own_other own s f other = among_found (drop_key (λ x. x) s own) f ∙ ap is_some (find-drop_other (λ x. x) f s own other) ∙ sym (among_found own f)

pub own_gone : (own : List ℕ) (s : ℕ) → keys_ascend (λ x. x) 0 own ≡ true → is_own (drop_key (λ x. x) s own) s ≡ false
own_gone own s ascend = among_found (drop_key (λ x. x) s own) s ∙ ap is_some (find-drop_same (λ x. x) 0 s own ascend)

module _ (T : Tree) (s : ℕ) (p : FolderPlace) (own : List ℕ) (w : Before T) (three : s % 32 ≡ 3) (found : find_place s T.places ≡ Some p) (h : IsFoundBeside (IsOfSearch own) T) where
  abbrev places' : List FolderPlace
  places' = drop_key place_id s T.places

  abbrev own' : List ℕ
  own' = drop_key (λ x. x) s own

  abbrev aside : ℕ → Type 0
  aside = IsOfSearch own'

  apart : (g : ℕ) (q : FolderPlace) → find_place g T.places ≡ Some q → is_plain q ≡ true → g ≡ s → ⊥
  apart g q e plain = plain_other (nearly (λ x. ⊥) T.places (now_at T nothing) w) s three g q e plain

  was : (g : ℕ) (q : FolderPlace) → find_place g places' ≡ Some q → find_place g T.places ≡ Some q
  was g q e = elim (cases_eq g s) [
    | inl same ↦ absurd (none-some q (sym (ap (λ x. find_place x places') same ∙ find-drop_same place_id 0 s T.places w.ascend) ∙ e))
    | inr other ↦ sym (find-drop_other place_id g s T.places other) ∙ e
  ]

  others : (g : ℕ) → (g ≡ s → ⊥) → find_place g places' ≡ find_place g T.places
  others g other = find-drop_other place_id g s T.places other

  foreign : (g : ℕ) (q : FolderPlace) → find_place g places' ≡ Some q → is_plain q ≡ true → g ≡ s → ⊥
  foreign g q e plain = apart g q (was g q e) plain

  -- an object that belonged where it stands does so still
  belongs_less : (q : ℕ) (o : Object) → (q ≡ s → ⊥) → BelongsAt T.places q o → BelongsAt places' q o
  belongs_less q (Context c) other b = elim b [ inl a ↦ inl a | inr x ↦ inr (elim x [ inl a ↦ inl a | inr is ↦ inr (subst IsSome (sym (find-drop_other place_id q s T.places other)) is) ]) ]
  belongs_less q (Table t) other b = (b.0, (b.1.0, find-drop_other place_id b.0 s T.places (apart b.0 b.1.0 b.1.1 b.1.2) ∙ b.1.1, b.1.2), b.2)
  belongs_less q (Message m) other b = tt
  belongs_less q (Bare parent) other b = b

  owned_less : StandRightly aside places' (now_at T (without_search T s nothing))
  owned_less q o e = elim (node_cases s q) [
    | inl node ↦ absurd (none-some o (sym (all_gone T s q node) ∙ e))
    | inr other ↦
        let stood : object_at T q ≡ Some o = sym (ap (λ at. at q) (now_nothing T)) ∙ sym (goes_elsewhere T s q other) ∙ e in
        elim (h.owned q o stood) [
          | inl of ↦
              let stays : of.0 ≡ s → ⊥ = λ same. other (elim of.2 [
                | inl a ↦ inr (inr (inl (subst (λ x. q ≡ results x) same a)))
                | inr n ↦ elim n [
                  | inl a ↦ inr (inl (subst (λ x. q ≡ criteria_node x) same a))
                  | inr a ↦ inr (inr (inr (subst (λ x. q ≡ updates x) same a)))
                ]
              ]) in
              inl (of.0, own_other own s of.0 stays ∙ of.1, of.2)
          | inr b ↦ inr (belongs_less q o (λ same. other (inl same)) b)
        ]
  ]

  -- a plain folder's values and its table of folders stay where the nodes go
  table_there : (g : ℕ) → now_at T (without_search T s nothing) (hierarchy g) ≡ object_at T (hierarchy g)
  table_there g = goes_elsewhere T s (hierarchy g) (λ n. not_thirteen n) ∙ ap (λ at. at (hierarchy g)) (now_nothing T)
    where
      not_thirteen : IsNode s (hierarchy g) → ⊥
      not_thirteen n = let kind = beside_kind g 13 (omega arith) in elim n [
        | inl e ↦ omega (arith, kind, e, three)
        | inr m ↦ elim m [
          | inl e ↦ omega (arith, kind, ap (λ x. x % 32) e, beside_kind s 7 (omega arith))
          | inr l ↦ elim l [
            | inl e ↦ omega (arith, kind, ap (λ x. x % 32) e, beside_kind s 16 (omega arith))
            | inr e ↦ omega (arith, kind, ap (λ x. x % 32) e, beside_kind s 6 (omega arith))
          ]
        ]
      ]

  values_there : (g : ℕ) → g % 32 ≡ 2 → now_at T (without_search T s nothing) g ≡ object_at T g
  values_there g two = goes_elsewhere T s g (λ n. elim n [
    | inl e ↦ omega (arith, two, e, three)
    | inr m ↦ elim m [
      | inl e ↦ omega (arith, two, ap (λ x. x % 32) e, beside_kind s 7 (omega arith))
      | inr l ↦ elim l [
        | inl e ↦ omega (arith, two, ap (λ x. x % 32) e, beside_kind s 16 (omega arith))
        | inr e ↦ omega (arith, two, ap (λ x. x % 32) e, beside_kind s 6 (omega arith))
      ]
    ]
  ]) ∙ now_before T g

  module _ (no_root : s ≡ ROOT → ⊥) where
    pub finds_removed : IfOk (removing T s p) (Finds aside T places')
    finds_removed =
        let D = without_search T s nothing in
        let ids = ids_then aside (IsOfSearch own) T s p w three found h places' D others foreign table_there values_there owned_less in
        let there = from_then aside (IsOfSearch own) T s p w three found h places' D others foreign table_there values_there owned_less no_root in
        then_finds aside T places' ids (drop_shown T (hierarchy p.parent.bits) s D) p.parent.bits there.0 there.1 there.2
        (drops aside (IsOfSearch own) T s p w three found h places' D others foreign table_there values_there owned_less no_root)

    -- no folder stood in it
    pub reached_removed : AreReached places'
    reached_removed = removed_reached T.places s h.reached w.ascend (λ g q e other same. let v = w.parents g q e other in apart q.parent.bits v.0 v.1 v.2 same)
