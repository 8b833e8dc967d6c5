-- After a new search was made an opening finds the tree.
use Rattle.std.proofs.Common.{◌≡◌, ℕ, ◌%◌, ◌==◌, true, false, List, [], ◌∷◌, Option, None, Some, IsSome, is_some, arith, refl, sym, subst, ap, ◌∙◌, ◌⊎◌, inl, inr}
use Rattle.std.specs.Prelude.{nat_lt}
use Rattle.std.proofs.lemmas.Bool.{cases_Bool, eq-eqb, eqb-true, false≢true, ne_eqb, or_cases, or_left, or_right}
use Rattle.std.proofs.lemmas.Option.{same_Some}
use Rattle.mapi_values.specs.Keyed.{put_key}
use Rattle.mapi_values.specs.Tables.{find_row}
use Rattle.mail_objects.specs.Forms.{Tbl}
use Rattle.mail_objects.specs.declared.object.Object.{Object}
use Rattle.mail_objects.specs.declared.object.Object.TheVariants.{Bare, Context, Message, Table}
use Rattle.mail_tree.specs.declared.places.FolderPlace.{FolderPlace}
use Rattle.mail_tree.specs.declared.places.Sort.{Sort}
use Rattle.mail_tree.specs.declared.places.Sort.TheVariants.{Foreign}
use Rattle.mail_tree.specs.Places.{ROOT, find_place, is_deep, is_plain, place_id}
use Rattle.mail_tree.specs.Tree.{Tree, object_at}
use Rattle.mail_tree.specs.Changing.{hierarchy, nothing, now_at}
use Rattle.mail_tree.specs.Folders.{Outcome, nid}
use Rattle.mail_tree.specs.Found.{BelongsAt, BelongsOr, IsFoundBeside, named_sort}
use Rattle.mail_tree.specs.Step.{after}
use Rattle.mail_tree.proofs.AfterTree.{after_now, now_nothing}
use Rattle.mail_tree.proofs.KeyedFinds.{kept-put}
use Rattle.mail_tree.proofs.KindsOfPuts.{same_folder}
use Rattle.mail_tree.proofs.Nearly.{nearly, plain_id}
use Rattle.mail_tree.proofs.Settles.{folders_of}
use Rattle.mail_laws.proofs.Depths.{AreReached, put_reached}
use Rattle.mail_laws.proofs.FolderSteps.{not_placed}
use Rattle.mail_laws.proofs.FoundSteps.{named_still}
use Rattle.mail_laws.proofs.MessageSteps.{Before}
use Rattle.search_obj.specs.Scope.{is_among}
use Rattle.mail_searches.specs.Criteria.{search_place}
use Rattle.mail_searches.specs.Searches.{criteria_node, results, updates}
use Rattle.mail_searches.specs.Searching.{IsOfSearch}
use Rattle.search_laws.proofs.MakingIds.{IsFree}
use Rattle.search_laws.proofs.MakingMade.{Makes, away_or}
use Rattle.search_laws.proofs.MakingPuts.{place_here, place_others, plain_was, with_place}
use Rattle.search_laws.proofs.MakingSteps.{IsOfPlain}

-- the ids with one more
abbrev pub with_id : ℕ → List ℕ → List ℕ
with_id s ids = put_key (λ f. f) s ids

-- the new one is among them
pub among_new : (s : ℕ) (ids : List ℕ) → is_among (with_id s ids) s ≡ true
among_new s [] = rw (eq-eqb s s refl) refl
among_new s (i ∷ ids) = elim (cases_Bool (nat_lt i s)) [
  | inl t ↦ rw t (or_right (i == s) (is_among (with_id s ids) s) (among_new s ids))
  | inr t ↦ rw t (elim (cases_Bool (i == s)) [ inl u ↦ rw (u, eq-eqb s s refl) refl | inr u ↦ rw (u, eq-eqb s s refl) refl ])
]

-- so are the others still
pub among_kept : (s f : ℕ) (ids : List ℕ) → is_among ids f ≡ true → is_among (with_id s ids) f ≡ true
among_kept s f [] e = absurd (false≢true e)
among_kept s f (i ∷ ids) e = elim (cases_Bool (nat_lt i s)) [
  | inl t ↦ rw t (elim (or_cases (i == f) (is_among ids f) e) [ inl here ↦ or_left (i == f) _ here | inr there ↦ or_right (i == f) _ (among_kept s f ids there) ])
  | inr t ↦ rw t (elim (cases_Bool (i == s)) [
    | inl u ↦ rw u (elim (or_cases (i == f) (is_among ids f) e) [ inl here ↦ or_left (s == f) _ (ap (λ x. x == f) (sym (eqb-true i s u)) ∙ here) | inr there ↦ or_right (s == f) _ there ])
    | inr u ↦ rw u (or_right (s == f) _ e)
  ])
]

-- and no more
pub among_was : (s f : ℕ) (ids : List ℕ) → is_among (with_id s ids) f ≡ true → (f ≡ s) ⊎ (is_among ids f ≡ true)
among_was s f [] e = elim (or_cases (s == f) false e) [ inl here ↦ inl (sym (eqb-true s f here)) | inr there ↦ absurd (false≢true there) ]
among_was s f (i ∷ ids) e = elim (cases_Bool (nat_lt i s)) [
  | inl t ↦ elim (or_cases (i == f) (is_among (with_id s ids) f) (rw t at e)) [
    | inl here ↦ inr (or_left (i == f) _ here)
    | inr there ↦ elim (among_was s f ids there) [ inl same ↦ inl same | inr old ↦ inr (or_right (i == f) _ old) ]
  ]
  | inr t ↦ elim (cases_Bool (i == s)) [
    | inl u ↦ elim (or_cases (s == f) (is_among ids f) (rw (t, u) at e)) [ inl here ↦ inl (sym (eqb-true s f here)) | inr there ↦ inr (or_right (i == f) _ there) ]
    | inr u ↦ elim (or_cases (s == f) (is_among (i ∷ ids) f) (rw (t, u) at e)) [ inl here ↦ inl (sym (eqb-true s f here)) | inr there ↦ inr there ]
  ]
]

-- a row of a search whose node is there names a search folder
named_search : (T : Tree) (s : ℕ) (sort : Sort) → s % 32 ≡ 3 → IsSome (object_at T s) → named_sort T s ≡ Some sort → Foreign ≡ sort
named_search T s sort three is named = same_Some Foreign sort (rw (ne_eqb (s % 32) 2 (λ e. omega arith), eq-eqb (s % 32) 3 three, is) at named)

-- an object belongs where one more search folder stands too
belongs_more : (places : List FolderPlace) (s parent x : ℕ) (o : Object) → s % 32 ≡ 3 → ((f : ℕ) (p : FolderPlace) → find_place f places ≡ Some p → is_plain p ≡ true → f % 32 ≡ 2) → BelongsAt places x o → BelongsAt (with_place places s parent) x o
belongs_more places s parent x (Context c) three ids (inl e) = inl e
belongs_more places s parent x (Context c) three ids (inr (inl e)) = inr (inl e)
belongs_more places s parent x (Context c) three ids (inr (inr is)) = inr (inr (kept-put place_id x (search_place s parent) places is))
belongs_more places s parent x (Table t) three ids (f, placed, of) = (f, (placed.0, place_others places s parent f (λ same. omega (arith, ids f placed.0 placed.1 placed.2)) ∙ placed.1, placed.2), of)
belongs_more places s parent x (Message m) three ids b = tt
belongs_more places s parent x (Bare above) three ids b = b

module _ (T : Tree) (w : Before T) (own : List ℕ) (s parent : ℕ) (q : FolderPlace) (three : s % 32 ≡ 3) (free : IsFree T s) (found : find_place parent T.places ≡ Some q) (plain : is_plain q ≡ true) (deep : is_deep T.places parent ≡ false)
    (h : IsFoundBeside (IsOfSearch own) T) (o : Outcome) (places_are : o.places ≡ with_place T.places s parent) (m : Makes T s parent o.changed) where
  abbrev places : List FolderPlace
  places = with_place T.places s parent

  abbrev Beside : ℕ → Type 0
  Beside = IsOfSearch (with_id s own)

  plain_two : (f : ℕ) (p : FolderPlace) → find_place f T.places ≡ Some p → is_plain p ≡ true → f % 32 ≡ 2
  plain_two f p e plain_p = plain_id (nearly (λ x. ⊥) T.places (now_at T nothing) w) f p e plain_p

  unplaced : find_place s T.places ≡ None
  unplaced = not_placed T s w (ap (λ g. g s) (now_nothing T) ∙ free.own_free)

  -- each row of a folder's table that names a folder names one that stands in it
  listed_after : (f : ℕ) (p : FolderPlace) (t : Tbl) (r : ℕ) (sort : Sort) → find_place f places ≡ Some p → is_plain p ≡ true → now_at T o.changed (hierarchy f) ≡ Some (Table t) → IsSome (find_row r t.table.rows)
      → named_sort (after T o) r ≡ Some sort → (r ≡ ROOT → ⊥) × (find_place r places ≡ Some (record { nid = nid r; parent = nid f; sort = sort }))
  listed_after f p t r sort e plain_p is row named =
      let was = plain_was T.places s parent f p e plain_p in
      elim (m.rows f r (t, is, row)) [
        | inl old ↦
            let other : r ≡ s → ⊥ = λ same. false≢true (sym (free.unlisted f p old.0 was plain_p old.1) ∙ subst (λ x. IsSome (find_row x old.0.table.rows)) same old.2) in
            let before = named_still T o r (λ kind. m.gets r (λ k. omega arith) (λ k. omega arith)
            (other, (λ k. omega (arith, kind_six k)), (λ k. omega (arith, kind_seven k)), (λ k. omega (arith, kind_list k)))) in
            let v = h.listed f p old.0 r sort was plain_p old.1 old.2 (sym before ∙ named) in
            (v.0, place_others T.places s parent r other ∙ v.1)
        | inr new ↦
            let one = same_folder f parent 13 (plain_two f p was plain_p) (plain_two parent q found plain) new.0 in
            let there : IsSome (object_at (after T o) s) = ap is_some (ap (λ g. g s) (sym (after_now T o)) ∙ m.values.1) in
            let foreign = named_search (after T o) s sort three there (subst (λ x. named_sort (after T o) x ≡ Some sort) new.1 named) in
            ((λ root. omega arith), ap (λ x. find_place x places) new.1 ∙ place_here T.places s parent ∙ entry r f sort new.1 one foreign)
      ]
    where
      kind_six : {r : ℕ} → r ≡ updates s → r % 32 ≡ 6
      kind_six e = ap (λ x. x % 32) e ∙ omega arith

      kind_seven : {r : ℕ} → r ≡ criteria_node s → r % 32 ≡ 7
      kind_seven e = ap (λ x. x % 32) e ∙ omega arith

      kind_list : {r : ℕ} → r ≡ results s → r % 32 ≡ 16
      kind_list e = ap (λ x. x % 32) e ∙ omega arith

      entry : (r f : ℕ) (sort : Sort) → r ≡ s → f ≡ parent → Foreign ≡ sort → ◌≡◌ {A = Option FolderPlace} (Some (search_place s parent)) (Some (record { nid = nid r; parent = nid f; sort = sort }))
      entry r f sort a b c i = Some (record { nid = nid (sym a i); parent = nid (sym b i); sort = c i })

  -- each object belongs where it stands, or stands there for a search
  owned_after : (x : ℕ) (y : Object) → now_at T o.changed x ≡ Some y → BelongsOr Beside places x y
  owned_after x y at = elim (away_or s x) [
    | inl here ↦ inr (subst (BelongsAt places x) (same_Some (Context m.values.0) y (sym m.values.1 ∙ ap (now_at T o.changed) (sym here) ∙ at)) (inr (inr (ap (λ z. is_some (find_place z places)) here ∙ ap is_some (place_here T.places s parent)))))
    | inr a ↦ elim a [
      | inl here ↦ inl (s, among_new s own, inr (inr here))
      | inr b ↦ elim b [
        | inl here ↦ inl (s, among_new s own, inr (inl here))
        | inr c ↦ elim c [
          | inl here ↦ inl (s, among_new s own, inl here)
          | inr away ↦ elim (m.others x away) [ inl same ↦ more (h.owned x y (sym same ∙ at)) | inr of ↦ inr (of_plain of) ]
        ]
      ]
    ]
  ]
    where
      more : BelongsOr (IsOfSearch own) T.places x y → BelongsOr Beside places x y
      more (inl (f, is, of)) = inl (f, among_kept s f own is, of)
      more (inr b) = inr (belongs_more T.places s parent x y three plain_two b)

      of_plain : IsOfPlain places x → BelongsAt places x y
      of_plain (f, placed, inl here) =
          let c = m.whole.contexts f placed.0 placed.1 in
          subst (BelongsAt places x) (same_Some (Context c.0) y (sym c.1 ∙ ap (now_at T o.changed) (sym here) ∙ at)) (inr (inr (ap (λ z. is_some (find_place z places)) here ∙ ap is_some placed.1)))
      of_plain (f, placed, inr here) =
          let t = folders_of m.whole f placed.0 placed.1 placed.2 in
          subst (BelongsAt places x) (same_Some (Table t.0) y (sym t.1 ∙ ap (now_at T o.changed) (sym here) ∙ at)) (f, placed, inl here)

  pub found_after : IsFoundBeside Beside (after T o)
  found_after = record {
    listed = λ f p t r sort e plain_p is row named.
        let v = listed_after f p t r sort (ap (find_place f) (sym places_are) ∙ e) plain_p (ap (λ g. g (hierarchy f)) (after_now T o) ∙ is) row named in
        (v.0, ap (find_place r) places_are ∙ v.1);
    reached = subst AreReached (sym places_are) (put_reached T.places (search_place s parent) q h.reached unplaced (λ e. omega arith) found deep);
    owned = λ x y e. subst (λ ps. BelongsOr Beside ps x y) (sym places_are) (owned_after x y (ap (λ g. g x) (after_now T o) ∙ e));
  }
