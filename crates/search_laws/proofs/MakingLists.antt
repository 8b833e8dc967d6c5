-- Each plain folder of a whole tree has its table of folders.
use Rattle.std.proofs.Common.{◌≡◌, ◌∙◌, ℕ, ◌≤◌, true, List, [], ◌∷◌, Some, Ok, suc, arith, refl, inl, inr}
use Rattle.std.specs.Prelude.{nat_le}
use Rattle.std.specs.List.{list_all}
use Rattle.std.proofs.lemmas.Bool.{and_parts, cases_Bool, eq-eqb, leb-true, ne_eqb}
use Rattle.mapi_values.specs.Keyed.{keys_ascend}
use Rattle.mail_tree.specs.declared.places.FolderPlace.{FolderPlace}
use Rattle.mail_tree.specs.Places.{find_place, is_plain, place_id}
use Rattle.mail_tree.specs.Tree.{Tree}
use Rattle.mail_tree.specs.Whole.{IsWhole}
use Rattle.mail_tree.proofs.Settles.{folders_of}
use Rattle.mail_searches.specs.Criteria.{has_list, unless_listless}

module _ (T : Tree) (w : IsWhole T) where
  has : (p : FolderPlace) → find_place (place_id p) T.places ≡ Some p → has_list T p ≡ true
  has p e = elim (cases_Bool (is_plain p)) [
    | inl plain ↦ let t = folders_of w.objects (place_id p) p e plain in rw (plain, t.1) refl
    | inr other ↦ rw other refl
  ]

  -- what is found among the last of the places, which ascend, is found among all
  all_have : (low : ℕ) (ps : List FolderPlace) → keys_ascend place_id low ps ≡ true → ((f : ℕ) → low ≤ f → find_place f T.places ≡ find_place f ps) → list_all (has_list T) ps ≡ true
  all_have low [] ascend found = refl
  all_have low (p ∷ ps) ascend found =
      let parts = and_parts (nat_le low (place_id p)) (keys_ascend place_id (suc (place_id p)) ps) ascend in
      let here : find_place (place_id p) T.places ≡ Some p = found (place_id p) (leb-true low (place_id p) parts.0) ∙ rw (eq-eqb (place_id p) (place_id p) refl) refl in
      let rest = all_have (suc (place_id p)) ps parts.1 (λ f above. found f (omega (arith, above, leb-true low (place_id p) parts.0)) ∙ rw (ne_eqb (place_id p) f (λ e. omega (arith, e, above))) refl) in
      rw (has p here, rest) refl

  pub lists_there : unless_listless T ≡ Ok tt
  lists_there = rw (all_have 0 T.places w.objects.ascend (λ f least. refl)) refl
