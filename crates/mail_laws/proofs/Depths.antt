-- How many folders a folder stands below: what its path tells of that, and what stays of it where a folder comes, moves or goes.
use Rattle.std.proofs.Common.{◌≡◌, ◌≤◌, ℕ, zero, suc, ◌+◌, ◌-◌, ◌==◌, Bool, true, false, nat_lt, List, [], ◌∷◌, length, None, Some, arith, refl, sym, subst, ap, ◌∙◌, inl, inr}
use Rattle.std.specs.List.{list_any}
use Rattle.std.proofs.lemmas.Bool.{and_cases, cases_Bool, cases_eq, eq-eqb, eqb-false, eqb-true, false≢true, ltb-false, ne_eqb, or_parts}
use Rattle.std.proofs.lemmas.Option.{none-some, same_Some}
use Rattle.mapi_values.specs.Keyed.{drop_key, keys_ascend, put_key}
use Rattle.mail_tree.specs.declared.places.FolderPlace.{FolderPlace}
use Rattle.mail_tree.specs.Places.{ROOT, find_place, is_deep, is_within, moves_deep, path, path_from, place_id}
use Rattle.mail_tree.specs.Folders.{place}
use Rattle.mail_tree.specs.Found.{StandsBelow}
use Rattle.mail_tree.proofs.KeyedFinds.{find-drop_other, find-drop_same, find-put_other, find-put_same}
use Rattle.mail_laws.proofs.PlaceEffects.{found_id}

-- each folder stands at most 64 folders below the root
abbrev pub AreReached : List FolderPlace → Type 0
AreReached places = (f : ℕ) (p : FolderPlace) → find_place f places ≡ Some p → (n : ℕ) × (n ≤ 64) × StandsBelow places n f

-- each place but that of one folder is the same
abbrev pub SameBut : ℕ → List FolderPlace → List FolderPlace → Type 0
SameBut f places places' = (x : ℕ) → (x ≡ f → ⊥) → find_place x places' ≡ find_place x places

-- the path of a folder that stands n below the root has n + 1 ids
path_length : (places : List FolderPlace) (n k f : ℕ) → StandsBelow places n f → n ≤ k → length (path_from k places f) ≡ suc n
unfolding path_from
path_length places zero zero f b less = refl
path_length places zero (suc k) f b less = rw (eq-eqb f ROOT b) refl
path_length places (suc n) zero f b less = absurd (omega arith)
path_length places (suc n) (suc k) f b less =
    let more = path_length places n k b.1.0.parent.bits b.1.2 (omega arith) in
    rw (ne_eqb f ROOT b.0, b.1.1) (omega arith)

-- a folder has one depth
one_depth : (places : List FolderPlace) (n m f : ℕ) → StandsBelow places n f → StandsBelow places m f → n ≡ m
one_depth places zero zero f a b = refl
one_depth places zero (suc m) f a b = absurd (b.0 a)
one_depth places (suc n) zero f a b = absurd (a.0 b)
one_depth places (suc n) (suc m) f a b =
    let same = same_Some b.1.0 a.1.0 (sym b.1.1 ∙ a.1.1) in
    ap suc (one_depth places n m a.1.0.parent.bits a.1.2 (subst (λ p. StandsBelow places m p.parent.bits) same b.1.2))

-- where the folders stand still, so do those above them
still : (places places' : List FolderPlace) → ((x : ℕ) (p : FolderPlace) → find_place x places ≡ Some p → (x ≡ ROOT → ⊥) → find_place x places' ≡ Some p) → (n f : ℕ) → StandsBelow places n f → StandsBelow places' n f
still places places' same zero f b = b
still places places' same (suc n) f b = (b.0, (b.1.0, same f b.1.0 b.1.1 b.0, still places places' same n b.1.0.parent.bits b.1.2))

-- a new folder stands one below its parent
pub put_reached : (places : List FolderPlace) (new q : FolderPlace) → AreReached places → find_place (place_id new) places ≡ None → (place_id new ≡ ROOT → ⊥) → find_place new.parent.bits places ≡ Some q → is_deep places new.parent.bits ≡ false
    → AreReached (put_key place_id new places)
put_reached places new q reached none no_root found deep g p e =
    let f = place_id new in
    let parent = new.parent.bits in
    let places' = put_key place_id new places in
    let same : (x : ℕ) (r : FolderPlace) → find_place x places ≡ Some r → (x ≡ ROOT → ⊥) → find_place x places' ≡ Some r = λ x r is other.
    find-put_other place_id x new places (λ one. none-some r (sym none ∙ ap (λ y. find_place y places) (sym one) ∙ is)) ∙ is in
    elim (cases_eq g f) [
      | inl one ↦
          let l = reached parent q found in
          let few = ltb-false 64 (length (path places parent)) deep in
          let ids = path_length places l.0 64 parent l.2 l.1 in
          (suc l.0, omega arith, subst (StandsBelow places' (suc l.0)) (sym one) (no_root, (new, find-put_same place_id new places, still places places' same l.0 parent l.2)))
      | inr other ↦
          let n = reached g p (sym (find-put_other place_id g new places other) ∙ e) in
          (n.0, n.1, still places places' same n.0 g n.2)
    ]

pub made_reached : (places : List FolderPlace) (f parent : ℕ) (q : FolderPlace) → AreReached places → find_place f places ≡ None → (f ≡ ROOT → ⊥) → find_place parent places ≡ Some q → is_deep places parent ≡ false → AreReached (put_key place_id (place f parent) places)
made_reached places f parent q = put_reached places (place f parent) q

-- folders stay where they stood when one goes in which none stands
childless : (places places' : List FolderPlace) (f : ℕ) → SameBut f places places' → ((g : ℕ) (p : FolderPlace) → find_place g places ≡ Some p → (g ≡ ROOT → ⊥) → p.parent.bits ≡ f → ⊥) → (n g : ℕ) → (g ≡ f → ⊥) → StandsBelow places n g → StandsBelow places' n g
childless places places' f same none zero g other b = b
childless places places' f same none (suc n) g other b = (b.0, (b.1.0, same g other ∙ b.1.1, childless places places' f same none n b.1.0.parent.bits (none g b.1.0 b.1.1 b.0) b.1.2))

pub removed_reached : (places : List FolderPlace) (f : ℕ) → AreReached places → keys_ascend place_id 0 places ≡ true → ((g : ℕ) (p : FolderPlace) → find_place g places ≡ Some p → (g ≡ ROOT → ⊥) → p.parent.bits ≡ f → ⊥) → AreReached (drop_key place_id f places)
removed_reached places f reached ascend none g p e =
    let places' = drop_key place_id f places in
    let other : g ≡ f → ⊥ = λ one. none-some p (sym (find-drop_same place_id 0 f places ascend) ∙ ap (λ x. find_place x places') (sym one) ∙ e) in
    let n = reached g p (sym (find-drop_other place_id g f places other) ∙ e) in
    (n.0, n.1, childless places places' f (λ x apart. find-drop_other place_id x f places apart) none n.0 g other n.2)

module _ (places places' : List FolderPlace) (f : ℕ) (same : SameBut f places places') where
  -- a folder that isn't within f stands where it stood
  outside : (n k g : ℕ) → StandsBelow places n g → n ≤ k → list_any (λ h. h == f) (path_from k places g) ≡ false → StandsBelow places' n g
  unfolding path_from
  outside zero k g b less out = b
  outside (suc n) zero g b less out = absurd (omega arith)
  outside (suc n) (suc k) g b less out =
      let parts = or_parts (g == f) _ out in
      (b.0, (b.1.0, same g (eqb-false g f parts.0) ∙ b.1.1, outside n k b.1.0.parent.bits b.1.2 (omega arith) (rw (ne_eqb g ROOT b.0, b.1.1) at parts.1)))

  -- a folder within f, which stood d below the root and stands e below it now, goes with it
  module _ (d e : ℕ) (was : StandsBelow places d f) (now : StandsBelow places' e f) where
    arrived : (n g : ℕ) → StandsBelow places n g → (g == f) ≡ true → (b : ℕ) × (b + d ≡ n + e) × (e ≤ b) × StandsBelow places' b g
    arrived n g b t =
        let one = eqb-true g f t in
        let depth = one_depth places n d f (subst (StandsBelow places n) one b) was in
        (e, omega arith, omega arith, subst (StandsBelow places' e) (sym one) now)

    inside : (n k g : ℕ) → StandsBelow places n g → n ≤ k → list_any (λ h. h == f) (path_from k places g) ≡ true → (b : ℕ) × (b + d ≡ n + e) × (e ≤ b) × StandsBelow places' b g
    unfolding path_from
    inside zero zero g b less within = elim (cases_Bool (g == f)) [ inl t ↦ arrived zero g b t | inr t ↦ absurd (false≢true (rw t at within)) ]
    inside zero (suc k) g b less within = elim (cases_Bool (g == f)) [ inl t ↦ arrived zero g b t | inr t ↦ absurd (false≢true (rw (t, eq-eqb g ROOT b) at within)) ]
    inside (suc n) zero g b less within = absurd (omega arith)
    inside (suc n) (suc k) g b less within = elim (cases_Bool (g == f)) [
      | inl t ↦ arrived (suc n) g b t
      | inr t ↦
          let up = inside n k b.1.0.parent.bits b.1.2 (omega arith) (rw (t, ne_eqb g ROOT b.0, b.1.1) at within) in
          let other : g ≡ f → ⊥ = λ one. eqb-false g f t one in
          (suc up.0, omega arith, omega arith, (b.0, (b.1.0, same g other ∙ b.1.1, up.3)))
    ]

-- no place fails a test that all pass
pub none_passes : (test : FolderPlace → Bool) (ps : List FolderPlace) (g : ℕ) (p : FolderPlace) → find_place g ps ≡ Some p → list_any test ps ≡ false → test p ≡ false
none_passes test [] g p e none = absurd (none-some p e)
none_passes test (q ∷ qs) g p e none =
    let parts = or_parts (test q) (list_any test qs) none in
    elim (cases_Bool (place_id q == g)) [
      | inl t ↦ subst (λ x. test x ≡ false) (same_Some q p (rw t at e)) parts.0
      | inr t ↦ none_passes test qs g p (rw t at e) parts.1
    ]

-- a folder moves with all within it
pub moved_reached : (places : List FolderPlace) (f parent : ℕ) (p q : FolderPlace) → AreReached places → find_place f places ≡ Some p → (f ≡ ROOT → ⊥) → find_place parent places ≡ Some q → is_within places f parent ≡ false → moves_deep places f parent ≡ false
    → AreReached (put_key place_id (place f parent) places)
moved_reached places f parent p q reached is no_root found out deep g r e =
    let places' = put_key place_id (place f parent) places in
    let same : SameBut f places places' = λ x other. find-put_other place_id x (place f parent) places other in
    let d = reached f p is in
    let l = reached parent q found in
    let now : StandsBelow places' (suc l.0) f = (no_root, (place f parent, find-put_same place_id (place f parent) places, outside places places' f same l.0 64 parent l.2 l.1 out)) in
    let placed : (s : FolderPlace) × (find_place g places ≡ Some s) = elim (cases_eq g f) [ inl one ↦ (p, ap (λ x. find_place x places) one ∙ is) | inr other ↦ (r, sym (same g other) ∙ e) ] in
    let n = reached g placed.0 placed.1 in
    elim (cases_Bool (is_within places f g)) [
      | inr b ↦ (n.0, n.1, outside places places' f same n.0 64 g n.2 n.1 b)
      | inl b ↦
          let id = found_id g places placed.0 placed.1 in
          let within : is_within places f (place_id placed.0) ≡ true = ap (is_within places f) id ∙ b in
          let few : nat_lt 64 (length (path places parent) + (length (path places (place_id placed.0)) - length (path places f))) ≡ false = elim (and_cases (is_within places f (place_id placed.0)) _ (none_passes _ places g placed.0 placed.1 deep)) [ inl outer ↦ absurd (false≢true (sym outer ∙ within)) | inr shallow ↦ shallow ] in
          let shallow = ltb-false 64 _ few in
          let ids_parent = path_length places l.0 64 parent l.2 l.1 in
          let ids_f = path_length places d.0 64 f d.2 d.1 in
          let ids_g : length (path places (place_id placed.0)) ≡ suc n.0 = ap (λ x. length (path places x)) id ∙ path_length places n.0 64 g n.2 n.1 in
          let b' = inside places places' f same d.0 (suc l.0) d.2 now n.0 64 g n.2 n.1 b in
          let le : b'.0 ≤ 64 = fits (length (path places parent)) (length (path places (place_id placed.0))) (length (path places f)) l.0 n.0 d.0 b'.0 ids_parent ids_g ids_f shallow b'.1 b'.2 in
          (b'.0, le, b'.3)
    ]
  where
    fits : (x y z l n d b : ℕ) → x ≡ suc l → y ≡ suc n → z ≡ suc d → x + (y - z) ≤ 64 → b + d ≡ n + suc l → suc l ≤ b → b ≤ 64
    fits x y z l n d b ex ey ez few sum low = omega arith
