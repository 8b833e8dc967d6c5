-- A walk along a folder's path, one folder after the other.
use Rattle.std.proofs.Common.{◌≡◌, ◌∙◌, ℕ, zero, suc, ◌==◌, Bool, true, false, List, [], None, Some, ap, refl, if◌then◌else◌, ◌||◌}
use Rattle.std.specs.List.{list_any}
use Rattle.mail_tree.specs.declared.places.FolderPlace.{FolderPlace}
use Rattle.mail_tree.specs.Places.{ROOT, onward, parent_in, path_from}
use Rattle.mail_tree.proofs.PathLaws.{above}

module _ (test : ℕ → Bool) (places : List FolderPlace) where
  abbrev pub meets : ℕ → ℕ → Bool
  meets n f = list_any test (path_from n places f)

  onward-above : (f : ℕ) (next : ℕ → List ℕ) (b : Bool) → (if b then [] else onward next (parent_in places f)) ≡ onward next (if b then None else parent_in places f)
  onward-above f next true = refl
  onward-above f next false = refl

  further : (n f : ℕ) → meets (suc n) f ≡ (test f || list_any test (onward (path_from n places) (above places f)))
  unfolding path_from
  further n f = ap (λ ids. test f || list_any test ids) (onward-above f (path_from n places) (f == ROOT))

  -- no more folders are looked at
  pub meets-last : (n f : ℕ) → n ≡ 0 → meets n f ≡ test f
  unfolding path_from
  meets-last n f e = ap (λ x. meets x f) e ∙ or-false (test f)
    where
      or-false : (b : Bool) → (b || false) ≡ b
      or-false true = refl
      or-false false = refl

  -- the folder itself passes
  pub meets-here : (n f : ℕ) → test f ≡ true → meets n f ≡ true
  meets-here zero f e = meets-last 0 f refl ∙ e
  meets-here (suc n) f e = further n f ∙ rw e refl

  -- it doesn't, and nothing stands above it
  pub meets-none : (n f : ℕ) → test f ≡ false → above places f ≡ None → meets n f ≡ false
  meets-none zero f e up = meets-last 0 f refl ∙ e
  meets-none (suc n) f e up = further n f ∙ rw (e, up) refl

  -- it doesn't, and a folder stands above it
  pub meets-above : (n k f p : ℕ) → n ≡ suc k → test f ≡ false → above places f ≡ Some p → meets n f ≡ meets k p
  meets-above n k f p n-is e up = ap (λ x. meets x f) n-is ∙ further k f ∙ rw (e, up) refl
