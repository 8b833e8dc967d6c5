-- A folder's path, found step by step.
use Rattle.std.proofs.Common.{◌≡◌, ℕ, zero, suc, ◌==◌, Bool, true, false, List, [], ◌∷◌, ◌++◌, Option, None, Some, if◌then◌else◌, refl, sym, ◌∙◌, ap, append-nil, append_assoc}
use Rattle.mail_tree.specs.declared.places.FolderPlace.{FolderPlace}
use Rattle.mail_tree.specs.Places.{ROOT, onward, parent_in, path, path_from}

-- what stands above a folder; nothing above the root
abbrev pub above : List FolderPlace → ℕ → Option ℕ
above places f = if f == ROOT then None else parent_in places f

-- a folder's path after the folder itself
pub beyond : ℕ → List FolderPlace → ℕ → List ℕ
beyond zero places f = []
beyond (suc n) places f = onward (path_from n places) (above places f)

onward_above : (places : List FolderPlace) (f : ℕ) (next : ℕ → List ℕ) (b : Bool) → (if b then [] else onward next (parent_in places f)) ≡ onward next (if b then None else parent_in places f)
onward_above places f next true = refl
onward_above places f next false = refl

pub path_is : (n : ℕ) (places : List FolderPlace) (f : ℕ) → path_from n places f ≡ f ∷ beyond n places f
unfolding path_from beyond
path_is zero places f = refl
path_is (suc n) places f = ap (λ fs. f ∷ fs) (onward_above places f (path_from n places) (f == ROOT))

-- with the folder above, the path goes on
pub beyond_next : (n k : ℕ) (places : List FolderPlace) (f p : ℕ) (ids : List ℕ) → n ≡ suc k → above places f ≡ Some p → (ids ++ (p ∷ [])) ++ beyond k places p ≡ ids ++ beyond n places f
unfolding beyond
beyond_next n k places f p ids e up =
    append_assoc ids (p ∷ []) (beyond k places p)
    ∙ ap (λ fs. ids ++ fs) (sym (ap (λ m. beyond m places f) e ∙ ap (onward (path_from k places)) up ∙ path_is k places p))

-- with nothing above, it ends
pub beyond_none : (n : ℕ) (places : List FolderPlace) (f : ℕ) → above places f ≡ None → beyond n places f ≡ []
unfolding beyond
beyond_none zero places f up = refl
beyond_none (suc n) places f up = ap (onward (path_from n places)) up

pub beyond_zero : (n : ℕ) (places : List FolderPlace) (f : ℕ) → n ≡ 0 → beyond n places f ≡ []
unfolding beyond
beyond_zero n places f e = ap (λ m. beyond m places f) e

-- the path begins with the folder
pub path_begins : (places : List FolderPlace) (f : ℕ) (none ids : List ℕ) → none ≡ [] → ids ≡ none ++ (f ∷ []) → ids ++ beyond 64 places f ≡ path places f
path_begins places f none ids empty is =
    ap (λ xs. xs ++ beyond 64 places f) (is ∙ ap (λ xs. xs ++ (f ∷ [])) empty) ∙ sym (path_is 64 places f)

-- where nothing follows, it is all
pub path_ends : (ids rest all : List ℕ) → ids ++ rest ≡ all → rest ≡ [] → ids ≡ all
path_ends ids rest all so none = sym (append-nil ids) ∙ ap (λ xs. ids ++ xs) (sym none) ∙ so
