-- Lists whose elements have a key, by which they ascend strictly.
use Rattle.std.specs.Prelude.{ℕ, ◌≡◌, ◌<◌, ◌≤◌, ◌==◌, ◌&&◌, Bool, true, List, [], ◌∷◌, length, nat_le, nat_lt, Option, None, Some, if◌then◌else◌, suc, get_or}

-- the keys ascend strictly, from low on
abbrev pub keys_ascend : {X : Type 0} → (X → ℕ) → ℕ → List X → Bool
keys_ascend key low [] = true
keys_ascend key low (x ∷ xs) = nat_le low (key x) && keys_ascend key (suc (key x)) xs

-- the element with the key k
abbrev pub find_key : {X : Type 0} → (X → ℕ) → ℕ → List X → Option X
find_key key k [] = None
find_key key k (x ∷ xs) = if key x == k then Some x else find_key key k xs

-- x in place of the element with its key, or else before the first element with a greater one
abbrev pub put_key : {X : Type 0} → (X → ℕ) → X → List X → List X
put_key key x [] = x ∷ []
put_key key x (y ∷ ys) = if nat_lt (key y) (key x) then y ∷ put_key key x ys else if key y == key x then x ∷ ys else x ∷ y ∷ ys

-- the others, without the element with the key k
abbrev pub drop_key : {X : Type 0} → (X → ℕ) → ℕ → List X → List X
drop_key key k [] = []
drop_key key k (x ∷ xs) = if key x == k then xs else x ∷ drop_key key k xs

-- the element at i has the key k
pub record IsHere {X : Type 0} (key : X → ℕ) (k : ℕ) (xs : List X) (i : ℕ) : Type 0 where
  pub within : i < length xs
  pub here : (d : X) → key (get_or xs i d) ≡ k

-- those before i have keys below k, and those from i on have keys above
pub record IsGap {X : Type 0} (key : X → ℕ) (k : ℕ) (xs : List X) (i : ℕ) : Type 0 where
  pub within : i ≤ length xs
  pub below : (j : ℕ) (d : X) → j < i → key (get_or xs j d) < k
  pub above : (j : ℕ) (d : X) → i ≤ j → j < length xs → k < key (get_or xs j d)
