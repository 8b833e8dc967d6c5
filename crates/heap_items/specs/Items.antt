-- Items that are added to a heap.
use Rattle.std.specs.Prelude.{ℕ, ◌≡◌, ◌≢◌, ◌%◌, List, Option, None, Some}

-- The heap tells a reading with x under this id, which is that of an item and was free; all other items are as they were.
pub record AddsItem (tells : (ℕ → Option (List ℕ)) → Type 0) (old : ℕ → Option (List ℕ)) (x : List ℕ) (hid : ℕ) : Type 0 where
  pub get : ℕ → Option (List ℕ)
  pub told : tells get
  pub here : get hid ≡ Some x
  pub free : old hid ≡ None
  pub others : (h : ℕ) → h ≢ hid → get h ≡ old h
  pub kind : hid % 32 ≡ 0
  pub some : hid ≢ 0
