-- Subnodes that stood beside each other, with the ids of their data and of that of all below them, as a walk passes them by ascending ids.
use Rattle.std.specs.Prelude.{◌≡◌, ◌≤◌, ℕ, true, List, [], ◌∷◌, Option}
use Rattle.pst_base.specs.declared.ids.Bid.{Bid}
use Rattle.pst_base.specs.declared.subs.Sub.{Sub}
use Rattle.pst_base.specs.Subs.{flattened}
use Rattle.content_plan.specs.Keep.{kept_at, kept_list, subs_ascend}

-- those that are left find what all find, for each path that begins with an id from a number on
pub record Passes (low : ℕ) (old : List Sub) (ids : List (List (Option Bid))) (left : List Sub) (left_ids : List (List (Option Bid))) : Type 0 where
  pub finds : (next n : ℕ) (path : List ℕ) (now : List (List ℕ)) → low ≤ n → kept_at next left_ids (flattened left) (n ∷ path) now ≡ kept_at next ids (flattened old) (n ∷ path) now
  pub ascend : subs_ascend (flattened old) ≡ true → subs_ascend (flattened left) ≡ true

-- the first of them, if there is one, has an id from a number on
abbrev pub BeginsFrom : ℕ → List Sub → Type 0
BeginsFrom low subs = (sub : Sub) (rest : List Sub) → subs ≡ sub ∷ rest → low ≤ (sub.nid).bits

-- the data of the subnode with an id, with its ids, and those below it, where there is one: they find what is found of it and of those below it
pub record IsThere (nid : ℕ) (old : List Sub) (old_ids : List (List (Option Bid))) (ids : List (Option Bid)) (blocks : List (List ℕ)) (below : List Sub) (below_ids : List (List (Option Bid))) : Type 0 where
  pub own : (next : ℕ) (now : List (List ℕ)) → kept_list next ids blocks now ≡ kept_at next old_ids (flattened old) (nid ∷ []) now
  pub deeper : (next p : ℕ) (path : List ℕ) (now : List (List ℕ)) → kept_at next below_ids (flattened below) (p ∷ path) now ≡ kept_at next old_ids (flattened old) (nid ∷ (p ∷ path)) now
  pub ascend : subs_ascend (flattened below) ≡ true
