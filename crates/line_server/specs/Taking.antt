-- What one call that takes input does to the bytes that are held.
use Rattle.std.specs.Prelude.{◌≡◌, ℕ, Bool, true, List, [], ◌++◌, length}
use Rattle.pst_outside.specs.World.{World}

-- n bytes of the input came behind the bytes that were held; none came only at its end
pub record Takes (n : ℕ) (old new : List ℕ) (before after : World) : Type 0 where
  pub more : List ℕ
  pub count : length more ≡ n
  pub behind : new ≡ old ++ more
  pub input : after.tells → before.input ≡ more ++ after.input
  pub end : after.tells → n ≡ 0 → before.input ≡ []

-- More input came behind the bytes that were held, and none where the input had ended before.
pub record GoesOn (ended : Bool) (old new : List ℕ) (before after : World) : Type 0 where
  pub more : List ℕ
  pub behind : new ≡ old ++ more
  pub none : ended ≡ true → more ≡ []
  pub input : after.tells → before.input ≡ more ++ after.input

-- The input is known to have ended only where nothing of it is left.
pub record EndsIn (was is : Bool) (before after : World) : Type 0 where
  pub stays : was ≡ true → is ≡ true
  pub end : (was ≡ true → before.tells → before.input ≡ []) → is ≡ true → after.tells → after.input ≡ []
