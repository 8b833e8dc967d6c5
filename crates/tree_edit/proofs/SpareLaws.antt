-- How many pages a plan has, beside those that it frees: step by step.
use Rattle.std.proofs.Common.{◌≡◌, ℕ, zero, suc, ◌+◌, ◌≤◌, List, [], ◌∷◌, map, refl, arith}
use Rattle.tree_edit.specs.Shapes.{RiseIn}
use Rattle.tree_edit.specs.Steps.{weigh, IsSpare}
use Rattle.tree_edit.proofs.PutLaws.{AreFrom, AreBefore}

pub weigh-plus : (n a b : ℕ) → weigh n (a + b) ≡ weigh n a + weigh n b
weigh-plus zero a b = refl
weigh-plus (suc n) a b = let h = weigh-plus n a b in omega (arith, h)

pub weigh-zero : (n : ℕ) → weigh n 0 ≡ 0
weigh-zero zero = refl
weigh-zero (suc n) = let h = weigh-zero n in omega (arith, h)

pub spare-more : (n k m u old new freed gone pieces : ℕ) → k ≤ m → IsSpare n k u old new freed gone pieces → IsSpare n m u old new freed gone pieces
spare-more n k m u old new freed gone pieces le s = let a = s.few in record { few = omega (arith, a, le); spare = s.spare }

-- ---- keys on one side of a number

pub before-of : {E : Type 0} (key : E → ℕ) (low high m : ℕ) (es : List E) → RiseIn low high (map key es) → high ≤ m → AreBefore key m es
before-of key low high m [] r le = tt
before-of key low high m (e ∷ es) r le = let a = r.1 in (omega (arith, a, le), before-of key (key e + 1) high m es r.2 le)

pub from-of : {E : Type 0} (key : E → ℕ) (low high m : ℕ) (es : List E) → RiseIn low high (map key es) → m ≤ low → AreFrom key m es
from-of key low high m [] r le = tt
from-of key low high m (e ∷ es) r le = let a = r.0 in (omega (arith, a, le), from-of key (key e + 1) high m es r.2 (omega (arith, a, le)))
