-- Lists of all ids of a kind.
use Rattle.std.proofs.Common.{◌≡◌, ◌⊎◌, inl, inr, ⊎_elim, ℕ, List, [], ◌∷◌, ◌++◌, refl, subst}

-- one of the ids is this one
abbrev pub IsIn : ℕ → List ℕ → Type 0
IsIn q [] = ⊥
IsIn q (k ∷ ks) = (q ≡ k) ⊎ IsIn q ks

-- a list of all ids of a kind, and of no others
pub record Lists (P : ℕ → Type 0) : Type 0 where
  pub ids : List ℕ
  pub are : (q : ℕ) → IsIn q ids → P q
  pub all : (q : ℕ) → P q → IsIn q ids

in_left : (q : ℕ) (xs ys : List ℕ) → IsIn q xs → IsIn q (xs ++ ys)
in_left q [] ys is = absurd is
in_left q (x ∷ xs) ys (inl same) = inl same
in_left q (x ∷ xs) ys (inr rest) = inr (in_left q xs ys rest)

in_right : (q : ℕ) (xs ys : List ℕ) → IsIn q ys → IsIn q (xs ++ ys)
in_right q [] ys is = is
in_right q (x ∷ xs) ys is = inr (in_right q xs ys is)

in_either : (q : ℕ) (xs ys : List ℕ) → IsIn q (xs ++ ys) → IsIn q xs ⊎ IsIn q ys
in_either q [] ys is = inr is
in_either q (x ∷ xs) ys (inl same) = inl (inl same)
in_either q (x ∷ xs) ys (inr rest) = ⊎_elim (λ l. inl (inr l)) (λ r. inr r) (in_either q xs ys rest)

pub one : (k : ℕ) → Lists (λ q. q ≡ k)
one k = record { ids = k ∷ []; are = λ q is. ⊎_elim (λ same. same) (λ never. absurd never) is; all = λ q same. inl same }

pub nothing : (P : ℕ → Type 0) → ((q : ℕ) → P q → ⊥) → Lists P
nothing P never = record { ids = []; are = λ q is. absurd is; all = never }

pub either : (P Q : ℕ → Type 0) → Lists P → Lists Q → Lists (λ q. P q ⊎ Q q)
either P Q a b = record {
  ids = a.ids ++ b.ids;
  are = λ q is. ⊎_elim (λ l. inl (a.are q l)) (λ r. inr (b.are q r)) (in_either q a.ids b.ids is);
  all = λ q p. ⊎_elim (λ l. in_left q a.ids b.ids (a.all q l)) (λ r. in_right q a.ids b.ids (b.all q r)) p;
}

pub like : (P Q : ℕ → Type 0) → ((q : ℕ) → P q → Q q) → ((q : ℕ) → Q q → P q) → Lists P → Lists Q
like P Q to from a = record { ids = a.ids; are = λ q is. to q (a.are q is); all = λ q is. a.all q (from q is) }

-- the ids that each of these ids has
pub each : (Q : ℕ → ℕ → Type 0) (fs : List ℕ) → ((f : ℕ) → IsIn f fs → Lists (Q f)) → Lists (λ q. (f : ℕ) × IsIn f fs × Q f q)
each Q [] lists = nothing (λ q. (f : ℕ) × ⊥ × Q f q) (λ q x. x.1)
each Q (f ∷ fs) lists =
    like (λ q. Q f q ⊎ ((g : ℕ) × IsIn g fs × Q g q)) (λ q. (g : ℕ) × IsIn g (f ∷ fs) × Q g q)
    (λ q x. ⊎_elim (λ h. (f, inl refl, h)) (λ r. (r.0, inr r.1, r.2)) x)
    (λ q x. ⊎_elim (λ same. inl (subst (λ g. Q g q) same x.2)) (λ rest. inr (x.0, rest, x.2)) x.1)
    (either (Q f) (λ q. (g : ℕ) × IsIn g fs × Q g q) (lists f (inl refl)) (each Q fs (λ g is. lists g (inr is))))
