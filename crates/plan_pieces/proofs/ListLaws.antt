-- Lists built one element after another.
use Rattle.std.proofs.Common.{◌≡◌, ◌∙◌, ℕ, suc, ◌+◌, ◌<◌, List, [], ◌∷◌, ◌++◌, map, length, take, get_or, sym, ap, arith}
use Rattle.std.proofs.lemmas.List.{map-append, take_more}
use Rattle.std.specs.List.{All}
use Rattle.pst_base.specs.declared.places.Place.{Place}
use Rattle.node_layout.specs.Lookups.{Each as EachOf}

-- the same where each element of one is made of the other's
pub more-same : {X Y : Type 0} (f : Y → X) (xs : List X) (i : ℕ) (d : X) (ys zs : List Y) (y : Y) → i < length xs → map f ys ≡ take i xs → zs ≡ ys ++ y ∷ [] → f y ≡ get_or xs i d → map f zs ≡ take (i + 1) xs
more-same {X} {Y} f xs i d ys zs y lt so_far items here =
    ap (map f) items ∙ map-append f ys (y ∷ []) ∙ ap (λ (l : List X). l ++ f y ∷ []) so_far ∙ ap (λ (e : X). take i xs ++ e ∷ []) here ∙ sym (take_more xs i d lt)

-- what all elements have, each has
pub each-of-all : {X : Type 0} (P : X → Type 0) (xs : List X) → All P xs → EachOf P xs
each-of-all P [] all = tt
each-of-all P (x ∷ xs) all = (all 0 x (omega arith), each-of-all P xs (λ k d h. all (suc k) d (omega arith)))

-- a place by its parts
pub place-parts : (p : Place) (ib len : ℕ) → ib ≡ p.ib → len ≡ p.len → ◌≡◌ {A = Place} (record { ib = ib; len = len }) p
place-parts p ib len a b = ap (λ (x : ℕ). record { ib = x; len = len }) a ∙ ap (λ (x : ℕ). record { ib = p.ib; len = x }) b
