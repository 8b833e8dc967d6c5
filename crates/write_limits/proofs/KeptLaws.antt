-- The room for kept subnodes, counted one by one.
use Rattle.std.proofs.Common.{◌≡◌, ◌∙◌, ℕ, zero, suc, ◌+◌, ◌^◌, ◌<◌, min, get_or, List, [], ◌∷◌, ◌++◌, length, map, take, sym, ap, arith, refl, length-append}
use Rattle.std.proofs.Math.Seq.{take-suc}
use Rattle.std.proofs.lemmas.List.{length-map}
use Rattle.pst_base.specs.declared.subs.Sub.{Sub}
use Rattle.pst_base.specs.Flat.{Flat}
use Rattle.pst_base.specs.Subs.{flattened, one_deeper}
use Rattle.write_limits.specs.Space.{kept_space}

space-append : (xs ys : List Flat) → kept_space (xs ++ ys) ≡ kept_space xs + kept_space ys
space-append [] ys = omega arith
space-append (x ∷ xs) ys = let h = space-append xs ys in omega (arith, h)

space-deeper : (xs : List Flat) → kept_space (map one_deeper xs) ≡ kept_space xs
space-deeper [] = refl
space-deeper (x ∷ xs) = let h = space-deeper xs in omega (arith, h)

-- the room for one subnode, with those below it
abbrev pub one_sub : Sub → ℕ
one_sub s = (length s.blocks + 3) + kept_space s.subs

space-one : (s : Sub) (subs : List Sub) → kept_space (flattened (s ∷ subs)) ≡ one_sub s + kept_space (flattened subs)
space-one s subs = let a = space-append (map one_deeper s.subs) (flattened subs) in let b = space-deeper s.subs in omega (arith, a, b)

space-more : (xs : List Sub) (s : Sub) → kept_space (flattened (xs ++ s ∷ [])) ≡ kept_space (flattened xs) + one_sub s
space-more [] s = let a = space-one s [] in omega (arith, a)
space-more (x ∷ xs) s = let a = space-one x xs in let b = space-one x (xs ++ s ∷ []) in let h = space-more xs s in omega (arith, a, b, h)

-- one subnode more
pub space-next : (subs : List Sub) (i n b below sum : ℕ) (s : Sub) → i < length subs → s ≡ get_or subs i s → n ≡ min (kept_space (flattened (take i subs))) (2 ^ 60)
    → b ≡ min (3 + length s.blocks) (2 ^ 60) → below ≡ min (kept_space s.subs) (2 ^ 60) → sum ≡ min (n + b) (2 ^ 60)
    → min (sum + below) (2 ^ 60) ≡ min (kept_space (flattened (take (i + 1) subs))) (2 ^ 60)
space-next subs i n b below sum s lt is so_far blocks under both =
    let e : i + 1 ≡ suc i = omega arith in
    let here : take (i + 1) subs ≡ take i subs ++ s ∷ [] = ap (λ (k : ℕ). take k subs) e ∙ take-suc subs i s lt ∙ ap (λ (x : Sub). take i subs ++ x ∷ []) (sym is) in
    let all = ap (λ (l : List Sub). kept_space (flattened l)) here ∙ space-more (take i subs) s in
    omega (arith, so_far, blocks, under, both, all)

-- a subnode has fewer below it than a list in which it stands
pub sub-less : (subs : List Sub) (i : ℕ) (s : Sub) → i < length subs → s ≡ get_or subs i s → length s.subs < length (flattened subs)
sub-less [] i s lt is = absurd (omega (arith, lt))
sub-less (x ∷ subs) zero s lt is =
    let a = length-append (map one_deeper x.subs) (flattened subs) in
    let b = length-map x.subs one_deeper in
    let e : length s.subs ≡ length x.subs = ap (λ (y : Sub). length y.subs) is in
    omega (arith, a, b, e)
sub-less (x ∷ subs) (suc i) s lt is =
    let a = length-append (map one_deeper x.subs) (flattened subs) in
    let h = sub-less subs i s (omega (arith, lt)) is in
    omega (arith, a, h)
