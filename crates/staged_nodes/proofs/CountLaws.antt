-- How much is put, counted one by one.
use Rattle.std.proofs.Common.{◌≡◌, ◌∙◌, ℕ, zero, suc, ◌+◌, ◌-◌, ◌^◌, ◌<◌, ◌≤◌, min, get_or, List, [], ◌∷◌, ◌++◌, length, map, take, Option, sym, ap, arith, length-append}
use Rattle.std.proofs.Math.Seq.{take-suc}
use Rattle.std.proofs.lemmas.List.{length-map}
use Rattle.pst_base.specs.declared.ids.Nid.{Nid}
use Rattle.pst_base.specs.declared.subs.Sub.{Sub}
use Rattle.pst_base.specs.Flat.{Flat}
use Rattle.pst_base.specs.Subs.{flattened, one_deeper}
use Rattle.node_port.specs.declared.node.NodeRec.{NodeRec}
use Rattle.node_port.specs.Stops.{size, subs_size}
use Rattle.staged_nodes.specs.Sizes.{one_changed, one_node, replaced}
use Rattle.staged_nodes.specs.Staged.{Staged}
use Rattle.staged_nodes.proofs.SizeLaws.{size-one}
use Rattle.std.specs.FinMap as finite

subs-append : (xs ys : List Flat) → subs_size (xs ++ ys) ≡ subs_size xs + subs_size ys
subs-append [] ys = omega arith
subs-append (x ∷ xs) ys = let h = subs-append xs ys in omega (arith, h)

subs-deeper : (xs : List Flat) → subs_size (map one_deeper xs) ≡ subs_size xs
subs-deeper [] = omega arith
subs-deeper (x ∷ xs) = let h = subs-deeper xs in omega (arith, h)

-- how much one subnode is
abbrev pub one_sub : Sub → ℕ
one_sub s = 1 + length s.blocks + subs_size s.subs

subs-one : (s : Sub) (subs : List Sub) → subs_size (flattened (s ∷ subs)) ≡ one_sub s + subs_size (flattened subs)
subs-one s subs = let a = subs-append (map one_deeper s.subs) (flattened subs) in let b = subs-deeper s.subs in omega (arith, a, b)

subs-more : (xs : List Sub) (s : Sub) → subs_size (flattened (xs ++ s ∷ [])) ≡ subs_size (flattened xs) + one_sub s
subs-more [] s = let a = subs-one s [] in omega (arith, a)
subs-more (x ∷ xs) s = let a = subs-one x xs in let b = subs-one x (xs ++ s ∷ []) in let h = subs-more xs s in omega (arith, a, b, h)

-- one subnode more
pub subs-next : (subs : List Sub) (i n b below : ℕ) (s : Sub) → i < length subs → s ≡ get_or subs i s → n ≡ min (subs_size (flattened (take i subs))) (2 ^ 60) → b ≡ min (length s.blocks) (2 ^ 60) → below ≡ min (subs_size s.subs) (2 ^ 60)
    → min (n + 1 + b + below) (2 ^ 60) ≡ min (subs_size (flattened (take (i + 1) subs))) (2 ^ 60)
subs-next subs i n b below s lt is so_far blocks under =
    let e : i + 1 ≡ suc i = omega arith in
    let here : take (i + 1) subs ≡ take i subs ++ s ∷ [] = ap (λ (k : ℕ). take k subs) e ∙ take-suc subs i s lt ∙ ap (λ (x : Sub). take i subs ++ x ∷ []) (sym is) in
    let all = ap (λ (l : List Sub). subs_size (flattened l)) here ∙ subs-more (take i subs) s in
    omega (arith, so_far, blocks, under, all)

-- ---- nodes

size-more : (xs : List (Nid × Option NodeRec)) (c : Nid × Option NodeRec) → size (xs ++ c ∷ []) ≡ size xs + one_node c.1
size-more [] c = let a = size-one c [] in omega (arith, a)
size-more (x ∷ xs) c = let a = size-one x xs in let b = size-one x (xs ++ c ∷ []) in let h = size-more xs c in omega (arith, a, b, h)

size-take : (cs : List (Nid × Option NodeRec)) (i : ℕ) (c : Nid × Option NodeRec) → i < length cs → c ≡ get_or cs i c → size (take (i + 1) cs) ≡ size (take i cs) + one_node c.1
size-take cs i c lt is =
    let e : i + 1 ≡ suc i = omega arith in
    let here : take (i + 1) cs ≡ take i cs ++ c ∷ [] = ap (λ (k : ℕ). take k cs) e ∙ take-suc cs i c lt ∙ ap (λ (x : Nid × Option NodeRec). take i cs ++ x ∷ []) (sym is) in
    ap size here ∙ size-more (take i cs) c

-- one changed node more
pub nodes-next : (cs : List (Nid × Option NodeRec)) (i n m : ℕ) (c : Nid × Option NodeRec) → i < length cs → c ≡ get_or cs i c → n ≡ min (size (take i cs)) (2 ^ 60) → m ≡ min (one_node c.1) (2 ^ 60)
    → min (n + m) (2 ^ 60) ≡ min (size (take (i + 1) cs)) (2 ^ 60)
nodes-next cs i n m c lt is so_far one = let all = size-take cs i c lt is in omega (arith, so_far, one, all)

-- a subnode has fewer below it than a list in which it stands
pub sub-less : (subs : List Sub) (i : ℕ) (s : Sub) → i < length subs → s ≡ get_or subs i s → length s.subs < length (flattened subs)
sub-less [] i s lt is = absurd (omega (arith, lt))
sub-less (x ∷ subs) zero s lt is =
    let a = length-append (map one_deeper x.subs) (flattened subs) in
    let b = length-map x.subs one_deeper in
    let e : length s.subs ≡ length x.subs = ap (λ (y : Sub). length y.subs) is in
    omega (arith, a, b, e)
sub-less (x ∷ subs) (suc i) s lt is =
    let a = length-append (map one_deeper x.subs) (flattened subs) in
    let h = sub-less subs i s (omega (arith, lt)) is in
    omega (arith, a, h)

-- ---- what is replaced

replaced-append : (F : Staged) (xs : List (Nid × Option NodeRec)) (c : Nid × Option NodeRec) → replaced F (xs ++ c ∷ []) ≡ replaced F xs + one_changed (finite.get F (c.0).bits)
replaced-append F [] c = omega arith
replaced-append F (x ∷ xs) c = let h = replaced-append F xs c in omega (arith, h)

replaced-take : (F : Staged) (cs : List (Nid × Option NodeRec)) (i : ℕ) → replaced F (take i cs) ≤ replaced F cs
replaced-take F cs zero = omega arith
replaced-take F [] (suc i) = omega arith
replaced-take F (c ∷ cs) (suc i) = let h = replaced-take F cs i in omega (arith, h)

-- one change more: so far it is no more than is put, which is little
pub replaced-next : (F : Staged) (cs : List (Nid × Option NodeRec)) (i n m most : ℕ) (c : Nid × Option NodeRec) → i < length cs → c ≡ get_or cs i c → replaced F cs ≤ most → most ≤ 16384
    → n ≡ replaced F (take i cs) → m ≡ min (one_changed (finite.get F (c.0).bits)) (2 ^ 60) → min (n + m) (2 ^ 64 - 1) ≡ replaced F (take (i + 1) cs)
replaced-next F cs i n m most c lt is le few so_far one =
    let e : i + 1 ≡ suc i = omega arith in
    let here : take (i + 1) cs ≡ take i cs ++ c ∷ [] = ap (λ (k : ℕ). take k cs) e ∙ take-suc cs i c lt ∙ ap (λ (x : Nid × Option NodeRec). take i cs ++ x ∷ []) (sym is) in
    let all : replaced F (take (i + 1) cs) ≡ replaced F (take i cs) + one_changed (finite.get F (c.0).bits) = ap (replaced F) here ∙ replaced-append F (take i cs) c in
    let top = replaced-take F cs (i + 1) in
    omega (arith, so_far, one, all, top, le, few)
