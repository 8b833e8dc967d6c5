-- Writes to a copy, as lists of bytes.
use Rattle.std.proofs.Common.{◌≡◌, ◌∙◌, ℕ, ◌+◌, ◌-◌, ◌≤◌, List, [], ◌++◌, length, take, drop, sym, ap, arith, append_assoc, length-append}
use Rattle.std.proofs.Math.Seq.{take-add}
use Rattle.std.proofs.lemmas.List.{take_all, drop_all, append-nil, drop-append-le, drop-take, drop-drop, length-take}
use Rattle.pst_outside.specs.World.{after_write}
use Rattle.pst_outside.proofs.Bytes.{after_write_within, length-after_write}

-- a write behind the end
pub write_behind : (copy bytes : List ℕ) (at : ℕ) → length copy ≡ at → after_write copy at bytes ≡ copy ++ bytes
write_behind copy bytes at end =
    let front : take at copy ≡ copy = take_all at copy (omega (arith, end)) in
    let back : drop (at + length bytes) copy ≡ [] = drop_all (at + length bytes) copy (omega (arith, end)) in
    after_write_within copy at bytes (omega (arith, end)) ∙ (λ i. (front i) ++ bytes ++ (back i)) ∙ append-nil (copy ++ bytes)

-- one piece more of what stands from a place on
pub piece_more : (main copy front bytes : List ℕ) (from at n : ℕ) → from ≤ at → copy ≡ front ++ take (at - from) (drop from main) → length copy ≡ at
    → bytes ≡ take n (drop at main) → after_write copy at bytes ≡ front ++ take (at + n - from) (drop from main)
piece_more main copy front bytes from at n low so_far end is =
    let k : ℕ = at - from in
    let there : drop k (drop from main) ≡ drop at main = let e : from + k ≡ at = omega arith in drop-drop k from main ∙ ap (λ (i : ℕ). drop i main) e in
    let more : at + n - from ≡ k + n = omega arith in
    write_behind copy bytes at end
    ∙ (λ i. (so_far i) ++ (is i))
    ∙ append_assoc front (take k (drop from main)) (take n (drop at main))
    ∙ ap (λ (l : List ℕ). front ++ l) (ap (λ (l : List ℕ). take k (drop from main) ++ take n l) (sym there) ∙ sym (take-add k n (drop from main)))
    ∙ ap (λ (i : ℕ). front ++ take i (drop from main)) (sym more)

-- a write at the front
pub write_front : (copy bytes : List ℕ) → after_write copy 0 bytes ≡ bytes ++ drop (length bytes) copy
write_front copy bytes =
    let zero_plus : 0 + length bytes ≡ length bytes = omega arith in
    after_write_within copy 0 bytes (omega arith) ∙ ap (λ (i : ℕ). bytes ++ drop i copy) zero_plus

-- what a write within leaves behind a place before it
behind_write : (copy bytes : List ℕ) (from at : ℕ) → from ≤ at → at ≤ length copy
    → drop from (after_write copy at bytes) ≡ take (at - from) (drop from copy) ++ bytes ++ drop (at + length bytes - from) (drop from copy)
behind_write copy bytes from at low within =
    let k : ℕ = at - from in
    let e : from + k ≡ at = omega arith in
    let n : ℕ = at + length bytes in
    let m : n ≡ from + (n - from) = omega arith in
    let len : from ≤ length (take at copy) = omega (arith, length-take at copy) in
    let long : from ≤ length (take at copy ++ bytes) = omega (arith, length-append (take at copy) bytes, len) in
    ap (drop from) (after_write_within copy at bytes within)
    ∙ drop-append-le from (take at copy ++ bytes) (drop n copy) long
    ∙ ap (λ (l : List ℕ). l ++ drop n copy) (drop-append-le from (take at copy) bytes len ∙ ap (λ (l : List ℕ). l ++ bytes) (ap (λ (i : ℕ). drop from (take i copy)) (sym e) ∙ drop-take from k copy))
    ∙ ap (λ (l : List ℕ). take k (drop from copy) ++ bytes ++ l) (ap (λ (i : ℕ). drop i copy) m ∙ sym (drop-drop (n - from) from copy))

-- two copies that are the same behind a place are so after the same write behind it
pub same_behind : (a b bytes : List ℕ) (from at : ℕ) → from ≤ at → at ≤ length a → length a ≡ length b → drop from a ≡ drop from b
    → drop from (after_write a at bytes) ≡ drop from (after_write b at bytes)
same_behind a b bytes from at low within long same =
    behind_write a bytes from at low within
    ∙ ap (λ (l : List ℕ). take (at - from) l ++ bytes ++ drop (at + length bytes - from) l) same
    ∙ sym (behind_write b bytes from at low (omega (arith, long)))

pub same_length : (a b bytes : List ℕ) (at : ℕ) → length a ≡ length b → length (after_write a at bytes) ≡ length (after_write b at bytes)
same_length a b bytes at same = omega (arith, same, length-after_write a at bytes, length-after_write b at bytes)

pub no_shorter : (a bytes : List ℕ) (at : ℕ) → length a ≤ length (after_write a at bytes)
no_shorter a bytes at = omega (arith, length-after_write a at bytes)
