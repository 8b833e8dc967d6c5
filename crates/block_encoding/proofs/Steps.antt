-- One byte more of a loop over a block's data.
use Rattle.std.proofs.Common.{◌≡◌, ◌∙◌, ℕ, ◌+◌, ◌<◌, ◌≤◌, ◌%◌, List, [], ◌∷◌, ◌++◌, take, drop, length, get_or, refl, sym, ap, arith, append_assoc, add-one}
use Rattle.std.proofs.Math.ListN.{set}
use Rattle.std.proofs.Math.Seq.{drop-cons}
use Rattle.std.proofs.lemmas.List.{take_more_set, drop-set-lt, take_all, drop_all, append-nil}
use Rattle.block_encoding.specs.Encoding.{turned, turned_from}

turned_cons : (w x : ℕ) (bs : List ℕ) → turned_from w (x ∷ bs) ≡ turned w x ∷ turned_from ((w + 1) % 65536) bs
unfolding turned_from
turned_cons w x bs = refl

pub turn_step : (b : List ℕ) (w i v : ℕ) → i < length b → v ≡ turned w (get_or b i 0) → take (i + 1) (set b i v) ++ turned_from ((w + 1) % 65536) (drop (i + 1) (set b i v)) ≡ take i b ++ turned_from w (drop i b)
turn_step b w i v h e =
    let n : ℕ = (w + 1) % 65536 in
    let t : take (i + 1) (set b i v) ≡ take i b ++ v ∷ [] = take_more_set b i v h in
    let d : drop (i + 1) (set b i v) ≡ drop (i + 1) b = drop-set-lt (i + 1) b i v (omega arith) in
    let c : drop i b ≡ get_or b i 0 ∷ drop (i + 1) b = rw add-one (drop-cons b i 0 h) in
    (λ k. (t k) ++ turned_from n (d k)) ∙ append_assoc (take i b) (v ∷ []) (turned_from n (drop (i + 1) b)) ∙ (λ k. take i b ++ (e k) ∷ turned_from n (drop (i + 1) b))
    ∙ sym (ap (λ (l : List ℕ). take i b ++ l) (ap (turned_from w) c ∙ turned_cons w (get_or b i 0) (drop (i + 1) b)))

turned_nil : (w : ℕ) → turned_from w [] ≡ []
unfolding turned_from
turned_nil w = refl

pub turn_done : (b : List ℕ) (w i : ℕ) → length b ≤ i → take i b ++ turned_from w (drop i b) ≡ b
turn_done b w i h =
    let t : take i b ≡ b = take_all i b h in
    let d : drop i b ≡ [] = drop_all i b h in
    (λ k. (t k) ++ turned_from w (d k)) ∙ ap (λ (l : List ℕ). b ++ l) (turned_nil w) ∙ append-nil b
