-- Blocks that name others, id by id.
use Rattle.std.proofs.Common.{true, ◌≡◌, ℕ, suc, ◌+◌, ◌-◌, ◌*◌, ◌<◌, ◌≤◌, leb, eqb, ◌&&◌, List, [], ◌∷◌, ◌++◌, length, drop, get_or, sym, ap, ◌∙◌, arith, append_assoc}
use Rattle.std.proofs.lemmas.Bool.{and_parts, leb-true, eqb-true}
use Rattle.std.proofs.lemmas.List.{drop-drop}
use Rattle.std.proofs.Math.Seq.{drop-cons}
use Rattle.pst_base.specs.declared.ids.Bid.{Bid}
use Rattle.pst_base.specs.Fields.{number_at}
use Rattle.data_tree.specs.Tree.{ids, is_listing, names_of}

-- the layout of a block that names others
pub record IsLaidOut (b : List ℕ) : Type 0 where
  pub begins : 8 ≤ length b
  pub most : number_at 2 2 b ≤ 1021
  pub ends : length b ≡ 8 + 8 * number_at 2 2 b

pub is_laid_out : (level : ℕ) (b : List ℕ) → is_listing level b ≡ true → IsLaidOut b
unfolding is_listing
is_laid_out level b listing =
    let one = and_parts (leb 8 (length b)) (eqb (number_at 1 0 b) 1 && (eqb (number_at 1 1 b) level && (leb (number_at 2 2 b) 1021 && eqb (length b) (8 + 8 * number_at 2 2 b)))) listing in
    let two = and_parts (eqb (number_at 1 0 b) 1) (eqb (number_at 1 1 b) level && (leb (number_at 2 2 b) 1021 && eqb (length b) (8 + 8 * number_at 2 2 b))) one.1 in
    let three = and_parts (eqb (number_at 1 1 b) level) (leb (number_at 2 2 b) 1021 && eqb (length b) (8 + 8 * number_at 2 2 b)) two.1 in
    let four = and_parts (leb (number_at 2 2 b) 1021) (eqb (length b) (8 + 8 * number_at 2 2 b)) three.1 in
    record {
      begins = leb-true 8 (length b) one.0;
      most = leb-true (number_at 2 2 b) 1021 four.0;
      ends = eqb-true (length b) (8 + 8 * number_at 2 2 b) four.1;
    }

-- the list with an element at its place in front of what follows
pub drop-here : {X : Type 0} (xs : List X) (i : ℕ) (d : X) → i < length xs → drop i xs ≡ get_or xs i d ∷ drop (i + 1) xs
drop-here {X} xs i d h = let e : suc i ≡ i + 1 = omega arith in drop-cons xs i d h ∙ ap (λ (k : ℕ). get_or xs i d ∷ drop k xs) e

pub names-start : (b : List ℕ) → [] ++ ids (number_at 2 2 b - 0) (drop (8 + 8 * 0) b) ≡ names_of b
unfolding names_of
names-start b = let e : number_at 2 2 b - 0 ≡ number_at 2 2 b = omega arith in ap (λ (n : ℕ). ids n (drop 8 b)) e

ids-next : (n i : ℕ) (b : List ℕ) → i < n → ids (n - i) (drop (8 + 8 * i) b) ≡ record { bits = number_at 8 (8 + 8 * i) b } ∷ ids (n - (i + 1)) (drop (8 + 8 * (i + 1)) b)
unfolding number_at
ids-next n i b h =
    let e : n - i ≡ suc (n - (i + 1)) = omega arith in
    let f : 8 + 8 * i + 8 ≡ 8 + 8 * (i + 1) = omega arith in
    ap (λ (m : ℕ). ids m (drop (8 + 8 * i) b)) e
    ∙ ap (λ (rest : List ℕ). record { bits = number_at 8 (8 + 8 * i) b } ∷ ids (n - (i + 1)) rest) (drop-drop 8 (8 + 8 * i) b ∙ ap (λ (k : ℕ). drop k b) f)

pub names-next : (bids : List Bid) (i : ℕ) (b : List ℕ) → i < number_at 2 2 b → bids ++ ids (number_at 2 2 b - i) (drop (8 + 8 * i) b) ≡ names_of b
    → (bids ++ record { bits = number_at 8 (8 + 8 * i) b } ∷ []) ++ ids (number_at 2 2 b - (i + 1)) (drop (8 + 8 * (i + 1)) b) ≡ names_of b
names-next bids i b h so_far =
    append_assoc bids (record { bits = number_at 8 (8 + 8 * i) b } ∷ []) (ids (number_at 2 2 b - (i + 1)) (drop (8 + 8 * (i + 1)) b))
    ∙ ap (λ (rest : List Bid). bids ++ rest) (sym (ids-next (number_at 2 2 b) i b h)) ∙ so_far
