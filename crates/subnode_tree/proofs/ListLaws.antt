-- Entries of a block one by one, and their NIDs.
use Rattle.std.proofs.Common.{true, ◌≡◌, ℕ, suc, ◌+◌, ◌-◌, ◌*◌, ◌<◌, ◌≤◌, leb, eqb, ◌&&◌, List, [], ◌∷◌, ◌++◌, length, sym, ap, ◌∙◌, arith, append_assoc}
use Rattle.std.proofs.lemmas.Bool.{and_parts, leb-true, eqb-true}
use Rattle.pst_base.specs.Fields.{number_at}
use Rattle.subnode_tree.specs.declared.blocks.SubEntry.{SubEntry}
use Rattle.subnode_tree.specs.declared.blocks.Listed.{Listed}
use Rattle.subnode_tree.specs.Subnodes.{is_laid, entry_at, entries_from, entries_of, listed_at, listed_from, listed_of}

pub record IsLaidOut (size : ℕ) (b : List ℕ) : Type 0 where
  pub begins : 8 ≤ length b
  pub ends : length b ≡ 8 + size * number_at 2 2 b

pub is_laid_out : (level most size : ℕ) (b : List ℕ) → is_laid level most size b ≡ true → IsLaidOut size b
unfolding is_laid
is_laid_out level most size b laid =
    let one = and_parts (leb 8 (length b)) (eqb (number_at 1 0 b) 2 && (eqb (number_at 1 1 b) level && (leb (number_at 2 2 b) most && eqb (length b) (8 + size * number_at 2 2 b)))) laid in
    let two = and_parts (eqb (number_at 1 0 b) 2) (eqb (number_at 1 1 b) level && (leb (number_at 2 2 b) most && eqb (length b) (8 + size * number_at 2 2 b))) one.1 in
    let three = and_parts (eqb (number_at 1 1 b) level) (leb (number_at 2 2 b) most && eqb (length b) (8 + size * number_at 2 2 b)) two.1 in
    let four = and_parts (leb (number_at 2 2 b) most) (eqb (length b) (8 + size * number_at 2 2 b)) three.1 in
    record { begins = leb-true 8 (length b) one.0; ends = eqb-true (length b) (8 + size * number_at 2 2 b) four.1 }

-- ---- entries so far, and the rest

pub entries-start : (level : ℕ) (b : List ℕ) → [] ++ entries_from level (number_at 2 2 b - 0) (8 + 24 * 0) b ≡ entries_of level b
unfolding entries_of
entries-start level b = let e : number_at 2 2 b - 0 ≡ number_at 2 2 b = omega arith in ap (λ (n : ℕ). entries_from level n 8 b) e

pub entries-next : (level : ℕ) (out : List SubEntry) (i : ℕ) (b : List ℕ) → i < number_at 2 2 b
    → out ++ entries_from level (number_at 2 2 b - i) (8 + 24 * i) b ≡ entries_of level b
    → (out ++ entry_at level (8 + 24 * i) b ∷ []) ++ entries_from level (number_at 2 2 b - (i + 1)) (8 + 24 * (i + 1)) b ≡ entries_of level b
entries-next level out i b h so_far =
    let e : number_at 2 2 b - i ≡ suc (number_at 2 2 b - (i + 1)) = omega arith in
    let f : 8 + 24 * i + 24 ≡ 8 + 24 * (i + 1) = omega arith in
    let one : entries_from level (number_at 2 2 b - i) (8 + 24 * i) b ≡ entry_at level (8 + 24 * i) b ∷ entries_from level (number_at 2 2 b - (i + 1)) (8 + 24 * (i + 1)) b =
    ap (λ (n : ℕ). entries_from level n (8 + 24 * i) b) e
    ∙ ap (λ (at : ℕ). entry_at level (8 + 24 * i) b ∷ entries_from level (number_at 2 2 b - (i + 1)) at b) f in
    append_assoc out (entry_at level (8 + 24 * i) b ∷ []) (entries_from level (number_at 2 2 b - (i + 1)) (8 + 24 * (i + 1)) b)
    ∙ ap (λ (rest : List SubEntry). out ++ rest) (sym one) ∙ so_far

pub listed-start : (b : List ℕ) → [] ++ listed_from (number_at 2 2 b - 0) (8 + 16 * 0) b ≡ listed_of b
unfolding listed_of
listed-start b = let e : number_at 2 2 b - 0 ≡ number_at 2 2 b = omega arith in ap (λ (n : ℕ). listed_from n 8 b) e

pub listed-next : (out : List Listed) (i : ℕ) (b : List ℕ) → i < number_at 2 2 b
    → out ++ listed_from (number_at 2 2 b - i) (8 + 16 * i) b ≡ listed_of b
    → (out ++ listed_at (8 + 16 * i) b ∷ []) ++ listed_from (number_at 2 2 b - (i + 1)) (8 + 16 * (i + 1)) b ≡ listed_of b
listed-next out i b h so_far =
    let e : number_at 2 2 b - i ≡ suc (number_at 2 2 b - (i + 1)) = omega arith in
    let f : 8 + 16 * i + 16 ≡ 8 + 16 * (i + 1) = omega arith in
    let one : listed_from (number_at 2 2 b - i) (8 + 16 * i) b ≡ listed_at (8 + 16 * i) b ∷ listed_from (number_at 2 2 b - (i + 1)) (8 + 16 * (i + 1)) b =
    ap (λ (n : ℕ). listed_from n (8 + 16 * i) b) e
    ∙ ap (λ (at : ℕ). listed_at (8 + 16 * i) b ∷ listed_from (number_at 2 2 b - (i + 1)) at b) f in
    append_assoc out (listed_at (8 + 16 * i) b ∷ []) (listed_from (number_at 2 2 b - (i + 1)) (8 + 16 * (i + 1)) b)
    ∙ ap (λ (rest : List Listed). out ++ rest) (sym one) ∙ so_far

-- ---- NIDs
