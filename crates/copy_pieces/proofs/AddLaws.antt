-- Pieces written one after another.
use Rattle.std.proofs.Common.{◌≡◌, ◌∙◌, ℕ, ◌+◌, ◌≤◌, List, [], ◌∷◌, ◌++◌, length, take, get_or, refl, sym, ap, subst, arith, append_assoc, length-append}
use Rattle.std.proofs.lemmas.List.{append-nil, take_all}
use Rattle.pst_outside.specs.World.{after_write}
use Rattle.pst_outside.proofs.Bytes.{length-after_write}
use Rattle.btree_pages.specs.declared.entry.BlockEntry.{BlockEntry}
use Rattle.lays_kept.specs.declared.Piece.{Piece}
use Rattle.lays_kept.specs.Kept.{HoldsEach}
use Rattle.pst_commit.proofs.Scatter.{holds_more}
use Rattle.copy_pieces.specs.Writes.{Adds, AddsBlocks, AreCopied, EndBy, IsCopied}

pub adds-none : (copy : List ℕ) → Adds copy copy []
adds-none copy = record { longer = omega arith; no_longer = λ n low ends. low; holds = λ ps h. subst (HoldsEach copy) (sym (append-nil ps)) h }

pub ends-front : (n : ℕ) (xs ys : List Piece) → EndBy n (xs ++ ys) → EndBy n xs
ends-front n [] ys ends = tt
ends-front n (x ∷ xs) ys ends = (ends.0, ends-front n xs ys ends.1)

pub ends-back : (n : ℕ) (xs ys : List Piece) → EndBy n (xs ++ ys) → EndBy n ys
ends-back n [] ys ends = ends
ends-back n (x ∷ xs) ys ends = ends-back n xs ys ends.1

pub adds-then : (a b c : List ℕ) (xs ys : List Piece) → Adds a b xs → Adds b c ys → Adds a c (xs ++ ys)
adds-then a b c xs ys p q = record {
  longer = let s = p.longer in let t = q.longer in omega (arith, s, t);
  no_longer = λ n low ends. q.no_longer n (p.no_longer n low (ends-front n xs ys ends)) (ends-back n xs ys ends);
  holds = λ ps h. subst (HoldsEach c) (append_assoc ps xs ys) (q.holds (ps ++ xs) (p.holds ps h));
}

front-of : (ps : List Piece) (p : Piece) → take (length ps) (ps ++ p ∷ []) ≡ ps
front-of [] p = refl
front-of (q ∷ ps) p = ap (λ (l : List Piece). q ∷ l) (front-of ps p)

last-of : (ps : List Piece) (p : Piece) → p ≡ get_or (ps ++ p ∷ []) (length ps) p
last-of [] p = refl
last-of (q ∷ ps) p = last-of ps p

-- a write
pub adds-write : (old new : List ℕ) (at : ℕ) (bytes : List ℕ) → new ≡ after_write old at bytes → Adds old new (record { at = at; bytes = bytes } ∷ [])
adds-write old new at bytes is =
    let p : Piece = record { at = at; bytes = bytes } in
    let long = ap length is ∙ length-after_write old at bytes in
    record {
      longer = omega (arith, long);
      no_longer = λ n low ends. let end = ends.0 in omega (arith, long, low, end);
      holds = λ ps h.
          let size = length-append ps (p ∷ []) in
          let all : take (length ps + 1) (ps ++ p ∷ []) ≡ ps ++ p ∷ [] = take_all (length ps + 1) (ps ++ p ∷ []) (omega (arith, size)) in
          subst (λ (l : List ℕ). HoldsEach l (ps ++ p ∷ [])) (sym is)
          (subst (HoldsEach (after_write old at bytes)) all
          (holds_more (ps ++ p ∷ []) (length ps) p old (omega (arith, size)) (last-of ps p) (subst (HoldsEach old) (sym (front-of ps p)) h)));
    }

pub adds-same : (a b c : List ℕ) (xs : List Piece) → Adds a b xs → c ≡ b → Adds a c xs
adds-same a b c xs adds same = subst (λ (l : List ℕ). Adds a l xs) (sym same) adds

-- ---- blocks

pub copied-append : (file : List ℕ) (olds news : List BlockEntry) (pieces : List Piece) (old new : BlockEntry) (p : Piece) → AreCopied file olds news pieces → IsCopied file old new p
    → AreCopied file (olds ++ old ∷ []) (news ++ new ∷ []) (pieces ++ p ∷ [])
copied-append file [] news pieces old new p are is =
    subst (λ (l : List BlockEntry). AreCopied file (old ∷ []) (l ++ new ∷ []) (pieces ++ p ∷ [])) (sym are.0)
    (subst (λ (l : List Piece). AreCopied file (old ∷ []) (new ∷ []) (l ++ p ∷ [])) (sym are.1) (is, (refl, refl)))
copied-append file (o ∷ olds) [] pieces old new p are is = absurd are
copied-append file (o ∷ olds) (n ∷ news) [] old new p are is = absurd are
copied-append file (o ∷ olds) (n ∷ news) (q ∷ pieces) old new p are is = (are.0, copied-append file olds news pieces old new p are.1 is)

pub blocks-more : (file : List ℕ) (olds news : List BlockEntry) (a b c : List ℕ) (old new : BlockEntry) (p : Piece) → AddsBlocks file olds news a b → IsCopied file old new p → Adds b c (p ∷ [])
    → AddsBlocks file (olds ++ old ∷ []) (news ++ new ∷ []) a c
blocks-more file olds news a b c old new p so_far is adds = record {
  pieces = so_far.pieces ++ p ∷ [];
  are = copied-append file olds news so_far.pieces old new p so_far.are is;
  adds = adds-then a b c so_far.pieces (p ∷ []) so_far.adds adds;
}

pub blocks-none : (file copy : List ℕ) → AddsBlocks file [] [] copy copy
blocks-none file copy = record { pieces = []; are = (refl, refl); adds = adds-none copy }
