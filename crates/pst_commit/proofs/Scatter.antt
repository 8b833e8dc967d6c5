-- Pieces that are written one after another.
use Rattle.std.proofs.Common.{◌≡◌, ◌∙◌, ◌⊎◌, ℕ, zero, suc, ◌+◌, ◌<◌, ◌≤◌, List, [], ◌∷◌, ◌++◌, length, take, drop, get_or, sym, ap, subst, arith}
use Rattle.std.proofs.lemmas.List.{take_more}
use Rattle.pst_outside.specs.World.{Image, Torn, TornAt, after_write}
use Rattle.pst_outside.specs.Calls.{raised}
use Rattle.pst_outside.specs.declared.outside.Part.TheVariants.{Main}
use Rattle.pst_outside.proofs.Bytes.{torn_span, after_write_torn, after_write_span, length-after_write}
use Rattle.lays_kept.specs.declared.Piece.{Piece}
use Rattle.lays_kept.specs.Kept.{IsClear, HoldsEach, Scattered}
use Rattle.pst_commit.specs.Commit.{Writes, bytes_in}

-- a span that meets no piece doesn't meet this one
pub clear_one : (ps : List Piece) (i : ℕ) (d : Piece) → i < length ps → (at n : ℕ) → IsClear ps at n → (at + n ≤ (get_or ps i d).at) ⊎ ((get_or ps i d).at + length (get_or ps i d).bytes ≤ at)
clear_one [] i d lt at n clear = absurd (omega (arith, lt))
clear_one (p ∷ ps) zero d lt at n clear = clear.0
clear_one (p ∷ ps) (suc i) d lt at n clear = clear_one ps i d (omega (arith, lt)) at n clear.1

clear_of : (ps : List Piece) (i : ℕ) (p : Piece) → i < length ps → p ≡ get_or ps i p → (at n : ℕ) → IsClear ps at n → (at + n ≤ p.at) ⊎ (p.at + length p.bytes ≤ at)
clear_of ps i p lt is at n clear = subst (λ (q : Piece). (at + n ≤ q.at) ⊎ (q.at + length q.bytes ≤ at)) (sym is) (clear_one ps i p lt at n clear)

pub scatter_more : (ps : List Piece) (i : ℕ) (p : Piece) (old mid new : List ℕ) → i < length ps → p ≡ get_or ps i p → Scattered ps old mid → Torn p.at (length p.bytes) mid new → Scattered ps old new
scatter_more ps i p old mid new lt is so_far torn = record {
  longer = omega (arith, so_far.longer, torn.no_shorter);
  same = λ at n within clear. torn_span torn at n (omega (arith, within, so_far.longer)) (clear_of ps i p lt is at n clear) ∙ so_far.same at n within clear;
}

-- one write more of a piece of the list
pub writes_more : (ps : List Piece) (i : ℕ) (p : Piece) (first : List ℕ) (old mid new : Image) → i < length ps → p ≡ get_or ps i p → Writes (Scattered ps first) old mid → TornAt Main p.at (length p.bytes) mid new → Writes (Scattered ps first) old new
writes_more ps i p first old mid new lt is so_far torn = record {
  file = scatter_more ps i p first mid.main new.main lt is so_far.file torn.torn;
  others = (torn.others.0 ∙ so_far.others.0, torn.others.1 ∙ so_far.others.1, torn.others.2 ∙ so_far.others.2);
}

-- ---- how many bytes

bytes_more : (ps : List Piece) (i : ℕ) (p : Piece) → i < length ps → p ≡ get_or ps i p → bytes_in (take (i + 1) ps) ≡ bytes_in (take i ps) + length p.bytes
bytes_more [] i p lt is = absurd (omega (arith, lt))
bytes_more (q ∷ ps) zero p lt is = let e : length p.bytes ≡ length q.bytes = ap (λ (x : Piece). length x.bytes) is in omega (arith, e)
bytes_more (q ∷ ps) (suc i) p lt is =
    let rest = bytes_more ps i p (omega (arith, lt)) is in
    let e : suc i + 1 ≡ suc (i + 1) = omega arith in
    ap (λ k. bytes_in (take k (q ∷ ps))) e ∙ omega (arith, rest)

bytes_part : (ps : List Piece) (i : ℕ) → bytes_in (take i ps) ≤ bytes_in ps
bytes_part [] zero = omega arith
bytes_part [] (suc i) = omega arith
bytes_part (p ∷ ps) zero = omega arith
bytes_part (p ∷ ps) (suc i) = let rest = bytes_part ps i in omega (arith, rest)

-- what was asked for so far, with one piece more
pub asked_more : (ps : List Piece) (i n : ℕ) (p : Piece) (first : ℕ) {mid new : ℕ} → i < length ps → p ≡ get_or ps i p → n ≡ length p.bytes → mid ≤ first + bytes_in (take i ps) → new ≡ raised mid n → new ≤ first + bytes_in (take (i + 1) ps)
asked_more ps i n p first lt is size so_far now = let more = bytes_more ps i p lt is in omega (arith, more, size, so_far, now)

-- and at the end
pub asked_all : (ps : List Piece) (i first : ℕ) {new : ℕ} → new ≤ first + bytes_in (take i ps) → new ≤ first + bytes_in ps
asked_all ps i first most = let part = bytes_part ps i in omega (arith, part, most)

-- ---- what stands

clear_split : (xs : List Piece) (p : Piece) (at n : ℕ) → IsClear (xs ++ p ∷ []) at n → IsClear xs at n × ((at + n ≤ p.at) ⊎ (p.at + length p.bytes ≤ at))
clear_split [] p at n clear = (tt, clear.0)
clear_split (x ∷ xs) p at n clear = let rest = clear_split xs p at n clear.1 in ((clear.0, rest.0), rest.1)

-- a write of one piece more leaves those that it doesn't meet
holds_push : (xs : List Piece) (p : Piece) (mid new : List ℕ) → Torn p.at (length p.bytes) mid new → p.at + length p.bytes ≤ length new → take (length p.bytes) (drop p.at new) ≡ p.bytes
    → HoldsEach mid xs → HoldsEach new (xs ++ p ∷ [])
holds_push [] p mid new torn reach here holds = (reach, λ clear. here, tt)
holds_push (x ∷ xs) p mid new torn reach here holds = (
  omega (arith, holds.0, torn.no_shorter),
  λ clear. let parts = clear_split xs p x.at (length x.bytes) clear in torn_span torn x.at (length x.bytes) holds.0 parts.1 ∙ holds.1 parts.0,
  holds_push xs p mid new torn reach here holds.2,
)

-- one piece more stands
pub holds_more : (ps : List Piece) (i : ℕ) (p : Piece) (mid : List ℕ) → i < length ps → p ≡ get_or ps i p → HoldsEach mid (take i ps) → HoldsEach (after_write mid p.at p.bytes) (take (i + 1) ps)
holds_more ps i p mid lt is holds =
    let new : List ℕ = after_write mid p.at p.bytes in
    let more : take (i + 1) ps ≡ take i ps ++ p ∷ [] = take_more ps i p lt ∙ ap (λ (q : Piece). take i ps ++ q ∷ []) (sym is) in
    let long : p.at + length p.bytes ≤ length new = omega (arith, length-after_write mid p.at p.bytes) in
    subst (HoldsEach new) (sym more) (holds_push (take i ps) p mid new (after_write_torn mid p.at p.bytes) long (after_write_span mid p.at p.bytes) holds)
