-- Blocks chosen and placed one after another.
use Rattle.std.proofs.Common.{Bool, true, false, ◌≡◌, ◌∙◌, ℕ, zero, suc, ◌+◌, ◌<◌, ◌≤◌, eqb, List, [], ◌∷◌, ◌++◌, length, take, get_or, map, refl, sym, ap, subst, arith, if◌then◌else◌}
use Rattle.std.proofs.lemmas.List.{take_more}
use Rattle.pst_base.specs.declared.places.Place.{Place}
use Rattle.btree_pages.specs.declared.entry.BlockEntry.{BlockEntry}
use Rattle.copy_layout.specs.Order.{InOrder, IsNext}
use Rattle.file_blocks.specs.Blocks.{AllStand, Stands, entry_key}
use Rattle.file_layout.specs.Nodes.{place_of}
use Rattle.file_scan.specs.Parts.{AllShort}
use Rattle.tree_edit.proofs.ShapeLaws.{map-join}
use Rattle.pst_outside.specs.World.{Image}
use Rattle.file_blocks.specs.Blocks.{file_of}
use Rattle.copy_part.specs.Keeps.{SameSource}
use Rattle.copy_pieces.specs.Moved.{AreMoved, IsMoved, reached}

-- ---- chosen

reached-append : (uses : ℕ → ℕ) (xs : List BlockEntry) (e : BlockEntry) → reached uses (xs ++ e ∷ []) ≡ reached uses xs ++ reached uses (e ∷ [])
reached-append uses [] e = refl
reached-append uses (x ∷ xs) e = by (eqb (uses (entry_key x)) 0) (reached-append uses xs e)
  where
    by : (t : Bool) → reached uses (xs ++ e ∷ []) ≡ reached uses xs ++ reached uses (e ∷ []) → (if t then reached uses (xs ++ e ∷ []) else x ∷ reached uses (xs ++ e ∷ [])) ≡ (if t then reached uses xs else x ∷ reached uses xs) ++ reached uses (e ∷ [])
    by true rest = rest
    by false rest = ap (λ (l : List BlockEntry). x ∷ l) rest

-- one entry more
pub reached-more : (uses : ℕ → ℕ) (es : List BlockEntry) (i : ℕ) (d : BlockEntry) → i < length es → reached uses (take (i + 1) es) ≡ reached uses (take i es) ++ reached uses (get_or es i d ∷ [])
reached-more uses es i d within = ap (reached uses) (take_more es i d within) ∙ reached-append uses (take i es) (get_or es i d)

pub reached-one : (uses : ℕ → ℕ) (e : BlockEntry) → eqb (uses (entry_key e)) 0 ≡ false → reached uses (e ∷ []) ≡ e ∷ []
reached-one uses e some = ap (λ (t : Bool). if t then [] else e ∷ []) some

pub reached-none : (uses : ℕ → ℕ) (e : BlockEntry) → eqb (uses (entry_key e)) 0 ≡ true → reached uses (e ∷ []) ≡ []
reached-none uses e none = ap (λ (t : Bool). if t then [] else e ∷ []) none

-- ---- moved

moved-append : (uses : ℕ → ℕ) (olds news : List BlockEntry) (old new : BlockEntry) → AreMoved uses olds news → IsMoved uses old new → AreMoved uses (olds ++ old ∷ []) (news ++ new ∷ [])
moved-append uses [] news old new are is = subst (λ (l : List BlockEntry). AreMoved uses (old ∷ []) (l ++ new ∷ [])) (sym are) (is, refl)
moved-append uses (o ∷ olds) [] old new are is = absurd are
moved-append uses (o ∷ olds) (n ∷ news) old new are is = (are.0, moved-append uses olds news old new are.1 is)

pub moved-more : (uses : ℕ → ℕ) (olds news next : List BlockEntry) (i : ℕ) (d new : BlockEntry) → i < length olds → AreMoved uses (take i olds) news → IsMoved uses (get_or olds i d) new → next ≡ news ++ new ∷ [] → AreMoved uses (take (i + 1) olds) next
moved-more uses olds news next i d new within are is grown =
    subst (λ (l : List BlockEntry). AreMoved uses l next) (sym (take_more olds i d within)) (subst (AreMoved uses (take i olds ++ get_or olds i d ∷ [])) (sym grown) (moved-append uses (take i olds) news (get_or olds i d) new are is))

pub moved-count : (uses : ℕ → ℕ) (olds news : List BlockEntry) → AreMoved uses olds news → length news ≡ length olds
moved-count uses [] news are = ap length are
moved-count uses (o ∷ olds) [] are = absurd are
moved-count uses (o ∷ olds) (n ∷ news) are = ap suc (moved-count uses olds news are.1)

pub moved-at : (uses : ℕ → ℕ) (olds news : List BlockEntry) (i : ℕ) (d e : BlockEntry) → AreMoved uses olds news → i < length olds → IsMoved uses (get_or olds i d) (get_or news i e)
moved-at uses [] news i d e are within = absurd (omega (arith, within))
moved-at uses (o ∷ olds) [] i d e are within = absurd are
moved-at uses (o ∷ olds) (n ∷ news) zero d e are within = are.0
moved-at uses (o ∷ olds) (n ∷ news) (suc i) d e are within = moved-at uses olds news i d e are.1 (omega (arith, within))

-- ---- in order

pub order-join : (unit from mid end : ℕ) (ps qs : List Place) → InOrder unit from ps mid → InOrder unit mid qs end → InOrder unit from (ps ++ qs) end
order-join unit from mid end [] qs h k = subst (λ (f : ℕ). InOrder unit f qs end) h k
order-join unit from mid end (p ∷ ps) qs h k = (h.0, order-join unit (p.ib + p.len) mid end ps qs h.1 k)

pub order-more : (unit from mid end : ℕ) (news next : List BlockEntry) (new : BlockEntry) → InOrder unit from (map place_of news) mid → IsNext unit mid (place_of new).len (new.at).ib → end ≡ (new.at).ib + (place_of new).len → next ≡ news ++ new ∷ []
    → InOrder unit from (map place_of next) end
order-more unit from mid end news next new order is ends grown =
    subst (λ (l : List BlockEntry). InOrder unit from (map place_of l) end) (sym grown)
    (subst (λ (l : List Place). InOrder unit from l end) (sym (map-join place_of news (new ∷ []))) (order-join unit from mid end (map place_of news) (place_of new ∷ []) order (is, ends)))

pub short-more : (news next : List BlockEntry) (new : BlockEntry) → AllShort news → new.cb ≤ 8176 → next ≡ news ++ new ∷ [] → AllShort next
short-more news next new all short grown = subst AllShort (sym grown) (go news all)
  where
    go : (xs : List BlockEntry) → AllShort xs → AllShort (xs ++ new ∷ [])
    go [] all = (short, tt)
    go (x ∷ xs) all = (all.0, go xs all.1)

pub short-at : (es : List BlockEntry) (i : ℕ) (d : BlockEntry) → AllShort es → i < length es → (get_or es i d).cb ≤ 8176
short-at [] i d all within = absurd (omega (arith, within))
short-at (e ∷ es) zero d all within = all.0
short-at (e ∷ es) (suc i) d all within = short-at es i d all.1 (omega (arith, within))

pub stand-at : (file : List ℕ) (eof : ℕ) (es : List BlockEntry) (i : ℕ) (d : BlockEntry) → AllStand file eof es → i < length es → Stands file eof (get_or es i d)
stand-at file eof [] i d all within = absurd (omega (arith, within))
stand-at file eof (e ∷ es) zero d all within = all.0
stand-at file eof (e ∷ es) (suc i) d all within = stand-at file eof es i d all.1 (omega (arith, within))

-- an entry of nothing
abbrev pub no_block : BlockEntry
no_block = record { at = record { bid = record { bits = 0 }; ib = 0 }; cb = 0; refs = 0 }

-- the file is the same where Main and Side are
pub same-file : {old new : Image} → SameSource old new → file_of new ≡ file_of old
same-file same = λ i. file_of (record { main = same.main i; side = same.side i; copy = []; said = [] })
