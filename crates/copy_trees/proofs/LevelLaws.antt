-- Levels planned one above the other.
use Rattle.std.proofs.Common.{◌≡◌, ◌∙◌, ℕ, ◌+◌, ◌≤◌, List, [], ◌∷◌, ◌++◌, map, length, get_or, refl, sym, ap, subst, arith}
use Rattle.std.proofs.lemmas.List.{append-nil, nil_from_length}
use Rattle.pst_base.specs.declared.ids.Bref.{Bref}
use Rattle.pst_base.specs.declared.places.Place.{Place}
use Rattle.copy_layout.specs.Order.{InOrder, IsNext}
use Rattle.data_tree.proofs.PieceLaws.{joined}
use Rattle.file_layout.specs.Trees.{page_place}
use Rattle.tree_edit.proofs.ShapeLaws.{map-join}
use Rattle.copy_pieces.proofs.PlaceLaws.{order-join}
use Rattle.copy_trees.specs.Levels.{AreLevelsAbove, AreNumbered, IsPlanned, IsRoot, pages_for}

-- no page
abbrev pub no_page : Bref
no_page = record { bid = record { bits = 0 }; ib = 0 }

-- ---- one level

pub numbered-more : (from next : ℕ) (ats : List Bref) (at : Bref) → AreNumbered from ats next → (at.bid).bits ≡ next → AreNumbered from (ats ++ at ∷ []) (next + 1)
numbered-more from next [] at are is = (is ∙ are, ap (λ (n : ℕ). n + 1) are)
numbered-more from next (a ∷ ats) at are is = (are.0, numbered-more (from + 1) next ats at are.1 is)

pub numbered-join : (from mid next : ℕ) (xs ys : List Bref) → AreNumbered from xs mid → AreNumbered mid ys next → AreNumbered from (xs ++ ys) next
numbered-join from mid next [] ys a b = subst (λ (n : ℕ). AreNumbered n ys next) a b
numbered-join from mid next (x ∷ xs) ys a b = (a.0, numbered-join (from + 1) mid next xs ys a.1 b)

pub pages-join : (from mid end : ℕ) (xs ys : List Bref) → InOrder 512 from (map page_place xs) mid → InOrder 512 mid (map page_place ys) end → InOrder 512 from (map page_place (xs ++ ys)) end
pages-join from mid end xs ys a b =
    subst (λ (l : List Place). InOrder 512 from l end) (sym (map-join page_place xs ys)) (order-join 512 from mid end (map page_place xs) (map page_place ys) a b)

pub pages-more : (from mid end : ℕ) (ats : List Bref) (at : Bref) → InOrder 512 from (map page_place ats) mid → IsNext 512 mid 512 at.ib → end ≡ at.ib + 512 → InOrder 512 from (map page_place (ats ++ at ∷ [])) end
pages-more from mid end ats at order next ends = pages-join from mid end ats (at ∷ []) order (next, ends)

-- ---- all levels

pub joined-more : {X : Type 0} (rows : List (List X)) (row : List X) → joined (rows ++ row ∷ []) ≡ joined rows ++ row
joined-more [] row = append-nil row
joined-more {X} (r ∷ rows) row = ap (λ (l : List X). r ++ l) (joined-more rows row) ∙ sym (append-assoc r (joined rows) row)
  where
    append-assoc : (a b c : List X) → (a ++ b) ++ c ≡ a ++ (b ++ c)
    append-assoc [] b c = refl
    append-assoc (x ∷ a) b c = ap (λ (l : List X). x ∷ l) (append-assoc a b c)

-- the levels above one of n pages, of which the last has so many
abbrev pub Rise : ℕ → List (List Bref) → ℕ → Type 0
Rise n [] width = width ≡ n
Rise n (ats ∷ levels) width = (2 ≤ n) × (length ats ≡ pages_for 20 n) × Rise (length ats) levels width

rise-more : (n width : ℕ) (levels : List (List Bref)) (ats : List Bref) → Rise n levels width → 2 ≤ width → length ats ≡ pages_for 20 width → Rise n (levels ++ ats ∷ []) (length ats)
rise-more n width [] ats rise two is = (omega (arith, rise, two), is ∙ ap (pages_for 20) rise, refl)
rise-more n width (a ∷ levels) ats rise two is = (rise.0, rise.1, rise-more (length a) width levels ats rise.2 two is)

rise-above : (n : ℕ) (levels : List (List Bref)) → Rise n levels 1 → AreLevelsAbove n levels
rise-above n [] rise = sym rise
rise-above n (a ∷ levels) rise = (rise.0, rise.1, rise-above (length a) levels rise.2)

alone-is : (ats : List Bref) → length ats ≡ 1 → ats ≡ get_or ats 0 no_page ∷ []
alone-is [] one = absurd (omega (arith, one))
alone-is (a ∷ ats) one = ap (λ (l : List Bref). a ∷ l) (nil_from_length ats (omega (arith, one)))

root-last : (levels : List (List Bref)) (ats : List Bref) (root : Bref) → ats ≡ root ∷ [] → IsRoot (levels ++ ats ∷ []) root
root-last [] ats root is = is
root-last (a ∷ []) ats root is = is
root-last (a ∷ b ∷ levels) ats root is = root-last (b ∷ levels) ats root is

-- The levels so far, of which the last has so many pages, and the first of these is `root`.
pub record Climbs (most n from first : ℕ) (levels : List (List Bref)) (width : ℕ) (root : Bref) (end next : ℕ) : Type 0 where
  pub leaves : List Bref
  pub above : List (List Bref)
  pub are : levels ≡ leaves ∷ above
  pub enough : length leaves ≡ pages_for most n
  pub higher : Rise (length leaves) above width
  pub root_is : width ≡ 1 → IsRoot levels root
  pub order : InOrder 512 from (map page_place (joined levels)) end
  pub numbers : AreNumbered first (joined levels) next

pub climbs-first : (most n from first : ℕ) (ats : List Bref) (root : Bref) (end next : ℕ) → length ats ≡ pages_for most n → root ≡ get_or ats 0 no_page → InOrder 512 from (map page_place ats) end → AreNumbered first ats next
    → Climbs most n from first (ats ∷ []) (length ats) root end next
climbs-first most n from first ats root end next count is order numbers = record {
  leaves = ats;
  above = [];
  are = refl;
  enough = count;
  higher = refl;
  root_is = λ one. alone-is ats one ∙ ap (λ (b : Bref). b ∷ []) (sym is);
  order = subst (λ (l : List Bref). InOrder 512 from (map page_place l) end) (sym (append-nil ats)) order;
  numbers = subst (λ (l : List Bref). AreNumbered first l next) (sym (append-nil ats)) numbers;
}

pub climbs-more : (most n from first : ℕ) (levels : List (List Bref)) (width : ℕ) (root : Bref) (mid number : ℕ) (ats : List Bref) (root' : Bref) (end next : ℕ) → Climbs most n from first levels width root mid number → 2 ≤ width
    → length ats ≡ pages_for 20 width → root' ≡ get_or ats 0 no_page → InOrder 512 mid (map page_place ats) end → AreNumbered number ats next → Climbs most n from first (levels ++ ats ∷ []) (length ats) root' end next
climbs-more most n from first levels width root mid number ats root' end next so_far two count is order numbers = record {
  leaves = so_far.leaves;
  above = so_far.above ++ ats ∷ [];
  are = ap (λ (l : List (List Bref)). l ++ ats ∷ []) so_far.are;
  enough = so_far.enough;
  higher = rise-more (length so_far.leaves) width so_far.above ats so_far.higher two count;
  root_is = λ one. root-last levels ats root' (alone-is ats one ∙ ap (λ (b : Bref). b ∷ []) (sym is));
  order = subst (λ (l : List Bref). InOrder 512 from (map page_place l) end) (sym (joined-more levels ats)) (pages-join from mid end (joined levels) ats so_far.order order);
  numbers = subst (λ (l : List Bref). AreNumbered first l next) (sym (joined-more levels ats)) (numbered-join first number next (joined levels) ats so_far.numbers numbers);
}

-- up to a level of one page
pub climbs-planned : (most n from first : ℕ) (levels : List (List Bref)) (width : ℕ) (root : Bref) (end next : ℕ) → Climbs most n from first levels width root end next → width ≡ 1 → length levels ≤ 8 → IsPlanned most n from first levels root end next
climbs-planned most n from first levels width root end next is one few =
    let size = ap length is.are in
    record {
      levels_are = record {
        leaves = is.leaves;
        above = is.above;
        are = is.are;
        enough = is.enough;
        few = omega (arith, size, few);
        higher = rise-above (length is.leaves) is.above (subst (Rise (length is.leaves) is.above) one is.higher);
        root_is = is.root_is one;
      };
      order = is.order;
      numbers = is.numbers;
    }
