-- Ids, one by one.
use Rattle.std.proofs.Common.{◌≡◌, ℕ, ◌+◌, ◌<◌, ◌≤◌, max, List, [], ◌∷◌, drop, get_or, length, Option, Some, None, refl, ap, subst, arith}
use Rattle.pst_base.specs.declared.ids.Bid.{Bid}
use Rattle.pst_base.specs.Flat.{Flat}
use Rattle.data_tree.specs.Measure.{bytes_in}
use Rattle.data_tree.specs.Source.{length_if, size_in}
use Rattle.data_tree.proofs.ListingLaws.{drop-here}
use Rattle.node_needs.proofs.FitLaws.{bytes-next}
use Rattle.node_needs.specs.Named.{AllNamed, EachNamed}
use Rattle.node_needs.specs.Needs.{longest}

-- what is left of data whose first ids were looked at, which have so many bytes
pub record Left (find : ℕ → Option (List ℕ)) (ids : List (Option Bid)) (bs : List (List ℕ)) (so_far : ℕ) : Type 0 where
  pub rest : List (List ℕ)
  pub named : AllNamed find ids rest
  pub sum : bytes_in bs ≡ so_far + bytes_in rest

-- the next id is one, and its block has a size
pub record Next (find : ℕ → Option (List ℕ)) (id : Option Bid) (ids : List (Option Bid)) (bs : List (List ℕ)) (so_far : ℕ) : Type 0 where
  pub bid : Bid
  pub is : id ≡ Some bid
  pub len : ℕ
  pub size : size_in find bid ≡ Some len
  pub left : Left find ids bs (so_far + len)

pub left-next : (find : ℕ → Option (List ℕ)) (ids : List (Option Bid)) (bs : List (List ℕ)) (so_far i : ℕ) (d : Option Bid) → i < length ids → Left find (drop i ids) bs so_far → Next find (get_or ids i d) (drop (i + 1) ids) bs so_far
left-next find ids bs so_far i d within left = by (get_or ids i d) left.rest (subst (λ (l : List (Option Bid)). AllNamed find l left.rest) (drop-here ids i d within) left.named) left.sum
  where
    by : (id : Option Bid) (rest : List (List ℕ)) → AllNamed find (id ∷ drop (i + 1) ids) rest → bytes_in bs ≡ so_far + bytes_in rest → Next find id (drop (i + 1) ids) bs so_far
    by id [] named sum = absurd named
    by None (b ∷ rest) named sum = absurd named
    by (Some bid) (b ∷ rest) named sum = record { bid = bid; is = refl; len = length b; size = ap length_if named.0; left = record { rest = rest; named = named.1; sum = let next = bytes-next b rest in omega (arith, sum, next) } }

pub left-end : (find : ℕ → Option (List ℕ)) (ids : List (Option Bid)) (bs : List (List ℕ)) (so_far : ℕ) → ids ≡ [] → Left find ids bs so_far → bytes_in bs ≡ so_far
left-end find ids bs so_far none left = by left.rest (subst (λ (l : List (Option Bid)). AllNamed find l left.rest) none left.named) left.sum
  where
    by : (rest : List (List ℕ)) → AllNamed find [] rest → bytes_in bs ≡ so_far + bytes_in rest → bytes_in bs ≡ so_far
    by [] named sum = omega (arith, sum)
    by (b ∷ rest) named sum = absurd named

-- the same of subnodes, of which the longest so far has so many bytes
pub record SubsLeft (find : ℕ → Option (List ℕ)) (eof : ℕ) (all : List (List (Option Bid))) (fs : List Flat) (most : ℕ) : Type 0 where
  pub rest : List Flat
  pub named : EachNamed find eof all rest
  pub longest_is : longest fs ≡ max most (longest rest)

pub record SubsNext (find : ℕ → Option (List ℕ)) (eof : ℕ) (ids : List (Option Bid)) (all : List (List (Option Bid))) (fs : List Flat) (most : ℕ) : Type 0 where
  pub blocks : List (List ℕ)
  pub named : AllNamed find ids blocks
  pub short : bytes_in blocks ≤ eof
  pub left : SubsLeft find eof all fs (max (bytes_in blocks) most)

pub subs-next : (find : ℕ → Option (List ℕ)) (eof : ℕ) (all : List (List (Option Bid))) (fs : List Flat) (most i : ℕ) (d : List (Option Bid)) → i < length all → SubsLeft find eof (drop i all) fs most
    → SubsNext find eof (get_or all i d) (drop (i + 1) all) fs most
subs-next find eof all fs most i d within left = by left.rest (subst (λ (l : List (List (Option Bid))). EachNamed find eof l left.rest) (drop-here all i d within) left.named) left.longest_is
  where
    by : (rest : List Flat) → EachNamed find eof (get_or all i d ∷ drop (i + 1) all) rest → longest fs ≡ max most (longest rest) → SubsNext find eof (get_or all i d) (drop (i + 1) all) fs most
    by [] named is = absurd named
    by (f ∷ rest) named is = record { blocks = f.blocks; named = named.0; short = named.1; left = record { rest = rest; named = named.2; longest_is = omega (arith, is) } }

pub subs-end : (find : ℕ → Option (List ℕ)) (eof : ℕ) (all : List (List (Option Bid))) (fs : List Flat) (most : ℕ) → all ≡ [] → SubsLeft find eof all fs most → longest fs ≡ most
subs-end find eof all fs most none left = by left.rest (subst (λ (l : List (List (Option Bid))). EachNamed find eof l left.rest) none left.named) left.longest_is
  where
    by : (rest : List Flat) → EachNamed find eof [] rest → longest fs ≡ max most (longest rest) → longest fs ≡ most
    by [] named is = omega (arith, is)
    by (f ∷ rest) named is = absurd named
