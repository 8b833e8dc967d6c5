-- The subnodes of long values, put among those that a node has.
use Rattle.std.specs.Prelude.{ℕ, ◌≡◌, ◌+◌, ◌*◌, ◌%◌, ◌<◌, ◌≤◌, ◌==◌, ◌&&◌, nat_lt, not, if◌then◌else◌, Bool, true, false, List, [], ◌∷◌, ◌++◌, length, map, Option, Some, None, ◌||◌}
use Rattle.pst_base.specs.Flat.{Flat}
use Rattle.pst_base.specs.Subs.{flattened}
use Rattle.pst_base.specs.declared.subs.Sub.{Sub}
use Rattle.mapi_values.specs.Values.{Val}
use Rattle.write_limits.specs.Limits.{is_long}
use Rattle.property_context.specs.declared.placing.Placer.{Placer}
use Rattle.node_values.specs.Named.{KeepsData, pieces}
use Rattle.node_values.specs.Subnodes.{data_of, ids_ascend, without}

-- the subnode of this id and these bytes
abbrev pub subnode : ℕ × List ℕ → Flat
subnode l = record { level = 0; nid = l.0; blocks = pieces l.1 }

-- one of the ids and bytes has this id
abbrev pub is_id : List (ℕ × List ℕ) → ℕ → Bool
is_id [] nid = false
is_id (l ∷ long) nid = (l.0 == nid) || is_id long nid

-- each of the ids is one of a long value: its low 5 bits are 1Fh
abbrev pub are_long : List (ℕ × List ℕ) → Bool
are_long [] = true
are_long (l ∷ long) = (l.0 % 32 == 31) && are_long long

-- the bytes of those values that are too long for a heap
abbrev pub long_bytes : List Val → List (List ℕ)
long_bytes [] = []
long_bytes (v ∷ vs) = if is_long v then v.bytes ∷ long_bytes vs else long_bytes vs

-- what was written are the subnodes of the long values, in their order and with nothing below them, at ids of their kind that the rest doesn't have, and the rest; the ids ascend strictly
pub record AddsLong (values : List Val) (rest written : List Flat) : Type 0 where
  pub long : List (ℕ × List ℕ)
  pub bytes : map (λ (l : ℕ × List ℕ). l.1) long ≡ long_bytes values
  pub kind : are_long long ≡ true
  pub new : (nid : ℕ) → is_id long nid ≡ true → data_of rest nid ≡ None
  pub long_is : without (λ nid. not (is_id long nid)) false written ≡ map subnode long
  pub rest_is : without (is_id long) false written ≡ rest
  pub ascend : ids_ascend 0 written ≡ true

-- the ids of the subnodes directly in the list are below a number
abbrev pub ids_below : ℕ → List Flat → Bool
ids_below high [] = true
ids_below high (f ∷ fs) = if f.level == 0 then nat_lt f.nid high && ids_below high fs else ids_below high fs

-- so far these long ones were placed among a part of the rest, and what is left of it comes behind them
pub record Placing (p : Placer) (long : List (ℕ × List ℕ)) (rest : List Flat) : Type 0 where
  pub low : ℕ
  pub reach : low ≤ p.free
  pub ascend : ids_ascend 0 (flattened p.placed.items) ≡ true
  pub below : ids_below low (flattened p.placed.items) ≡ true
  pub after : ids_ascend low (flattened p.left.items) ≡ true
  pub ids : (nid : ℕ) → is_id long nid ≡ true → nid < low
  pub kind : are_long long ≡ true
  pub free_kind : p.free % 32 ≡ 31
  pub long_is : without (λ nid. not (is_id long nid)) false (flattened p.placed.items) ≡ map subnode long
  pub rest_is : without (is_id long) false (flattened p.placed.items) ++ flattened p.left.items ≡ rest

-- how far the free id may still go
abbrev pub span : Placer → ℕ
span p = p.free + 32 * length p.left.items

-- the first subnode that is left has an id above the free one
abbrev pub IsAhead : ℕ → List Sub → Type 0
IsAhead free [] = Unit {0}
IsAhead free (s ∷ subs) = free < s.nid.bits

-- the blocks of the subnode that was placed with an id
abbrev pub placed_data : Placer → ℕ → Option (List (List ℕ))
placed_data p nid = data_of (flattened p.placed.items) nid

-- a long value of these bytes was placed under this id
pub record Places (old new : Placer) (nid : ℕ) (bytes : List ℕ) : Type 0 where
  pub kind : nid % 32 ≡ 31
  pub here : placed_data new nid ≡ Some (pieces bytes)
  pub kept : KeepsData (placed_data old) (placed_data new)
  pub span_is : span new ≤ span old + 32
  pub placing : (long : List (ℕ × List ℕ)) (rest : List Flat) → Placing old long rest → Placing new (long ++ (nid, bytes) ∷ []) rest
