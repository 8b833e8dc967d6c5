-- The subnodes directly in a node, found and left out by their ids, in the flat list of all that stand below the node.
use Rattle.std.specs.Prelude.{ℕ, suc, ◌-◌, ◌==◌, ◌&&◌, nat_le, if◌then◌else◌, Bool, true, false, List, [], ◌∷◌, Option, Some, None}
use Rattle.pst_base.specs.Flat.{Flat}
use Rattle.pst_base.specs.declared.subs.Sub.{Sub}

-- the id of a subnode
abbrev pub sub_id : Sub → ℕ
sub_id s = s.nid.bits

-- the blocks of a subnode, and what stands below it
abbrev pub contents : Sub → List (List ℕ) × List Flat
contents s = (s.blocks, s.subs)

-- the blocks of the first subnode directly in the list that has an id
abbrev pub data_of : List Flat → ℕ → Option (List (List ℕ))
data_of [] nid = None
data_of (f ∷ fs) nid = if (f.level == 0) && (f.nid == nid) then Some f.blocks else data_of fs nid

-- the subnode one level up
abbrev pub one_up : Flat → Flat
one_up f = record { level = f.level - 1; nid = f.nid; blocks = f.blocks }

-- what stands below the subnode before the list, one level up
abbrev pub below : List Flat → List Flat
below [] = []
below (f ∷ fs) = if f.level == 0 then [] else one_up f ∷ below fs

-- the blocks of the first subnode directly in the list that has an id, and what stands below it
abbrev pub subnode : List Flat → ℕ → Option (List (List ℕ) × List Flat)
subnode [] nid = None
subnode (f ∷ fs) nid = if (f.level == 0) && (f.nid == nid) then Some (f.blocks, below fs) else subnode fs nid

-- the subnodes directly in the list whose ids don't pass a test, each with what stands below it; what stands below the one before the list goes if that went
abbrev pub without : (ℕ → Bool) → Bool → List Flat → List Flat
without test gone [] = []
without test gone (f ∷ fs) =
    if f.level == 0 then (if test f.nid then without test true fs else f ∷ without test false fs)
    else (if gone then without test true fs else f ∷ without test false fs)

-- where the first subnode with an id stands, counted from a number on
abbrev pub place_from : ℕ → ℕ → List Sub → Option ℕ
place_from nid from [] = None
place_from nid from (s ∷ subs) = if s.nid.bits == nid then Some from else place_from nid (suc from) subs

-- the ids of the subnodes directly in the list ascend strictly, from low on
abbrev pub ids_ascend : ℕ → List Flat → Bool
ids_ascend low [] = true
ids_ascend low (f ∷ fs) = if f.level == 0 then nat_le low f.nid && ids_ascend (suc f.nid) fs else ids_ascend low fs
