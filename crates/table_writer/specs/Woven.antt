-- New subnodes among those that are kept.
use Rattle.std.specs.Prelude.{ℕ, suc, ◌≡◌, ◌≤◌, ◌<◌, ◌+◌, ◌*◌, ◌%◌, ◌++◌, List, [], ◌∷◌, length, true, nat_lt, Option, Some, None}
use denote.Bor.{Bor}
use Rattle.std.specs.List.{list_all}
use Rattle.pst_base.specs.declared.subs.Sub.{Sub}
use Rattle.mapi_values.specs.Keyed.{keys_ascend}
use Rattle.table_writer.specs.declared.woven.Woven.{Woven}
use Rattle.node_values.specs.Subnodes.{sub_id}

-- all of the subnodes
abbrev pub all_woven : Woven → List Sub
all_woven w = w.done.items ++ w.rest.now

-- the id of a new subnode with this index
abbrev pub new_id : ℕ → ℕ
new_id index = index * 32 + 31

-- the ids are below one
abbrev pub ids_below : ℕ → List Sub → Type 0
ids_below n subs = list_all (λ (s : Sub). nat_lt s.nid.bits n) subs ≡ true

-- the ids ascend, those of the first part are below the next new one, and no more ids were passed than it has subnodes
pub record AreWoven (done rest : List Sub) (next : ℕ) : Type 0 where
  pub ascend : keys_ascend sub_id 0 (done ++ rest) ≡ true
  pub below : ids_below (new_id next) done
  pub count : next ≤ length done

abbrev pub IsWoven : Woven → Type 0
IsWoven w = AreWoven w.done.items w.rest.now w.next

-- the same subnodes, where the next new id is free and those that are not done are above it
pub record Passes (old new : Woven) : Type 0 where
  pub woven : IsWoven new
  pub same : all_woven new ≡ all_woven old
  pub above : keys_ascend sub_id (suc (new_id new.next)) new.rest.now ≡ true

-- the first, if there is one, is above
abbrev pub AllAbove : ℕ → List Sub → Type 0
AllAbove nid [] = Unit {0}
AllAbove nid (s ∷ subs) = nid < s.nid.bits

-- a subnode without others below it
abbrev pub plain : ℕ → List (List ℕ) → Sub
plain nid blocks = record { nid = record { bits = nid }; blocks = blocks; subs = [] }

-- one subnode more, between those with lower and those with higher ids, of kind 1Fh
pub record Weaves (old : List Sub) (blocks : List (List ℕ)) (new : List Sub) (nid : ℕ) : Type 0 where
  pub before : List Sub
  pub after : List Sub
  pub old_is : old ≡ before ++ after
  pub new_is : new ≡ before ++ plain nid blocks ∷ after
  pub kind : nid % 32 ≡ 31
  pub lower : ids_below nid before
  pub higher : keys_ascend sub_id (suc nid) after ≡ true

-- the first subnode is at most this, and stands before the others; or all are above
abbrev pub FirstTo : List Sub → ℕ → Option (Bor Sub × Bor (List Sub)) → Type 0
FirstTo rest nid (Some p) = (rest ≡ p.0.now ∷ p.1.now) × (p.0.now.nid.bits ≤ nid)
FirstTo rest nid None = AllAbove nid rest
